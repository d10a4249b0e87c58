-- `bytes_right` gives `bytes_b`: the digits still to be read decide, at each turn.
use lib.ListN.{drop}
use mathlib.Core.Path.{◌≡◌}
use Rattle.script.specs.Digits.{digits_b, bytes_b}
use Rattle.script.proofs.bytes_right.Given as goal

abbrev pub invariant-loop-b : goal.invariant-loop-b
invariant-loop-b l = bytes_b l.s ≡ digits_b (drop l.b-index l.s)
