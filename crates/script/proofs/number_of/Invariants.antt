-- `number_of` gives `number_of`: the digits still to be read decide, at each turn.
use lib.ListN.{drop}
use mathlib.Core.Path.{◌≡◌}
use Rattle.script.specs.Digits.{number_from, number_of}
use Rattle.script.proofs.number_of.Given as goal

abbrev pub invariant-loop-b : goal.invariant-loop-b
invariant-loop-b l = number_of l.s ≡ number_from l.n (drop l.b-index l.s)
