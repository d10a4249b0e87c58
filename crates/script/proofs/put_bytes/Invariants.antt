-- `put_bytes` gives `bytes_put`: what is left to be put decides, at each turn.
use mathlib.Core.Path.{◌≡◌}
use lib.ListN.{length}
use Rattle.script.specs.Digits.{bytes_put}
use Rattle.script.proofs.put_bytes.Given as goal

abbrev pub invariant-loop-left : goal.invariant-loop-left
invariant-loop-left l = (length l.to ≡ length l.initial.to) × (bytes_put l.initial.to l.from l.s ≡ bytes_put l.to l.at l.left)

abbrev pub decreases-loop-left : goal.decreases-loop-left
decreases-loop-left l = length l.left
