-- `pairs` leaves the room as large as it was.
use mathlib.Core.Path.{◌≡◌}
use Rattle.console.proofs.output.Output.pairs.Given as goal

abbrev pub invariant-loop-b : goal.invariant-loop-b
invariant-loop-b l = l.self.size ≡ l.fn.self.size
