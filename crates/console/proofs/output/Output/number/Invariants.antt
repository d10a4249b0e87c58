-- `number` leaves the room as large as it was.
use mathlib.Core.Path.{◌≡◌}
use Rattle.console.proofs.output.Output.number.Given as goal

abbrev pub invariant-loop-digit : goal.invariant-loop-digit
invariant-loop-digit l = l.self.size ≡ l.fn.self.size
