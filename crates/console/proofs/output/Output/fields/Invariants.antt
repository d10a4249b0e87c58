-- `fields` leaves the room as large as it was.
use mathlib.Core.Path.{◌≡◌}
use Rattle.console.proofs.output.Output.fields.Given as goal

abbrev pub invariant-loop-v : goal.invariant-loop-v
invariant-loop-v g l = l.self.size ≡ l.fn.self.size
