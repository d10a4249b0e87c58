-- `length_right` is the definition, wiring by wiring.
use Rattle.units.specs.Run.{length_b}
use Rattle.units.proofs.PowerLaws.{folded_fits}
use Rattle.units.proofs.length_right.Goals as goal

pub returns-in-Folded : goal.returns-in-Folded
returns-in-Folded c = rw (c.in-Folded.is, c.is_power_of_two.ensures) (folded_fits c.args.n)

pub returns-in-Open : goal.returns-in-Open
unfolding length_b
returns-in-Open c = rw c.in-Open.is
