-- `plane_refusal` gives `plane_refusal`: its test is the definition's.
use mathlib.Core.Path.{refl}
use Rattle.blocks.specs.declared.Refused.TheVariants.{Plane}
use Rattle.blocks.proofs.AnswerLaws.{unless_is}
use Rattle.refusals.proofs.plane_refusal.Goals as goal

pub returns : goal.returns
returns c = rw (← c.plane_fits.ensures, c.refusal_unless.ensures) (unless_is _ Plane refl)
