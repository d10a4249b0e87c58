-- `length_refusal` gives `length_refusal`: its test is the definition's.
use mathlib.Core.Path.{refl}
use Rattle.blocks.specs.declared.Refused.TheVariants.{Length}
use Rattle.blocks.proofs.AnswerLaws.{unless_is}
use Rattle.refusals.proofs.length_refusal.Goals as goal

pub returns : goal.returns
returns c = rw (← c.sheet_fits.ensures, c.refusal_unless.ensures) (unless_is _ Length refl)
