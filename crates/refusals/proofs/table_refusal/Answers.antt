-- `table_refusal` gives `table_refusal`: its test is the definition's.
use mathlib.Core.Path.{refl}
use Rattle.blocks.specs.declared.Refused.TheVariants.{Table}
use Rattle.blocks.proofs.AnswerLaws.{unless_is}
use Rattle.refusals.proofs.table_refusal.Goals as goal

pub returns : goal.returns
returns c = rw (← c.table_fits.ensures, c.refusal_unless.ensures) (unless_is _ Table refl)
