-- `filled` is the definition, by the type.
use Rattle.dots.proofs.BitLaws.{bit_zero}
use Rattle.wdat.proofs.filled.Goals as goal

pub returns-in-Word : goal.returns-in-Word
returns-in-Word c = rw (c.in-Word.is, bit_zero c.args.low)

pub returns-in-Low : goal.returns-in-Low
returns-in-Low c = rw (c.in-Low.is, bit_zero c.args.v)

pub returns-in-High : goal.returns-in-High
returns-in-High c = rw (c.in-High.is, bit_zero c.args.v)
