-- `no_reading` is the definition: its fields are 0 where their `or` is.
use Rattle.forms.proofs.ZeroLaws.{both_zero}
use Rattle.forms.proofs.no_reading.Goals as goal

pub returns : goal.returns
returns c = let w = c.args.w in both_zero w.item w.transfer
