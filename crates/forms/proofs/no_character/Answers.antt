-- `no_character` is the definition: its fields are 0 where their `or` is.
use Rattle.forms.proofs.ZeroLaws.{all_zero}
use Rattle.forms.proofs.no_character.Goals as goal

pub returns : goal.returns
returns c = let w = c.args.w in all_zero w.row w.column w.start.ead w.start.mask
