-- `end_of` gives `span_of`: the place of the first space, or the end.
use Rattle.script.proofs.Laws.{first_space}
use Rattle.script.proofs.end_of.Goals as goal

pub returns : goal.returns
returns c = first_space _ (rw (← c.space_in.ensures) c.unwrap_or.ensures)
