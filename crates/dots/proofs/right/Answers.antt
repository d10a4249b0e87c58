use Rattle.dots.proofs.right.Goals as goal

pub returns : goal.returns
returns c = rw c.plus.ensures
