use Rattle.dots.proofs.left.Goals as goal

pub returns : goal.returns
returns c = rw c.minus.ensures
