-- `circle_dots` gives `circle_dots`, by the two laws of its ways out.
use Rattle.costs.proofs.DotLaws.{circle_less, circle_more}
use Rattle.costs.proofs.circle_dots.Goals as goal

pub returns-then-coincides-largest : goal.returns-then-coincides-largest
returns-then-coincides-largest c = circle_less _ c.largest_of-largest.ensures c.coincides.ensures c.if-coincides-largest.true

pub returns : goal.returns
returns c = circle_more _ c.largest_of-largest.ensures c.coincides.ensures c.if-coincides-largest.false
