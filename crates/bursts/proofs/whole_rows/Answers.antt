-- `whole_rows` is the definition.
use borrow.Author.Tests.{eq-eqb, ne_eqb}
use Rattle.walks.proofs.LeastLaws.{least_min}
use Rattle.bursts.specs.Burst.{whole_rows}
use Rattle.bursts.proofs.whole_rows.Goals as goal

pub returns-then-columns-eq0 : goal.returns-then-columns-eq0
unfolding whole_rows
returns-then-columns-eq0 c = rw (eq-eqb c.args.columns 0 c.if-columns-eq0.true)

pub returns : goal.returns
unfolding whole_rows
returns c = rw (ne_eqb c.args.columns 0 c.if-columns-eq0.false) (least_min _ _ c.min.ensures)
