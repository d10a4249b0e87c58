-- `plain_rows`: what is left to do from here is what was to do from the start (`rows_on`).
use mathlib.Core.Path.{sym, ◌∙◌}
use Rattle.walks.proofs.WalkLaws.{rows_on, rows_end}
use Rattle.walks.proofs.steps.plain_rows.Goals as goal

pub loop-i-preserved : goal.loop-i-preserved
loop-i-preserved c =
    c.loop-i.invariant
    ∙ rows_on _ _ _ _ _ c.loop-i-test.true c.columns_of-columns.ensures c.plain_row.ensures c.next_row-s.ensures

pub returns : goal.returns
returns c = rows_end _ _ _ _ _ c.loop-i-test.false ∙ sym c.loop-i.invariant
