-- `plain_row`: what is left to do from here is what was to do from the start (`row_on`).
use mathlib.Core.Path.{sym, ◌∙◌}
use Rattle.walks.proofs.WalkLaws.{row_on, row_end}
use Rattle.walks.proofs.steps.plain_row.Goals as goal

pub loop-i-preserved : goal.loop-i-preserved
loop-i-preserved c = c.loop-i.invariant ∙ row_on _ _ _ _ _ _ c.loop-i-test.true c.letter.ensures c.step-c.ensures

pub returns : goal.returns
returns c = row_end _ _ _ _ _ _ c.loop-i-test.false ∙ sym c.loop-i.invariant
