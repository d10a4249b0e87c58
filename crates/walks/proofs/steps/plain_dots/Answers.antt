-- `plain_dots`: what is left to do from here is what was to do from the start (`dots_on`).
use mathlib.Core.Path.{sym, ◌∙◌}
use Rattle.walks.proofs.WalkLaws.{dots_on, dots_end}
use Rattle.walks.proofs.steps.plain_dots.Goals as goal

pub loop-i-preserved : goal.loop-i-preserved
loop-i-preserved c =
    c.loop-i.invariant
    ∙ dots_on _ _ _ _ _ _ c.loop-i-test.true c.dot.ensures c.direction_at.ensures c.step-c.ensures c.running_d-d.ensures

pub returns : goal.returns
returns c = dots_end _ _ _ _ _ _ c.loop-i-test.false ∙ sym c.loop-i.invariant
