-- `dot` is a cycle with the pattern of its dot.
use mathlib.Core.Path.{◌∙◌}
use Rattle.dots.specs.Cycle.{cycled}
use Rattle.figures.specs.Figure.{pattern_at}
use Rattle.walks.proofs.steps.dot.Goals as goal

pub returns : goal.returns
unfolding pattern_at
returns c =
    let a = c.args in
    c.cycle.ensures ∙ (λ i. cycled a.b.wiring a.b.op (c.pattern_of-pattern.ensures i)
    a.c
    a.mem.now)
