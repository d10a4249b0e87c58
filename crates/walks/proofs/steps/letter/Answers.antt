-- `letter` is a cycle with the pattern of its row and dot.
use mathlib.Core.Path.{◌∙◌}
use Rattle.dots.specs.Cycle.{cycled}
use Rattle.walks.proofs.steps.letter.Goals as goal

pub returns : goal.returns
returns c =
    let a = c.args in
    c.cycle.ensures ∙ (λ i. cycled a.b.wiring a.b.op
    (c.zoomed_pattern-pattern.ensures i) a.c
    a.mem.now)
