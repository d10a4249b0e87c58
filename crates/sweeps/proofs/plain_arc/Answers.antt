-- `plain_arc`: what is left to do from here is what was to do from the start (`sweep_on`).
use mathlib.Core.Path.{sym, ◌∙◌}
use Rattle.sweeps.proofs.SweepLaws.{sweep_on, sweep_end}
use Rattle.sweeps.proofs.plain_arc.Goals as goal

pub loop-k-preserved : goal.loop-k-preserved
loop-k-preserved c = c.loop-k.invariant ∙ sweep_on _ _ _ _ _ c.loop-k-test.true c.dot.ensures c.move_on-m.ensures

pub returns : goal.returns
returns c = sweep_end _ _ _ _ _ c.loop-k-test.false ∙ sym c.loop-k.invariant
