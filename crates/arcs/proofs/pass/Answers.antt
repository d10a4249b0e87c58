-- `pass`: after so many rounds as many moves are made.
use mathlib.Core.Path.{refl, ap, ◌∙◌}
use native.Mathlib.Numerals.{add-one}
use Rattle.arcs.specs.Arc.{passed, moved_on}
use Rattle.arcs.proofs.pass.Goals as goal

pub loop-init : goal.loop-init
unfolding passed
loop-init c = refl

pub loop-preserved : goal.loop-preserved
unfolding passed
loop-preserved c = rw (add-one c.loop.counter) (c.move_on-at.ensures ∙ ap (moved_on _ _) c.loop.invariant)
