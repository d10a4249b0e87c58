-- `pass_loop`: after so many rounds as many moves are made.
use Rattle.std.proofs.Common.{refl, ap, ◌∙◌, add-one}
use Rattle.passes.specs.Place.{place_on, place_passed}
use Rattle.passes.proofs.pass_loop.Goals as goal

pub loop-init : goal.loop-init
unfolding place_passed
loop-init c = refl

pub loop-preserved : goal.loop-preserved
unfolding place_passed
loop-preserved c = rw (add-one c.loop.counter) (c.place_on-p.ensures ∙ ap (place_on _) c.loop.invariant)
