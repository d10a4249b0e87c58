-- `put_from` gives `placed`: what is still to be placed, from where the loop stands, makes the same list at each turn.
use mathlib.Core.Path.{refl, sym, ◌∙◌}
use Rattle.entries.proofs.PutLaws.{put_starts, put_goes_on, put_ends}
use Rattle.entries.proofs.put_from.Goals as goal

pub loop-i-init : goal.loop-i-init
loop-i-init c = (refl, put_starts _ _ _)

pub loop-i-preserved : goal.loop-i-preserved
loop-i-preserved c = let l = c.loop-i in (
  c.store.auto.out ∙ l.invariant.0,
  l.invariant.1 ∙ put_goes_on _ _ _ _ c.loop-i-test.true c.store.ensures,
)

pub shape_of-out : goal.shape_of-out
shape_of-out c = c.loop-i.invariant.0

pub returns : goal.returns
returns c = put_ends _ _ _ _ c.loop-i-test.false ∙ sym c.loop-i.invariant.1
