-- `side_dots`: what is left to do from here is what was to do from the start, a side at a time (`side_on`).
use mathlib.Core.Path.{refl, sym, ◌∙◌}
use native.Mathlib.Omega.{arith}
use Rattle.walks.proofs.LoopLaws.{straight_walked, straight_lt}
use Rattle.walks.proofs.BitLaws.{side_past, side_on, sides_end}
use Rattle.walks.proofs.LeastLaws.{least_min}
use borrow.Author.Rules.{rules}
use Rattle.walks.proofs.side.side_dots.Goals as goal

pub loop-i-init : goal.loop-i-init
loop-i-init c = record { small = search rules; long = refl; same = refl }

pub side_end-requires : goal.side_end-requires
side_end-requires c = (c.requires.0, omega arith)

pub loop-i-smaller : goal.loop-i-smaller
loop-i-smaller c =
    omega (
      arith,
      side_past _ _ _ _ c.loop-i-test.true
          c.side_end.ensures
          (least_min _ _ c.min-e.ensures),
    )

pub loop-i-preserved : goal.loop-i-preserved
loop-i-preserved c =
    let l = c.loop-i in
    let w = straight_walked _ _ _ _ _ _ _ _ _ c.stroke.ensures c.walk-a.ensures in
    record {
      small = straight_lt _ _ _ _ _ _ _ _ _ _ _ l.invariant.small w;
      long = c.walk-a.auto.mem ∙ l.invariant.long;
      same = l.invariant.same ∙ side_on _ _ _ _ _ _ _ _ _
          c.requires.0 l.invariant.small
          c.loop-i-test.true
          c.side_end.ensures
          (least_min _ _ c.min-e.ensures)
          c.direction_at.ensures c.stride-step.ensures w;
    }

pub shape_of-mem : goal.shape_of-mem
shape_of-mem c = c.loop-i.invariant.long

pub returns : goal.returns
returns c =
    sides_end _ _ _ _ c.loop-i.a _ c.cursor_at.ensures c.loop-i-test.false
    ∙ sym c.loop-i.invariant.same
