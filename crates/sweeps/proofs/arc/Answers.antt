-- `arc` is the definition: dots before the last, and the last where there may be one more.
use native.Mathlib.Omega.{arith}
use mathlib.Core.Path.{refl}
use Rattle.walks.proofs.LeastLaws.{is_least, least_min}
use Rattle.sweeps.proofs.SweepLaws.{few_cycles, arc_none, arc_stopped, arc_ended_law}
use borrow.Author.Rules.{rules}
use Rattle.sweeps.proofs.arc.Goals as goal

pub returns-then-most-eq0 : goal.returns-then-most-eq0
returns-then-most-eq0 c = arc_none _ _ _ _ _ c.if-most-eq0.true

pub overflow_add-cycle : goal.overflow_add-cycle
overflow_add-cycle c =
    omega (
      arith,
      (is_least _ c.before_last-left.result (least_min _ _ c.min-n.ensures)).right,
      c.before_last-left.ensures,
      c.arc_cycles_of.ensures,
      few_cycles c.args.b.drawing (search rules),
    )

pub overflow_add-end : goal.overflow_add-end
overflow_add-end c =
    omega (
      arith,
      (is_least _ c.before_last-left.result (least_min _ _ c.min-n.ensures)).right,
      c.before_last-left.ensures,
      c.arc_cycles_of.ensures,
      few_cycles c.args.b.drawing (search rules),
    )

pub overflow_add-result : goal.overflow_add-result
overflow_add-result c =
    omega (arith, c.if-n-most.true, c.ranges)

pub returns-then-n-most : goal.returns-then-n-most
returns-then-n-most c =
    arc_ended_law _ _ _ _ _ c.if-most-eq0.false
    (rw (← c.arc_cycles_of.ensures) c.before_last-left.ensures)
    (least_min _ _ c.min-n.ensures) c.meet-from.ensures refl
    c.arc_dots-q.ensures
    c.if-n-most.true c.dot.ensures

pub returns : goal.returns
returns c =
    arc_stopped _ _ _ _ _ c.if-most-eq0.false
    (rw (← c.arc_cycles_of.ensures) c.before_last-left.ensures)
    (least_min _ _ c.min-n.ensures) c.meet-from.ensures refl
    c.arc_dots-q.ensures
    c.if-n-most.false
