-- `figure` is the definition: dots before the last, and the last where there may be one more.
use native.Mathlib.Omega.{arith}
use Rattle.walks.proofs.LeastLaws.{is_least, least_min}
use Rattle.bursts.proofs.BurstLaws.{figure_stopped, figure_ended}
use Rattle.bursts.proofs.figure.Goals as goal

pub overflow_add-end : goal.overflow_add-end
overflow_add-end c = omega (arith, (is_least _ c.before_last.result (least_min _ _ c.min-n.ensures)).right, c.before_last.ensures)

pub returns-then-n-most : goal.returns-then-n-most
returns-then-n-most c =
    figure_ended _ _ _ _ _ _ (rw (← c.dots_of.ensures, ← c.before_last.ensures) (least_min _ _ c.min-n.ensures))
    c.figure_dots-q.ensures
    c.if-n-most.true c.dot.ensures

pub returns : goal.returns
returns c =
    figure_stopped _ _ _ _ _ _ (rw (← c.dots_of.ensures, ← c.before_last.ensures) (least_min _ _ c.min-n.ensures))
    c.figure_dots-q.ensures c.if-n-most.false
