-- `character` is the definition: dots of the row before its last, and that one with what comes after the row where there may be more.
use native.Mathlib.Omega.{arith}
use Rattle.walks.proofs.LeastLaws.{is_least, least_min}
use Rattle.bursts.proofs.BurstLaws.{character_stopped, character_went}
use Rattle.bursts.proofs.character.Goals as goal

pub overflow_add-end : goal.overflow_add-end
overflow_add-end c = omega (arith, (is_least _ c.before_last.result (least_min _ _ c.min-n.ensures)).right, c.before_last.ensures)

pub returns-then-most-n : goal.returns-then-most-n
returns-then-most-n c =
    character_stopped _ _ _ _ _ _ _ (rw (← c.columns_of.ensures, ← c.before_last.ensures)
    (least_min _ _ c.min-n.ensures))
    c.row_dots-at.ensures c.if-most-n.true

pub overflow_add-n : goal.overflow_add-n
overflow_add-n c =
    omega (arith, c.ranges, c.if-most-n.false)

pub after_row-requires : goal.after_row-requires
after_row-requires c =
    omega (arith, c.ranges, c.if-most-n.false)

pub returns : goal.returns
returns c =
    character_went _ _ _ _ _ _ _ (rw (← c.columns_of.ensures, ← c.before_last.ensures) (least_min _ _ c.min-n.ensures))
    c.row_dots-at.ensures
    c.if-most-n.false
    c.letter.ensures c.after_row.ensures
