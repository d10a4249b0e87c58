-- `after_row` is the definition: the character has ended, or whole rows come.
use native.Mathlib.Omega.{arith}
use Rattle.bursts.proofs.BurstLaws.{is_whole, rows_over, rows_done}
use Rattle.bursts.proofs.after_row.Goals as goal

pub returns-then-rows-row : goal.returns-then-rows-row
returns-then-rows-row c = rows_over _ _ _ _ _ _ _ c.rows_of-rows.ensures c.if-rows-row.true

pub overflow_add-end : goal.overflow_add-end
overflow_add-end c = omega (arith, (is_whole _ _ _ c.whole_rows-whole.ensures).within)

pub overflow_mul-result : goal.overflow_mul-result
overflow_mul-result c =
    omega (
      arith,
      (is_whole _ _ _ c.whole_rows-whole.ensures).fits,
      c.requires,
    )

pub overflow_add-result : goal.overflow_add-result
overflow_add-result c =
    omega (
      arith,
      (is_whole _ _ _ c.whole_rows-whole.ensures).fits,
      c.requires,
    )

pub returns : goal.returns
returns c =
    rows_done _ _ _ _ _ _ _ c.rows_of-rows.ensures
    c.columns_of-columns.ensures
    c.if-rows-row.false
    c.whole_rows-whole.ensures
    c.next_row.ensures c.rows_dots-s.ensures
