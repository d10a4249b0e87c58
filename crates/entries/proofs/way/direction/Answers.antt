-- `direction` gives `dir_of`: its eight tests are the definition's, in the same order.
use Rattle.entries.specs.Entries.{dir_of}
use Rattle.entries.proofs.SlopeLaws.{dir_first}
use Rattle.entries.proofs.way.direction.Goals as goal

pub returns-then-right-down : goal.returns-then-right-down
returns-then-right-down c = dir_first _ _ c.abs_diff-dx.ensures
    c.abs_diff-dy.ensures c.if-right-down.true

pub returns-then-right-down-2 : goal.returns-then-right-down-2
unfolding dir_of
returns-then-right-down-2 c =
    rw (
      ← c.abs_diff-dx.ensures,
      ← c.abs_diff-dy.ensures,
      c.if-right-down.false,
      c.if-right-down-2.true,
    )

pub returns-then-right-up : goal.returns-then-right-up
unfolding dir_of
returns-then-right-up c =
    rw (
      ← c.abs_diff-dx.ensures,
      ← c.abs_diff-dy.ensures,
      c.if-right-down.false,
      c.if-right-down-2.false,
      c.if-right-up.true,
    )

pub returns-then-right-up-2 : goal.returns-then-right-up-2
unfolding dir_of
returns-then-right-up-2 c =
    rw (
      ← c.abs_diff-dx.ensures,
      ← c.abs_diff-dy.ensures,
      c.if-right-down.false,
      c.if-right-down-2.false,
      c.if-right-up.false,
      c.if-right-up-2.true,
    )

pub returns-then-left-up : goal.returns-then-left-up
unfolding dir_of
returns-then-left-up c =
    rw (
      ← c.abs_diff-dx.ensures,
      ← c.abs_diff-dy.ensures,
      c.if-right-down.false,
      c.if-right-down-2.false,
      c.if-right-up.false,
      c.if-right-up-2.false,
      c.if-left-up.true,
    )

pub returns-then-left-up-2 : goal.returns-then-left-up-2
unfolding dir_of
returns-then-left-up-2 c =
    rw (
      ← c.abs_diff-dx.ensures,
      ← c.abs_diff-dy.ensures,
      c.if-right-down.false,
      c.if-right-down-2.false,
      c.if-right-up.false,
      c.if-right-up-2.false,
      c.if-left-up.false,
      c.if-left-up-2.true,
    )

pub returns-then-left-down : goal.returns-then-left-down
unfolding dir_of
returns-then-left-down c =
    rw (
      ← c.abs_diff-dx.ensures,
      ← c.abs_diff-dy.ensures,
      c.if-right-down.false,
      c.if-right-down-2.false,
      c.if-right-up.false,
      c.if-right-up-2.false,
      c.if-left-up.false,
      c.if-left-up-2.false,
      c.if-left-down.true,
    )

pub returns : goal.returns
unfolding dir_of
returns c =
    rw (
      ← c.abs_diff-dx.ensures,
      ← c.abs_diff-dy.ensures,
      c.if-right-down.false,
      c.if-right-down-2.false,
      c.if-right-up.false,
      c.if-right-up-2.false,
      c.if-left-up.false,
      c.if-left-up-2.false,
      c.if-left-down.false,
    )
