-- `bytes_right` gives `bytes_b`: the digits still to be read decide, at each turn.
use mathlib.Core.Path.{sym, ◌∙◌}
use Rattle.script.specs.Digits.{bytes_b}
use Rattle.script.proofs.DigitLaws.{none_fails, some_passes}
use Rattle.script.proofs.Laws.{bytes_odd, bytes_start, digits_fail, digits_go_on, digits_end}
use Rattle.script.proofs.bytes_right.Goals as goal

pub returns-then-is_empty : goal.returns-then-is_empty
unfolding bytes_b
returns-then-is_empty c = rw (sym c.if-is_empty.ensures)

pub returns-then-s-eq1 : goal.returns-then-s-eq1
returns-then-s-eq1 c = sym (bytes_odd _ c.if-is_empty.ensures c.if-s-eq1.true)

pub loop-b-init : goal.loop-b-init
loop-b-init c = bytes_start _ c.if-is_empty.ensures c.if-s-eq1.false

pub returns-then-is_none : goal.returns-then-is_none
returns-then-is_none c =
    sym (c.loop-b.invariant
    ∙ digits_fail _ _ c.loop-b-test.true (none_fails _ _ c.digit_of.ensures c.if-is_none.ensures))

pub loop-b-preserved : goal.loop-b-preserved
loop-b-preserved c =
    c.loop-b.invariant
    ∙ digits_go_on _ _ c.loop-b-test.true (some_passes _ _ c.digit_of.ensures c.if-is_none.ensures)

pub returns : goal.returns
returns c = sym (c.loop-b.invariant ∙ digits_end _ _ c.loop-b-test.false)
