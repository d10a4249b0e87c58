-- `number_of` gives `number_of`: the digits still to be read decide, at each turn.
use mathlib.Core.Path.{sym, ◌∙◌}
use Rattle.script.specs.Digits.{number_of}
use Rattle.script.proofs.Laws.{number_fails, number_goes_on, number_ends}
use Rattle.script.proofs.number_of.Goals as goal

pub returns-then-is_empty : goal.returns-then-is_empty
unfolding number_of
returns-then-is_empty c = rw (sym c.if-is_empty.ensures)

pub loop-b-init : goal.loop-b-init
unfolding number_of
loop-b-init c = rw (sym c.if-is_empty.ensures)

pub returns-in_err-digit_of : goal.returns-in_err-digit_of
returns-in_err-digit_of c =
    c.from_residual.ensures ∙ sym (c.loop-b.invariant ∙ number_fails _ _ _ c.loop-b-test.true c.in_err-digit_of.ensures)

pub loop-b-preserved : goal.loop-b-preserved
loop-b-preserved c =
    let d = c.in_ok-digit_of.ensures in
    c.loop-b.invariant ∙ number_goes_on _ _ _ c.loop-b-test.true d.0 d.1 c.with_digit-n.ensures

pub returns : goal.returns
returns c = sym (c.loop-b.invariant ∙ number_ends _ _ _ c.loop-b-test.false)
