-- `number_of` gives `decimal_of`: the digits still to be read decide, at each turn, after a number of 32 bits.
use native.Mathlib.Omega.{arith}
use mathlib.Core.Path.{◌≡◌, sym, ◌∙◌}
use Prim.Native.Nat.{◌+◌, ◌*◌, ◌<◌, ◌≤◌}
use Rattle.decimals.specs.Decimal.{decimal_of}
use Rattle.decimals.proofs.Laws.{decimal_fails, decimal_passes, decimal_goes_on, decimal_ends}
use Rattle.decimals.proofs.number_of.Goals as goal

pub returns-then-is_empty : goal.returns-then-is_empty
unfolding decimal_of
returns-then-is_empty c = rw (sym c.if-is_empty.ensures)

pub loop-c-init : goal.loop-c-init
unfolding decimal_of
loop-c-init c = rw (sym c.if-is_empty.ensures)

pub returns-in_err-digit : goal.returns-in_err-digit
returns-in_err-digit c =
    c.from_residual.ensures
    ∙ sym (c.loop-c.invariant ∙ decimal_fails _ _ _ c.loop-c-test.true c.from.ensures c.in_err-digit.ensures.value)

pub returns-in_err-checked_mul : goal.returns-in_err-checked_mul
returns-in_err-checked_mul c =
    let d = c.in_ok-digit.ensures.value in
    let past : 4294967295 < 10 * c.loop-c.value + c.in_ok-digit.digit = omega (arith, c.in_err-checked_mul.ensures) in
    c.from_residual-in_err-checked_mul.ensures
    ∙ sym (c.loop-c.invariant ∙ decimal_passes _ _ _ c.loop-c-test.true c.from.ensures d.0 d.1 past)

pub returns-in_err-value : goal.returns-in_err-value
returns-in_err-value c =
    let d = c.in_ok-digit.ensures.value in
    let past : 4294967295 < 10 * c.loop-c.value + c.in_ok-digit.digit =
    omega (arith, c.in_err-value.ensures, c.in_ok-checked_mul.ensures) in
    c.from_residual-in_err-value.ensures
    ∙ sym (c.loop-c.invariant ∙ decimal_passes _ _ _ c.loop-c-test.true c.from.ensures d.0 d.1 past)

pub loop-c-preserved : goal.loop-c-preserved
loop-c-preserved c =
    let d = c.in_ok-digit.ensures.value in
    let fits : 10 * c.loop-c.value + c.in_ok-digit.digit ≤ 4294967295 =
    omega (arith, c.in_ok-value.ensures, c.in_ok-checked_mul.ensures) in
    let value : c.in_ok-value.value ≡ 10 * c.loop-c.value + c.in_ok-digit.digit =
    omega (arith, c.in_ok-value.ensures, c.in_ok-checked_mul.ensures) in
    rw value (c.loop-c.invariant ∙ decimal_goes_on _ _ _ c.loop-c-test.true c.from.ensures d.0 d.1 fits)

pub returns : goal.returns
returns c = sym (c.loop-c.invariant ∙ decimal_ends _ _ _ c.loop-c-test.false)
