-- `byte_of` gives `byte_of`: the same tests.
use native.Mathlib.Omega.{arith}
use lib.ListN.{length}
use mathlib.Core.Path.{◌≡◌}
use Rattle.events.proofs.ByteLaws.{length_wrong, first_wrong, second_wrong, both_right}
use Rattle.events.proofs.byte_of.Goals as goal

pub returns-in_default : goal.returns-in_default
returns-in_default c = length_wrong _ _ (λ e. omega arith)

pub returns-in_default-2 : goal.returns-in_default-2
returns-in_default-2 c = length_wrong _ _ (λ e. omega arith)

pub returns-in_default-to_digit : goal.returns-in_default-to_digit
returns-in_default-to_digit c =
    let two : length c.args.f.now ≡ 2 = omega arith in first_wrong _ _ two c.from.ensures c.in_default-to_digit.ensures.value

pub returns-in_default-to_digit-2 : goal.returns-in_default-to_digit-2
returns-in_default-to_digit-2 c =
    let two : length c.args.f.now ≡ 2 = omega arith in
    let high = c.in-Some.ensures.value in
    second_wrong _ _ two c.from.ensures high.0 high.1 c.from-2.ensures c.in_default-to_digit-2.ensures.value

pub returns : goal.returns
returns c =
    let two : length c.args.f.now ≡ 2 = omega arith in
    let high = c.in-Some.ensures.value in
    let low = c.in-Some-to_digit.ensures.value in
    both_right _ _ two c.from.ensures high.0 high.1 c.from-2.ensures low.0 low.1
