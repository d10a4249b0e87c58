-- A port's answer in numbers is of one Result, so two allowed answers are equal. True because each number has one refusal, and 0 has none.
use mathlib.Core.Path.{◌≡◌, refl, sym, ap, ◌∙◌}
use mathlib.Core.Bool.{cond}
use Prim.Native.Nat.{ℕ}
use lib.Dec.{eqb}
use Rattle.std.specs.Prelude.{Result, Ok, Err}
use Rattle.registers.specs.declared.Registers.{Registers}
use Rattle.ports.specs.declared.Answer.{Answer}
use Rattle.ports.specs.declared.Granted.{Granted}
use Rattle.ports.specs.declared.Refusal.{Refusal}
use Rattle.ports.specs.declared.Refusal.TheVariants.{Unsound, Full, Reading, NoByte, PenAddress}
use Rattle.ports.specs.Answered.{refusal_number, answered}
use Rattle.ports.proofs.AnsweredLaws.{refusal_some}

refusal_as : ℕ → Refusal
refusal_as n = cond (eqb n 1) Unsound (cond (eqb n 3) Full (cond (eqb n 4) Reading (cond (eqb n 5) NoByte PenAddress)))

refusal_back : (w : Refusal) → w ≡ refusal_as (refusal_number w)
unfolding refusal_as
refusal_back Unsound = refl
refusal_back Full = refl
refusal_back Reading = refl
refusal_back NoByte = refl
refusal_back PenAddress = refl

pub answered_one : (r : Registers) (c d : Result Granted Refusal) → answered r c ≡ answered r d → c ≡ d
answered_one r (Ok a) (Ok b) e = ap (λ (x : Answer). Ok (record { value = x.value; regs = x.regs })) e
answered_one r (Ok a) (Err w) e = absurd (refusal_some w (sym (ap (λ (x : Answer). x.number) e)))
answered_one r (Err v) (Ok b) e = absurd (refusal_some v (ap (λ (x : Answer). x.number) e))
answered_one r (Err v) (Err w) e =
    ap Err (refusal_back v ∙ ap (λ (x : Answer). refusal_as x.number) e ∙ sym (refusal_back w))

pub only_told : (r : Registers) {x : Answer} {c d : Result Granted Refusal} → answered r c ≡ x → answered r d ≡ x → c ≡ d
only_told r {c = c} {d = d} e f = answered_one r c d (e ∙ sym f)
