-- A run's answer in numbers is of one Result, so two allowed answers are equal. True because each number has one reason or one refusal, and
-- 0 is no refusal's.
use mathlib.Core.Path.{◌≡◌, refl, sym, ap, ◌∙◌}
use mathlib.Core.Bool.{cond}
use mathlib.Core.List.{List}
use Prim.Native.Nat.{ℕ}
use lib.Dec.{eqb}
use native.Mathlib.Omega.{arith}
use Rattle.std.specs.Prelude.{Result, Ok, Err}
use Rattle.registers.specs.declared.Registers.{Registers}
use Rattle.units.specs.declared.Stop.{Stop}
use Rattle.units.specs.declared.Stop.TheVariants.{Spent, Idle, Full}
use Rattle.units.specs.declared.Done.{Done}
use Rattle.units.specs.declared.Ran.{Ran}
use Rattle.units.specs.declared.Refusal.{Refusal}
use Rattle.units.specs.declared.Refusal.TheVariants.{Unsound, Length}
use Rattle.units.specs.Stop.{stop_number}
use Rattle.units.specs.Answered.{refusal_number, answered}
use Rattle.units.specs.Run.{Outcome, outcome}

-- ---- what a number stands for
stop_as : ℕ → Stop
stop_as n = cond (eqb n 1) Spent (cond (eqb n 2) Idle Full)

stop_back : (y : Stop) → y ≡ stop_as (stop_number y)
unfolding stop_as
stop_back Spent = refl
stop_back Idle = refl
stop_back Full = refl

done_as : Ran → Done
done_as x = record { count = x.count; why = stop_as x.why; regs = x.regs }

done_back : (r : Registers) (q : Done) → q ≡ done_as (answered r (Ok q))
unfolding done_as
done_back r q = ap (λ (y : Stop). record { count = q.count; why = y; regs = q.regs }) (stop_back q.why)

refusal_as : ℕ → Refusal
refusal_as n = cond (eqb n 1) Unsound Length

refusal_back : (w : Refusal) → w ≡ refusal_as (refusal_number w)
unfolding refusal_as
refusal_back Unsound = refl
refusal_back Length = refl

refusal_some : (w : Refusal) → refusal_number w ≡ 0 → ⊥
refusal_some Unsound e = absurd (omega arith)
refusal_some Length e = absurd (omega arith)

-- ---- two allowed answers are equal
pub answered_one : (r : Registers) (c d : Result Done Refusal) → answered r c ≡ answered r d → c ≡ d
answered_one r (Ok a) (Ok b) e = ap Ok (done_back r a ∙ ap done_as e ∙ sym (done_back r b))
answered_one r (Ok a) (Err w) e = absurd (refusal_some w (sym (ap (λ (x : Ran). x.number) e)))
answered_one r (Err v) (Ok b) e = absurd (refusal_some v (ap (λ (x : Ran). x.number) e))
answered_one r (Err v) (Err w) e =
    ap Err (refusal_back v ∙ ap (λ (x : Ran). refusal_as x.number) e ∙ sym (refusal_back w))

-- .. and so are the memories
pub only_told : (r : Registers) {x : Outcome} {c d : Result Done Refusal} {m n : List ℕ} → outcome (answered r c) m ≡ x
    → outcome (answered r d) n ≡ x
    → (c ≡ d) × (m ≡ n)
only_told r {c = c} {d = d} e f =
    (answered_one r c d (ap (λ (o : Outcome). o.ran) (e ∙ sym f)), ap (λ (o : Outcome). o.mem) (e ∙ sym f))
