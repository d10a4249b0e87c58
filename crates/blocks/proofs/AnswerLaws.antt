-- Refusals in their order: what `or_else` answers, and the turns of a loop that stops at the first refusal. The first refusal is none just
-- where no place
-- has one. True by cases on the number, and by induction on the places left.
use Rattle.std.proofs.Common.{◌≡◌, ℕ, zero, suc, ◌+◌, ◌-◌, ◌<◌, ◌≤◌, Bool, true, false, cond, eqb, sym, refl, ap, ◌∙◌, subst, arith, eq-eqb}
use Rattle.std.proofs.Common.{ne_eqb, eqb-true}
use Rattle.std.specs.Prelude.{Result, Ok, Err}
use mathlib.Core.Bool.{false≢true}
use borrow.Author.Tests.{eqb-false}
use Rattle.blocks.specs.declared.Answer.{Answer}
use Rattle.records.specs.declared.Refusal.{Refusal}
use Rattle.records.specs.declared.Refusal.TheVariants as whys
use Rattle.records.specs.Refused.{why_number}
use Rattle.blocks.specs.declared.Fault.{Fault}
use Rattle.blocks.specs.declared.Fault.TheVariants as faults
use Rattle.blocks.specs.declared.Refused.{Refused}
use Rattle.blocks.specs.declared.Refused.TheVariants.{Plane, Table, Length, Check, Heading, Slot, Short}
use Rattle.blocks.specs.Answer.{answer, refusal_unless, unless, or_else, first_from}
use Rattle.blocks.specs.Refused.{fault_of, fault_number, refused, checked, answered}

-- ---- one after the other
pub or_first : (a b : Answer) → (a.number ≡ 0 → ⊥) → or_else a b ≡ a
or_first a b z = rw (ne_eqb a.number 0 z)

pub or_next : (a b : Answer) → a.number ≡ 0 → or_else a b ≡ b
or_next a b z = rw (eq-eqb a.number 0 z)

pub or_zero : (a b : Answer) → (or_else a b).number ≡ 0 → (a.number ≡ 0) × (or_else a b ≡ b)
or_zero a b e = go (eqb a.number 0) refl e
  where
    go : (t : Bool) → eqb a.number 0 ≡ t → (cond t b a).number ≡ 0 → (a.number ≡ 0) × (cond t b a ≡ b)
    go true q z = (eqb-true a.number 0 q, refl)
    go false q z = absurd (false≢true (sym q ∙ eq-eqb a.number 0 z))

-- ---- the loop
pub first_start : (a : ℕ → Answer) (n : ℕ) → first_from a n 0 ≡ first_from a (n - 0) 0
first_start a n = let e : n - 0 ≡ n = omega arith in rw e

module _ (a : ℕ → Answer) (n k : ℕ) where
  pub first_stop : {x : Answer} → k < n → x ≡ a k → (x.number ≡ 0 → ⊥) → x ≡ first_from a (n - k) k
  unfolding first_from
  first_stop {x} h p z = let e : n - k ≡ suc (n - (k + 1)) = omega arith in rw (e, ← p, ne_eqb x.number 0 z)

  pub first_go_on : k < n → (a k).number ≡ 0 → first_from a (n - k) k ≡ first_from a (n - (k + 1)) (k + 1)
  unfolding first_from
  first_go_on h z = let e : n - k ≡ suc (n - (k + 1)) = omega arith in rw (e, eq-eqb (a k).number 0 z)

  pub first_end : n ≤ k → answer 0 0 0 ≡ first_from a (n - k) k
  unfolding first_from
  first_end h = let e : n - k ≡ zero = omega arith in rw e

-- ---- .. as the code has them: a refusal's number is not 0
fault_some : (f : Fault) → fault_number f ≡ 0 → ⊥
fault_some faults.Form e = absurd (omega arith)
fault_some faults.GlyphNumber e = absurd (omega arith)
fault_some faults.Size e = absurd (omega arith)
fault_some faults.Outside e = absurd (omega arith)

pub refused_some : (w : Refused) → (refused w).number ≡ 0 → ⊥
refused_some Plane e = absurd (omega arith)
refused_some Table e = absurd (omega arith)
refused_some Length e = absurd (omega arith)
refused_some (Check b) e = absurd (omega arith)
refused_some (Heading b) e = absurd (omega arith)
refused_some (Slot b i f) e = fault_some f e
refused_some (Short n) e = absurd (omega arith)

-- the number of a record's refusal is the decoder's
pub fault_told : (w : Refusal) → fault_number (fault_of w) ≡ why_number w
fault_told whys.Form = refl
fault_told whys.GlyphNumber = refl
fault_told whys.Factor = refl
fault_told whys.Radius = refl
fault_told whys.Outside = refl

-- ---- a number and its two values have one refusal, so two answers that are told alike are one
refused_as : ℕ → ℕ → ℕ → Refused
refused_as n a b =
    cond (eqb n 11) Plane
    (cond (eqb n 12) Table
    (cond (eqb n 13) Length
    (cond (eqb n 14) (Check a)
    (cond (eqb n 15) (Heading a)
    (cond (eqb n 16) (Slot a b faults.Form)
    (cond (eqb n 17) (Slot a b faults.GlyphNumber)
    (cond (eqb n 18) (Slot a b faults.Size) (cond (eqb n 19) (Slot a b faults.Outside) (Short a)))))))))

refused_back : (w : Refused) → w ≡ refused_as (refused w).number (refused w).first (refused w).second
unfolding refused_as
refused_back Plane = refl
refused_back Table = refl
refused_back Length = refl
refused_back (Check b) = refl
refused_back (Heading b) = refl
refused_back (Slot b i faults.Form) = refl
refused_back (Slot b i faults.GlyphNumber) = refl
refused_back (Slot b i faults.Size) = refl
refused_back (Slot b i faults.Outside) = refl
refused_back (Short n) = refl

pub refused_one : (v w : Refused) → refused v ≡ refused w → v ≡ w
refused_one v w e =
    refused_back v ∙ ap (λ (a : Answer). refused_as a.number a.first a.second) e ∙ sym (refused_back w)

pub checked_one : (q r : Result (Unit {0}) Refused) → checked q ≡ checked r → q ≡ r
checked_one (Ok x) (Ok y) e = refl
checked_one (Ok x) (Err w) e = absurd (refused_some w (sym (ap (λ (a : Answer). a.number) e)))
checked_one (Err v) (Ok y) e = absurd (refused_some v (ap (λ (a : Answer). a.number) e))
checked_one (Err v) (Err w) e = ap Err (refused_one v w e)

pub answered_one : (q r : Result ℕ Refused) → answered q ≡ answered r → q ≡ r
answered_one (Ok m) (Ok n) e = ap (λ (a : Answer). Ok a.first) e
answered_one (Ok m) (Err w) e = absurd (refused_some w (sym (ap (λ (a : Answer). a.number) e)))
answered_one (Err v) (Ok n) e = absurd (refused_some v (ap (λ (a : Answer). a.number) e))
answered_one (Err v) (Err w) e = ap Err (refused_one v w e)

pub unless_is : (t : Bool) (w : Refused) {n : ℕ} → refused w ≡ answer n 0 0 → checked (unless t w) ≡ refusal_unless t n
unless_is true w e = refl
unless_is false w e = e

module _ (a : ℕ → Answer) (n k : ℕ) (h : k < n) where
  pub err_stops : (w : Refused) → refused w ≡ a k → refused w ≡ first_from a (n - k) k
  err_stops w p = first_stop a n k h p (refused_some w)

  pub ok_goes_on : {u v : ℕ} → answer 0 u v ≡ a k → first_from a (n - k) k ≡ first_from a (n - (k + 1)) (k + 1)
  ok_goes_on p = first_go_on a n k h (sym (ap (λ (x : Answer). x.number) p))

-- ---- none at all
module _ (a : ℕ → Answer) where
  pub first_none : (f k : ℕ) → ((i : ℕ) → k ≤ i → i < k + f → (a i).number ≡ 0) → first_from a f k ≡ answer 0 0 0
  unfolding first_from
  first_none zero k h = refl
  first_none (suc f) k h =
      or_next (a k) (first_from a f (k + 1)) (h k (omega arith) (omega arith))
      ∙ first_none f (k + 1) (λ i l u. h i (omega arith) (omega arith))

  pub first_all : (f k : ℕ) → (first_from a f k).number ≡ 0 → (i : ℕ) → k ≤ i → i < k + f → (a i).number ≡ 0
  unfolding first_from
  first_all zero k e i l u = absurd (omega arith)
  first_all (suc f) k e i l u =
      let w = or_zero (a k) (first_from a f (k + 1)) e in
      go (eqb k i) refl w.0 (λ m. first_all f (k + 1) (subst (λ (x : Answer). x.number ≡ 0) w.1 e) i m (omega arith))
    where
      go : (t : Bool) → eqb k i ≡ t → (a k).number ≡ 0 → (k + 1 ≤ i → (a i).number ≡ 0) → (a i).number ≡ 0
      go true q z r = subst (λ (j : ℕ). (a j).number ≡ 0) (eqb-true k i q) z
      go false q z r = let d : k ≡ i → ⊥ = eqb-false k i q in r (omega arith)
