-- One law for each way out of a slot and of `cost_of`, and what the call says beside the translator. True because both refuse by
-- `sheet_refusal`, none of whose numbers is 20, and the translator answers 20 or 0 with the entries needed where that is 0.
use mathlib.Core.Path.{◌≡◌, refl, sym, ap, ◌∙◌}
use mathlib.Core.Bool.{Bool, true, false, cond}
use mathlib.Core.List.{List, [], ◌∷◌}
use Prim.Native.Nat.{ℕ, ◌+◌, ◌≤◌}
use native.Mathlib.Omega.{arith}
use lib.Dec.{eqb, ltb}
use lib.ListN.{length}
use borrow.Author.Tests.{eq-eqb, ne_eqb, eqb-true, eqb-false}
use Rattle.std.specs.Prelude.{Result, Ok, Err}
use Rattle.records.specs.declared.Record.{Record}
use Rattle.blocks.specs.declared.Answer.{Answer}
use Rattle.blocks.specs.declared.Refused.{Refused}
use Rattle.blocks.specs.Answer.{answer}
use Rattle.blocks.proofs.AnswerLaws.{refused_some, refused_one}
use Rattle.refusals.specs.Refusals.{sheet_refusal}
use Rattle.entries.specs.Entries.{size_of}
use Rattle.sheets.specs.Lawful.{Lawful}
use Rattle.sheets.specs.Slots.{sized, translation}
use Rattle.sheets.specs.Sheet.{figures_of, ended, answer_of, translate_def}
use Rattle.sheets.proofs.SlotLaws.{translation_length}
use Rattle.sheets.proofs.AcceptLaws.{not_refused, lawful_only, refusal_below}
use Rattle.costs.specs.declared.Cost.{Cost}
use Rattle.costs.specs.declared.Price.{Price}
use Rattle.costs.specs.Dots.{figure_dots, figures_dots}
use Rattle.costs.specs.Cost.{cost_of, cost_refused, answered, cost_def, CostIsToldOfLawful, CostIsTheTranslators}
use Rattle.costs.specs.Share.{share_of, cost_by}

-- ---- a slot
pub share_none : {f : List Record} → f ≡ [] → record { figures = 0; entries = 0; dots = 0 } ≡ share_of f
unfolding sized figures_dots
share_none e = rw e

pub share_one : {f : List Record} {r : Record} {q d : ℕ} → f ≡ r ∷ [] → q ≡ size_of r → d ≡ figure_dots r.figure
    → record { figures = 1; entries = q; dots = d } ≡ share_of f
unfolding sized figures_dots
share_one {r = r} e u v =
    let a : size_of r + 0 ≡ size_of r = omega arith in
    let b : figure_dots r.figure + 0 ≡ figure_dots r.figure = omega arith in rw (e, u, v, a, b)

-- ---- all slots
pub cost_is : (l : List Record) {f e d : ℕ} → length l ≡ f → 2 + sized l ≡ e → figures_dots l ≡ d
    → record { number = 0; first = e; second = 0; figures = f; units = e + d } ≡ cost_by l
cost_is l u v w = rw (← u, ← v, ← w)

-- ---- the ways out of `cost_of`
module _ (s : List ℕ) (p h : ℕ) (t : List ℕ) {a : Answer} (e : a ≡ sheet_refusal s p h t) where
  pub way_refused : (a.number ≡ 0 → ⊥) → cost_refused a ≡ cost_def s p h t
  unfolding cost_def
  way_refused z = rw (← e, ne_eqb a.number 0 z)

  pub way_counted : a.number ≡ 0 → {c : Cost} → c ≡ cost_by (figures_of s p h t) → c ≡ cost_def s p h t
  unfolding cost_def
  way_counted z q = q ∙ rw (← e, eq-eqb a.number 0 z, translation_length t p (figures_of s p h t))

-- ---- what its answer means
pub record Told (s : List ℕ) (p h : ℕ) (t : List ℕ) (c : Cost) : Type 0 where
  pub lawful : Lawful s p h t
  pub is : c ≡ cost_of t p (figures_of s p h t)

module _ (s : List ℕ) (p h : ℕ) (t : List ℕ) where
  -- 0 is answered for a lawful sheet
  pub cost_told_law : {c : Cost} → c ≡ cost_def s p h t → c.number ≡ 0 → Told s p h t c
  unfolding cost_def
  cost_told_law e z = go (eqb (sheet_refusal s p h t).number 0) refl e (sym (ap (λ (x : Cost). x.number) e) ∙ z)
    where
      go : {c : Cost} (b : Bool) → eqb (sheet_refusal s p h t).number 0 ≡ b
          → c ≡ cond b (cost_of t p (figures_of s p h t)) (cost_refused (sheet_refusal s p h t))
          → (cond b (cost_of t p (figures_of s p h t)) (cost_refused (sheet_refusal s p h t))).number ≡ 0 → Told s p h t c
      go true q e z = record { lawful = lawful_only s p h t (eqb-true _ 0 q); is = e }
      go false q e z = absurd (eqb-false _ 0 q z)

  -- .. and for each
  pub lawful_told : Lawful s p h t → cost_def s p h t ≡ cost_of t p (figures_of s p h t)
  unfolding cost_def
  lawful_told w = rw (not_refused s p h t w)

  -- a bound for lawful sheets is one for all: a refused one has no units
  pub cost_below : (n : ℕ) → (Lawful s p h t → (cost_of t p (figures_of s p h t)).units ≤ n) → (cost_def s p h t).units ≤ n
  unfolding cost_def
  cost_below n f = go (eqb (sheet_refusal s p h t).number 0) refl
    where
      go : (b : Bool) → eqb (sheet_refusal s p h t).number 0 ≡ b
          → (cond b (cost_of t p (figures_of s p h t)) (cost_refused (sheet_refusal s p h t))).units ≤ n
      go true q = f (lawful_only s p h t (eqb-true _ 0 q))
      go false q = omega arith

pub cost_is_lawful : CostIsToldOfLawful
cost_is_lawful s p h t = (λ w. ap (λ (x : Cost). x.number) (lawful_told s p h t w), λ z. (cost_told_law s p h t refl z).lawful)

-- ---- beside the translator
abbrev Agrees : Cost → Answer → Type 0
Agrees c a = (c.number ≡ cond (eqb a.number 20) 0 a.number) × (c.first ≡ a.first) × (c.second ≡ a.second)

pub cost_agrees : CostIsTheTranslators
unfolding cost_def translate_def answer_of
cost_agrees s p h t out = go (eqb (sheet_refusal s p h t).number 0)
  where
    short : (b : Bool) → Agrees (cost_of t p (figures_of s p h t))
        (cond b (answer 20 (length (translation t p (figures_of s p h t))) 0) (answer 0 (length (translation t p (figures_of s p h t))) 0))
    short true = (refl, refl, refl)
    short false = (refl, refl, refl)

    go : (b : Bool) → Agrees (cond b (cost_of t p (figures_of s p h t)) (cost_refused (sheet_refusal s p h t)))
        (cond b (ended (length (translation t p (figures_of s p h t))) (length out)) (sheet_refusal s p h t))
    go true = short (ltb (length out) (length (translation t p (figures_of s p h t))))
    go false = (rw (ne_eqb (sheet_refusal s p h t).number 20 (λ z. omega (arith, z, refusal_below s p h t))), refl, refl)

-- ---- two allowed answers are equal: a cost in numbers is of one price or of one refusal, so the Results themselves are
answered_one : (q r : Result Price Refused) → answered q ≡ answered r → q ≡ r
answered_one (Ok a) (Ok b) e = ap (λ (x : Cost). Ok (record { entries = x.first; figures = x.figures; units = x.units })) e
answered_one (Ok a) (Err w) e = absurd (refused_some w (sym (ap (λ (x : Cost). x.number) e)))
answered_one (Err v) (Ok b) e = absurd (refused_some v (ap (λ (x : Cost). x.number) e))
answered_one (Err v) (Err w) e =
    ap Err (refused_one v w (ap (λ (x : Cost). answer x.number x.first x.second) e))

pub only_told : (s : List ℕ) (p h : ℕ) (t : List ℕ) {q r : Result Price Refused} → answered q ≡ cost_def s p h t
    → answered r ≡ cost_def s p h t
    → q ≡ r
only_told s p h t {q} {r} e f = answered_one q r (e ∙ sym f)
