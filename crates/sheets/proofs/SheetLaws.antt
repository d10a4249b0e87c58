-- One law for each way out of `translate`, and what the answer 0 means. True because the checks of the code run in the definition's order,
-- so that each way's tests decide the `or_else` of `answer_of`.
use mathlib.Core.Path.{◌≡◌, refl, sym, ap, subst, ◌∙◌}
use mathlib.Core.Bool.{Bool, true, false, cond}
use mathlib.Core.List.{List, ◌++◌}
use Prim.Native.Nat.{ℕ, ◌+◌, ◌<◌, ◌≤◌}
use native.Mathlib.Omega.{arith}
use lib.Dec.{ltb}
use lib.ListN.{length, drop}
use borrow.Author.Tests.{eq-eqb, ne_eqb, lt-ltb, le-ltb, ltb-false}
use Rattle.std.specs.Prelude.{Result}
use Rattle.blocks.specs.declared.Answer.{Answer}
use Rattle.blocks.specs.declared.Refused.{Refused}
use Rattle.blocks.specs.Answer.{answer}
use Rattle.blocks.specs.Refused.{answered}
use Rattle.blocks.proofs.AnswerLaws.{or_next, or_zero, answered_one}
use Rattle.refusals.specs.Refusals.{sheet_refusal}
use Rattle.refusals.proofs.RefusalLaws.{Framed, sheet_framed}
use Rattle.entries.specs.Entries.{placed}
use Rattle.entries.proofs.PutLaws.{placed_is}
use Rattle.sheets.specs.Slots.{sized, translation}
use Rattle.sheets.specs.Sheet.{figures_of, ended, answer_of, Outcome, outcome, output_of, translate_def}
use Rattle.sheets.proofs.SlotLaws.{translation_length}

-- ---- the ways out
placed_first : (o e : List ℕ) → length e ≤ length o → placed o 0 e ≡ e ++ drop (length e) o
placed_first o e h = let z : 0 + length e ≡ length e = omega arith in placed_is o 0 e (omega arith) ∙ ap (λ (n : ℕ). e ++ drop n o) z

module _ (s : List ℕ) (p h : ℕ) (t o : List ℕ) where
  abbrev all : List ℕ
  all = translation t p (figures_of s p h t)

  module _ {a : Answer} (e : a ≡ sheet_refusal s p h t) where
    pub way_refused : (a.number ≡ 0 → ⊥) → outcome a o ≡ translate_def s p h t o
    unfolding translate_def answer_of
    way_refused z = rw (← e, ne_eqb a.number 0 z, ne_eqb a.number 0 z)

    module _ (z : a.number ≡ 0) {need : ℕ} (q : need ≡ 2 + sized (figures_of s p h t)) where
      needed : need ≡ length all
      needed = q ∙ sym (translation_length t p (figures_of s p h t))

      on : answer_of s p h t (length o) ≡ ended (length all) (length o)
      unfolding answer_of
      on = or_next (sheet_refusal s p h t) _ (sym (ap (λ (x : Answer). x.number) e) ∙ z)

      pub way_short : length o < need → outcome (answer 20 need 0) o ≡ translate_def s p h t o
      unfolding translate_def
      way_short u = rw (on, ← needed, lt-ltb (length o) need u)

      pub way_done : {o' : List ℕ} → need ≤ length o → o' ≡ placed o 0 all → outcome (answer 0 need 0) o' ≡ translate_def s p h t o
      unfolding translate_def
      way_done u k =
          rw (on, ← needed, le-ltb (length o) need u)
          (ap (outcome (answer 0 need 0)) (k ∙ placed_first o all (subst (λ (x : ℕ). x ≤ length o) needed u) ∙ rw (← needed)))

-- ---- what the answer 0 means
ended_zero : (e l : ℕ) → (ended e l).number ≡ 0 → (e ≤ l) × (ended e l ≡ answer 0 e 0)
ended_zero e l z = go (ltb l e) refl z
  where
    go : (w : Bool) → ltb l e ≡ w → (cond w (answer 20 e 0) (answer 0 e 0)).number ≡ 0
        → (e ≤ l) × (cond w (answer 20 e 0) (answer 0 e 0) ≡ answer 0 e 0)
    go true q k = absurd (omega arith)
    go false q k = (ltb-false l e q, refl)

pub record Translated (s : List ℕ) (p h : ℕ) (t o : List ℕ) (a : Answer) (o' : List ℕ) : Type 0 where
  pub accepted : (sheet_refusal s p h t).number ≡ 0
  pub frame : Framed p h (length t) (length s)
  pub first : a.first ≡ 2 + sized (figures_of s p h t)
  pub fits : a.first ≤ length o
  pub out : o' ≡ placed o 0 (translation t p (figures_of s p h t))

pub translated_means : (s : List ℕ) (p h : ℕ) (t o : List ℕ) {a : Answer} {o' : List ℕ} → outcome a o' ≡ translate_def s p h t o
    → a.number ≡ 0
    → Translated s p h t o a o'
unfolding translate_def answer_of
translated_means s p h t o {a} e z =
    let ae : a ≡ answer_of s p h t (length o) = ap (λ (x : Outcome). x.answer) e in
    let nz : (answer_of s p h t (length o)).number ≡ 0 = sym (ap (λ (x : Answer). x.number) ae) ∙ z in
    let u = or_zero (sheet_refusal s p h t) _ nz in
    let k = ended_zero (length (translation t p (figures_of s p h t))) (length o) (sym (ap (λ (x : Answer). x.number) u.1) ∙ nz) in
    let r : a.first ≡ length (translation t p (figures_of s p h t)) = ap (λ (x : Answer). x.first) (ae ∙ u.1 ∙ k.1) in
    record {
      accepted = u.0;
      frame = sheet_framed s p h t refl u.0;
      first = r ∙ translation_length t p (figures_of s p h t);
      fits = subst (λ (x : ℕ). x ≤ length o) (sym r) k.0;
      out = ap (λ (x : Outcome). x.out) e
          ∙ ap (λ (b : Bool). output_of b o (translation t p (figures_of s p h t))) (eq-eqb _ 0 nz)
          ∙ sym (placed_first o (translation t p (figures_of s p h t)) k.0);
    }

-- two allowed answers are equal, and so are the outputs
pub only : (s : List ℕ) (p h : ℕ) (t o : List ℕ) {a b : Answer} {u v : List ℕ} → outcome a u ≡ translate_def s p h t o
    → outcome b v ≡ translate_def s p h t o
    → (a ≡ b) × (u ≡ v)
only s p h t o e f = (ap (λ (x : Outcome). x.answer) (e ∙ sym f), ap (λ (x : Outcome). x.out) (e ∙ sym f))

-- .. and so are the Results that the function answers, which are told apart
pub only_told : (s : List ℕ) (p h : ℕ) (t o : List ℕ) {q r : Result ℕ Refused} {u v : List ℕ}
    → outcome (answered q) u ≡ translate_def s p h t o
    → outcome (answered r) v ≡ translate_def s p h t o
    → (q ≡ r) × (u ≡ v)
only_told s p h t o {q} {r} e f = let w = only s p h t o e f in (answered_one q r w.0, w.1)
