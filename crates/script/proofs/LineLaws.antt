-- A line's fields, from what the calls on its parts answer.
use Prim.Native.Nat.{ℕ, ◌+◌, ◌-◌, ◌≤◌}
use mathlib.Core.Path.{◌≡◌, refl, sym, ◌∙◌}
use mathlib.Core.Bool.{Bool, true, false, cond, ◌&&◌}
use mathlib.Core.List.{List, [], ◌∷◌}
use lib.Dec.{eqb}
use lib.ListN.{length, get_or, take, drop, length-drop}
use lib.Seq.{take_all}
use native.Mathlib.Omega.{arith}
use Rattle.std.proofs.lemmas.Bool.{cases_eq}
use borrow.Author.Tests.{eq-eqb, ne_eqb, le-ltb}
use Rattle.std.proofs.Common.{Option, None, Some, ◌⊎◌, inl, inr}
use Rattle.std.specs.List.{starts_with}
use Rattle.script.specs.declared.Line.TheVariants.{Bytes}
use Rattle.script.specs.Digits.{number_of}
use Rattle.script.specs.Line.{span_of, padded_b, one_of, second_of, two_of, fields_of, rest_of, line_of}

-- a part that goes to the end
pub to_end : (n : ℕ) (s : List ℕ) → take (length s - n) (drop n s) ≡ drop n s
to_end n s = take_all (length s - n) (drop n s) (omega (arith, length-drop n s))

-- the first character of none is none
starts : (s : List ℕ) → starts_with eqb s (48 ∷ []) ≡ eqb (get_or s 0 0) 48
starts [] = refl
starts (x ∷ s) = elim (cases_eq x 48) [
  | inl e ↦ rw e refl
  | inr n ↦ rw (ne_eqb x 48 n, ne_eqb 48 x (λ k. n (sym k))) refl
]

both_true : (b : Bool) → (b && true) ≡ cond b true false
both_true true = refl
both_true false = refl

both_false : (b : Bool) → (b && false) ≡ cond b false false
both_false true = refl
both_false false = refl

module _ (letter : ℕ) (s : List ℕ) {a m : Bool} (first : a ≡ starts_with eqb s (48 ∷ [])) where
  pub padded_request : m ≡ true → (letter ≡ 70) ⊎ (letter ≡ 74) → (a && m) ≡ padded_b letter s
  unfolding padded_b
  padded_request e (inl k) = rw (e, first, starts s, both_true, eq-eqb letter 70 k)
  padded_request e (inr k) = rw (e, first, starts s, both_true, k)

  pub padded_other : m ≡ false → (letter ≡ 70 → ⊥) → (letter ≡ 74 → ⊥) → (a && m) ≡ padded_b letter s
  unfolding padded_b
  padded_other e f g = rw (e, first, starts s, both_false, ne_eqb letter 70 f, ne_eqb letter 74 g)

module _ (letter : ℕ) (s : List ℕ) where
  pub fields_none : padded_b letter s ≡ true → None ≡ fields_of letter s
  unfolding fields_of
  fields_none z = rw z

  pub fields_one : {e : ℕ} {a : Option ℕ} → padded_b letter s ≡ false → e ≡ span_of s → e ≡ length s → a ≡ number_of s
      → one_of letter a ≡ fields_of letter s
  unfolding fields_of
  fields_one z p q f = rw (f, z, eq-eqb (span_of s) (length s) (sym p ∙ q))

  module _ {e : ℕ} (z : padded_b letter s ≡ false) (p : e ≡ span_of s) (q : e ≡ length s → ⊥) where
    both : two_of letter (number_of (take e s)) (number_of (drop (e + 1) s)) ≡ fields_of letter s
    unfolding fields_of
    both = rw (z, ne_eqb (span_of s) (length s) (λ x. q (p ∙ x)), p)

    pub fields_first_wrong : None ≡ number_of (take e s) → None ≡ fields_of letter s
    unfolding two_of
    fields_first_wrong f = let k : None ≡ two_of letter (number_of (take e s)) (number_of (drop (e + 1) s)) = rw (← f) in k ∙ both

    pub fields_two : {m : ℕ} {b : Option ℕ} → Some m ≡ number_of (take e s)
        → b ≡ number_of (take (length s - (e + 1)) (drop (e + 1) s)) → second_of letter m b ≡ fields_of letter s
    unfolding two_of
    fields_two {m} {b} f g =
        let k : second_of letter m b ≡ two_of letter (number_of (take e s)) (number_of (drop (e + 1) s)) = rw (← f, g, to_end) in
        k ∙ both

-- a line of two characters or more, whose second is a space
module _ (s : List ℕ) (z : false ≡ eqb (length s) 0) (h : length s ≤ 20000) (o : length s ≡ 1 → ⊥) (e : get_or s 1 0 ≡ 32) where
  behind : rest_of (get_or s 0 0) s ≡ line_of s
  unfolding line_of
  behind = rw (← z, le-ltb 20000 (length s) h, ne_eqb (length s) 1 o, eq-eqb (get_or s 1 0) 32 e)

  pub bytes_line : (get_or s 0 0 ≡ 66) ⊎ (get_or s 0 0 ≡ 71) → Some (Bytes (get_or s 0 0)) ≡ line_of s
  bytes_line (inl k) = let r : Some (Bytes (get_or s 0 0)) ≡ rest_of (get_or s 0 0) s = rw k in r ∙ behind
  bytes_line (inr k) = let r : Some (Bytes (get_or s 0 0)) ≡ rest_of (get_or s 0 0) s = rw k in r ∙ behind

  pub fields_line : (get_or s 0 0 ≡ 71 → ⊥) → (get_or s 0 0 ≡ 66 → ⊥)
      → fields_of (get_or s 0 0) (take (length s - 2) (drop 2 s)) ≡ line_of s
  fields_line f g =
      let r : fields_of (get_or s 0 0) (take (length s - 2) (drop 2 s)) ≡ rest_of (get_or s 0 0) s =
      rw (to_end, ne_eqb (get_or s 0 0) 71 f, ne_eqb (get_or s 0 0) 66 g) in
      r ∙ behind
