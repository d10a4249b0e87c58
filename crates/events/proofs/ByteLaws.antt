-- The byte of two digits, which are std's hexadecimal digits.
use Prim.Native.Nat.{ℕ, ◌+◌, ◌*◌, ◌<◌}
use mathlib.Core.Path.{◌≡◌, ◌∙◌}
use mathlib.Core.List.{List}
use lib.ListN.{length, get_or}
use native.Mathlib.Omega.{arith}
use borrow.Author.Tests.{eq-eqb, ne_eqb, le-ltb}
use Rattle.std.specs.Char.{digit_value}
use Rattle.std.proofs.lemmas.Grind.{common_steps}
use Rattle.events.specs.declared.Event.TheVariants.{Entry, Unknown}
use Rattle.events.specs.Event.{digit_of, entry_of, byte_of}

same_digit : (c : ℕ) → digit_value c < 16 → digit_value c ≡ digit_of c
unfolding digit_of
same_digit c h = grind (arith, common_steps)

no_digit : (c : ℕ) → (digit_value c < 16 → ⊥) → digit_of c ≡ 16
unfolding digit_of
no_digit c h = grind (arith, common_steps)

module _ (mark : ℕ) (f : List ℕ) where
  pub length_wrong : (length f ≡ 2 → ⊥) → Unknown ≡ byte_of mark f
  unfolding byte_of
  length_wrong n = rw (ne_eqb (length f) 2 n)

  module _ (z : length f ≡ 2) {c : ℕ} (e : c ≡ get_or f 0 0) where
    pub first_wrong : (digit_value c < 16 → ⊥) → Unknown ≡ byte_of mark f
    unfolding byte_of entry_of
    first_wrong n = let k : digit_of (get_or f 0 0) ≡ 16 = rw (← e) (no_digit c n) in rw (eq-eqb (length f) 2 z, k)

    module _ (h : digit_value c < 16) {high : ℕ} (g : high ≡ digit_value c) {d : ℕ} (i : d ≡ get_or f 1 0) where
      first : high ≡ digit_of (get_or f 0 0)
      first = g ∙ same_digit c h ∙ rw e

      pub second_wrong : (digit_value d < 16 → ⊥) → Unknown ≡ byte_of mark f
      unfolding byte_of entry_of
      second_wrong n =
          let k : digit_of (get_or f 1 0) ≡ 16 = rw (← i) (no_digit d n) in
          rw (eq-eqb (length f) 2 z, ← first, le-ltb 15 high (omega arith), k)

      pub both_right : digit_value d < 16 → {low : ℕ} → low ≡ digit_value d → Entry (mark + (16 * high + low)) ≡ byte_of mark f
      unfolding byte_of entry_of
      both_right l {low} j =
          let second : low ≡ digit_of (get_or f 1 0) = j ∙ same_digit d l ∙ rw i in
          rw (eq-eqb (length f) 2 z, ← first, ← second, le-ltb 15 high (omega arith), le-ltb 15 low (omega arith))
