-- What a loop over a field's characters knows of those still to be read.
use Prim.Native.Nat.{ℕ, ◌+◌, ◌%◌, ◌<◌, ◌≤◌}
use mathlib.Core.Path.{◌≡◌, refl, sym, ap, ◌∙◌}
use mathlib.Core.List.{List}
use mathlib.Core.Bool.{true, false, cond, not}
use lib.Dec.{eqb}
use lib.ListN.{length, get_or, drop, drop_of_length-le}
use lib.Seq.{drop-cons}
use native.Mathlib.Numerals.{add-one}
use native.Mathlib.Omega.{arith}
use native.Mathlib.Nat.{le_refl}
use borrow.Author.Tests.{eq-eqb, ne_eqb, lt-ltb, le-ltb}
use Rattle.std.proofs.Common.{None, Some, inl, inr}
use Rattle.std.proofs.lemmas.Bool.{cases_lt}
use Rattle.std.proofs.lemmas.List.Sums.{prefix_len-le-length}
use Rattle.std.specs.List.{position, position_or_len}
use Rattle.std.specs.Option.{unwrap_or}
use Rattle.std.proofs.lemmas.List.Recursion.{is_position_or_len}
use Rattle.script.proofs.DigitLaws.{no_digit}
use Rattle.script.specs.Digits.{digit_of, more, number_from, digits_b, bytes_b}
use Rattle.script.specs.Line.{span_of}

pub bytes_odd : (s : List ℕ) → false ≡ eqb (length s) 0 → length s % 2 ≡ 1 → bytes_b s ≡ false
unfolding bytes_b
bytes_odd s h e = rw (← h, eq-eqb (length s % 2) 1 e)

pub bytes_start : (s : List ℕ) → false ≡ eqb (length s) 0 → (length s % 2 ≡ 1 → ⊥) → bytes_b s ≡ digits_b s
unfolding bytes_b
bytes_start s h e = rw (← h, ne_eqb (length s % 2) 1 e)

span_is : (s : List ℕ) → span_of s ≡ position_or_len (λ b. eqb b 32) s
unfolding span_of
span_is s = is_position_or_len span_of (λ b. eqb b 32) refl (λ x xs. ap (λ k. cond (eqb x 32) 0 k) (omega arith)) s

-- where the first space stands, or the end
pub first_space : (s : List ℕ) {r : ℕ} → r ≡ unwrap_or (position (λ b. eqb b 32) s) (length s) → (r ≤ length s) × (r ≡ span_of s)
first_space s {r} e =
    let within : position_or_len (λ b. eqb b 32) s ≤ length s = prefix_len-le-length (λ b. not (eqb b 32)) s in
    elim (cases_lt (position_or_len (λ b. eqb b 32) s) (length s)) [
      | inl h ↦
          let k : r ≡ position_or_len (λ b. eqb b 32) s = e ∙ rw (lt-ltb (position_or_len (λ b. eqb b 32) s) (length s) h) in
          (rw k within, k ∙ sym (span_is s))
      | inr h ↦
          let k : r ≡ length s = e ∙ rw (le-ltb (position_or_len (λ b. eqb b 32) s) (length s) h) in
          let l : length s ≡ position_or_len (λ b. eqb b 32) s = omega arith in
          (rw k (le_refl _), k ∙ l ∙ sym (span_is s))
    ]

module _ (s : List ℕ) (i : ℕ) where
  pub number_fails : (n : ℕ) → i < length s → (digit_of (get_or s i 0) < 16 → ⊥) → number_from n (drop i s) ≡ None
  unfolding number_from
  number_fails n h f = rw (drop-cons s i 0 h, eq-eqb (digit_of (get_or s i 0)) 16 (no_digit _ f))

  pub number_goes_on : {d m : ℕ} (n : ℕ) → i < length s → digit_of (get_or s i 0) < 16 → d ≡ digit_of (get_or s i 0) → m ≡ more n d
      → number_from n (drop i s) ≡ number_from m (drop (i + 1) s)
  unfolding number_from
  number_goes_on n h f e g =
      rw (add-one, drop-cons s i 0 h, ne_eqb (digit_of (get_or s i 0)) 16 (λ x. omega arith), g, e)

  pub number_ends : (n : ℕ) → length s ≤ i → number_from n (drop i s) ≡ Some n
  unfolding number_from
  number_ends n h = rw (drop_of_length-le s h)

  pub digits_fail : i < length s → (digit_of (get_or s i 0) < 16 → ⊥) → digits_b (drop i s) ≡ false
  unfolding digits_b
  digits_fail h f = rw (drop-cons s i 0 h, eq-eqb (digit_of (get_or s i 0)) 16 (no_digit _ f))

  pub digits_go_on : i < length s → digit_of (get_or s i 0) < 16 → digits_b (drop i s) ≡ digits_b (drop (i + 1) s)
  unfolding digits_b
  digits_go_on h f = rw (add-one, drop-cons s i 0 h, ne_eqb (digit_of (get_or s i 0)) 16 (λ x. omega arith))

  pub digits_end : length s ≤ i → digits_b (drop i s) ≡ true
  unfolding digits_b
  digits_end h = rw (drop_of_length-le s h)
