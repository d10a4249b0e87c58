-- The part of a buffer that is in use, words that are zero, and what a loop over words knows of those that it has not reached.
use Prim.Native.Nat.{ℕ, ◌+◌, ◌/◌, ◌%◌, ◌<◌, ◌≤◌, min}
use mathlib.Core.Path.{◌≡◌, refl, ap}
use mathlib.Core.List.{List, [], ◌∷◌}
use lib.ListN.{length, get_or, drop, replicate, drop_of_length-le}
use lib.Seq.{drop-cons}
use native.Mathlib.Numerals.{add-one}
use native.Mathlib.Omega.{arith}
use Rattle.std.proofs.Math.Nat.{min-eq_left, min-eq_right}
use Rattle.std.proofs.lemmas.Bool.{cases_lt}
use Rattle.std.proofs.Common.{inl, inr}
use borrow.Author.Tests.{le-leb, lt-leb}
use Rattle.buffers.specs.Used.{used_of}
use Rattle.buffers.specs.Words.{cleared, mixed, digest_from}

pub used_is_min : {A : Type 0} (n : ℕ) (xs : List A) → min n (length xs) ≡ used_of n xs
unfolding used_of
used_is_min n xs = elim (cases_lt (length xs) n) [
  | inl h ↦ rw (lt-leb n (length xs) h) (min-eq_right (omega arith))
  | inr h ↦ rw (le-leb n (length xs) h) (min-eq_left h)
]

pub all_zeros : (l : List ℕ) → replicate (length l) 0 ≡ cleared l
unfolding cleared
all_zeros [] = refl
all_zeros (w ∷ l) = ap (λ (x : List ℕ). 0 ∷ x) (all_zeros l)

module _ (s : List ℕ) (i : ℕ) (h : ℕ) where
  pub digest_goes_on : {a b : ℕ} → i < length s → a ≡ mixed h (get_or s i 0 % 256) → b ≡ mixed a (get_or s i 0 / 256)
      → digest_from h (drop i s) ≡ digest_from b (drop (i + 1) s)
  unfolding digest_from
  digest_goes_on g e f = rw (add-one, drop-cons s i 0 g, f, e)

  pub digest_ends : length s ≤ i → digest_from h (drop i s) ≡ h
  unfolding digest_from
  digest_ends g = rw (drop_of_length-le s g)
