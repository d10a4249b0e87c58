-- What a loop over a text's characters knows of those still to be read.
use Prim.Native.Nat.{ℕ, ◌+◌, ◌*◌, ◌<◌, ◌≤◌}
use mathlib.Core.Path.{◌≡◌, ◌∙◌}
use mathlib.Core.List.{List}
use lib.ListN.{length, get_or, drop, drop_of_length-le}
use lib.Seq.{drop-cons}
use native.Mathlib.Numerals.{add-one}
use native.Mathlib.Omega.{arith}
use borrow.Author.Tests.{eq-eqb, ne_eqb, lt-ltb, le-ltb}
use Rattle.std.proofs.Common.{None, Some}
use Rattle.std.specs.Char.{digit_value}
use Rattle.std.proofs.lemmas.Grind.{common_steps}
use Rattle.decimals.specs.Decimal.{ten_of, decimal_from}

-- std's digits below 10
no_digit : (c : ℕ) → (digit_value c < 10 → ⊥) → ten_of c ≡ 10
unfolding ten_of
no_digit c h = grind (arith, common_steps)

is_digit : (c : ℕ) → digit_value c < 10 → digit_value c ≡ ten_of c
unfolding ten_of
is_digit c h = grind (arith, common_steps)

module _ (s : List ℕ) (i n : ℕ) (h : i < length s) {c : ℕ} (e : c ≡ get_or s i 0) where
  pub decimal_fails : (digit_value c < 10 → ⊥) → decimal_from n (drop i s) ≡ None
  unfolding decimal_from
  decimal_fails f = let t : ten_of (get_or s i 0) ≡ 10 = rw (← e) (no_digit c f) in
      rw (drop-cons s i 0 h, eq-eqb (ten_of (get_or s i 0)) 10 t)

  module _ {d : ℕ} (f : digit_value c < 10) (g : d ≡ digit_value c) where
    same : d ≡ ten_of (get_or s i 0)
    same = g ∙ is_digit c f ∙ rw e

    below : ten_of (get_or s i 0) ≡ 10 → ⊥
    below z = let k : d ≡ 10 = same ∙ z in omega arith

    pub decimal_passes : 4294967295 < 10 * n + d → decimal_from n (drop i s) ≡ None
    unfolding decimal_from
    decimal_passes k =
        rw (drop-cons s i 0 h, ne_eqb (ten_of (get_or s i 0)) 10 below, ← same, lt-ltb 4294967295 (10 * n + d) k)

    pub decimal_goes_on : 10 * n + d ≤ 4294967295 → decimal_from n (drop i s) ≡ decimal_from (10 * n + d) (drop (i + 1) s)
    unfolding decimal_from
    decimal_goes_on k =
        rw (add-one, drop-cons s i 0 h, ne_eqb (ten_of (get_or s i 0)) 10 below, ← same, le-ltb 4294967295 (10 * n + d) k)

pub decimal_ends : (s : List ℕ) (i n : ℕ) → length s ≤ i → decimal_from n (drop i s) ≡ Some n
unfolding decimal_from
decimal_ends s i n h = rw (drop_of_length-le s h)
