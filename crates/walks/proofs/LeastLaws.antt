-- What the lesser of two numbers is: below both, and one of them.
use mathlib.Core.Path.{◌≡◌, refl, ◌∙◌}
use Prim.Native.Nat.{ℕ, ◌≤◌, ◌<◌}
use Rattle.std.specs.Prelude.{min}
use Rattle.std.proofs.Math.Nat.{min-eq_left, min-eq_right}
use native.Mathlib.Decide.{dec_lt}
use native.Mathlib.Omega.{arith}
use borrow.Author.Tests.{lt-ltb, le-ltb}
use Rattle.walks.specs.Walk.{least}

pub record Least (x y n : ℕ) : Type 0 where
  pub left : n ≤ x
  pub right : n ≤ y
  pub reached : n < x → n ≡ y
  pub above : (i : ℕ) → i < x → i < y → i < n

-- what std's `min` gives
pub least_min : (x y : ℕ) {n : ℕ} → n ≡ min x y → n ≡ least x y
least_min x y {n} e = go (dec_lt x y)
  where
    go : Dec (x < y) → n ≡ least x y
    go (yes h) = rw (lt-ltb x y h) (e ∙ min-eq_left (omega arith))
    go (no h) = rw (le-ltb x y (omega arith)) (e ∙ min-eq_right (omega arith))

pub is_least : (x y : ℕ) {n : ℕ} → n ≡ least x y → Least x y n
is_least x y {n} e = go (dec_lt x y) e
  where
    go : Dec (x < y) → n ≡ least x y → Least x y n
    go (yes h) q =
        let g : n ≡ x = q ∙ (rw (lt-ltb x y h) refl) in
        record { left = omega arith; right = omega arith; reached = λ l. absurd (omega arith); above = λ i a b. omega arith }
    go (no h) q =
        let g : n ≡ y = q ∙ (rw (le-ltb x y (omega arith)) refl) in
        record { left = omega arith; right = omega arith; reached = λ l. g; above = λ i a b. omega arith }
