-- The part of a buffer that is in use.
use Rattle.std.specs.Prelude.{ℕ, ◌≡◌, ◌≤◌, cond, List, leb, length, take}

-- n of its elements, or all where it has fewer
unfoldable pub used_of : {A : Type 0} → ℕ → List A → ℕ
used_of n xs = cond (leb n (length xs)) n (length xs)

-- r is that number; with what `&buf[..r]` asks, which follows from it, beside it for the callers
pub record Used {A : Type 0} (n : ℕ) (xs : List A) (r : ℕ) : Type 0 where
  pub same : r ≡ used_of n xs
  pub counts : (r ≤ length xs) × (r ≡ length (take r xs))
