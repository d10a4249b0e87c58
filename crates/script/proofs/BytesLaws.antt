-- What is left to be put decides what the buffer holds in the end.
use Prim.Native.Nat.{ℕ, ◌+◌, ◌-◌, ◌<◌, ◌≤◌}
use mathlib.Core.Path.{◌≡◌, refl}
use mathlib.Core.List.{List, [], ◌∷◌}
use lib.ListN.{length, get_or, set, take, drop}
use native.Mathlib.Omega.{arith}
use borrow.Author.Tests.{le-leb, lt-leb}
use Rattle.script.proofs.LineLaws.{to_end}
use Rattle.script.specs.Digits.{byte_of, bytes_put}

module _ (to : List ℕ) (at : ℕ) where
  pub put_full : (s : List ℕ) → 2 ≤ length s → length to ≤ at → bytes_put to at s ≡ to
  unfolding bytes_put
  put_full [] h f = refl
  put_full (x ∷ []) h f = refl
  put_full (x ∷ y ∷ l) h f = rw (le-leb (length to) at f)

  pub put_goes_on : (s : List ℕ) {b : ℕ} → 2 ≤ length s → at < length to → b ≡ byte_of (get_or s 0 0) (get_or s 1 0)
      → bytes_put to at s ≡ bytes_put (set to at b) (at + 1) (take (length s - 2) (drop 2 s))
  unfolding bytes_put
  put_goes_on [] h f e = absurd (omega arith)
  put_goes_on (x ∷ []) h f e = absurd (omega arith)
  put_goes_on (x ∷ y ∷ l) h f e = rw (e, to_end 2 (x ∷ y ∷ l), lt-leb (length to) at f)

  pub put_ends : (s : List ℕ) → length s < 2 → bytes_put to at s ≡ to
  unfolding bytes_put
  put_ends [] h = refl
  put_ends (x ∷ []) h = refl
  put_ends (x ∷ y ∷ l) h = absurd (omega arith)
