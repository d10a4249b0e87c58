-- `same_b` is true of equal lists alone, so it is what a test of equality answers.
use Prim.Native.Nat.{ℕ}
use mathlib.Core.Path.{◌≡◌, refl, ap₂}
use mathlib.Core.List.{List, [], ◌∷◌}
use mathlib.Core.Bool.{Bool, true, false, ◌&&◌, false≢true}
use lib.Dec.{eqb}
use borrow.Author.Tests.{eq-eqb, eqb-true}
use Rattle.wirings.specs.Wired.{same_b}

both : (a b : Bool) → (a && b) ≡ true → (a ≡ true) × (b ≡ true)
both false b e = absurd (false≢true e)
both true b e = (refl, e)

same_self : (s : List ℕ) → same_b s s ≡ true
unfolding same_b
same_self [] = refl
same_self (a ∷ s) = rw (eq-eqb a a refl) (same_self s)

same_alone : (s t : List ℕ) → same_b s t ≡ true → s ≡ t
unfolding same_b
same_alone [] [] h = refl
same_alone [] (b ∷ t) h = absurd (false≢true h)
same_alone (a ∷ s) [] h = absurd (false≢true h)
same_alone (a ∷ s) (b ∷ t) h =
    let e = both (eqb a b) (same_b s t) h in ap₂ ◌∷◌ (eqb-true a b e.0) (same_alone s t e.1)

pub same_yes : (s t : List ℕ) → s ≡ t → same_b s t ≡ true
same_yes s t e = rw e (same_self t)

pub same_no : (s t : List ℕ) → (s ≡ t → ⊥) → same_b s t ≡ false
same_no s t n = go (same_b s t) (same_alone s t)
  where
    go : (b : Bool) → (b ≡ true → s ≡ t) → b ≡ false
    go true h = absurd (n (h refl))
    go false h = refl
