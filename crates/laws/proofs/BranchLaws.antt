-- What holds of both answers of a test holds of the test's answer.
use mathlib.Core.Path.{◌≡◌, refl}
use mathlib.Core.Bool.{Bool, true, false, cond}

module _ {A : Type 0} (P : A → Type 0) where
  pub either : (t : Bool) {x y : A} → P x → P y → P (cond t x y)
  either true p q = p
  either false p q = q

  -- .. each answer knowing how the test went
  pub cases : (t : Bool) {x y : A} → (t ≡ true → P x) → (t ≡ false → P y) → P (cond t x y)
  cases true p q = p refl
  cases false p q = q refl
