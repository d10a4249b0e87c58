-- Computed tests and what they say: by cases on the tests' answers.
use mathlib.Core.Path.{◌≡◌, refl}
use mathlib.Core.Bool.{Bool, true, false, not, ◌&&◌, ◌||◌, false≢true}

pub and_both : (a b : Bool) → (a && b) ≡ true → (a ≡ true) × (b ≡ true)
and_both true b e = (refl, e)
and_both false b e = absurd (false≢true e)

-- "not a, or b": b where a
pub then_holds : (a b : Bool) → (not a || b) ≡ true → a ≡ true → b ≡ true
then_holds true b e f = e
then_holds false b e f = absurd (false≢true f)

pub holds_then : (a b : Bool) → (a ≡ true → b ≡ true) → (not a || b) ≡ true
holds_then true b f = f refl
holds_then false b f = refl
