-- What a digit's value says of a digit that is none.
use Prim.Native.Nat.{ℕ, ◌<◌}
use mathlib.Core.Path.{◌≡◌}
use mathlib.Core.Bool.{true, false}
use native.Mathlib.Omega.{arith}
use Rattle.std.proofs.Common.{Option, None, Some}
use Rattle.std.specs.Option.{SomeIff, is_some}
use Rattle.std.proofs.lemmas.Grind.{common_steps}
use Rattle.script.specs.Digits.{digit_of}

pub no_digit : (b : ℕ) → (digit_of b < 16 → ⊥) → digit_of b ≡ 16
unfolding digit_of
no_digit b h = grind (arith, common_steps)

-- what a test for none answers
pub none_fails : (o : Option ℕ) {P : Type 0} (v : ℕ) → SomeIff o P v → is_some o ≡ false → P → ⊥
none_fails None v h e p = h p
none_fails (Some x) v h e p = cc

pub some_passes : (o : Option ℕ) {P : Type 0} (v : ℕ) → SomeIff o P v → is_some o ≡ true → P
some_passes None v h e = cc
some_passes (Some x) v h e = h.0
