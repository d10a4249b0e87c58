-- The operations and their numbers are inverse to each other, 0 to 3. True case by case.
use mathlib.Core.Path.{◌≡◌, refl}
use Prim.Native.Nat.{ℕ, zero, suc, ◌<◌}
use native.Mathlib.Omega.{arith}
use Rattle.dots.specs.declared.Operation.{Operation}
use Rattle.dots.specs.declared.Operation.TheVariants.{Replace, Complement, Reset, Set}
use Rattle.dots.specs.Operation.{operation_of, operation_number}

pub operation_below : (o : Operation) → operation_number o < 4
operation_below Replace = omega arith
operation_below Complement = omega arith
operation_below Reset = omega arith
operation_below Set = omega arith

-- an operation, its number, the operation
pub operation_back : (o : Operation) → operation_of (operation_number o) ≡ o
unfolding operation_of
operation_back Replace = refl
operation_back Complement = refl
operation_back Reset = refl
operation_back Set = refl

-- a number, its operation, the number
pub operation_there : (n : ℕ) → n < 4 → operation_number (operation_of n) ≡ n
unfolding operation_of
operation_there zero h = refl
operation_there (suc zero) h = refl
operation_there (suc (suc zero)) h = refl
operation_there (suc (suc (suc zero))) h = refl
operation_there (suc (suc (suc (suc n)))) h = absurd (omega arith)
