-- 01, Commands: the operations' numbers, "0 REPLACE .., 1 COMPLEMENT .., 2 RESET .., 3 SET". The same numbers stand in WDAT's byte, in a
-- sheet's record and in the plain numbers that C holds.
use Rattle.std.specs.Prelude.{ℕ, cond, eqb}
use Rattle.dots.specs.declared.Operation.{Operation}
use Rattle.dots.specs.declared.Operation.TheVariants.{Replace, Complement, Reset, Set}

-- the operation with a number, 0 to 3 (every number past 3 counts as 3: who may meet one tests it before)
unfoldable pub operation_of : ℕ → Operation
operation_of n = cond (eqb n 0) Replace (cond (eqb n 1) Complement (cond (eqb n 2) Reset Set))

-- the number of an operation
abbrev pub operation_number : Operation → ℕ
operation_number Replace = 0
operation_number Complement = 1
operation_number Reset = 2
operation_number Set = 3
