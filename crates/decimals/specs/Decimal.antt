-- A decimal number of 32 bits: one digit or more, with a value of at most 4,294,967,295.
use Rattle.std.specs.Prelude.{ℕ, ◌+◌, ◌-◌, ◌*◌, List, [], ◌∷◌, cond, ltb, eqb, length, Option, None, Some}

-- the value of 0 to 9, in ASCII; 10 for any other character
unfoldable pub ten_of : ℕ → ℕ
ten_of c = cond (ltb c 48) 10 (cond (ltb 57 c) 10 (c - 48))

-- a number that is at most the largest of 32 bits
abbrev pub within : ℕ → Option ℕ → Option ℕ
within n m = cond (ltb 4294967295 n) None m

-- the digits after a number already read
unfoldable pub decimal_from : ℕ → List ℕ → Option ℕ
decimal_from n [] = Some n
decimal_from n (c ∷ l) =
    cond (eqb (ten_of c) 10) None (within (10 * n + ten_of c) (decimal_from (10 * n + ten_of c) l))

-- one digit or more
unfoldable pub decimal_of : List ℕ → Option ℕ
decimal_of s = cond (eqb (length s) 0) None (decimal_from 0 s)
