-- A field of a script's line: uppercase hexadecimal digits, as a number and as bytes.
use Rattle.std.specs.Prelude.{ℕ, ◌+◌, ◌-◌, ◌*◌, ◌%◌, List, [], ◌∷◌, Bool, true, false, cond, ltb, leb, eqb, length, set, Option, None, Some}

-- the value of 0 to 9 and A to F, in ASCII; 16 for any other character
unfoldable pub digit_of : ℕ → ℕ
digit_of b = cond (ltb b 48) 16 (cond (ltb b 58) (b - 48) (cond (ltb b 65) 16 (cond (ltb b 71) (b - 55) 16)))

-- a digit more; what passes 32 bits counts as 4,294,967,296
unfoldable pub more : ℕ → ℕ → ℕ
more n d = cond (leb 268435456 n) 4294967296 (16 * n + d)

-- the digits after a number already read
unfoldable pub number_from : ℕ → List ℕ → Option ℕ
number_from n [] = Some n
number_from n (b ∷ l) = cond (eqb (digit_of b) 16) None (number_from (more n (digit_of b)) l)

-- one digit or more
unfoldable pub number_of : List ℕ → Option ℕ
number_of s = cond (eqb (length s) 0) None (number_from 0 s)

unfoldable pub digits_b : List ℕ → Bool
digits_b [] = true
digits_b (b ∷ l) = cond (eqb (digit_of b) 16) false (digits_b l)

-- one byte or more, of two digits each
unfoldable pub bytes_b : List ℕ → Bool
bytes_b s = cond (eqb (length s) 0) false (cond (eqb (length s % 2) 1) false (digits_b s))

-- the byte that two digits make
abbrev pub byte_of : ℕ → ℕ → ℕ
byte_of h l = 16 * (digit_of h % 16) + digit_of l % 16

-- the bytes of a field, from a place of a buffer on, as far as there is room
unfoldable pub bytes_put : List ℕ → ℕ → List ℕ → List ℕ
bytes_put to at [] = to
bytes_put to at (h ∷ []) = to
bytes_put to at (h ∷ l ∷ r) = cond (leb (length to) at) to (bytes_put (set to at (byte_of h l)) (at + 1) r)
