-- A line of the script: a letter, and the fields after it, each behind one space.
use Rattle.std.specs.Prelude.{ℕ, ◌+◌, suc, List, [], ◌∷◌, Bool, true, false, cond, ltb, eqb, length, get_or, take, drop, Option, None, Some}
use Rattle.script.specs.declared.Line.{Line}
use Rattle.script.specs.declared.Line.TheVariants.{Bare, One, Two, Bytes}
use Rattle.script.specs.Digits.{number_of}

-- the characters before the first space
unfoldable pub span_of : List ℕ → ℕ
span_of [] = 0
span_of (b ∷ l) = cond (eqb b 32) 0 (suc (span_of l))

-- "In `F`, `J` the first field is the request's number, written as it is printed": no 0 stands before it
unfoldable pub padded_b : ℕ → List ℕ → Bool
padded_b letter s = cond (eqb (get_or s 0 0) 48) (cond (eqb letter 70) true (cond (eqb letter 74) true false)) false

unfoldable pub one_of : ℕ → Option ℕ → Option Line
one_of letter None = None
one_of letter (Some n) = Some (One letter n)

unfoldable pub second_of : ℕ → ℕ → Option ℕ → Option Line
second_of letter m None = None
second_of letter m (Some n) = Some (Two letter m n)

unfoldable pub two_of : ℕ → Option ℕ → Option ℕ → Option Line
two_of letter None b = None
two_of letter (Some m) b = second_of letter m b

-- one field, or two, the second being all that stands after the first space
unfoldable pub fields_of : ℕ → List ℕ → Option Line
fields_of letter s =
    cond (padded_b letter s) None
    (cond (eqb (span_of s) (length s)) (one_of letter (number_of s))
    (two_of letter (number_of (take (span_of s) s)) (number_of (drop (span_of s + 1) s))))

-- what follows a letter and a space: bytes after G and B, else fields
abbrev pub rest_of : ℕ → List ℕ → Option Line
rest_of letter s = cond (eqb letter 71) (Some (Bytes letter)) (cond (eqb letter 66) (Some (Bytes letter)) (fields_of letter (drop 2 s)))

-- a line of 1 to 20,000 characters
unfoldable pub line_of : List ℕ → Option Line
line_of s =
    cond (eqb (length s) 0) None
    (cond (ltb 20000 (length s)) None
    (cond (eqb (length s) 1) (Some (Bare (get_or s 0 0)))
    (cond (eqb (get_or s 1 0) 32) (rest_of (get_or s 0 0) s) None)))
