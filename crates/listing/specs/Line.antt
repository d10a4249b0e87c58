-- 01, Bench sheet: an entry as a line of the listing, "C 47", "P 28" and so on.
use Rattle.std.specs.Prelude.{ℕ, ◌+◌, ◌/◌, ◌%◌, List, [], ◌∷◌, cond, ltb}

-- the digits 0 to 9 and A to F, in ASCII
abbrev pub digit_of : ℕ → ℕ
digit_of d = cond (ltb d 10) (48 + d) (55 + d)

-- "commands are the byte + 256": C for a command, P for a parameter byte
abbrev pub mark_of : ℕ → ℕ
mark_of e = cond (ltb e 256) 80 67

-- the mark, a space, the byte in two digits, the line's end
abbrev pub line_of : ℕ → List ℕ
line_of e = mark_of e ∷ 32 ∷ digit_of (e / 16 % 16) ∷ digit_of (e % 16) ∷ 10 ∷ []
