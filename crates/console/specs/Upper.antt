-- The bench's digits: those of `io::hex`, with A to F in upper case.
use Rattle.std.specs.Prelude.{ℕ, ◌-◌, cond, leb}

-- a to f become A to F; 0 to 9 stay
unfoldable pub upper_of : ℕ → ℕ
upper_of c = cond (leb 97 c) (c - 32) c
