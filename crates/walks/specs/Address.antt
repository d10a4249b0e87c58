-- Dots by bit addresses: what the fast loops compute. A cursor whose mask is one bit stands at a bit address, of 22 bits; proofs/BitLaws
-- shows that a step is a sum on it, and that these walks are those of the cursor.
use Rattle.std.specs.Prelude.{◌≡◌, ℕ, zero, suc, ◌+◌, ◌-◌, ◌*◌, ◌/◌, ◌%◌, ◌<◌, ◌≤◌, cond, List, get_or, leb}
use Rattle.dots.specs.declared.Wiring.{Wiring}
use Rattle.dots.specs.declared.Operation.{Operation}
use Rattle.dots.specs.declared.Cursor.{Cursor}
use Rattle.dots.specs.Cycle.{cycled}
use Rattle.dots.specs.Dot.{cursor_at}
use Rattle.registers.specs.declared.Drawing.{Drawing}
use Rattle.figures.specs.Figure.{pattern_of, direction_at}

-- a bit address below 2^22 is the cursor's
pub record Address (c : Cursor) (a : ℕ) : Type 0 where
  pub stands : a < 4194304 → cursor_at a ≡ c

-- what a step along a direction adds to the bit address, modulo 2^22
abbrev pub stride_of : ℕ → ℕ → ℕ
stride_of zero h = 16 * h
stride_of (suc zero) h = 16 * h + 1
stride_of (suc (suc zero)) h = 1
stride_of (suc (suc (suc zero))) h = 4194305 - 16 * h
stride_of (suc (suc (suc (suc zero)))) h = 4194304 - 16 * h
stride_of (suc (suc (suc (suc (suc zero))))) h = 4194303 - 16 * h
stride_of (suc (suc (suc (suc (suc (suc zero)))))) h = 4194303
stride_of (suc (suc (suc (suc (suc (suc (suc d))))))) h = 16 * h + 4194303

-- what `stride` answers, and what its parameter's type says
pub record Stride (dir h n : ℕ) : Type 0 where
  pub is : n ≡ stride_of dir h
  pub narrow : h < 256

-- a line's place in one number: the bit address, and D times 2^32; what `packed` answers, and what its parameters' types say
abbrev pub pack : ℕ → ℕ → ℕ
pack d a = d * 4294967296 + a

pub record Packed (a d s : ℕ) : Type 0 where
  pub is : s ≡ pack d a
  pub small : s < 281474976710656
  pub narrow : d < 65536

-- 22 bits of the bit address and 14 of D are kept
unfoldable pub kept : ℕ → ℕ
kept t = t / 4294967296 % 16384 * 4294967296 + t % 4194304

-- a line's move, and D after it
unfoldable pub line_stepped : ℕ → ℕ → ℕ → ℕ
line_stepped axis diagonal s = cond (leb 35184372088832 s) (kept (s + axis)) (kept (s + diagonal))

-- a place and the memory
pub record Walked : Type 0 where
  pub at : ℕ
  pub mem : List ℕ

abbrev pub walked : ℕ → List ℕ → Walked
walked s m = record { at = s; mem = m }

-- n dots of a line from dot k on, each with the step after it
unfoldable pub line_walk : Wiring → Operation → ℕ → ℕ → ℕ → ℕ → ℕ → ℕ → ℕ → List ℕ → Walked
line_walk w op low high axis diagonal zero k s m = walked s m
line_walk w op low high axis diagonal (suc n) k s m =
    line_walk w op low high axis diagonal n (k + 1) (line_stepped axis diagonal s)
    (cycled w op (pattern_of low high k) (cursor_at (s % 4194304)) m)

-- n dots along one direction from dot k on, each with the step after it
unfoldable pub straight_walk : Wiring → Operation → ℕ → ℕ → ℕ → ℕ → ℕ → ℕ → List ℕ → Walked
straight_walk w op low high step zero k a m = walked a m
straight_walk w op low high step (suc n) k a m =
    straight_walk w op low high step n (k + 1) ((a + step) % 4194304) (cycled w op (pattern_of low high k) (cursor_at a) m)

-- from dot k to before dot e the steps go one way
pub record Side (f : Drawing) (k e : ℕ) : Type 0 where
  pub from : k < e
  pub same : (i d : ℕ) → k ≤ i → i < e → direction_at f i d ≡ direction_at f k d

-- the pattern byte of the row of a character that is not enlarged
abbrev pub row_byte : List ℕ → ℕ → ℕ
row_byte ram y = get_or ram (15 - y % 8) 0 % 256
