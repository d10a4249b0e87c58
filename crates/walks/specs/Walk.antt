-- What the loops compute: dots one after another, each with the step after it, and no end. A dot is one memory cycle, with the pattern of
-- figures/specs, on what it reads: the registers that stay (the brush), the cursor, and memory.
use Rattle.std.specs.Prelude.{ℕ, zero, suc, ◌+◌, ◌%◌, cond, List, ltb}
use Rattle.dots.specs.declared.Cursor.{Cursor}
use Rattle.dots.specs.Step.{step_of}
use Rattle.dots.specs.Cycle.{cycled}
use Rattle.registers.specs.Size.{factor_of, rows_of, columns_of}
use Rattle.figures.specs.Figure.{pattern_at, direction_at, running_d}
use Rattle.figures.specs.Character.{character_pattern}
use Rattle.walks.specs.declared.Brush.{Brush}
use Rattle.walks.specs.declared.Reached.{Reached}

-- the lesser of two numbers
abbrev pub least : ℕ → ℕ → ℕ
least a b = cond (ltb a b) a b

-- "dot k uses bit k mod 16 of the pattern", by one cycle
abbrev pub dotted : Brush → ℕ → Cursor → List ℕ → List ℕ
dotted b k c m = cycled b.wiring b.op (pattern_at b.ram k) c m

-- n dots of a figure from dot k on: where they lead, and the running D
pub record Led : Type 0 where
  pub cursor : Cursor
  pub d : ℕ
  pub mem : List ℕ

abbrev pub led : Reached → List ℕ → Led
led q m = record { cursor = q.cursor; d = q.d; mem = m }

unfoldable pub figure_walk : Brush → ℕ → ℕ → ℕ → Cursor → List ℕ → Led
figure_walk b zero k d c m = record { cursor = c; d = d; mem = m }
figure_walk b (suc n) k d c m =
    figure_walk b n (k + 1) (running_d b.drawing d) (step_of (direction_at b.drawing k d) b.pitch c) (dotted b k c m)

-- a character: its rows, its dots of a row, one cycle at a dot, and the next row's start
abbrev pub rows_in : Brush → ℕ
rows_in b = rows_of b.drawing b.zoom

abbrev pub columns_in : Brush → ℕ
columns_in b = columns_of b.drawing b.zoom

abbrev pub lettered : Brush → ℕ → ℕ → Cursor → List ℕ → List ℕ
lettered b row column c m = cycled b.wiring b.op (character_pattern b.ram (factor_of b.zoom) row column) c m

abbrev pub next_row : Brush → Cursor → Cursor
next_row b start = step_of ((b.drawing.dir + 2) % 8) b.pitch start

-- n dots of a character's row from dot x on; n whole rows from row y on, each with the return to the next row's start
pub record Stood : Type 0 where
  pub cursor : Cursor
  pub mem : List ℕ

abbrev pub stood : Cursor → List ℕ → Stood
stood c m = record { cursor = c; mem = m }

unfoldable pub row_walk : Brush → ℕ → ℕ → ℕ → Cursor → List ℕ → Stood
row_walk b zero y x c m = stood c m
row_walk b (suc n) y x c m = row_walk b n y (x + 1) (step_of b.drawing.dir b.pitch c) (lettered b y x c m)

unfoldable pub rows_walk : Brush → ℕ → ℕ → Cursor → List ℕ → Stood
rows_walk b zero y s m = stood s m
rows_walk b (suc n) y s m = rows_walk b n (y + 1) (next_row b s) (row_walk b (columns_in b) y 0 s m).mem
