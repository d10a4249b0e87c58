-- Units of a figure or a character one after another: as many as there may be, or up to its end. Each is a unit of figures/specs, on what
-- it reads and moves: the registers that stay (the brush), the cursor, what is in progress, and memory.
use Rattle.std.specs.Prelude.{ℕ, zero, suc, ◌+◌, ◌-◌, ◌*◌, ◌/◌, cond, List, eqb, ltb}
use Rattle.dots.specs.declared.Cursor.{Cursor}
use Rattle.dots.specs.Step.{step_of}
use Rattle.registers.specs.declared.Work.{Work}
use Rattle.registers.specs.declared.Work.TheVariants.{Idle, Figure, Character}
use Rattle.registers.specs.Size.{dots_of}
use Rattle.figures.specs.Figure.{direction_at, running_d}
use Rattle.walks.specs.declared.Brush.{Brush}
use Rattle.walks.specs.Walk.{least, dotted, rows_in, columns_in, lettered, next_row}
use Rattle.bursts.specs.declared.Burst.{Burst}

-- what a burst answers, with the memory that it leaves
pub record Drawn : Type 0 where
  pub count : ℕ
  pub cursor : Cursor
  pub work : Work
  pub mem : List ℕ

abbrev pub burst : Burst → List ℕ → Drawn
burst q m = record { count = q.count; cursor = q.cursor; work = q.work; mem = m }

-- the same after n units more
abbrev pub later : ℕ → Drawn → Drawn
later n q = record { count = n + q.count; cursor = q.cursor; work = q.work; mem = q.mem }

-- "One step between consecutive dots, none after the last; .. the figure ends in its last dot's unit."
unfoldable pub figure_burst : Brush → ℕ → ℕ → ℕ → Cursor → List ℕ → Drawn
figure_burst b zero k d c m = record { count = 0; cursor = c; work = Figure k d; mem = m }
figure_burst b (suc n) k d c m =
    cond (ltb (k + 1) (dots_of b.drawing))
    (later 1 (figure_burst b n (k + 1) (running_d b.drawing d) (step_of (direction_at b.drawing k d) b.pitch c) (dotted b k c m)))
    (record { count = 1; cursor = c; work = Idle; mem = dotted b k c m })

-- "each row runs along DIR from its start; the next start is one step along DIR + 2"
unfoldable pub character_burst : Brush → ℕ → ℕ → ℕ → Cursor → Cursor → List ℕ → Drawn
character_burst b zero row column start c m = record { count = 0; cursor = c; work = Character row column start; mem = m }
character_burst b (suc n) row column start c m =
    cond (ltb (column + 1) (columns_in b))
    (later 1 (character_burst b n row (column + 1) start (step_of b.drawing.dir b.pitch c) (lettered b row column c m)))
    (cond (ltb (row + 1) (rows_in b))
    (later 1 (character_burst b n (row + 1) 0 (next_row b start) (next_row b start) (lettered b row column c m)))
    (record { count = 1; cursor = c; work = Idle; mem = lettered b row column c m }))

-- how many units of a character are done at once: the dots of the row before its last; then, where there may be more, that last one and
-- as many whole rows before the character's last as there may be
abbrev pub dots_ahead : ℕ → ℕ → ℕ → ℕ
dots_ahead most k all = least most (all - 1 - k)

unfoldable pub whole_rows : ℕ → ℕ → ℕ → ℕ
whole_rows most columns left = cond (eqb columns 0) 0 (least (most / columns) left)

abbrev pub rows_on : ℕ → ℕ → ℕ → ℕ → ℕ → ℕ
rows_on n most row rows columns = whole_rows (most - n - 1) columns (rows - row - 2)

unfoldable pub rows_ahead : ℕ → ℕ → ℕ → ℕ → ℕ → ℕ
rows_ahead most row column rows columns =
    cond (ltb (dots_ahead most column columns) most)
    (dots_ahead most column columns + 1 + rows_on (dots_ahead most column columns) most row rows columns * columns)
    (dots_ahead most column columns)

-- what comes after a row's last dot: whole rows, as many as there may be, or nothing more
unfoldable pub after_row : Brush → ℕ → ℕ → Cursor → Cursor → List ℕ → Drawn
after_row b most row start c m =
    cond (ltb (row + 1) (rows_in b))
    (character_burst b (whole_rows most (columns_in b) (rows_in b - row - 2) * columns_in b) (row + 1) 0 (next_row b start)
    (next_row b start) m)
    (record { count = 0; cursor = c; work = Idle; mem = m })
