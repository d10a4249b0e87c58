-- 02, M-100: "FIGD with the A bit alone draws an arc". The moves from dot to dot, on running copies of D, D1 and D2.
use Rattle.std.specs.Prelude.{ℕ, zero, suc, ◌+◌, ◌%◌, Bool, true, false, cond}
use Rattle.dots.specs.Step.{step_of}
use Rattle.registers.specs.declared.Running.{Running}
use Rattle.registers.specs.Width.{fourteen_bits}
use Rattle.figures.specs.Figure.{negative, axis_of, diagonal_of}
use Rattle.arcs.specs.declared.Moving.{Moving}

-- "Before each i after the first, D gains D1"; "Sums wrap at 14 bits"
abbrev pub gained : Running → ℕ
gained a = (a.d + a.d1) % fourteen_bits

-- "D1 loses 2", "D2 loses 2"
abbrev pub losing : ℕ → ℕ
losing n = (n + 16382) % fourteen_bits

-- "if D is then negative the move is diagonal"
abbrev pub turns_b : Running → Bool
turns_b a = negative (gained a)

-- "D gains D1 and D1 loses 2; if D is then negative .., D gains D2 and D2 loses 2; otherwise" D2 stays
abbrev pub running_by : Bool → Running → Running
running_by true a = record { d = (gained a + a.d2) % fourteen_bits; d1 = losing a.d1; d2 = losing a.d2 }
running_by false a = record { d = gained a; d1 = losing a.d1; d2 = a.d2 }

unfoldable pub running_on : Running → Running
running_on a = running_by (turns_b a) a

-- "the move is diagonal ..; otherwise it is along the axis"; "axis and diagonal are as for lines"
unfoldable pub arc_direction : ℕ → Running → ℕ
arc_direction dir a = cond (turns_b a) (diagonal_of dir) (axis_of dir)

-- one move, of the cursor and of the copies
abbrev pub moved_on : ℕ → ℕ → Moving → Moving
moved_on dir pitch m =
    record { running = running_on m.running; cursor = step_of (arc_direction dir m.running) pitch m.cursor }

-- "The mask and cursor move on passed-over dots": n moves
unfoldable pub passed : ℕ → ℕ → Moving → ℕ → Moving
passed dir pitch m zero = m
passed dir pitch m (suc n) = moved_on dir pitch (passed dir pitch m n)
