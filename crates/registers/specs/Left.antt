-- 02, M-103: "how many cycles the present figure still needs": those "still to come by the figure's definition", of the figure and the
-- place that it has reached.
use Rattle.std.specs.Prelude.{ℕ, ◌+◌, ◌-◌, ◌*◌}
use Rattle.registers.specs.declared.Work.{Work}
use Rattle.registers.specs.declared.Work.TheVariants.{Idle, Figure, Arc, Character, Reading}
use Rattle.registers.specs.declared.Drawing.{Drawing}
use Rattle.registers.specs.Size.{dots_of, arc_cycles_of, rows_of, columns_of}

-- a character has a cycle for each dot of its rows; done are the rows before this one, and of it the dots before this one
unfoldable pub character_left : Drawing → ℕ → ℕ → ℕ → ℕ
character_left f zoom row column = rows_of f zoom * columns_of f zoom - (row * columns_of f zoom + column)

-- a figure has a cycle for each dot, an arc for each that is not passed over; "and is 0 when no figure is in progress": a read is none
abbrev pub cycles_left : Drawing → ℕ → Work → ℕ
cycles_left f zoom Idle = 0
cycles_left f zoom (Figure k d) = dots_of f - k
cycles_left f zoom (Arc k a) = arc_cycles_of f - k
cycles_left f zoom (Character row column start) = character_left f zoom row column
cycles_left f zoom (Reading i t) = 0
