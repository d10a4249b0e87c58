-- 01, Steps and figures: one unit of a graphics character that GCHRD draws.
use Rattle.std.specs.Prelude.{ℕ, ◌+◌, ◌-◌, ◌*◌, ◌/◌, ◌%◌, Bool, cond, List, ltb, get_or}
use Rattle.dots.specs.declared.Cursor.{Cursor}
use Rattle.dots.specs.Bit.{bit}
use Rattle.dots.specs.Step.{step_of}
use Rattle.dots.specs.Cycle.{cycled}
use Rattle.registers.specs.declared.Registers.{Registers}
use Rattle.registers.specs.declared.Work.TheVariants.{Idle, Character}
use Rattle.registers.specs.Size.{factor_of, rows_of, columns_of}
use Rattle.registers.specs.Put.{put_cursor, put_work}
use Rattle.registers.specs.State.{State, state}

-- "Row r, dot c uses bit (c div g) mod 8 of RA(15 - (r div g) mod 8) for all masked bits."
unfoldable pub character_pattern : List ℕ → ℕ → ℕ → ℕ → ℕ
character_pattern ram g row column = bit (column / g % 8) (get_or ram (15 - row / g % 8) 0) * 65535

-- "the next start is one step along DIR + 2"
unfoldable pub next_start : Registers → Cursor → Cursor
next_start r start = step_of ((r.drawing.dir + 2) % 8) r.pitch start

-- "each row runs along DIR from its start"; "The last dot is where EAD and mask stay."
unfoldable pub character_moved : ℕ → ℕ → Cursor → Registers → Registers
character_moved row column start r =
    cond (ltb (column + 1) (columns_of r.drawing r.video.zoom))
    (put_work (put_cursor r (step_of r.drawing.dir r.pitch r.cursor)) (Character row (column + 1) start))
    (cond (ltb (row + 1) (rows_of r.drawing r.video.zoom))
    (put_work (put_cursor r (next_start r start)) (Character (row + 1) 0 (next_start r start)))
    (put_work r Idle))

-- "one cycle of the figure in progress"
unfoldable pub character_unit : ℕ → ℕ → Cursor → State → State
character_unit row column start s =
    state (character_moved row column start s.regs)
    (cycled s.regs.board.wiring s.regs.op (character_pattern s.regs.ram (factor_of s.regs.video.zoom) row column)
    s.regs.cursor s.mem)
