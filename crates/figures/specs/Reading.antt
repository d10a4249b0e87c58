-- 01, Commands and Units: one item of a read. "RDAT gives DC items the same way, changing no memory".
use Rattle.std.specs.Prelude.{ℕ, ◌+◌, ◌/◌, ◌%◌, Bool, cond, List, ltb, leb}
use Rattle.dots.specs.Step.{word_move_of}
use Rattle.dots.specs.Cycle.{met_by}
use Rattle.registers.specs.declared.Transfer.{Transfer}
use Rattle.registers.specs.declared.Transfer.TheVariants.{Word, Low, High}
use Rattle.registers.specs.declared.Buffer.{Buffer}
use Rattle.registers.specs.declared.Registers.{Registers}
use Rattle.registers.specs.declared.Work.{Work}
use Rattle.registers.specs.declared.Work.TheVariants.{Idle, Reading}
use Rattle.registers.specs.Buffer.{pushed}
use Rattle.registers.specs.Put.{put_cursor, put_buffer, put_work}
use Rattle.registers.specs.State.{State, state}

-- "if its one or two bytes fit"
abbrev pub bytes_of : Transfer → ℕ
bytes_of Word = 2
bytes_of Low = 1
bytes_of High = 1

unfoldable pub room_b : Transfer → Buffer → Bool
room_b t b = leb (b.count + bytes_of t) 16

-- "0 word (low byte first), 2 low byte, 3 high byte"
unfoldable pub given : Transfer → ℕ → Buffer → Buffer
given Word w b = pushed (pushed b (w % 256)) (w / 256)
given Low w b = pushed b (w % 256)
given High w b = pushed b (w / 256)

unfoldable pub read_on : Transfer → ℕ → ℕ → Work
read_on t i dc = cond (ltb (i + 1) dc) (Reading (i + 1) t) Idle

-- the item is given and EAD moves a whole word, as after each set of WDAT
unfoldable pub item_given : ℕ → Transfer → ℕ → Registers → Registers
item_given i t w r =
    put_work (put_cursor (put_buffer r (given t w r.buffer)) (word_move_of r.drawing.dir r.pitch r.cursor))
    (read_on t i r.drawing.dc)

-- "one item of the read in progress if its one or two bytes fit"
unfoldable pub read_unit : ℕ → Transfer → State → State
read_unit i t s =
    cond (room_b t s.regs.buffer) (state (item_given i t (met_by s.regs.board.wiring s.regs.cursor.ead s.mem) s.regs)
    s.mem) s
