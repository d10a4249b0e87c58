-- 02, M-100: the unit that takes FIGD for an arc, and one unit of the arc in progress.
use Rattle.std.specs.Prelude.{ℕ, ◌+◌, cond, eqb, ltb}
use Rattle.dots.specs.Cycle.{cycled}
use Rattle.registers.specs.declared.Running.{Running}
use Rattle.registers.specs.declared.Drawing.{Drawing}
use Rattle.registers.specs.declared.Registers.{Registers}
use Rattle.registers.specs.declared.Work.TheVariants.{Idle, Arc}
use Rattle.registers.specs.Size.{arc_cycles_of}
use Rattle.registers.specs.Put.{put_cursor, put_work}
use Rattle.registers.specs.State.{State, state}
use Rattle.figures.specs.Figure.{pattern_at}
use Rattle.arcs.specs.declared.Moving.{Moving}
use Rattle.arcs.specs.Arc.{moved_on, passed}

-- "Figures and reads work on copies of DC to DM."
abbrev pub copied : Drawing → Running
copied f = record { d = f.d; d1 = f.d1; d2 = f.d2 }

abbrev pub moving : Registers → Running → Moving
moving r a = record { running = a; cursor = r.cursor }

-- FIGD: the moves of passed-over dots are made "in the unit that meets the next dot, or that takes FIGD if no dot is left to draw; there
-- 01's "changes nothing more" gives way and the DC moves are made"
unfoldable pub arc_begun : Registers → Registers
arc_begun r =
    cond (ltb 0 (arc_cycles_of r.drawing)) (put_work r (Arc 0 (copied r.drawing)))
    (put_cursor r (passed r.drawing.dir r.pitch (moving r (copied r.drawing)) r.drawing.dc).cursor)

-- where cycle k is made: the first one after the DM moves of "dots with i below DM", each other where the earlier unit led
abbrev pub meets : Drawing → ℕ → ℕ → Moving → Moving
meets f pitch k m = cond (eqb k 0) (passed f.dir pitch m f.dm) m

-- "One step between consecutive dots, none after the last; it .. is made in the earlier dot's unit, and the figure ends in its last dot's
-- unit."
unfoldable pub arc_moved : ℕ → Moving → Registers → Registers
arc_moved k m r =
    cond (ltb (k + 1) (arc_cycles_of r.drawing))
    (put_work (put_cursor r (moved_on r.drawing.dir r.pitch m).cursor) (Arc (k + 1) (moved_on r.drawing.dir r.pitch m).running))
    (put_work (put_cursor r m.cursor) Idle)

-- "one cycle of the figure in progress": cycle k is dot DM + k's, as "the pattern advances" on dots passed over
unfoldable pub arc_unit : ℕ → Running → State → State
arc_unit k a s =
    state (arc_moved k (meets s.regs.drawing s.regs.pitch k (moving s.regs a)) s.regs)
    (cycled s.regs.board.wiring s.regs.op (pattern_at s.regs.ram (s.regs.drawing.dm + k))
    (meets s.regs.drawing s.regs.pitch k (moving s.regs a)).cursor s.mem)
