-- 01, Steps and figures: one unit of a figure that FIGD draws.
use Rattle.std.specs.Prelude.{ℕ, ◌+◌, ◌*◌, ◌%◌, Bool, cond, List, eqb, ltb, leb, get_or}
use Rattle.dots.specs.Bit.{bit}
use Rattle.dots.specs.Step.{step_of}
use Rattle.dots.specs.Cycle.{cycled}
use Rattle.registers.specs.declared.Drawing.{Drawing}
use Rattle.registers.specs.declared.Registers.{Registers}
use Rattle.registers.specs.declared.Work.TheVariants.{Idle, Figure}
use Rattle.registers.specs.Width.{fourteen_bits, sign}
use Rattle.registers.specs.Size.{line_kind, rectangle_kind, dots_of}
use Rattle.registers.specs.Put.{put_cursor, put_work}
use Rattle.registers.specs.State.{State, state}

-- "dot k uses bit k mod 16 of the pattern RA8 + 256·RA9 for all masked bits"
unfoldable pub pattern_of : ℕ → ℕ → ℕ → ℕ
pattern_of low high k = bit (k % 16) (low + 256 * high) * 65535

unfoldable pub pattern_at : List ℕ → ℕ → ℕ
pattern_at ram k = pattern_of (get_or ram 8 0) (get_or ram 9 0) k

-- "D is two's complement": of 14 bits the highest is the sign
abbrev pub negative : ℕ → Bool
negative d = leb sign d

-- "For even DIR the axis is DIR and the diagonal DIR + 1; for odd, the axis is DIR + 1 mod 8 and the diagonal DIR."
abbrev pub axis_of : ℕ → ℕ
axis_of dir = cond (eqb (dir % 2) 0) dir ((dir + 1) % 8)

abbrev pub diagonal_of : ℕ → ℕ
diagonal_of dir = cond (eqb (dir % 2) 0) (dir + 1) dir

-- "Negative: axis move, D gains D1; else diagonal move, D gains D2; the 14-bit sum wraps."
unfoldable pub line_direction : ℕ → ℕ → ℕ
line_direction dir d = cond (negative d) (axis_of dir) (diagonal_of dir)

unfoldable pub error_after : Drawing → ℕ → ℕ
error_after f d = cond (negative d) ((d + f.d1) % fourteen_bits) ((d + f.d2) % fourteen_bits)

-- "four sides along DIR, DIR + 2, + 4, + 6 (mod 8), of D, D2, D, D2 dots": the side of dot k
unfoldable pub side_of : ℕ → ℕ → ℕ → ℕ
side_of d d2 k = cond (ltb k d) 0 (cond (ltb k (d + d2)) 2 (cond (ltb k (d + d2 + d)) 4 6))

-- the step after dot k; "Type 00000: .. along DIR"
unfoldable pub direction_at : Drawing → ℕ → ℕ → ℕ
direction_at f k d =
    cond (eqb f.kind line_kind) (line_direction f.dir d)
    (cond (eqb f.kind rectangle_kind) ((f.dir + side_of f.d f.d2 k) % 8) f.dir)

-- only a line has a running D
unfoldable pub running_d : Drawing → ℕ → ℕ
running_d f d = cond (eqb f.kind line_kind) (error_after f d) d

-- "One step between consecutive dots, none after the last; it .. is made in the earlier dot's unit, and the figure ends in its last dot's
-- unit."
unfoldable pub figure_moved : ℕ → ℕ → Registers → Registers
figure_moved k d r =
    cond (ltb (k + 1) (dots_of r.drawing))
    (put_work (put_cursor r (step_of (direction_at r.drawing k d) r.pitch r.cursor)) (Figure (k + 1) (running_d r.drawing d)))
    (put_work r Idle)

-- "one cycle of the figure in progress"
unfoldable pub figure_unit : ℕ → ℕ → State → State
figure_unit k d s =
    state (figure_moved k d s.regs) (cycled s.regs.board.wiring s.regs.op (pattern_at s.regs.ram k) s.regs.cursor
    s.mem)
