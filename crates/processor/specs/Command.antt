-- 01, Commands: what a command byte does when it is taken from the buffer.
use Rattle.std.specs.Prelude.{ℕ, ◌/◌, ◌%◌, ◌-◌, Bool, true, false, cond, ◌&&◌, List, [], ◌∷◌, ◌++◌, length, eqb, ltb, replicate}
use Rattle.dots.specs.declared.Cursor.{Cursor}
use Rattle.dots.specs.Operation.{operation_of}
use Rattle.registers.specs.declared.Mode.TheVariants as mode
use Rattle.registers.specs.declared.Transfer.{Transfer}
use Rattle.registers.specs.declared.Command.{Command}
use Rattle.registers.specs.declared.Command.TheVariants.{Nothing, Reset, Vsync, Cchar, Start, Zoom, Curs, Pram, Pitch, Mask, Figs, Figd}
use Rattle.registers.specs.declared.Command.TheVariants.{Gchrd, Curd, Lprd, Wdat, Rdat, Unknown}
use Rattle.registers.specs.declared.Work.TheVariants.{Idle, Figure, Character, Reading}
use Rattle.registers.specs.declared.Pen.{Pen}
use Rattle.registers.specs.declared.Buffer.{Buffer}
use Rattle.registers.specs.declared.Progress.{Progress}
use Rattle.registers.specs.declared.Registers.{Registers}
use Rattle.registers.specs.Fresh.{fresh_drawing, empty_buffer}
use Rattle.registers.specs.Size.{arc_kind, dots_of, rows_of, columns_of}
use Rattle.registers.specs.Left.{cycles_left}
use Rattle.registers.specs.Put.{put_drawing, put_op, put_video, put_pen, put_mode, put_buffer, put_progress, put_work, put_remaining}
use Rattle.registers.specs.Put.{put_display}
use Rattle.registers.specs.Put.{put_vsync}
use Rattle.commands.specs.Decode.{within, command_of}
use Rattle.arcs.specs.Unit.{arc_begun}

-- where a command's first parameter goes: "PRAM 70 + address", all others from 0 on
abbrev pub first_of : ℕ → ℕ
first_of b = cond (within 0x70 0x7F b) (b % 16) 0

-- the command in progress is this one, with no parameter taken
abbrev pub begun : Command → ℕ → Progress
begun c b = record { command = c; next = first_of b; low = 0 }

-- "buffer emptied, write mode, figure or read ended where it stands, display off; other registers kept; parameters that follow it load the
-- eight sync bytes"; 02, M-103: the count "is 0 when no figure is in progress"
unfoldable pub reset_done : Registers → Registers
reset_done r =
    put_progress
    (put_remaining (put_work (put_buffer (put_mode (put_video r (put_display r.video false)) mode.Write) empty_buffer) Idle) 0)
    (begun Reset 0)

-- "discard the entries behind them and turn to read mode"
abbrev pub turned : Registers → Buffer → Registers
turned r b = put_mode (put_buffer r b) mode.Read

-- a buffer of at most sixteen bytes
abbrev pub holding : List ℕ → Buffer
holding l = record { entries = l ++ replicate (16 - length l) 0; count = length l }

-- "EAD in three bytes, mask in two", low byte first
abbrev pub cursor_bytes : Cursor → Buffer
cursor_bytes c =
    record {
      entries = c.ead % 256 ∷ c.ead / 256 % 256 ∷ c.ead / 65536 % 256 ∷ c.mask % 256 ∷ c.mask / 256 ∷ replicate 11 0;
      count = 5;
    }

-- "LPRD (three bytes, clears bit 7)"
abbrev pub pen_bytes : Pen → Buffer
pen_bytes p =
    record {
      entries = p.address % 256 ∷ p.address / 256 % 256 ∷ p.address / 65536 % 256 ∷ replicate 13 0;
      count = 3;
    }

abbrev pub pen_given : Registers → Registers
pen_given r = turned (put_pen r (record { address = r.pen.address; set = false })) (pen_bytes r.pen)

-- FIGD: "A figure of no dots .. changes nothing more and ends in the unit that takes its command"; D is copied
unfoldable pub figure_begun : Registers → Registers
figure_begun r = cond (ltb 0 (dots_of r.drawing)) (put_work r (Figure 0 r.drawing.d)) r

-- 02, M-100: "FIGD with the A bit alone draws an arc"
unfoldable pub figd_taken : Registers → Registers
figd_taken r = cond (eqb r.drawing.kind arc_kind) (arc_begun r) (figure_begun r)

-- GCHRD likewise, from the place where EAD and mask stand
unfoldable pub character_begun : Registers → Registers
character_begun r =
    cond (ltb 0 (rows_of r.drawing r.video.zoom) && ltb 0 (columns_of r.drawing r.video.zoom))
    (put_work r (Character 0 0 r.cursor)) r

-- RDAT: "a read of no items once the mode is turned, changes nothing more"
unfoldable pub read_begun : Transfer → Registers → Registers
read_begun t r = cond (ltb 0 r.drawing.dc) (put_work (turned r empty_buffer) (Reading 0 t)) (turned r empty_buffer)

-- 02, M-103: "Keep the count in the register set.": with the figure that has begun, if one has, that of its cycles begins
abbrev pub count_begun : Registers → Registers
count_begun r = put_remaining r (cycles_left r.drawing r.video.zoom r.work)

abbrev pub command_by : Command → ℕ → Registers → Registers
command_by Nothing b r = r
command_by Reset b r = reset_done r
-- the low bit of VSYNC's byte is stored
command_by Vsync b r = put_video r (put_vsync r.video (eqb (b % 2) 1))
command_by Cchar b r = r
-- START turns the display on
command_by Start b r = put_video r (put_display r.video true)
command_by Zoom b r = r
command_by Curs b r = r
command_by Pram b r = r
command_by Pitch b r = r
command_by Mask b r = r
-- "Taking the FIGS command byte first gives DC, D, D2, D1 and DM their fresh values; type, DIR and GD stay."
command_by Figs b r = put_drawing r (fresh_drawing r.drawing)
command_by Figd b r = count_begun (figd_taken r)
command_by Gchrd b r = count_begun (character_begun r)
command_by Curd b r = turned r (cursor_bytes r.cursor)
command_by Lprd b r = pen_given r
-- "WDAT's command byte sets the operation for later figures.", "WDAT 20 + 8·type + operation": its two low bits
command_by (Wdat t) b r = put_op r (operation_of (b % 4))
command_by (Rdat t) b r = read_begun t r
-- "Any other byte, or an invalid type, ends the previous command and swallows its own parameters."
command_by Unknown b r = r

unfoldable pub command_taken : ℕ → Registers → Registers
command_taken b r = command_by (command_of b) b (put_progress r (begun (command_of b) b))
