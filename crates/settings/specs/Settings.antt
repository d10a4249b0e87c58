-- 01, Commands: entries that only set registers. Such a command begins nothing, and such a parameter takes "effect singly"; of them
-- all only "a WDAT set that becomes complete" touches the display memory.
use Rattle.std.specs.Prelude.{ℕ, suc, ◌%◌, Bool, true, false, cond, ◌&&◌, List, [], ◌∷◌, eqb, ltb, set}
use Rattle.dots.specs.Operation.{operation_of}
use Rattle.dots.specs.Step.{word_move_of}
use Rattle.dots.specs.Cycle.{cycled}
use Rattle.registers.specs.declared.Transfer.{Transfer}
use Rattle.registers.specs.declared.Command.{Command}
use Rattle.registers.specs.declared.Command.TheVariants.{Nothing, Reset, Vsync, Cchar, Start, Zoom, Curs, Pram, Pitch, Mask, Figs, Figd}
use Rattle.registers.specs.declared.Command.TheVariants.{Gchrd, Curd, Lprd, Wdat, Rdat, Unknown}
use Rattle.registers.specs.declared.Registers.{Registers}
use Rattle.registers.specs.Fresh.{fresh_drawing}
use Rattle.registers.specs.Put.{put_zoom}
use Rattle.registers.specs.Width.{command_mark, entry_end}
use Rattle.commands.specs.Decode.{command_of}
use Rattle.processor.specs.Command.{begun}
use Rattle.parameters.specs.Parameter.{curs_by, mask_by, figs_by}
use Rattle.wdat.specs.Wdat.{half_b, bit_mapped_b, set_pattern, wdat_progress}
use Rattle.processor.specs.Entry.{counted}
use Rattle.settings.specs.declared.Settings.{Settings}
use Rattle.settings.specs.declared.Settled.{Settled}
use Rattle.settings.specs.Put.{set_cursor, set_pitch, set_drawing, set_op, set_ram, set_zoom, set_progress}

-- the commands that set none but the registers of `Settings`, by themselves or by their parameters, and begin nothing; RESET, VSYNC,
-- CCHAR and START set others
abbrev pub setting_b : Command → Bool
setting_b Nothing = false
setting_b Reset = false
setting_b Vsync = false
setting_b Cchar = false
setting_b Start = false
setting_b Zoom = true
setting_b Curs = true
setting_b Pram = true
setting_b Pitch = true
setting_b Mask = true
setting_b Figs = true
setting_b Figd = false
setting_b Gchrd = false
setting_b Curd = false
setting_b Lprd = false
setting_b (Wdat t) = true
setting_b (Rdat t) = false
setting_b Unknown = false

-- an entry that only sets registers, behind the command in progress: a parameter of such a command, or such a command of nine bits
unfoldable pub settable_b : Command → ℕ → Bool
settable_b c e = cond (ltb e command_mark) (setting_b c) (ltb e entry_end && setting_b (command_of (e % 256)))

-- a register set with these settings; the settings of one
abbrev pub put_settings : Registers → Settings → Registers
put_settings r p =
    record {
      cursor = p.cursor;
      pitch = p.pitch;
      drawing = p.drawing;
      op = p.op;
      ram = p.ram;
      video = put_zoom r.video p.zoom;
      pen = r.pen;
      mode = r.mode;
      buffer = r.buffer;
      progress = p.progress;
      work = r.work;
      remaining = r.remaining;
      board = p.board;
    }

abbrev pub settings_of : Registers → Settings
settings_of r =
    record {
      board = r.board;
      cursor = r.cursor;
      pitch = r.pitch;
      drawing = r.drawing;
      op = r.op;
      ram = r.ram;
      zoom = r.video.zoom;
      progress = r.progress;
    }

-- the settings, and the display memory
pub record Taken : Type 0 where
  pub settings : Settings
  pub mem : List ℕ

abbrev pub taken : Settings → List ℕ → Taken
taken p m = record { settings = p; mem = m }

-- what a command byte does to the settings when it is taken
abbrev pub command_set : Command → ℕ → Settings → Settings
command_set Nothing b p = p
command_set Reset b p = p
command_set Vsync b p = p
command_set Cchar b p = p
command_set Start b p = p
command_set Zoom b p = p
command_set Curs b p = p
command_set Pram b p = p
command_set Pitch b p = p
command_set Mask b p = p
-- "Taking the FIGS command byte first gives DC, D, D2, D1 and DM their fresh values; type, DIR and GD stay."
command_set Figs b p = set_drawing p (fresh_drawing p.drawing)
command_set Figd b p = p
command_set Gchrd b p = p
command_set Curd b p = p
command_set Lprd b p = p
-- "WDAT's command byte sets the operation for later figures.", by its two low bits
command_set (Wdat t) b p = set_op p (operation_of (b % 4))
command_set (Rdat t) b p = p
command_set Unknown b p = p

-- a command byte: the command is in progress, with no parameter taken
abbrev pub command_settled : ℕ → Settings → Settings
command_settled b p = command_set (command_of b) b (set_progress p (begun (command_of b) b))

-- PRAM: "past address 15 also" ignored; ZOOM and PITCH: one byte
abbrev pub ram_set : ℕ → ℕ → List ℕ → List ℕ
ram_set i v l = cond (ltb i 16) (set l i v) l

abbrev pub byte_set : ℕ → ℕ → ℕ → ℕ
byte_set i v held = cond (eqb i 0) v held

-- "A WDAT set that becomes complete makes its cycle", and "EAD moves a whole word along DIR, mask unchanged"; sync byte 1, which such
-- entries leave, and GD decide its pattern
unfoldable pub data_set : ℕ → Transfer → ℕ → ℕ → Settings → List ℕ → Taken
data_set sync t i v p m =
    cond (half_b t i) (taken (set_progress p (wdat_progress t 1 v)) m)
    (taken (set_progress (set_cursor p (word_move_of p.drawing.dir p.pitch p.cursor)) (wdat_progress t 0 0))
    (cycled p.board.wiring p.op (set_pattern (bit_mapped_b sync p.drawing.gd) t p.progress.low v) p.cursor m))

-- the parameter v of a command, i being where it goes
abbrev pub parameter_set : ℕ → Command → ℕ → ℕ → Settings → List ℕ → Taken
parameter_set sync Nothing i v p m = taken p m
parameter_set sync Reset i v p m = taken p m
parameter_set sync Vsync i v p m = taken p m
parameter_set sync Cchar i v p m = taken p m
parameter_set sync Start i v p m = taken p m
parameter_set sync Zoom i v p m = taken (set_zoom p (byte_set i v p.zoom)) m
parameter_set sync Curs i v p m = taken (set_cursor p (curs_by i v p.cursor)) m
parameter_set sync Pram i v p m = taken (set_ram p (ram_set i v p.ram)) m
parameter_set sync Pitch i v p m = taken (set_pitch p (byte_set i v p.pitch)) m
parameter_set sync Mask i v p m = taken (set_cursor p (mask_by i v p.cursor)) m
parameter_set sync Figs i v p m = taken (set_drawing p (figs_by i v p.drawing)) m
parameter_set sync Figd i v p m = taken p m
parameter_set sync Gchrd i v p m = taken p m
parameter_set sync Curd i v p m = taken p m
parameter_set sync Lprd i v p m = taken p m
parameter_set sync (Wdat t) i v p m = data_set sync t i v p m
parameter_set sync (Rdat t) i v p m = taken p m
parameter_set sync Unknown i v p m = taken p m

-- one entry that only sets registers: the next parameter of the command in progress, or a command
unfoldable pub setting_taken : ℕ → ℕ → Settings → List ℕ → Taken
setting_taken sync e p m =
    cond (ltb e command_mark) (parameter_set sync p.progress.command p.progress.next e (set_progress p (counted p.progress)) m)
    (taken (command_settled (e % 256) p) m)

-- the settings after such entries, how many there were, and the display memory
pub record Settlement : Type 0 where
  pub settings : Settings
  pub count : ℕ
  pub mem : List ℕ

abbrev pub settled : Settled → List ℕ → Settlement
settled q m = record { settings = q.settings; count = q.count; mem = m }

-- one entry more
abbrev pub one_more : Settlement → Settlement
one_more s = record { settings = s.settings; count = suc s.count; mem = s.mem }

-- the entries of a list in order, up to the first that does more than set registers
unfoldable pub settle_all : ℕ → Settings → List ℕ → List ℕ → Settlement
settle_all sync p [] m = record { settings = p; count = 0; mem = m }
settle_all sync p (e ∷ l) m =
    cond (settable_b p.progress.command e)
    (one_more (settle_all sync (setting_taken sync e p m).settings l (setting_taken sync e p m).mem))
    (record { settings = p; count = 0; mem = m })

-- of them WDAT's bytes, up to the next command
unfoldable pub data_all : ℕ → Transfer → Settings → List ℕ → List ℕ → Settlement
data_all sync t p [] m = record { settings = p; count = 0; mem = m }
data_all sync t p (e ∷ l) m =
    cond (ltb e command_mark)
    (one_more (data_all sync t (data_set sync t p.progress.next e p m).settings l (data_set sync t p.progress.next e p m).mem))
    (record { settings = p; count = 0; mem = m })
