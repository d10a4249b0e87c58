-- 01, Ports and Units: an entry taken from the buffer. An entry is a byte, "queued with a command mark" (256 more) or without.
use Rattle.std.specs.Prelude.{ℕ, ◌+◌, ◌%◌, cond, List, ltb}
use Rattle.registers.specs.declared.Progress.{Progress}
use Rattle.registers.specs.declared.Registers.{Registers}
use Rattle.registers.specs.declared.Command.{Command}
use Rattle.registers.specs.declared.Command.TheVariants.{Nothing, Reset, Vsync, Cchar, Start, Zoom, Curs, Pram, Pitch, Mask, Figs, Figd}
use Rattle.registers.specs.declared.Command.TheVariants.{Gchrd, Curd, Lprd, Wdat, Rdat, Unknown}
use Rattle.registers.specs.Put.{put_cursor, put_drawing, put_video, put_progress}
use Rattle.registers.specs.State.{State, state}
use Rattle.processor.specs.Command.{command_taken}
use Rattle.parameters.specs.Parameter.{sync_by, cchar_by, zoom_by, curs_by, ram_by, pitch_by, mask_by, figs_by}
use Rattle.wdat.specs.Wdat.{wdat_taken}

-- one parameter more has been taken; past the sixteenth they are not told apart
unfoldable pub next_of : ℕ → ℕ
next_of i = cond (ltb i 16) (i + 1) 16

abbrev pub counted : Progress → Progress
counted p = record { command = p.command; next = next_of p.next; low = p.low }

-- the parameter v of a command, i being where it goes; "surplus ones, and those before any command, are ignored, PRAM past address 15 also"
abbrev pub parameter_by : Command → ℕ → ℕ → Registers → List ℕ → State
parameter_by Nothing i v r m = state r m
parameter_by Reset i v r m = state (put_video r (sync_by i v r.video)) m
parameter_by Vsync i v r m = state r m
parameter_by Cchar i v r m = state (put_video r (cchar_by i v r.video)) m
parameter_by Start i v r m = state r m
parameter_by Zoom i v r m = state (put_video r (zoom_by i v r.video)) m
parameter_by Curs i v r m = state (put_cursor r (curs_by i v r.cursor)) m
parameter_by Pram i v r m = state (ram_by i v r) m
parameter_by Pitch i v r m = state (pitch_by i v r) m
parameter_by Mask i v r m = state (put_cursor r (mask_by i v r.cursor)) m
parameter_by Figs i v r m = state (put_drawing r (figs_by i v r.drawing)) m
parameter_by Figd i v r m = state r m
parameter_by Gchrd i v r m = state r m
parameter_by Curd i v r m = state r m
parameter_by Lprd i v r m = state r m
parameter_by (Wdat t) i v r m = wdat_taken t i v r m
parameter_by (Rdat t) i v r m = state r m
parameter_by Unknown i v r m = state r m

unfoldable pub parameter_taken : ℕ → State → State
parameter_taken v s =
    parameter_by s.regs.progress.command s.regs.progress.next v (put_progress s.regs (counted s.regs.progress)) s.mem

-- an entry is the next parameter of the command in progress, or a command
unfoldable pub entry_taken : ℕ → State → State
entry_taken e s = cond (ltb e 256) (parameter_taken e s) (state (command_taken (e % 256) s.regs) s.mem)
