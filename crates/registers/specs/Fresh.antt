-- 01, Numbers: the fresh register set.
use Rattle.std.specs.Prelude.{ℕ, true, false, replicate}
use Rattle.dots.specs.declared.Operation.TheVariants as operation
use Rattle.dots.specs.declared.Wiring.TheVariants as wiring
use Rattle.registers.specs.declared.Mode.TheVariants as mode
use Rattle.registers.specs.declared.Command.TheVariants as command
use Rattle.registers.specs.declared.Work.TheVariants as work
use Rattle.registers.specs.declared.Drawing.{Drawing}
use Rattle.registers.specs.declared.Buffer.{Buffer}
use Rattle.registers.specs.declared.Progress.{Progress}
use Rattle.registers.specs.declared.Registers.{Registers}

-- "D = D2 = 8, D1 = DM = -1"; -1 in 14 bits is 16383. The type, DIR and GD stay.
abbrev pub fresh_drawing : Drawing → Drawing
fresh_drawing f =
    record { kind = f.kind; dir = f.dir; gd = f.gd; dc = 0; d = 8; d2 = 8; d1 = 16383; dm = 16383 }

-- a buffer that holds nothing
abbrev pub empty_buffer : Buffer
empty_buffer = record { entries = replicate 16 0; count = 0 }

-- no command yet: "those before any command are ignored"
abbrev pub no_command : Progress
no_command = record { command = command.Nothing; next = 0; low = 0 }

-- "Fresh: all zero, write mode, except D = D2 = 8, D1 = DM = -1."; folded wiring (02, M-108: "Folded is as now")
unfoldable pub fresh_set : Registers
fresh_set =
    record {
      cursor = record { ead = 0; mask = 0 };
      pitch = 0;
      drawing = fresh_drawing (record { kind = 0; dir = 0; gd = false; dc = 0; d = 0; d2 = 0; d1 = 0; dm = 0 });
      op = operation.Replace;
      ram = replicate 16 0;
      video = record { zoom = 0; display = false; vsync = false; sync = replicate 8 0; cchar = replicate 3 0 };
      pen = record { address = 0; set = false };
      mode = mode.Write;
      buffer = empty_buffer;
      progress = no_command;
      work = work.Idle;
      remaining = 0;
      board = record { wiring = wiring.Folded };
    }
