-- The register set from plain numbers, and back.
use Rattle.registers.specs.declared.Registers.{Registers}
use Rattle.plain.specs.declared.PlainRegisters.{PlainRegisters}
use Rattle.dots.specs.Operation.{operation_of, operation_number}
use Rattle.plain.specs.Numbers.{mode_of, mode_number}
use Rattle.plain.specs.Parts.{cursor_of, cursor_plain, drawing_of, drawing_plain, video_of, video_plain, pen_of, pen_plain, buffer_of}
use Rattle.plain.specs.Parts.{buffer_plain, progress_of, progress_plain, work_of, work_plain, board_of, board_plain}

unfoldable pub from_plain : PlainRegisters → Registers
from_plain p =
    record {
      cursor = cursor_of p.cursor;
      pitch = p.pitch;
      drawing = drawing_of p.drawing;
      op = operation_of p.op;
      ram = p.ram;
      video = video_of p.video;
      pen = pen_of p.pen;
      mode = mode_of p.mode;
      buffer = buffer_of p.buffer;
      progress = progress_of p.progress;
      work = work_of p.work;
      remaining = p.remaining;
      board = board_of p.board;
    }

unfoldable pub to_plain : Registers → PlainRegisters
to_plain r =
    record {
      cursor = cursor_plain r.cursor;
      pitch = r.pitch;
      drawing = drawing_plain r.drawing;
      op = operation_number r.op;
      ram = r.ram;
      video = video_plain r.video;
      pen = pen_plain r.pen;
      mode = mode_number r.mode;
      buffer = buffer_plain r.buffer;
      progress = progress_plain r.progress;
      work = work_plain r.work;
      remaining = r.remaining;
      board = board_plain r.board;
    }
