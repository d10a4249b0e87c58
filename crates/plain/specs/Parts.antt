-- The parts of a register set in plain numbers, both ways. Numbers and arrays stay as they are; a bit and an enum become a number.
use Rattle.std.specs.Prelude.{ℕ, cond, eqb}
use Rattle.dots.specs.declared.Cursor.{Cursor}
use Rattle.registers.specs.declared.Drawing.{Drawing}
use Rattle.registers.specs.declared.Video.{Video}
use Rattle.registers.specs.declared.Pen.{Pen}
use Rattle.registers.specs.declared.Board.{Board}
use Rattle.registers.specs.declared.Buffer.{Buffer}
use Rattle.registers.specs.declared.Progress.{Progress}
use Rattle.registers.specs.declared.Running.{Running}
use Rattle.registers.specs.declared.Work.{Work}
use Rattle.registers.specs.declared.Work.TheVariants.{Idle, Figure, Arc, Character, Reading}
use Rattle.plain.specs.declared.PlainCursor.{PlainCursor}
use Rattle.plain.specs.declared.PlainDrawing.{PlainDrawing}
use Rattle.plain.specs.declared.PlainVideo.{PlainVideo}
use Rattle.plain.specs.declared.PlainPen.{PlainPen}
use Rattle.plain.specs.declared.PlainBuffer.{PlainBuffer}
use Rattle.plain.specs.declared.PlainProgress.{PlainProgress}
use Rattle.plain.specs.declared.PlainWork.{PlainWork}
use Rattle.plain.specs.declared.PlainBoard.{PlainBoard}
use Rattle.plain.specs.Numbers.{bit_of, bit_number, wiring_of, wiring_number, transfer_of, transfer_number, command_of, command_number}
use Rattle.plain.specs.Numbers.{command_transfer}

abbrev pub cursor_of : PlainCursor → Cursor
cursor_of p = record { ead = p.ead; mask = p.mask }

abbrev pub cursor_plain : Cursor → PlainCursor
cursor_plain c = record { ead = c.ead; mask = c.mask }

abbrev pub drawing_of : PlainDrawing → Drawing
drawing_of p =
    record { kind = p.kind; dir = p.dir; gd = bit_of p.gd; dc = p.dc; d = p.d; d2 = p.d2; d1 = p.d1; dm = p.dm }

abbrev pub drawing_plain : Drawing → PlainDrawing
drawing_plain f =
    record { kind = f.kind; dir = f.dir; gd = bit_number f.gd; dc = f.dc; d = f.d; d2 = f.d2; d1 = f.d1; dm = f.dm }

abbrev pub video_of : PlainVideo → Video
video_of p =
    record { zoom = p.zoom; display = bit_of p.display; vsync = bit_of p.vsync; sync = p.sync; cchar = p.cchar }

abbrev pub video_plain : Video → PlainVideo
video_plain v =
    record { zoom = v.zoom; display = bit_number v.display; vsync = bit_number v.vsync; sync = v.sync; cchar = v.cchar }

abbrev pub pen_of : PlainPen → Pen
pen_of p = record { address = p.address; set = bit_of p.set }

abbrev pub pen_plain : Pen → PlainPen
pen_plain p = record { address = p.address; set = bit_number p.set }

abbrev pub buffer_of : PlainBuffer → Buffer
buffer_of p = record { entries = p.entries; count = p.count }

abbrev pub buffer_plain : Buffer → PlainBuffer
buffer_plain b = record { entries = b.entries; count = b.count }

abbrev pub progress_of : PlainProgress → Progress
progress_of p = record { command = command_of p.command p.transfer; next = p.next; low = p.low }

abbrev pub progress_plain : Progress → PlainProgress
progress_plain p =
    record { command = command_number p.command; transfer = command_transfer p.command; next = p.next; low = p.low }

-- what is in progress: 0 nothing; 1 a figure; 2 a character; 3 a read; 4 an arc
abbrev pub work_of : PlainWork → Work
work_of w =
    cond (eqb w.kind 0) Idle
    (cond (eqb w.kind 1) (Figure w.dot w.d)
    (cond (eqb w.kind 2) (Character w.row w.column (cursor_of w.start))
    (cond (eqb w.kind 3) (Reading w.item (transfer_of w.transfer))
    (Arc w.dot (record { d = w.d; d1 = w.d1; d2 = w.d2 })))))

-- .. with every field that its kind has no use for 0: a figure runs D alone
abbrev pub d_only : ℕ → Running
d_only d = record { d = d; d1 = 0; d2 = 0 }

abbrev pub no_character : ℕ → ℕ → Running → ℕ → ℕ → PlainWork
no_character k t a i n =
    record {
      kind = k;
      transfer = t;
      d = a.d;
      d1 = a.d1;
      d2 = a.d2;
      item = i;
      dot = n;
      row = 0;
      column = 0;
      start = record { ead = 0; mask = 0 };
    }

abbrev pub work_plain : Work → PlainWork
work_plain Idle = no_character 0 0 (d_only 0) 0 0
work_plain (Figure n d) = no_character 1 0 (d_only d) 0 n
work_plain (Arc n a) = no_character 4 0 a 0 n
work_plain (Character r c s) =
    record { kind = 2; transfer = 0; d = 0; d1 = 0; d2 = 0; item = 0; dot = 0; row = r; column = c; start = cursor_plain s }
work_plain (Reading i t) = no_character 3 (transfer_number t) (d_only 0) i 0

-- what the board is
abbrev pub board_of : PlainBoard → Board
board_of p = record { wiring = wiring_of p.wiring }

abbrev pub board_plain : Board → PlainBoard
board_plain b = record { wiring = wiring_number b.wiring }
