-- A byte to a port and from one, of the plain numbers: what is answered, and the buffer then, where nothing else changes.
use Rattle.std.specs.Prelude.{ℕ, ◌+◌, ◌%◌, Bool, false, cond, not, ◌&&◌, ◌||◌, eqb, ltb, leb}
use Rattle.registers.specs.declared.Work.TheVariants.{Idle}
use Rattle.registers.specs.Width.{places, command_mark}
use Rattle.registers.specs.Fresh.{empty_buffer}
use Rattle.registers.specs.Sound.{sound_b}
use Rattle.registers.specs.Buffer.{pushed, oldest, popped}
use Rattle.status.specs.Status.{status_of}
use Rattle.plain.specs.declared.PlainBuffer.{PlainBuffer}
use Rattle.plain.specs.declared.PlainVideo.{PlainVideo}
use Rattle.plain.specs.declared.PlainRegisters.{PlainRegisters}
use Rattle.plain.specs.Parts.{buffer_of, buffer_plain, work_plain}
use Rattle.plain.specs.Form.{plain_form_b}
use Rattle.plain.specs.Mirror.{from_plain}
use Rattle.bus.specs.declared.PlainAnswer.{PlainAnswer}
use Rattle.bus.specs.declared.Held.{Held}
use Rattle.bus.specs.Asked.{refused_plain}

-- what acts on more than the buffer: RESET, and any command in read mode; and an entry past nine bits
abbrev pub turns_b : ℕ → ℕ → Bool
turns_b m e = cond (ltb e 256) false (not (eqb m 0) || eqb e 256 || leb 512 e)

abbrev pub held : ℕ → ℕ → PlainBuffer → Held
held n v b = record { number = n; value = v; buffer = b }

abbrev pub queued_buffer : PlainBuffer → ℕ → PlainBuffer
queued_buffer b e = buffer_plain (pushed (buffer_of b) e)

-- 3 where the buffer is full; else the entry behind the others
abbrev pub queued_held : PlainBuffer → ℕ → Held
queued_held b e = cond (leb places b.count) (held 3 0 b) (held 0 0 (queued_buffer b e))

-- .. and 4 in read mode
abbrev pub held_written : ℕ → PlainBuffer → ℕ → Held
held_written m b e = cond (eqb m 0) (queued_held b e) (held 4 0 b)

-- .. and 1 where the set is unsound, or none
abbrev pub fit_b : PlainRegisters → Bool
fit_b p = plain_form_b p && sound_b (from_plain p)

abbrev pub written_held : PlainRegisters → ℕ → Held
written_held p e = cond (fit_b p) (held_written p.mode p.buffer e) (held 1 0 p.buffer)

-- the oldest byte read, 5 where there is none
abbrev pub held_read : ℕ → PlainBuffer → Held
held_read m b =
    cond (eqb m 0 || eqb b.count 0) (held 5 0 b) (held 0 (oldest (buffer_of b) % 256) (buffer_plain (popped (buffer_of b))))

-- .. or the status, from port 0
abbrev pub read_held : PlainRegisters → ℕ → Held
read_held p k =
    cond (fit_b p) (cond (eqb k 0) (held 0 (status_of (from_plain p)) p.buffer) (held_read p.mode p.buffer)) (held 1 0 p.buffer)

-- the answer: all other registers stay
abbrev pub with_buffer : PlainRegisters → PlainBuffer → PlainRegisters
with_buffer p b =
    record {
      cursor = p.cursor;
      pitch = p.pitch;
      drawing = p.drawing;
      op = p.op;
      ram = p.ram;
      video = p.video;
      pen = p.pen;
      mode = p.mode;
      buffer = b;
      progress = p.progress;
      work = p.work;
      remaining = p.remaining;
      board = p.board;
    }

abbrev pub answer_held : PlainRegisters → Held → PlainAnswer
answer_held p h = record { number = h.number; value = h.value; regs = with_buffer p h.buffer }

-- a command byte: RESET, with "buffer emptied, write mode, figure or read ended where it stands, display off"
abbrev pub granted_plain : PlainRegisters → PlainAnswer
granted_plain p = record { number = 0; value = 0; regs = p }

abbrev pub hidden : PlainVideo → PlainVideo
hidden v = record { zoom = v.zoom; display = 0; vsync = v.vsync; sync = v.sync; cchar = v.cchar }

abbrev pub reset_plain : PlainRegisters → PlainRegisters
reset_plain p =
    record {
      cursor = p.cursor;
      pitch = p.pitch;
      drawing = p.drawing;
      op = p.op;
      ram = p.ram;
      video = hidden p.video;
      pen = p.pen;
      mode = 0;
      buffer = buffer_plain empty_buffer;
      progress = record { command = 1; transfer = 0; next = 0; low = 0 };
      work = work_plain Idle;
      remaining = 0;
      board = p.board;
    }

-- .. in read mode, where all read data is discarded and the read ended
abbrev pub turned_plain : PlainRegisters → ℕ → PlainRegisters
turned_plain p e =
    record {
      cursor = p.cursor;
      pitch = p.pitch;
      drawing = p.drawing;
      op = p.op;
      ram = p.ram;
      video = p.video;
      pen = p.pen;
      mode = 0;
      buffer = queued_buffer (buffer_plain empty_buffer) e;
      progress = p.progress;
      work = work_plain Idle;
      remaining = p.remaining;
      board = p.board;
    }

-- .. and in write mode, as any entry
abbrev pub command_plain : PlainRegisters → ℕ → PlainAnswer
command_plain p b =
    cond (fit_b p)
    (cond (eqb b 0) (granted_plain (reset_plain p))
    (cond (eqb p.mode 0) (answer_held p (queued_held p.buffer (b + command_mark))) (granted_plain (turned_plain p (b + command_mark)))))
    (refused_plain p)
