-- The register set with one register changed; all others stay. Written by tools/put from the structs of src/lib.rt.
use Rattle.std.specs.Prelude.{ℕ, Bool, List}
use Rattle.dots.specs.declared.Cursor.{Cursor}
use Rattle.dots.specs.declared.Operation.{Operation}
use Rattle.registers.specs.declared.Board.{Board}
use Rattle.registers.specs.declared.Buffer.{Buffer}
use Rattle.registers.specs.declared.Drawing.{Drawing}
use Rattle.registers.specs.declared.Mode.{Mode}
use Rattle.registers.specs.declared.Pen.{Pen}
use Rattle.registers.specs.declared.Progress.{Progress}
use Rattle.registers.specs.declared.Registers.{Registers}
use Rattle.registers.specs.declared.Video.{Video}
use Rattle.registers.specs.declared.Work.{Work}

abbrev pub put_cursor : Registers → Cursor → Registers
put_cursor r x =
    record {
      cursor = x;
      pitch = r.pitch;
      drawing = r.drawing;
      op = r.op;
      ram = r.ram;
      video = r.video;
      pen = r.pen;
      mode = r.mode;
      buffer = r.buffer;
      progress = r.progress;
      work = r.work;
      remaining = r.remaining;
      board = r.board;
    }

abbrev pub put_pitch : Registers → ℕ → Registers
put_pitch r x =
    record {
      cursor = r.cursor;
      pitch = x;
      drawing = r.drawing;
      op = r.op;
      ram = r.ram;
      video = r.video;
      pen = r.pen;
      mode = r.mode;
      buffer = r.buffer;
      progress = r.progress;
      work = r.work;
      remaining = r.remaining;
      board = r.board;
    }

abbrev pub put_drawing : Registers → Drawing → Registers
put_drawing r x =
    record {
      cursor = r.cursor;
      pitch = r.pitch;
      drawing = x;
      op = r.op;
      ram = r.ram;
      video = r.video;
      pen = r.pen;
      mode = r.mode;
      buffer = r.buffer;
      progress = r.progress;
      work = r.work;
      remaining = r.remaining;
      board = r.board;
    }

abbrev pub put_op : Registers → Operation → Registers
put_op r x =
    record {
      cursor = r.cursor;
      pitch = r.pitch;
      drawing = r.drawing;
      op = x;
      ram = r.ram;
      video = r.video;
      pen = r.pen;
      mode = r.mode;
      buffer = r.buffer;
      progress = r.progress;
      work = r.work;
      remaining = r.remaining;
      board = r.board;
    }

abbrev pub put_ram : Registers → List ℕ → Registers
put_ram r x =
    record {
      cursor = r.cursor;
      pitch = r.pitch;
      drawing = r.drawing;
      op = r.op;
      ram = x;
      video = r.video;
      pen = r.pen;
      mode = r.mode;
      buffer = r.buffer;
      progress = r.progress;
      work = r.work;
      remaining = r.remaining;
      board = r.board;
    }

abbrev pub put_video : Registers → Video → Registers
put_video r x =
    record {
      cursor = r.cursor;
      pitch = r.pitch;
      drawing = r.drawing;
      op = r.op;
      ram = r.ram;
      video = x;
      pen = r.pen;
      mode = r.mode;
      buffer = r.buffer;
      progress = r.progress;
      work = r.work;
      remaining = r.remaining;
      board = r.board;
    }

abbrev pub put_pen : Registers → Pen → Registers
put_pen r x =
    record {
      cursor = r.cursor;
      pitch = r.pitch;
      drawing = r.drawing;
      op = r.op;
      ram = r.ram;
      video = r.video;
      pen = x;
      mode = r.mode;
      buffer = r.buffer;
      progress = r.progress;
      work = r.work;
      remaining = r.remaining;
      board = r.board;
    }

abbrev pub put_mode : Registers → Mode → Registers
put_mode r x =
    record {
      cursor = r.cursor;
      pitch = r.pitch;
      drawing = r.drawing;
      op = r.op;
      ram = r.ram;
      video = r.video;
      pen = r.pen;
      mode = x;
      buffer = r.buffer;
      progress = r.progress;
      work = r.work;
      remaining = r.remaining;
      board = r.board;
    }

abbrev pub put_buffer : Registers → Buffer → Registers
put_buffer r x =
    record {
      cursor = r.cursor;
      pitch = r.pitch;
      drawing = r.drawing;
      op = r.op;
      ram = r.ram;
      video = r.video;
      pen = r.pen;
      mode = r.mode;
      buffer = x;
      progress = r.progress;
      work = r.work;
      remaining = r.remaining;
      board = r.board;
    }

abbrev pub put_progress : Registers → Progress → Registers
put_progress r x =
    record {
      cursor = r.cursor;
      pitch = r.pitch;
      drawing = r.drawing;
      op = r.op;
      ram = r.ram;
      video = r.video;
      pen = r.pen;
      mode = r.mode;
      buffer = r.buffer;
      progress = x;
      work = r.work;
      remaining = r.remaining;
      board = r.board;
    }

abbrev pub put_work : Registers → Work → Registers
put_work r x =
    record {
      cursor = r.cursor;
      pitch = r.pitch;
      drawing = r.drawing;
      op = r.op;
      ram = r.ram;
      video = r.video;
      pen = r.pen;
      mode = r.mode;
      buffer = r.buffer;
      progress = r.progress;
      work = x;
      remaining = r.remaining;
      board = r.board;
    }

abbrev pub put_remaining : Registers → ℕ → Registers
put_remaining r x =
    record {
      cursor = r.cursor;
      pitch = r.pitch;
      drawing = r.drawing;
      op = r.op;
      ram = r.ram;
      video = r.video;
      pen = r.pen;
      mode = r.mode;
      buffer = r.buffer;
      progress = r.progress;
      work = r.work;
      remaining = x;
      board = r.board;
    }

abbrev pub put_board : Registers → Board → Registers
put_board r x =
    record {
      cursor = r.cursor;
      pitch = r.pitch;
      drawing = r.drawing;
      op = r.op;
      ram = r.ram;
      video = r.video;
      pen = r.pen;
      mode = r.mode;
      buffer = r.buffer;
      progress = r.progress;
      work = r.work;
      remaining = r.remaining;
      board = x;
    }

-- .. one of its bytes or bits for the screen
abbrev pub put_zoom : Video → ℕ → Video
put_zoom r x = record { zoom = x; display = r.display; vsync = r.vsync; sync = r.sync; cchar = r.cchar }

abbrev pub put_display : Video → Bool → Video
put_display r x = record { zoom = r.zoom; display = x; vsync = r.vsync; sync = r.sync; cchar = r.cchar }

abbrev pub put_vsync : Video → Bool → Video
put_vsync r x = record { zoom = r.zoom; display = r.display; vsync = x; sync = r.sync; cchar = r.cchar }

abbrev pub put_sync : Video → List ℕ → Video
put_sync r x = record { zoom = r.zoom; display = r.display; vsync = r.vsync; sync = x; cchar = r.cchar }

abbrev pub put_cchar : Video → List ℕ → Video
put_cchar r x = record { zoom = r.zoom; display = r.display; vsync = r.vsync; sync = r.sync; cchar = x }

-- .. one of its drawing registers
abbrev pub put_kind : Drawing → ℕ → Drawing
put_kind r x = record { kind = x; dir = r.dir; gd = r.gd; dc = r.dc; d = r.d; d2 = r.d2; d1 = r.d1; dm = r.dm }

abbrev pub put_dir : Drawing → ℕ → Drawing
put_dir r x = record { kind = r.kind; dir = x; gd = r.gd; dc = r.dc; d = r.d; d2 = r.d2; d1 = r.d1; dm = r.dm }

abbrev pub put_gd : Drawing → Bool → Drawing
put_gd r x = record { kind = r.kind; dir = r.dir; gd = x; dc = r.dc; d = r.d; d2 = r.d2; d1 = r.d1; dm = r.dm }

abbrev pub put_dc : Drawing → ℕ → Drawing
put_dc r x = record { kind = r.kind; dir = r.dir; gd = r.gd; dc = x; d = r.d; d2 = r.d2; d1 = r.d1; dm = r.dm }

abbrev pub put_d : Drawing → ℕ → Drawing
put_d r x = record { kind = r.kind; dir = r.dir; gd = r.gd; dc = r.dc; d = x; d2 = r.d2; d1 = r.d1; dm = r.dm }

abbrev pub put_d2 : Drawing → ℕ → Drawing
put_d2 r x = record { kind = r.kind; dir = r.dir; gd = r.gd; dc = r.dc; d = r.d; d2 = x; d1 = r.d1; dm = r.dm }

abbrev pub put_d1 : Drawing → ℕ → Drawing
put_d1 r x = record { kind = r.kind; dir = r.dir; gd = r.gd; dc = r.dc; d = r.d; d2 = r.d2; d1 = x; dm = r.dm }

abbrev pub put_dm : Drawing → ℕ → Drawing
put_dm r x = record { kind = r.kind; dir = r.dir; gd = r.gd; dc = r.dc; d = r.d; d2 = r.d2; d1 = r.d1; dm = x }
