-- The settings with one register changed; all others stay.
use Rattle.std.specs.Prelude.{ℕ, List}
use Rattle.dots.specs.declared.Cursor.{Cursor}
use Rattle.dots.specs.declared.Operation.{Operation}
use Rattle.registers.specs.declared.Drawing.{Drawing}
use Rattle.registers.specs.declared.Progress.{Progress}
use Rattle.settings.specs.declared.Settings.{Settings}

abbrev pub set_cursor : Settings → Cursor → Settings
set_cursor p x =
    record {
      board = p.board;
      cursor = x;
      pitch = p.pitch;
      drawing = p.drawing;
      op = p.op;
      ram = p.ram;
      zoom = p.zoom;
      progress = p.progress;
    }

abbrev pub set_pitch : Settings → ℕ → Settings
set_pitch p x =
    record {
      board = p.board;
      cursor = p.cursor;
      pitch = x;
      drawing = p.drawing;
      op = p.op;
      ram = p.ram;
      zoom = p.zoom;
      progress = p.progress;
    }

abbrev pub set_drawing : Settings → Drawing → Settings
set_drawing p x =
    record {
      board = p.board;
      cursor = p.cursor;
      pitch = p.pitch;
      drawing = x;
      op = p.op;
      ram = p.ram;
      zoom = p.zoom;
      progress = p.progress;
    }

abbrev pub set_op : Settings → Operation → Settings
set_op p x =
    record {
      board = p.board;
      cursor = p.cursor;
      pitch = p.pitch;
      drawing = p.drawing;
      op = x;
      ram = p.ram;
      zoom = p.zoom;
      progress = p.progress;
    }

abbrev pub set_ram : Settings → List ℕ → Settings
set_ram p x =
    record {
      board = p.board;
      cursor = p.cursor;
      pitch = p.pitch;
      drawing = p.drawing;
      op = p.op;
      ram = x;
      zoom = p.zoom;
      progress = p.progress;
    }

abbrev pub set_zoom : Settings → ℕ → Settings
set_zoom p x =
    record {
      board = p.board;
      cursor = p.cursor;
      pitch = p.pitch;
      drawing = p.drawing;
      op = p.op;
      ram = p.ram;
      zoom = x;
      progress = p.progress;
    }

abbrev pub set_progress : Settings → Progress → Settings
set_progress p x =
    record {
      board = p.board;
      cursor = p.cursor;
      pitch = p.pitch;
      drawing = p.drawing;
      op = p.op;
      ram = p.ram;
      zoom = p.zoom;
      progress = x;
    }
