-- An entry that is taken keeps the registers lawful and the memory's words: each command and each parameter byte puts a value of
-- its register's width. Nothing is in progress then, so no place can fall out of its figure; a figure starts only with a dot to
-- draw, a read only with an item to give.
use mathlib.Core.Path.{◌≡◌, refl, ◌∙◌}
use mathlib.Core.Bool.{false, ◌&&◌}
use mathlib.Core.List.{List}
use Prim.Native.Nat.{ℕ, zero, suc, ◌-◌, ◌/◌, ◌%◌, ◌^◌, ◌≤◌, ◌<◌}
use native.Mathlib.Omega.{arith}
use lib.Dec.{eqb, ltb, ltb→lt}
use lib.ListN.{set, length-set}
use borrow.Author.Tests.{ltb-true, lt-ltb}
use Rattle.dots.specs.declared.Cursor.{Cursor}
use Rattle.dots.specs.Operation.{operation_of}
use Rattle.dots.specs.Step.{Fits, word_move_of}
use Rattle.dots.proofs.Below.{below}
use Rattle.registers.specs.declared.Board.{Board}
use Rattle.registers.specs.declared.Mode.TheVariants.{Write, Read}
use Rattle.registers.specs.declared.Transfer.{Transfer}
use Rattle.registers.specs.declared.Command.{Command}
use Rattle.registers.specs.declared.Command.TheVariants.{Nothing, Reset, Vsync, Cchar, Start, Zoom, Curs, Pram, Pitch, Mask, Figs, Figd}
use Rattle.registers.specs.declared.Command.TheVariants.{Gchrd, Curd, Lprd, Wdat, Rdat, Unknown}
use Rattle.registers.specs.declared.Work.TheVariants.{Idle, Figure, Character, Reading}
use Rattle.registers.specs.declared.Drawing.{Drawing}
use Rattle.registers.specs.declared.Pen.{Pen}
use Rattle.registers.specs.declared.Buffer.{Buffer}
use Rattle.registers.specs.declared.Registers.{Registers}
use Rattle.registers.specs.Fresh.{fresh_drawing, empty_buffer}
use Rattle.registers.specs.Size.{arc_kind, dots_of, rows_of, columns_of}
use Rattle.registers.specs.Left.{character_left}
use Rattle.registers.specs.Sound.{all_below}
use Rattle.registers.specs.Put.{put_cursor, put_video, put_mode, put_buffer, put_progress, put_work, put_remaining, put_display}
use Rattle.registers.specs.State.{State, state}
use Rattle.registers.proofs.BoolLaws.{and_left, and_right}
use Rattle.commands.specs.Decode.{within, command_of}
use Rattle.processor.specs.Command.{begun, reset_done, turned, cursor_bytes, pen_bytes, figure_begun, figd_taken, character_begun}
use Rattle.processor.specs.Command.{count_begun, read_begun, command_by, command_taken}
use Rattle.parameters.specs.Parameter.{curs_by, mask_by, figs_by, ram_by, pitch_by, sync_by, cchar_by, zoom_by}
use Rattle.wdat.specs.Wdat.{half_b, bit_mapped_b, set_pattern, first_sync, wdat_progress, set_done, wdat_taken}
use Rattle.processor.specs.Entry.{next_of, counted, parameter_by, parameter_taken, entry_taken}
use Rattle.laws.proofs.BranchLaws.{either, cases}
use Rattle.laws.proofs.SoundLaws.{DrawingFits}
use Rattle.laws.proofs.KeptLaws.{Queue, SoundSet, Whole, idle, none_left, cursor_kept, plain_kept, drawing_kept, ram_kept}
use Rattle.laws.proofs.KeptLaws.{video_kept}
use Rattle.laws.proofs.KeptLaws.{pen_kept, progress_kept, work_kept, count_kept, turn_kept, cycle_kept}
use Rattle.laws.proofs.KeptBufferLaws.{bytes_queue, empty_queue}
use Rattle.laws.proofs.KeptMoveLaws.{arc_begins}

-- ---- commands

pub reset_kept : {board : Board} (r : Registers) → SoundSet board r → SoundSet board (reset_done r)
unfolding reset_done
reset_kept {board} r l =
    let ended = put_remaining (put_work (put_buffer (put_mode r Write) empty_buffer) Idle) 0 in
    let still : SoundSet board ended =
    turn_kept r l Write empty_buffer 0 Idle (empty_queue Write) (idle r.drawing r.video.zoom Write refl refl) in
    let dark = put_video ended (put_display r.video false) in
    progress_kept dark (video_kept ended still refl (put_display r.video false)) (begun Reset 0) (omega arith)

-- the bytes of a read suit read mode
cursor_bytes_law : (c : Cursor) → Fits c → Queue Read (cursor_bytes c)
unfolding all_below
cursor_bytes_law c h =
    bytes_queue Read (cursor_bytes c).entries 5 (omega arith) refl
    (rw (
      lt-ltb (c.ead % 256) 256 (omega arith),
      lt-ltb (c.ead / 256 % 256) 256 (omega arith),
      lt-ltb (c.ead / 65536 % 256) 256 (omega arith),
      lt-ltb (c.mask % 256) 256 (omega arith),
      lt-ltb (c.mask / 256) 256 (omega (arith, h.mask)),
    ))

pen_bytes_law : (p : Pen) → Queue Read (pen_bytes p)
unfolding all_below
pen_bytes_law p =
    bytes_queue Read (pen_bytes p).entries 3 (omega arith) refl
    (rw (
      lt-ltb (p.address % 256) 256 (omega arith),
      lt-ltb (p.address / 256 % 256) 256 (omega arith),
      lt-ltb (p.address / 65536 % 256) 256 (omega arith),
    ))

fresh_drawing_law : (f : Drawing) → DrawingFits f → DrawingFits (fresh_drawing f)
fresh_drawing_law f s =
    record { kind = s.kind; dir = s.dir; dc = omega arith; d = omega arith; d2 = omega arith; d1 = omega arith; dm = omega arith }

module _ {board : Board} (r : Registers) (l : SoundSet board r) (e : r.work ≡ Idle) where
  turned_kept : (b : Buffer) → Queue Read b → SoundSet board (turned r b)
  turned_kept b q =
      turn_kept r l Read b r.remaining r.work q (idle r.drawing r.video.zoom Read e (none_left r l e))

  read_kept : (t : Transfer) → SoundSet board (read_begun t r)
  unfolding read_begun
  read_kept t =
      let after : SoundSet board (turned r empty_buffer) = turned_kept empty_buffer (empty_queue Read) in
      cases (SoundSet board) (ltb 0 r.drawing.dc)
      (λ p. work_kept (turned r empty_buffer) after r.remaining (Reading 0 t)
      (record { place = ltb-true 0 r.drawing.dc p; mode = refl; start = tt; count = none_left r l e }))
      (λ p. after)

  module _ (write : r.mode ≡ Write) where
    -- a figure begins with the count of its cycles
    abbrev Counts : Registers → Type 0
    Counts q = SoundSet board (count_begun q)

    figure_begins : Counts (figure_begun r)
    unfolding figure_begun
    figure_begins =
        cases Counts (ltb 0 (dots_of r.drawing))
        (λ p. work_kept r l (dots_of r.drawing - 0) (Figure 0 r.drawing.d)
        (record { place = (ltb-true 0 (dots_of r.drawing) p, l.drawing.d); mode = write; start = tt; count = refl }))
        (λ p. count_kept r l)

    figd_kept : Counts (figd_taken r)
    unfolding figd_taken
    figd_kept = either Counts (eqb r.drawing.kind arc_kind) (arc_begins r l write) figure_begins

    character_begins : Counts (character_begun r)
    unfolding character_begun
    character_begins =
        let rows = rows_of r.drawing r.video.zoom in
        let columns = columns_of r.drawing r.video.zoom in
        cases Counts (ltb 0 rows && ltb 0 columns)
        (λ p. work_kept r l (character_left r.drawing r.video.zoom 0 0) (Character 0 0 r.cursor)
        (record {
          place = (
            ltb-true 0 rows (and_left (ltb 0 rows) (ltb 0 columns) p),
            ltb-true 0 columns (and_right (ltb 0 rows) (ltb 0 columns) p),
            l.cursor.ead,
          );
          mode = write;
          start = l.cursor.mask;
          count = refl;
        }))
        (λ p. count_kept r l)

    command_by_law : (c : Command) (b : ℕ) → SoundSet board (command_by c b r)
    command_by_law Nothing b = l
    command_by_law Reset b = reset_kept r l
    command_by_law Vsync b = video_kept r l e _
    command_by_law Cchar b = l
    command_by_law Start b = video_kept r l e _
    command_by_law Zoom b = l
    command_by_law Curs b = l
    command_by_law Pram b = l
    command_by_law Pitch b = l
    command_by_law Mask b = l
    command_by_law Figs b = drawing_kept r l e (fresh_drawing r.drawing) (fresh_drawing_law r.drawing l.drawing)
    command_by_law Figd b = figd_kept
    command_by_law Gchrd b = character_begins
    command_by_law Curd b = turned_kept (cursor_bytes r.cursor) (cursor_bytes_law r.cursor l.cursor)
    command_by_law Lprd b =
        pen_kept (turned r (pen_bytes r.pen)) (turned_kept (pen_bytes r.pen) (pen_bytes_law r.pen))
        (record { address = r.pen.address; set = false }) l.pen
    command_by_law (Wdat t) b = plain_kept r l r.pitch (operation_of (b % 4))
    command_by_law (Rdat t) b = read_kept t
    command_by_law Unknown b = l

pub command_kept : {board : Board} (b : ℕ) (r : Registers) → SoundSet board r → r.work ≡ Idle → r.mode ≡ Write
    → SoundSet board (command_taken b r)
unfolding command_taken
command_kept b r l e write =
    let first : (begun (command_of b) b).next ≤ 16 = either (λ (n : ℕ). n ≤ 16) (within 0x70 0x7F b) (omega arith) (omega arith) in
    command_by_law (put_progress r (begun (command_of b) b)) (progress_kept r l (begun (command_of b) b) first) e write (command_of b) b

-- ---- parameters

pow_below : (k : ℕ) → k < 16 → 2 ^ k < 65536
pow_below k h = ltb→lt _ _ (below (λ n. ltb (2 ^ n) 65536) 16 tt k h)

module _ (i v : ℕ) (byte : v < 256) where
  curs_fits : (c : Cursor) → Fits c → Fits (curs_by i v c)
  unfolding curs_by
  curs_fits c h =
      either Fits (eqb i 0) (record { ead = omega (arith, h.ead); mask = h.mask })
      (either Fits (eqb i 1) (record { ead = omega (arith, h.ead); mask = h.mask })
      (either Fits (eqb i 2) (record { ead = omega (arith, h.ead); mask = pow_below (v / 16) (omega arith) }) h))

  mask_fits : (c : Cursor) → Fits c → Fits (mask_by i v c)
  unfolding mask_by
  mask_fits c h =
      either Fits (eqb i 0) (record { ead = h.ead; mask = omega (arith, h.mask) })
      (either Fits (eqb i 1) (record { ead = h.ead; mask = omega (arith, h.mask) }) h)

  figs_fits : (f : Drawing) → DrawingFits f → DrawingFits (figs_by i v f)
  unfolding figs_by
  figs_fits f s =
      either DrawingFits (eqb i 0) (omega (arith, s))
      (either DrawingFits (eqb i 1) (omega (arith, s))
      (either DrawingFits (eqb i 2) (omega (arith, s))
      (either DrawingFits (eqb i 3) (omega (arith, s))
      (either DrawingFits (eqb i 4) (omega (arith, s))
      (either DrawingFits (eqb i 5) (omega (arith, s))
      (either DrawingFits (eqb i 6) (omega (arith, s))
      (either DrawingFits (eqb i 7) (omega (arith, s))
      (either DrawingFits (eqb i 8) (omega (arith, s))
      (either DrawingFits (eqb i 9) (omega (arith, s))
      (either DrawingFits (eqb i 10) (omega (arith, s)) s))))))))))

pub word_fits : (dir h : ℕ) (c : Cursor) → Fits c → Fits (word_move_of dir h c)
word_fits zero h c s = omega (arith, s.mask)
word_fits (suc zero) h c s = omega (arith, s.mask)
word_fits (suc (suc zero)) h c s = omega (arith, s.mask)
word_fits (suc (suc (suc zero))) h c s = omega (arith, s.mask)
word_fits (suc (suc (suc (suc zero)))) h c s = omega (arith, s.mask)
word_fits (suc (suc (suc (suc (suc zero))))) h c s = omega (arith, s.mask)
word_fits (suc (suc (suc (suc (suc (suc zero)))))) h c s = omega (arith, s.mask)
word_fits (suc (suc (suc (suc (suc (suc (suc d))))))) h c s = omega (arith, s.mask)

module _ {board : Board} (n : ℕ) (r : Registers) (m : List ℕ) (w : Whole board n (state r m)) where
  -- the registers changed and the memory left
  left : {q : Registers} → SoundSet board q → Whole board n (state q m)
  left l = record { regs = l; words = w.words; long = w.long }

  set_kept : (t : Transfer) → SoundSet board (set_done t r)
  unfolding set_done
  set_kept t =
      let moved = word_move_of r.drawing.dir r.pitch r.cursor in
      progress_kept (put_cursor r moved) (cursor_kept r w.regs moved
      (word_fits r.drawing.dir r.pitch r.cursor w.regs.cursor))
      (wdat_progress t 0 0) (omega arith)

  wdat_kept : (t : Transfer) (i v : ℕ) → Whole board n (wdat_taken t i v r m)
  unfolding wdat_taken
  wdat_kept t i v =
      either (Whole board n) (half_b t i)
      (left (progress_kept r w.regs (wdat_progress t 1 v) (omega arith)))
      (cycle_kept n r.board.wiring r.op (set_pattern (bit_mapped_b (first_sync r) r.drawing.gd) t r.progress.low v) r
      (set_done t r) m w (set_kept t))

  module _ (e : r.work ≡ Idle) (i v : ℕ) (byte : v < 256) where
    parameter_by_law : (c : Command) → Whole board n (parameter_by c i v r m)
    unfolding ram_by pitch_by
    parameter_by_law Nothing = w
    parameter_by_law Reset = left (video_kept r w.regs e (sync_by i v r.video))
    parameter_by_law Vsync = w
    parameter_by_law Cchar = left (video_kept r w.regs e (cchar_by i v r.video))
    parameter_by_law Start = w
    parameter_by_law Zoom = left (video_kept r w.regs e (zoom_by i v r.video))
    parameter_by_law Curs = left (cursor_kept r w.regs (curs_by i v r.cursor) (curs_fits i v byte r.cursor w.regs.cursor))
    parameter_by_law Pram =
        left (either (SoundSet board) (ltb i 16)
        (ram_kept r w.regs (set r.ram i v) (length-set r.ram i v ∙ w.regs.ram)) w.regs)
    parameter_by_law Pitch = left (either (SoundSet board) (eqb i 0) (plain_kept r w.regs v r.op) w.regs)
    parameter_by_law Mask = left (cursor_kept r w.regs (mask_by i v r.cursor) (mask_fits i v byte r.cursor w.regs.cursor))
    parameter_by_law Figs = left (drawing_kept r w.regs e (figs_by i v r.drawing) (figs_fits i v byte r.drawing w.regs.drawing))
    parameter_by_law Figd = w
    parameter_by_law Gchrd = w
    parameter_by_law Curd = w
    parameter_by_law Lprd = w
    parameter_by_law (Wdat t) = wdat_kept t i v
    parameter_by_law (Rdat t) = w
    parameter_by_law Unknown = w

pub parameter_kept : {board : Board} (n v : ℕ) (s : State) → Whole board n s → s.regs.work ≡ Idle → v < 256
    → Whole board n (parameter_taken v s)
unfolding parameter_taken next_of
parameter_kept n v s w e byte =
    let p = s.regs.progress in
    let few : (counted p).next ≤ 16 =
    cases (λ (k : ℕ). k ≤ 16) (ltb p.next 16) (λ t. omega (arith, ltb-true p.next 16 t)) (λ t. omega arith) in
    parameter_by_law n (put_progress s.regs (counted p)) s.mem
    (record { regs = progress_kept s.regs w.regs (counted p) few; words = w.words; long = w.long })
    e p.next v byte p.command

pub entry_kept : {board : Board} (n a : ℕ) (s : State) → Whole board n s → s.regs.work ≡ Idle → s.regs.mode ≡ Write
    → Whole board n (entry_taken a s)
unfolding entry_taken
entry_kept {board} n a s w e write =
    cases (Whole board n) (ltb a 256) (λ t. parameter_kept n a s w e (ltb-true a 256 t))
    (λ t. left n s.regs s.mem w (command_kept (a % 256) s.regs w.regs e write))
