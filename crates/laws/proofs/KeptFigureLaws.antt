-- A unit of a figure or of a read keeps the registers lawful and the memory's words: the place goes on only where the next one is
-- inside too, the running D wraps below 16384, and each item's bytes are bytes.
use mathlib.Core.Path.{◌≡◌, ap, ◌∙◌}
use Prim.Native.Nat.{ℕ, suc, ◌+◌, ◌-◌, ◌*◌, ◌/◌, ◌%◌, ◌≤◌, ◌<◌}
use native.Mathlib.Nat.{suc-mul}
use native.Mathlib.Omega.{arith}
use lib.Dec.{eqb, ltb}
use borrow.Author.Tests.{ltb-true, ltb-false}
use Rattle.dots.specs.declared.Cursor.{Cursor}
use Rattle.dots.specs.Step.{Fits, step_of, word_move_of}
use Rattle.dots.specs.Cycle.{met_by}
use Rattle.dots.proofs.StepLaws.{fits_step}
use Rattle.registers.specs.declared.Board.{Board}
use Rattle.registers.specs.declared.Mode.{Mode}
use Rattle.registers.specs.declared.Mode.TheVariants.{Read}
use Rattle.registers.specs.declared.Transfer.{Transfer}
use Rattle.registers.specs.declared.Transfer.TheVariants.{Word, Low, High}
use Rattle.registers.specs.declared.Work.TheVariants.{Figure, Character, Reading}
use Rattle.registers.specs.declared.Drawing.{Drawing}
use Rattle.registers.specs.declared.Buffer.{Buffer}
use Rattle.registers.specs.declared.Registers.{Registers}
use Rattle.registers.specs.Size.{line_kind, dots_of, rows_of, columns_of, factor_of}
use Rattle.registers.specs.Left.{character_left}
use Rattle.registers.specs.Buffer.{pushed}
use Rattle.registers.specs.Put.{put_cursor, put_buffer}
use Rattle.registers.specs.State.{State}
use Rattle.figures.specs.Figure.{pattern_at, negative, error_after, direction_at, running_d, figure_moved, figure_unit}
use Rattle.figures.specs.Character.{character_pattern, next_start, character_moved, character_unit}
use Rattle.figures.specs.Reading.{room_b, given, read_on, item_given, read_unit}
use Rattle.laws.proofs.BranchLaws.{either, cases}
use Rattle.units.specs.Unit.{fewer_left, one_fewer}
use Rattle.laws.proofs.KeptLaws.{Queue, Going, SoundSet, Whole, cursor_kept, buffer_kept, work_kept, ends, met_below}
use Rattle.laws.proofs.KeptLaws.{cycle_kept}
use Rattle.laws.proofs.KeptBufferLaws.{pushed_queue}
use Rattle.laws.proofs.KeptProcessorLaws.{word_fits}

-- ---- FIGD's figure

running_below : (f : Drawing) (d : ℕ) → d < 16384 → running_d f d < 16384
unfolding running_d error_after
running_below f d h =
    either (λ (x : ℕ). x < 16384) (eqb f.kind line_kind)
    (either (λ (x : ℕ). x < 16384) (negative d) (omega arith) (omega arith)) h

module _ {board : Board} (r : Registers) (l : SoundSet board r) (k d : ℕ) (e : r.work ≡ Figure k d) where
  figure_moves : SoundSet board (fewer_left (figure_moved k d r))
  unfolding figure_moved
  figure_moves =
      let g : Going r.drawing r.video.zoom r.mode r.remaining (Figure k d) = rw e at l.work in
      let c = step_of (direction_at r.drawing k d) r.pitch r.cursor in
      cases (λ (q : Registers). SoundSet board (fewer_left q)) (ltb (k + 1) (dots_of r.drawing))
      (λ t. work_kept (put_cursor r c) (cursor_kept r l c (fits_step (direction_at r.drawing k d) r.pitch r.cursor l.cursor))
      (r.remaining - 1) (Figure (k + 1) (running_d r.drawing d))
      (record {
        place = (ltb-true (k + 1) (dots_of r.drawing) t, running_below r.drawing d g.place.1);
        mode = g.mode;
        start = tt;
        count = omega (arith, g.count);
      }))
      (λ t. ends r l (omega (arith, g.count, ltb-false (k + 1) (dots_of r.drawing) t)))

pub figure_kept : {board : Board} (n k d : ℕ) (s : State) → Whole board n s → s.regs.work ≡ Figure k d
    → Whole board n (one_fewer (figure_unit k d s))
unfolding figure_unit
figure_kept n k d s w e =
    cycle_kept n s.regs.board.wiring s.regs.op (pattern_at s.regs.ram k) s.regs (fewer_left (figure_moved k d s.regs))
    s.mem w (figure_moves s.regs w.regs k d e)

-- ---- GCHRD's character

-- after a row's last dot the row is done; after the last row's nothing is left
module _ (rows columns row column n : ℕ) (inside : column < columns) (last : columns ≤ column + 1)
    (count : n ≡ rows * columns - (row * columns + column)) where
  row_done : (row + 1) * columns ≡ row * columns + columns
  row_done = let e : row + 1 ≡ suc row = omega arith in ap (λ (j : ℕ). j * columns) e ∙ suc-mul row columns

  row_counted : n - 1 ≡ rows * columns - ((row + 1) * columns + 0)
  row_counted = omega (arith, count, row_done)

  last_counted : row < rows → rows ≤ row + 1 → n - 1 ≡ 0
  last_counted h k =
      let e : rows ≡ row + 1 = omega arith in
      let all : rows * columns ≡ (row + 1) * columns = ap (λ (j : ℕ). j * columns) e in
      omega (arith, count, row_done)

module _ {board : Board} (r : Registers) (l : SoundSet board r) (row column : ℕ) (start : Cursor)
    (e : r.work ≡ Character row column start) where
  character_moves : SoundSet board (fewer_left (character_moved row column start r))
  unfolding character_moved next_start character_left
  character_moves =
      let g : Going r.drawing r.video.zoom r.mode r.remaining (Character row column start) = rw e at l.work in
      let columns = columns_of r.drawing r.video.zoom in
      let rows = rows_of r.drawing r.video.zoom in
      let along = step_of r.drawing.dir r.pitch r.cursor in
      let next = step_of ((r.drawing.dir + 2) % 8) r.pitch start in
      let fits : Fits next = fits_step ((r.drawing.dir + 2) % 8) r.pitch start (record { ead = g.place.2; mask = g.start }) in
      cases (λ (q : Registers). SoundSet board (fewer_left q)) (ltb (column + 1) columns)
      (λ t. work_kept (put_cursor r along) (cursor_kept r l along (fits_step r.drawing.dir r.pitch r.cursor l.cursor))
      (r.remaining - 1) (Character row (column + 1) start)
      (record {
        place = (g.place.0, ltb-true (column + 1) columns t, g.place.2);
        mode = g.mode;
        start = g.start;
        count = omega (arith, g.count);
      }))
      (λ t. cases (λ (q : Registers). SoundSet board (fewer_left q)) (ltb (row + 1) rows)
      (λ u. work_kept (put_cursor r next) (cursor_kept r l next fits) (r.remaining - 1) (Character (row + 1) 0 next)
      (record {
        place = (ltb-true (row + 1) rows u, omega (arith, g.place.1), fits.ead);
        mode = g.mode;
        start = fits.mask;
        count = row_counted rows columns row column r.remaining g.place.1 (ltb-false (column + 1) columns t) g.count;
      }))
      (λ u. ends r l
      (last_counted rows columns row column r.remaining g.place.1 (ltb-false (column + 1) columns t) g.count g.place.0
      (ltb-false (row + 1) rows u))))

pub character_kept : {board : Board} (n row column : ℕ) (start : Cursor) (s : State) → Whole board n s
    → s.regs.work ≡ Character row column start → Whole board n (one_fewer (character_unit row column start s))
unfolding character_unit
character_kept n row column start s w e =
    cycle_kept n s.regs.board.wiring s.regs.op (character_pattern s.regs.ram (factor_of s.regs.video.zoom) row column)
    s.regs
    (fewer_left (character_moved row column start s.regs)) s.mem w (character_moves s.regs w.regs row column start e)

-- ---- a read

given_queue : (t : Transfer) (w : ℕ) → w < 65536 → (b : Buffer) → Queue Read b → Queue Read (given t w b)
unfolding given
given_queue Word w h b q =
    pushed_queue Read (pushed b (w % 256)) (pushed_queue Read b q (w % 256) (omega arith)) (w / 256) (omega arith)
given_queue Low w h b q = pushed_queue Read b q (w % 256) (omega arith)
given_queue High w h b q = pushed_queue Read b q (w / 256) (omega arith)

read_goes_on : (f : Drawing) (zoom : ℕ) (m : Mode) (n : ℕ) (t : Transfer) (i : ℕ) → m ≡ Read → n ≡ 0
    → Going f zoom m n (read_on t i f.dc)
unfolding read_on
read_goes_on f zoom m n t i e z =
    cases (Going f zoom m n) (ltb (i + 1) f.dc)
    (λ u. record { place = ltb-true (i + 1) f.dc u; mode = e; start = tt; count = z })
    (λ u. record { place = tt; mode = tt; start = tt; count = z })

module _ {board : Board} (r : Registers) (l : SoundSet board r) (i : ℕ) (t : Transfer) (e : r.work ≡ Reading i t) where
  item_kept : (w : ℕ) → w < 65536 → SoundSet board (item_given i t w r)
  unfolding item_given
  item_kept w h =
      let g : Going r.drawing r.video.zoom r.mode r.remaining (Reading i t) = rw e at l.work in
      let b = given t w r.buffer in
      let c = word_move_of r.drawing.dir r.pitch r.cursor in
      let q : Queue r.mode b = rw g.mode (given_queue t w h r.buffer (rw g.mode at l.buffer)) in
      work_kept (put_cursor (put_buffer r b) c)
      (cursor_kept (put_buffer r b) (buffer_kept r l b q) c (word_fits r.drawing.dir r.pitch r.cursor l.cursor))
      r.remaining (read_on t i r.drawing.dc)
      (read_goes_on r.drawing r.video.zoom r.mode r.remaining t i g.mode g.count)

pub read_kept : {board : Board} (n i : ℕ) (t : Transfer) (s : State) → Whole board n s → s.regs.work ≡ Reading i t
    → Whole board n (read_unit i t s)
unfolding read_unit
read_kept {board} n i t s w e =
    either (Whole board n) (room_b t s.regs.buffer)
    (record {
      regs = item_kept s.regs w.regs i t e (met_by s.regs.board.wiring s.regs.cursor.ead s.mem)
          (met_below s.regs.board.wiring s.regs.cursor.ead s.mem w.words);
      words = w.words;
      long = w.long;
    })
    w
