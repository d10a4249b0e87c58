-- What lies before a controller ends. `to_do` counts it from above: the dots or items that are left of what is in progress, and for
-- each entry that waits in write mode one unit and the longest figure there is. A unit takes at least one away: a figure or a read
-- goes on by one place, and an entry taken leaves one entry less and starts nothing longer than the longest figure.
use mathlib.Core.Path.{◌≡◌, refl, ap}
use mathlib.Core.Bool.{Bool, true, false, cond, ◌&&◌, ◌||◌}
use mathlib.Core.List.{List}
use Prim.Native.Nat.{ℕ, zero, suc, ◌+◌, ◌-◌, ◌*◌, ◌%◌, ◌≤◌, ◌<◌}
use native.Mathlib.Nat.{suc-mul, mul-le-mul, mul-le-mul_right}
use native.Mathlib.Omega.{arith}
use lib.Dec.{eqb, ltb, leb}
use borrow.Author.Tests.{eqb-false, leb-true}
use Rattle.dots.specs.declared.Cursor.{Cursor}
use Rattle.registers.specs.declared.Mode.{Mode}
use Rattle.registers.specs.declared.Mode.TheVariants.{Write, Read}
use Rattle.registers.specs.declared.Transfer.{Transfer}
use Rattle.registers.specs.declared.Command.{Command}
use Rattle.registers.specs.declared.Command.TheVariants.{Nothing, Reset, Vsync, Cchar, Start, Zoom, Curs, Pram, Pitch, Mask, Figs, Figd}
use Rattle.registers.specs.declared.Command.TheVariants.{Gchrd, Curd, Lprd, Wdat, Rdat, Unknown}
use Rattle.registers.specs.declared.Work.{Work}
use Rattle.registers.specs.declared.Work.TheVariants.{Idle, Figure, Arc, Character, Reading}
use Rattle.registers.specs.declared.Running.{Running}
use Rattle.registers.specs.declared.Drawing.{Drawing}
use Rattle.registers.specs.declared.Buffer.{Buffer}
use Rattle.registers.specs.declared.Board.{Board}
use Rattle.registers.specs.declared.Registers.{Registers}
use Rattle.registers.specs.Size.{plain_kind, line_kind, character_kind, arc_kind, rectangle_kind, dots_of, arc_cycles_of, factor_of}
use Rattle.registers.specs.Size.{rows_of}
use Rattle.registers.specs.Size.{columns_of}
use Rattle.registers.specs.Left.{character_left, cycles_left}
use Rattle.registers.specs.Buffer.{oldest, popped}
use Rattle.registers.specs.Put.{put_buffer, put_progress}
use Rattle.registers.specs.State.{State, state}
use Rattle.commands.specs.Decode.{command_of}
use Rattle.processor.specs.Command.{begun, reset_done, figure_begun, figd_taken, character_begun, read_begun, command_by, command_taken}
use Rattle.arcs.specs.Unit.{arc_begun, arc_moved, arc_unit}
use Rattle.parameters.specs.Parameter.{ram_by, pitch_by}
use Rattle.wdat.specs.Wdat.{half_b, set_done, wdat_taken}
use Rattle.processor.specs.Entry.{counted, parameter_by, parameter_taken, entry_taken}
use Rattle.figures.specs.Figure.{figure_moved, figure_unit}
use Rattle.figures.specs.Character.{character_moved, character_unit}
use Rattle.figures.specs.Reading.{room_b, read_on, item_given, read_unit}
use Rattle.units.specs.Unit.{fetched, fetch_by, unit_by, unit_done}
use Rattle.units.specs.Run.{waiting, reason_by, reason_of, units_done}
use Rattle.laws.proofs.BranchLaws.{either, cases}
use Rattle.laws.proofs.SoundLaws.{DrawingFits}
use Rattle.laws.proofs.KeptLaws.{Going, SoundSet, Whole, buffer_kept}
use Rattle.laws.proofs.KeptBufferLaws.{popped_queue}
use Rattle.laws.proofs.KeptProcessorLaws.{entry_kept}
use Rattle.laws.proofs.KeptUnitLaws.{unit_kept}

-- "(DC + 1)·g rows of D·g dots" of 14 bits and a factor of at most 16: 262,144 rows of 262,128 dots
abbrev pub longest : ℕ
longest = 68715282432

-- the cycles left of a figure, the items left of a read
abbrev in_work : Drawing → ℕ → Work → ℕ
in_work f zoom Idle = 0
in_work f zoom (Figure k d) = cycles_left f zoom (Figure k d)
in_work f zoom (Arc k a) = cycles_left f zoom (Arc k a)
in_work f zoom (Character row column start) = cycles_left f zoom (Character row column start)
in_work f zoom (Reading i t) = f.dc - i

abbrev in_queue : Mode → ℕ → ℕ
in_queue Write n = n * 68715282433
in_queue Read n = 0

abbrev pub to_do : Registers → ℕ
to_do r = in_work r.drawing r.video.zoom r.work + in_queue r.mode r.buffer.count

-- ---- nothing is longer than the longest figure
abbrev Few : ℕ → ℕ → Type 0
Few most n = n ≤ most

dots_few : (f : Drawing) → DrawingFits f → dots_of f ≤ longest
unfolding dots_of
dots_few f fits =
    either (Few longest) (eqb f.kind plain_kind || eqb f.kind line_kind) (omega (arith, fits.dc))
    (either (Few longest) (eqb f.kind rectangle_kind) (omega (arith, fits.d, fits.d2)) (omega arith))

cycles_few : (f : Drawing) → DrawingFits f → arc_cycles_of f ≤ longest
unfolding arc_cycles_of
cycles_few f fits = either (Few longest) (eqb f.kind arc_kind) (omega (arith, fits.dc)) (omega arith)

factor_few : (zoom : ℕ) → factor_of zoom ≤ 16
unfolding factor_of
factor_few zoom = omega arith

rows_few : (f : Drawing) (zoom : ℕ) → DrawingFits f → rows_of f zoom ≤ 262144
unfolding rows_of
rows_few f zoom fits =
    either (Few 262144) (eqb f.kind character_kind) (mul-le-mul {n₂ = 16384} {m₂ = 16} (omega (arith, fits.dc)) (factor_few zoom))
    (omega arith)

columns_few : (f : Drawing) (zoom : ℕ) → DrawingFits f → columns_of f zoom ≤ 262128
unfolding columns_of
columns_few f zoom fits = mul-le-mul {n₂ = 16383} {m₂ = 16} (omega (arith, fits.d)) (factor_few zoom)

work_few : (f : Drawing) (zoom : ℕ) → DrawingFits f → (w : Work) → in_work f zoom w ≤ longest
unfolding character_left
work_few f zoom fits Idle = omega arith
work_few f zoom fits (Figure k d) = omega (arith, dots_few f fits)
work_few f zoom fits (Arc k a) = omega (arith, cycles_few f fits)
work_few f zoom fits (Character row column start) =
    let h : rows_of f zoom * columns_of f zoom ≤ longest = mul-le-mul (rows_few f zoom fits) (columns_few f zoom fits) in
    omega arith
work_few f zoom fits (Reading i t) = omega (arith, fits.dc)

queue_few : (m : Mode) (n : ℕ) → n ≤ 16 → in_queue m n ≤ 16 * 68715282433
queue_few Write n h = omega arith
queue_few Read n h = omega arith

-- what lies before a sound set: at most the rest of one figure, and sixteen entries that start one each
pub to_do_few : {board : Board} (r : Registers) → SoundSet board r → to_do r ≤ 17 * 68715282433
to_do_few r l =
    let u = work_few r.drawing r.video.zoom l.drawing r.work in
    let v = queue_few r.mode r.buffer.count l.buffer.fits.count in
    omega arith

-- ---- an entry taken leaves as many entries as there were, or none
abbrev Behind : ℕ → Registers → Type 0
Behind n q = in_queue q.mode q.buffer.count ≤ n * 68715282433

module _ (r : Registers) (m : List ℕ) (n : ℕ) (behind : Behind n r) where
  command_behind : (c : Command) (b : ℕ) → Behind n (command_by c b r)
  unfolding reset_done figure_begun figd_taken arc_begun character_begun read_begun
  command_behind Nothing b = behind
  command_behind Reset b = omega arith
  command_behind Vsync b = behind
  command_behind Cchar b = behind
  command_behind Start b = behind
  command_behind Zoom b = behind
  command_behind Curs b = behind
  command_behind Pram b = behind
  command_behind Pitch b = behind
  command_behind Mask b = behind
  command_behind Figs b = behind
  command_behind Figd b =
      either (Behind n) (eqb r.drawing.kind arc_kind) (either (Behind n) (ltb 0 (arc_cycles_of r.drawing)) behind behind)
      (either (Behind n) (ltb 0 (dots_of r.drawing)) behind behind)
  command_behind Gchrd b =
      either (Behind n) (ltb 0 (rows_of r.drawing r.video.zoom) && ltb 0 (columns_of r.drawing r.video.zoom)) behind behind
  command_behind Curd b = omega arith
  command_behind Lprd b = omega arith
  command_behind (Wdat t) b = behind
  command_behind (Rdat t) b = either (Behind n) (ltb 0 r.drawing.dc) (omega arith) (omega arith)
  command_behind Unknown b = behind

  parameter_behind : (c : Command) (i v : ℕ) → Behind n (parameter_by c i v r m).regs
  unfolding ram_by pitch_by wdat_taken set_done
  parameter_behind Nothing i v = behind
  parameter_behind Reset i v = behind
  parameter_behind Vsync i v = behind
  parameter_behind Cchar i v = behind
  parameter_behind Start i v = behind
  parameter_behind Zoom i v = behind
  parameter_behind Curs i v = behind
  parameter_behind Pram i v = either (Behind n) (ltb i 16) behind behind
  parameter_behind Pitch i v = either (Behind n) (eqb i 0) behind behind
  parameter_behind Mask i v = behind
  parameter_behind Figs i v = behind
  parameter_behind Figd i v = behind
  parameter_behind Gchrd i v = behind
  parameter_behind Curd i v = behind
  parameter_behind Lprd i v = behind
  parameter_behind (Wdat t) i v = either (λ (s : State). Behind n s.regs) (half_b t i) behind behind
  parameter_behind (Rdat t) i v = behind
  parameter_behind Unknown i v = behind

entry_behind : (e n : ℕ) (s : State) → Behind n s.regs → Behind n (entry_taken e s).regs
unfolding entry_taken parameter_taken command_taken
entry_behind e n s h =
    either (λ (x : State). Behind n x.regs) (ltb e 256)
    (parameter_behind (put_progress s.regs (counted s.regs.progress)) s.mem n h s.regs.progress.command
    s.regs.progress.next e)
    (command_behind (put_progress s.regs (begun (command_of (e % 256)) (e % 256))) s.mem n h (command_of (e % 256)) (e % 256))

popped_count : (b : Buffer) → (popped b).count ≡ b.count - 1
unfolding popped
popped_count b =
    cases (λ (x : Buffer). x.count ≡ b.count - 1) (leb b.count 1) (λ t. let h : b.count ≤ 1 = leb-true _ _ t in omega arith)
    (λ t. refl)

-- ---- a unit takes one away
module _ {board : Board} (n : ℕ) (s : State) (w : Whole board n s) where
  abbrev r : Registers
  r = s.regs

  abbrev queue : ℕ
  queue = in_queue r.mode r.buffer.count

  abbrev rows : ℕ
  rows = rows_of r.drawing r.video.zoom

  abbrev columns : ℕ
  columns = columns_of r.drawing r.video.zoom

  -- less than so much of what is in progress, and the entries
  abbrev Less : ℕ → Registers → Type 0
  Less k q = to_do q < k + queue

  figure_less : (k d : ℕ) → k < dots_of r.drawing → Less (dots_of r.drawing - k) (figure_unit k d s).regs
  unfolding figure_unit figure_moved
  figure_less k d h = either (Less (dots_of r.drawing - k)) (ltb (k + 1) (dots_of r.drawing)) (omega arith) (omega arith)

  arc_less : (k : ℕ) (a : Running) → k < arc_cycles_of r.drawing → Less (arc_cycles_of r.drawing - k) (arc_unit k a s).regs
  unfolding arc_unit arc_moved
  arc_less k a h = either (Less (arc_cycles_of r.drawing - k)) (ltb (k + 1) (arc_cycles_of r.drawing)) (omega arith) (omega arith)

  character_less : (row column : ℕ) (start : Cursor) → row < rows → column < columns
      → Less (character_left r.drawing r.video.zoom row column) (character_unit row column start s).regs
  unfolding character_unit character_moved character_left
  character_less row column start h k =
      let most : suc row * columns ≤ rows * columns = mul-le-mul_right columns h in
      let next : suc row * columns ≡ row * columns + columns = suc-mul row columns in
      let same : (row + 1) * columns ≡ suc row * columns = ap (λ (j : ℕ). j * columns) (omega arith) in
      either (Less (rows * columns - (row * columns + column))) (ltb (column + 1) columns) (omega arith)
      (either (Less (rows * columns - (row * columns + column))) (ltb (row + 1) rows) (omega arith) (omega arith))

  read_less : (i : ℕ) (t : Transfer) → i < r.drawing.dc → r.mode ≡ Read → room_b t r.buffer ≡ true
      → Less (r.drawing.dc - i) (read_unit i t s).regs
  unfolding read_unit item_given read_on
  read_less i t h m room =
      rw (room, m)
      (either (λ (x : Work). in_work r.drawing r.video.zoom x + 0 < r.drawing.dc - i + 0) (ltb (i + 1) r.drawing.dc)
      (omega arith) (omega arith))

  fetched_less : r.work ≡ Idle → r.mode ≡ Write → (r.buffer.count ≡ 0 → ⊥) → Less 0 (fetched s).regs
  unfolding fetched
  fetched_less idle write some =
      let e = oldest r.buffer in
      let b = popped r.buffer in
      let before : State = state (put_buffer r b) s.mem in
      let q : Registers = (entry_taken e before).regs in
      let kept : Whole board n (entry_taken e before) =
      entry_kept n e before
      (record {
        regs = buffer_kept r w.regs b (popped_queue r.mode r.buffer w.regs.buffer);
        words = w.words;
        long = w.long;
      }) idle write in
      let few = work_few q.drawing q.video.zoom kept.regs.drawing q.work in
      let behind = entry_behind e (r.buffer.count - 1) before (rw (write, popped_count r.buffer) (omega arith)) in
      let all : queue ≡ r.buffer.count * 68715282433 = rw write in
      omega arith

  idle_less : r.work ≡ Idle → (m : Mode) → r.mode ≡ m → waiting m r.buffer ≡ 0 → Less 0 (fetch_by m r.buffer.count s).regs
  idle_less idle Write write h =
      cases (λ (x : State). Less 0 x.regs) (eqb r.buffer.count 0) (λ t. absurd (two_not_0 (rw t at h)))
      (λ t. fetched_less idle write (eqb-false r.buffer.count 0 t))
    where
      two_not_0 : ◌≡◌ {A = ℕ} 2 0 → ⊥
      two_not_0 e = omega arith
  idle_less idle Read read h = absurd (omega arith)

  less_by : (x : Work) → r.work ≡ x → reason_by x r.mode r.buffer ≡ 0
      → Less (in_work r.drawing r.video.zoom x) (unit_by x s).regs
  less_by Idle e h = idle_less e r.mode refl h
  less_by (Figure k d) e h =
      let g : Going r.drawing r.video.zoom r.mode r.remaining (Figure k d) = rw e at w.regs.work in
      figure_less k d g.place.0
  less_by (Arc k a) e h =
      let g : Going r.drawing r.video.zoom r.mode r.remaining (Arc k a) = rw e at w.regs.work in
      arc_less k a g.place.0
  less_by (Character row column start) e h =
      let g : Going r.drawing r.video.zoom r.mode r.remaining (Character row column start) = rw e at w.regs.work in
      character_less row column start g.place.0 g.place.1
  less_by (Reading i t) e h =
      let g : Going r.drawing r.video.zoom r.mode r.remaining (Reading i t) = rw e at w.regs.work in
      read_less i t g.place g.mode (has_room (room_b t r.buffer) h)
    where
      has_room : (b : Bool) → ◌≡◌ {A = ℕ} (cond b 0 3) 0 → b ≡ true
      has_room true k = refl
      has_room false k = absurd (omega arith)

  pub unit_less : reason_of r ≡ 0 → to_do (unit_done s).regs < to_do r
  unfolding reason_of unit_done
  unit_less h = less_by r.work refl h

-- n units that all apply take n away
pub units_less : {board : Board} (n k : ℕ) (s : State) → Whole board n s → ((i : ℕ) → i < k → reason_of (units_done i s).regs ≡ 0)
    → to_do (units_done k s).regs + k ≤ to_do s.regs
unfolding units_done
units_less n zero s w busy = omega arith
units_less n (suc k) s w busy =
    let first = unit_less n s w (busy 0 (omega arith)) in
    let rest = units_less n k (unit_done s) (unit_kept n s w) (λ i h. busy (suc i) (omega arith)) in
    omega arith
