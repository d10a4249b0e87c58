-- Soundness taken apart into facts on numbers, and put together again: one field of `Sound` for each conjunct of `sound_b`. A bound
-- on the first k entries of a list is a bound on each of them, by induction on k.
use mathlib.Core.Path.{◌≡◌, refl}
use mathlib.Core.Bool.{true, not, ◌&&◌}
use mathlib.Core.List.{List, [], ◌∷◌}
use Prim.Native.Nat.{ℕ, zero, suc, ◌≤◌, ◌<◌}
use native.Mathlib.Omega.{arith}
use lib.Dec.{ltb, leb}
use lib.ListN.{get_or, take}
use borrow.Author.Tests.{ltb-true, leb-true, eqb-true, lt-ltb, le-leb, eq-eqb}
use Rattle.dots.specs.Step.{addresses}
use Rattle.registers.specs.declared.Mode.{Mode}
use Rattle.registers.specs.declared.Mode.TheVariants.{Write, Read}
use Rattle.registers.specs.declared.Work.{Work}
use Rattle.registers.specs.declared.Work.TheVariants.{Idle, Figure, Arc, Character, Reading}
use Rattle.registers.specs.declared.Running.{Running}
use Rattle.registers.specs.declared.Drawing.{Drawing}
use Rattle.registers.specs.declared.Buffer.{Buffer}
use Rattle.registers.specs.declared.Registers.{Registers}
use Rattle.registers.specs.Fresh.{fresh_set}
use Rattle.registers.specs.Size.{dots_of, arc_cycles_of, rows_of, columns_of}
use Rattle.registers.specs.Left.{cycles_left}
use Rattle.registers.specs.Sound.{all_below, cursor_b, drawing_b, pen_b, progress_b, mark_b, buffer_b, running_b, place_b, write_b}
use Rattle.registers.specs.Sound.{work_b, count_b, sound_b}
use Rattle.registers.specs.Typed.{Typed}
use Rattle.registers.proofs.BoolLaws.{false_true, and_left, and_right}

-- five type bits, three of DIR, and 14 bits each
pub record DrawingFits (f : Drawing) : Type 0 where
  pub kind : f.kind < 32
  pub dir : f.dir < 8
  pub dc : f.dc < 16384
  pub d : f.d < 16384
  pub d2 : f.d2 < 16384
  pub d1 : f.d1 < 16384
  pub dm : f.dm < 16384

-- at most sixteen entries; what is held is a byte in read mode, and may have a command mark in write mode
pub record BufferFits (m : Mode) (b : Buffer) : Type 0 where
  pub count : b.count ≤ 16
  pub each : (i : ℕ) → i < 16 → get_or b.entries i 0 < 512
  pub held : (i : ℕ) → i < b.count → get_or b.entries i 0 < mark_b m

-- the running D, D1 and D2 of an arc within their widths
pub record RunningFits (a : Running) : Type 0 where
  pub d : a.d < 16384
  pub d1 : a.d1 < 16384
  pub d2 : a.d2 < 16384

-- the place reached is inside its figure or read
abbrev pub Inside : Drawing → ℕ → Work → Type 0
Inside f zoom Idle = Unit {0}
Inside f zoom (Figure k d) = (k < dots_of f) × (d < 16384)
Inside f zoom (Arc k a) = (k < arc_cycles_of f) × RunningFits a
Inside f zoom (Character row column start) = (row < rows_of f zoom) × (column < columns_of f zoom) × (start.ead < addresses)
Inside f zoom (Reading item t) = item < f.dc

-- a figure in progress only in write mode and a read only in read mode
abbrev pub Suits : Mode → Work → Type 0
Suits m Idle = Unit {0}
Suits m (Figure k d) = m ≡ Write
Suits m (Arc k a) = m ≡ Write
Suits m (Character row column start) = m ≡ Write
Suits m (Reading item t) = m ≡ Read

pub record Sound (r : Registers) : Type 0 where
  pub cursor : r.cursor.ead < addresses
  pub drawing : DrawingFits r.drawing
  pub pen : r.pen.address < addresses
  pub progress : r.progress.next ≤ 16
  pub buffer : BufferFits r.mode r.buffer
  pub place : Inside r.drawing r.video.zoom r.work
  pub work : Suits r.mode r.work
  pub count : r.remaining ≡ cycles_left r.drawing r.video.zoom r.work

-- ---- lists

pub below_each : (n k : ℕ) (l : List ℕ) → 0 < n → all_below n (take k l) ≡ true → (i : ℕ) → i < k → get_or l i 0 < n
unfolding all_below
below_each n zero l h e i q = absurd (omega arith)
below_each n (suc k) [] h e i q = h
below_each n (suc k) (x ∷ l) h e zero q = ltb-true x n (and_left (ltb x n) (all_below n (take k l)) e)
below_each n (suc k) (x ∷ l) h e (suc i) q = below_each n k l h (and_right (ltb x n) (all_below n (take k l)) e) i (omega arith)

pub each_below : (n k : ℕ) (l : List ℕ) → ((i : ℕ) → i < k → get_or l i 0 < n) → all_below n (take k l) ≡ true
unfolding all_below
each_below n zero l h = refl
each_below n (suc k) [] h = refl
each_below n (suc k) (x ∷ l) h = rw (lt-ltb x n (h 0 (omega arith))) (each_below n k l (λ i q. h (suc i) (omega arith)))

-- ---- the conjuncts

drawing_parts : (f : Drawing) → drawing_b f ≡ true → DrawingFits f
drawing_parts f e₆ =
    let kind = ltb f.kind 32 in
    let dir = kind && ltb f.dir 8 in
    let dc = dir && ltb f.dc 16384 in
    let d = dc && ltb f.d 16384 in
    let d2 = d && ltb f.d2 16384 in
    let d1 = d2 && ltb f.d1 16384 in
    let e₅ : d1 ≡ true = and_left d1 (ltb f.dm 16384) e₆ in
    let e₄ : d2 ≡ true = and_left d2 (ltb f.d1 16384) e₅ in
    let e₃ : d ≡ true = and_left d (ltb f.d2 16384) e₄ in
    let e₂ : dc ≡ true = and_left dc (ltb f.d 16384) e₃ in
    let e₁ : dir ≡ true = and_left dir (ltb f.dc 16384) e₂ in
    record {
      kind = ltb-true f.kind 32 (and_left kind (ltb f.dir 8) e₁);
      dir = ltb-true f.dir 8 (and_right kind (ltb f.dir 8) e₁);
      dc = ltb-true f.dc 16384 (and_right dir (ltb f.dc 16384) e₂);
      d = ltb-true f.d 16384 (and_right dc (ltb f.d 16384) e₃);
      d2 = ltb-true f.d2 16384 (and_right d (ltb f.d2 16384) e₄);
      d1 = ltb-true f.d1 16384 (and_right d2 (ltb f.d1 16384) e₅);
      dm = ltb-true f.dm 16384 (and_right d1 (ltb f.dm 16384) e₆);
    }

drawing_whole : (f : Drawing) → DrawingFits f → drawing_b f ≡ true
drawing_whole f s =
    rw (
      lt-ltb f.kind 32 s.kind,
      lt-ltb f.dir 8 s.dir,
      lt-ltb f.dc 16384 s.dc,
      lt-ltb f.d 16384 s.d,
      lt-ltb f.d2 16384 s.d2,
      lt-ltb f.d1 16384 s.d1,
      lt-ltb f.dm 16384 s.dm,
    )

mark_some : (m : Mode) → 0 < mark_b m
mark_some Write = omega arith
mark_some Read = omega arith

buffer_parts : (m : Mode) (b : Buffer) → buffer_b m b ≡ true → BufferFits m b
buffer_parts m b e =
    let few = leb b.count 16 in
    let wide = all_below 512 (take 16 b.entries) in
    let held = all_below (mark_b m) (take b.count b.entries) in
    let front : (few && wide) ≡ true = and_left (few && wide) held e in
    record {
      count = leb-true b.count 16 (and_left few wide front);
      each = below_each 512 16 b.entries (omega arith) (and_right few wide front);
      held = below_each (mark_b m) b.count b.entries (mark_some m) (and_right (few && wide) held e);
    }

buffer_whole : (m : Mode) (b : Buffer) → BufferFits m b → buffer_b m b ≡ true
buffer_whole m b s =
    rw (
      le-leb b.count 16 s.count,
      each_below 512 16 b.entries s.each,
      each_below (mark_b m) b.count b.entries s.held,
    )

running_parts : (a : Running) → running_b a ≡ true → RunningFits a
running_parts a e =
    let d = ltb a.d 16384 in
    let d1 = ltb a.d1 16384 in
    let d2 = ltb a.d2 16384 in
    let both : (d && d1) ≡ true = and_left (d && d1) d2 e in
    record {
      d = ltb-true a.d 16384 (and_left d d1 both);
      d1 = ltb-true a.d1 16384 (and_right d d1 both);
      d2 = ltb-true a.d2 16384 (and_right (d && d1) d2 e);
    }

running_whole : (a : Running) → RunningFits a → running_b a ≡ true
running_whole a s = rw (lt-ltb a.d 16384 s.d, lt-ltb a.d1 16384 s.d1, lt-ltb a.d2 16384 s.d2)

place_parts : (f : Drawing) (zoom : ℕ) (w : Work) → place_b f zoom w ≡ true → Inside f zoom w
place_parts f zoom Idle e = tt
place_parts f zoom (Figure k d) e = (
  ltb-true k (dots_of f) (and_left (ltb k (dots_of f)) (ltb d 16384) e),
  ltb-true d 16384 (and_right (ltb k (dots_of f)) (ltb d 16384) e),
)
place_parts f zoom (Arc k a) e =
    let inside = ltb k (arc_cycles_of f) in
    (ltb-true k (arc_cycles_of f) (and_left inside (running_b a) e), running_parts a (and_right inside (running_b a) e))
place_parts f zoom (Character row column start) e =
    let high = ltb row (rows_of f zoom) in
    let wide = ltb column (columns_of f zoom) in
    let both : (high && wide) ≡ true = and_left (high && wide) (cursor_b start) e in (
      ltb-true row (rows_of f zoom) (and_left high wide both),
      ltb-true column (columns_of f zoom) (and_right high wide both),
      ltb-true start.ead addresses (and_right (high && wide) (cursor_b start) e),
    )
place_parts f zoom (Reading item t) e = ltb-true item f.dc e

place_whole : (f : Drawing) (zoom : ℕ) (w : Work) → Inside f zoom w → place_b f zoom w ≡ true
place_whole f zoom Idle p = refl
place_whole f zoom (Figure k d) p = rw (lt-ltb k (dots_of f) p.0, lt-ltb d 16384 p.1)
place_whole f zoom (Arc k a) p = rw (lt-ltb k (arc_cycles_of f) p.0, running_whole a p.1)
place_whole f zoom (Character row column start) p =
    rw (lt-ltb row (rows_of f zoom) p.0, lt-ltb column (columns_of f zoom) p.1, lt-ltb start.ead addresses p.2)
place_whole f zoom (Reading item t) p = lt-ltb item f.dc p

write_mode : (m : Mode) → write_b m ≡ true → m ≡ Write
write_mode Write e = refl
write_mode Read e = absurd (false_true e)

read_mode : (m : Mode) → not (write_b m) ≡ true → m ≡ Read
read_mode Write e = absurd (false_true e)
read_mode Read e = refl

work_parts : (m : Mode) (w : Work) → work_b m w ≡ true → Suits m w
work_parts m Idle e = tt
work_parts m (Figure k d) e = write_mode m e
work_parts m (Arc k a) e = write_mode m e
work_parts m (Character row column start) e = write_mode m e
work_parts m (Reading item t) e = read_mode m e

work_whole : (m : Mode) (w : Work) → Suits m w → work_b m w ≡ true
work_whole m Idle p = refl
work_whole m (Figure k d) p = rw p
work_whole m (Arc k a) p = rw p
work_whole m (Character row column start) p = rw p
work_whole m (Reading item t) p = rw p

-- ---- the whole

pub sound_parts : (r : Registers) → sound_b r ≡ true → Sound r
unfolding sound_b
sound_parts r e₇ =
    let cursor = cursor_b r.cursor in
    let drawing = cursor && drawing_b r.drawing in
    let pen = drawing && pen_b r.pen in
    let progress = pen && progress_b r.progress in
    let buffer = progress && buffer_b r.mode r.buffer in
    let place = buffer && place_b r.drawing r.video.zoom r.work in
    let work = place && work_b r.mode r.work in
    let e₆ : work ≡ true = and_left work (count_b r) e₇ in
    let e₅ : place ≡ true = and_left place (work_b r.mode r.work) e₆ in
    let e₄ : buffer ≡ true = and_left buffer (place_b r.drawing r.video.zoom r.work) e₅ in
    let e₃ : progress ≡ true = and_left progress (buffer_b r.mode r.buffer) e₄ in
    let e₂ : pen ≡ true = and_left pen (progress_b r.progress) e₃ in
    let e₁ : drawing ≡ true = and_left drawing (pen_b r.pen) e₂ in
    record {
      cursor = ltb-true r.cursor.ead addresses (and_left cursor (drawing_b r.drawing) e₁);
      drawing = drawing_parts r.drawing (and_right cursor (drawing_b r.drawing) e₁);
      pen = ltb-true r.pen.address addresses (and_right drawing (pen_b r.pen) e₂);
      progress = leb-true r.progress.next 16 (and_right pen (progress_b r.progress) e₃);
      buffer = buffer_parts r.mode r.buffer (and_right progress (buffer_b r.mode r.buffer) e₄);
      place = place_parts r.drawing r.video.zoom r.work (and_right buffer (place_b r.drawing r.video.zoom r.work) e₅);
      work = work_parts r.mode r.work (and_right place (work_b r.mode r.work) e₆);
      count = eqb-true r.remaining (cycles_left r.drawing r.video.zoom r.work) (and_right work (count_b r) e₇);
    }

pub sound_whole : (r : Registers) → Sound r → sound_b r ≡ true
unfolding sound_b
sound_whole r s =
    rw (
      lt-ltb r.cursor.ead addresses s.cursor,
      drawing_whole r.drawing s.drawing,
      lt-ltb r.pen.address addresses s.pen,
      le-leb r.progress.next 16 s.progress,
      buffer_whole r.mode r.buffer s.buffer,
      place_whole r.drawing r.video.zoom r.work s.place,
      work_whole r.mode r.work s.work,
      eq-eqb r.remaining (cycles_left r.drawing r.video.zoom r.work) s.count,
    )

-- ---- the fresh set

pub fresh_sound : sound_b fresh_set ≡ true
unfolding sound_b fresh_set all_below dots_of
fresh_sound = refl

pub fresh_typed : Typed fresh_set
unfolding fresh_set
fresh_typed = record { mask = omega arith; ram = refl; entries = refl; start = tt }
