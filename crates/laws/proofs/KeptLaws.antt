-- What every entry of the controller keeps: a register set that is sound, has what its types say and is of one board (`SoundSet`), over a
-- memory of 16-bit words of one length (`Whole`). A change of one register keeps it if the new value has its part.
use mathlib.Core.Path.{◌≡◌, ap, ◌∙◌}
use mathlib.Core.Bool.{true}
use mathlib.Core.List.{List, [], ◌∷◌}
use Prim.Native.Nat.{ℕ, zero, suc, ◌-◌, ◌≤◌, ◌<◌}
use native.Mathlib.Decide.{dec_lt}
use native.Mathlib.Omega.{arith}
use lib.ListN.{length, get_or, set, length-set, get_or-eq_default}
use Rattle.dots.specs.declared.Cursor.{Cursor}
use Rattle.dots.specs.declared.Wiring.{Wiring}
use Rattle.dots.specs.declared.Operation.{Operation}
use Rattle.dots.specs.Step.{Fits, addresses}
use Rattle.dots.specs.Cycle.{word_met, met_by, cycled}
use Rattle.dots.proofs.CycleLaws.{read_inside}
use Rattle.dots.proofs.LogicLaws.{combined_lt}
use Rattle.registers.specs.declared.Board.{Board}
use Rattle.registers.specs.declared.Mode.{Mode}
use Rattle.registers.specs.declared.Work.{Work}
use Rattle.registers.specs.declared.Work.TheVariants.{Idle}
use Rattle.registers.specs.declared.Drawing.{Drawing}
use Rattle.registers.specs.declared.Video.{Video}
use Rattle.registers.specs.declared.Pen.{Pen}
use Rattle.registers.specs.declared.Buffer.{Buffer}
use Rattle.registers.specs.declared.Progress.{Progress}
use Rattle.registers.specs.declared.Registers.{Registers}
use Rattle.registers.specs.Left.{cycles_left}
use Rattle.registers.specs.Sound.{sound_b}
use Rattle.registers.specs.Put.{put_cursor, put_pitch, put_drawing, put_op, put_ram, put_video, put_pen, put_mode, put_buffer, put_progress}
use Rattle.registers.specs.Put.{put_work, put_remaining}
use Rattle.registers.specs.State.{State, state}
use Rattle.registers.specs.Typed.{StartFits, Typed, Words}
use Rattle.processor.specs.Command.{count_begun}
use Rattle.units.specs.Unit.{fewer_left}
use Rattle.laws.proofs.SoundLaws.{Sound, DrawingFits, BufferFits, Inside, Suits, sound_parts, sound_whole}

pub record Queue (m : Mode) (b : Buffer) : Type 0 where
  pub fits : BufferFits m b
  pub long : length b.entries ≡ 16

-- what is in progress, with n cycles left
pub record Going (f : Drawing) (zoom : ℕ) (m : Mode) (n : ℕ) (w : Work) : Type 0 where
  pub place : Inside f zoom w
  pub mode : Suits m w
  pub start : StartFits w
  pub count : n ≡ cycles_left f zoom w

pub record SoundSet (board : Board) (r : Registers) : Type 0 where
  pub cursor : Fits r.cursor
  pub drawing : DrawingFits r.drawing
  pub ram : length r.ram ≡ 16
  pub pen : r.pen.address < addresses
  pub buffer : Queue r.mode r.buffer
  pub progress : r.progress.next ≤ 16
  pub work : Going r.drawing r.video.zoom r.mode r.remaining r.work
  pub same : r.board ≡ board

pub record Whole (board : Board) (n : ℕ) (s : State) : Type 0 where
  pub regs : SoundSet board s.regs
  pub words : Words s.mem
  pub long : length s.mem ≡ n

-- nothing in progress is inside any figure, suits any mode, and leaves no cycle
pub idle : (f : Drawing) (zoom : ℕ) (m : Mode) {n : ℕ} {w : Work} → w ≡ Idle → n ≡ 0 → Going f zoom m n w
idle f zoom m e z = record { place = rw e tt; mode = rw e tt; start = rw e tt; count = rw e z }

-- ---- from soundness and types, and back: each part is one of theirs, so it is found

lawful_of : (r : Registers) → Sound r → Typed r → SoundSet r.board r
lawful_of r s t = search

sound_of : {board : Board} (r : Registers) → SoundSet board r → Sound r
sound_of r l = search

pub lawful : (r : Registers) → sound_b r ≡ true → Typed r → SoundSet r.board r
lawful r e t = lawful_of r (sound_parts r e) t

pub lawful_sound : {board : Board} (r : Registers) → SoundSet board r → sound_b r ≡ true
lawful_sound r l = sound_whole r (sound_of r l)

-- a set is of its own board
pub own : {board : Board} (r : Registers) → SoundSet board r → SoundSet r.board r
own r l = search

pub lawful_typed : {board : Board} (r : Registers) → SoundSet board r → Typed r
lawful_typed r l = search

-- ---- one register changed: its part is given, and the others stay as they are, so each is found

module _ {board : Board} (r : Registers) (l : SoundSet board r) where
  -- where nothing is in progress, no cycle is left
  pub none_left : r.work ≡ Idle → r.remaining ≡ 0
  none_left e = l.work.count ∙ ap (cycles_left r.drawing r.video.zoom) e

  pub cursor_kept : (c : Cursor) → Fits c → SoundSet board (put_cursor r c)
  cursor_kept c h = search

  pub plain_kept : (pitch : ℕ) (op : Operation) → SoundSet board (put_op (put_pitch r pitch) op)
  plain_kept pitch op = search

  pub drawing_kept : r.work ≡ Idle → (f : Drawing) → DrawingFits f → SoundSet board (put_drawing r f)
  drawing_kept e f h = let g = idle f r.video.zoom r.mode e (none_left e) in search

  pub ram_kept : (a : List ℕ) → length a ≡ 16 → SoundSet board (put_ram r a)
  ram_kept a h = search

  pub video_kept : r.work ≡ Idle → (v : Video) → SoundSet board (put_video r v)
  video_kept e v = let g = idle r.drawing v.zoom r.mode e (none_left e) in search

  pub pen_kept : (p : Pen) → p.address < addresses → SoundSet board (put_pen r p)
  pen_kept p h = search

  pub progress_kept : (p : Progress) → p.next ≤ 16 → SoundSet board (put_progress r p)
  progress_kept p h = search

  -- mode, buffer, work and its count go together
  pub turn_kept : (m : Mode) (b : Buffer) (n : ℕ) (w : Work) → Queue m b → Going r.drawing r.video.zoom m n w
      → SoundSet board (put_remaining (put_work (put_buffer (put_mode r m) b) w) n)
  turn_kept m b n w q g = search

  pub buffer_kept : (b : Buffer) → Queue r.mode b → SoundSet board (put_buffer r b)
  buffer_kept b h = search

  pub work_kept : (n : ℕ) (w : Work) → Going r.drawing r.video.zoom r.mode n w → SoundSet board (put_remaining (put_work r w) n)
  work_kept n w h = search

  -- a count that was true is begun anew with the same number
  pub count_kept : SoundSet board (count_begun r)
  count_kept = search

-- a figure ends with its last cycle
pub ends : {board : Board} (r : Registers) → SoundSet board r → r.remaining - 1 ≡ 0 → SoundSet board (fewer_left (put_work r Idle))
ends r l z = work_kept r l (r.remaining - 1) Idle (record { place = tt; mode = tt; start = tt; count = z })

-- ---- the memory

set_below : (n : ℕ) (m : List ℕ) (i x j : ℕ) → get_or m j 0 < n → x < n → get_or (set m i x) j 0 < n
set_below n [] i x j h p = h
set_below n (y ∷ m) zero x zero h p = p
set_below n (y ∷ m) zero x (suc j) h p = h
set_below n (y ∷ m) (suc i) x zero h p = h
set_below n (y ∷ m) (suc i) x (suc j) h p = set_below n m i x j h p

-- what is met has 16 bits, past the end too
pub met_below : (w : Wiring) (ead : ℕ) (m : List ℕ) → Words m → met_by w ead m < 65536
met_below w ead m h = go (dec_lt (word_met w ead (length m)) (length m))
  where
    go : Dec (word_met w ead (length m) < length m) → met_by w ead m < 65536
    go (yes k) = rw (read_inside m (word_met w ead (length m)) 65535 0 k) (h.below (word_met w ead (length m)))
    go (no k) = rw (get_or-eq_default m 65535 {n = word_met w ead (length m)} (omega arith)) (omega arith)

-- a cycle leaves 16-bit words, as many as there were
pub cycle_kept : {board : Board} (n : ℕ) (w : Wiring) (op : Operation) (pattern : ℕ) (r q : Registers) (m : List ℕ)
    → Whole board n (state r m) → SoundSet board q → Whole board n (state q (cycled w op pattern r.cursor m))
cycle_kept n w op pattern r q m h l =
    record {
      regs = l;
      words =
          record {
            below =
                λ j. set_below 65536 m _ _ j (h.words.below j) (combined_lt op (met_by w r.cursor.ead m) r.cursor.mask pattern);
          };
      long = length-set m _ _ ∙ h.long;
    }
