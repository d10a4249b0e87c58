-- Demand 3: the picture is what the figures say. `picture_is_right` and `lawful_sheet_is_shown` of
-- proofs/Whole.antt prove the last two definitions of this file.
use Rattle.std.specs.Prelude.{◌≡◌, true, List, ℕ, ◌+◌, ◌*◌, ◌≤◌, ◌<◌, length, get_or, take}
use Rattle.dots.specs.Dot.{dot}
use Rattle.registers.specs.declared.Registers.{Registers}
use Rattle.registers.specs.State.{State, state}
use Rattle.registers.specs.Typed.{Typed, Words}
use Rattle.units.specs.Run.{length_b}
use Rattle.records.specs.declared.Record.{Record}
use Rattle.blocks.specs.declared.Answer.{Answer}
use Rattle.sheets.specs.Lawful.{Lawful}
use Rattle.sheets.specs.Slots.{translation}
use Rattle.sheets.specs.Sheet.{figures_of, outcome, translate_def}
use Rattle.geometry.specs.Plane.{InPlane}
use Rattle.sending.specs.Send.{Ready, sent_all, AllAccepted, units_of}
use Rattle.demand.specs.Picture.{figures_made, figures_dots}

-- entries sent one at a time to the controller s draw the figures, glyphs from the table, in a plane of p words by h lines
pub record Shown (p h : ℕ) (table : List ℕ) (figures : List Record) (entries : List ℕ) (s : State) : Type 0 where
  -- no entry is refused, and each run ends with nothing in progress or queued
  pub accepted : AllAccepted s entries
  -- the controller is idle at the end: sound, in write mode, with its buffer empty and nothing being drawn
  pub idle : Ready (sent_all s entries).regs
  -- every dot of the picture is what the figures, in order, make of the earlier dot
  pub dots : (x y : ℕ) → InPlane p h x y → dot p x y (sent_all s entries).mem ≡ figures_made table figures (λ u v. dot p u v s.mem) x y
  -- every word past the picture is unaltered, and there are as many words as before
  pub words : (j : ℕ) → p * h ≤ j → get_or (sent_all s entries).mem j 0 ≡ get_or s.mem j 0
  pub long : length (sent_all s entries).mem ≡ length s.mem
  -- words of 16 bits stay words of 16 bits
  pub wide : Words s.mem → Words (sent_all s entries).mem
  -- the runs report one unit for each entry and one for each dot
  pub units : units_of s entries ≡ length entries + figures_dots figures

-- "Glyph table: lent bytes": each is below 256
abbrev pub Bytes : List ℕ → Type 0
Bytes table = (j : ℕ) → get_or table j 0 < 256

-- Take a sheet, P and H, glyph bytes and an output for which the translator answers 0; a register set that is sound, in write mode, with
-- its buffer empty and nothing being drawn, whatever else it holds (`Typed` is what its types say); and a memory of a length
-- that is lawful for its wiring (02, M-108) and that the picture fits, whatever it holds. Then the entries that the translator wrote draw
-- the sheet's figures.
abbrev pub PictureIsRight : Type 0
PictureIsRight =
    (sheet : List ℕ) (p h : ℕ) (table out written : List ℕ) (a : Answer)
    → outcome a written ≡ translate_def sheet p h table out → a.number ≡ 0 → Bytes table
    → (r : Registers) (mem : List ℕ) → Ready r → Typed r → length_b r.board.wiring (length mem) ≡ true → p * h ≤ length mem
    → Shown p h table (figures_of sheet p h table) (take a.first written) (state r mem)

-- The same from 01's words on: take a sheet that 01 accepts for P, H and the glyph bytes (`Lawful`), an output long enough for its
-- translation, and such a register set and memory. Then the translator answers 0, and the entries that it wrote draw the sheet's figures.
abbrev pub LawfulSheetIsShown : Type 0
LawfulSheetIsShown =
    (sheet : List ℕ) (p h : ℕ) (table out : List ℕ) → Lawful sheet p h table
    → length (translation table p (figures_of sheet p h table)) ≤ length out → Bytes table
    → (r : Registers) (mem : List ℕ) → Ready r → Typed r → length_b r.board.wiring (length mem) ≡ true → p * h ≤ length mem
    → ((translate_def sheet p h table out).answer.number ≡ 0)
    × Shown p h table (figures_of sheet p h table)
    (take (translate_def sheet p h table out).answer.first (translate_def sheet p h table out).out) (state r mem)
