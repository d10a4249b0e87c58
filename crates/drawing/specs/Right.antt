-- Demand 3 of the function that draws a sheet: what its own answer says of the picture. `sheet_is_drawn` and `ready_sheet_is_drawn` of
-- proofs/Right.antt, and `zero_is_drawn` and `cost_is_told` of proofs/Zero.antt, prove the last four definitions of this file from the
-- function's contract and from demand's `picture_is_right`.
use Rattle.std.specs.Prelude.{◌≡◌, true, List, ℕ, ◌+◌, ◌*◌, ◌≤◌, length, get_or, take}
use Rattle.dots.specs.Dot.{dot}
use Rattle.registers.specs.declared.Registers.{Registers}
use Rattle.registers.specs.State.{state}
use Rattle.registers.specs.Sound.{sound_b}
use Rattle.registers.specs.Typed.{Typed, Words}
use Rattle.units.specs.Run.{length_b}
use Rattle.records.specs.declared.Record.{Record}
use Rattle.sheets.specs.Slots.{translation}
use Rattle.sheets.specs.Sheet.{figures_of, translate_def}
use Rattle.geometry.specs.Plane.{InPlane}
use Rattle.sending.specs.Send.{Ready, sent_all, AllAccepted, units_of}
use Rattle.costs.specs.declared.Cost.{Cost}
use Rattle.costs.specs.Cost.{cost_def}
use Rattle.demand.specs.Picture.{figures_made, figures_dots}
use Rattle.demand.specs.Shown.{Bytes}
use Rattle.finishing.specs.Finish.{finished}
use Rattle.drawing.specs.declared.Drawn.{Drawn}
use Rattle.drawing.specs.Draw.{outcome, sheet_drawn}

-- from the registers r and the memory mem the answer q, the entries out and the memory drawn show the figures in a plane of p words by h
-- lines
pub record Right (p h : ℕ) (glyphs : List ℕ) (figures : List Record) (r : Registers) (mem : List ℕ) (q : Drawn)
    (out drawn : List ℕ) : Type 0 where
  -- "Success is number 0"
  pub number : q.number ≡ 0
  -- the lent entries start with the translation, so many entries, and none of them was refused
  pub entries : take q.first out ≡ translation glyphs p figures
  pub first : q.first ≡ length (translation glyphs p figures)
  pub accepted : AllAccepted (state r mem) (translation glyphs p figures)
  -- registers and memory are what they lead to, sent one at a time, and the units are those that their runs report
  pub sent : state q.regs drawn ≡ sent_all (state r mem) (translation glyphs p figures)
  pub counted : q.units ≡ units_of (state r mem) (translation glyphs p figures)
  -- the controller is idle at the end: sound, in write mode, with its buffer empty and nothing being drawn
  pub idle : Ready q.regs
  -- every dot of the picture is what the figures, in order, make of the earlier dot
  pub dots : (x y : ℕ) → InPlane p h x y → dot p x y drawn ≡ figures_made glyphs figures (λ u v. dot p u v mem) x y
  -- every word past the picture is unaltered, and there are as many words as before
  pub words : (j : ℕ) → p * h ≤ j → get_or drawn j 0 ≡ get_or mem j 0
  pub long : length drawn ≡ length mem
  -- words of 16 bits stay words of 16 bits
  pub wide : Words mem → Words drawn
  -- one unit for each entry and one for each dot
  pub units : q.units ≡ q.first + figures_dots figures

-- Take what `draw_sheet` answers, as its contract says it: for a sheet, P and H, glyph bytes and room for the entries that the translator
-- accepts; any sound register set, whatever waits in it or is in progress (`Typed` and `Words` are what the types say); and a memory of
-- a length that is lawful for its wiring and that the picture fits, whatever it holds. Then the picture is drawn over what the earlier work
-- leaves.
abbrev pub SheetIsDrawn : Type 0
SheetIsDrawn =
    (sheet : List ℕ) (p h : ℕ) (glyphs : List ℕ) (r : Registers) (entries mem : List ℕ) (q : Drawn) (out drawn : List ℕ)
    → outcome q out drawn ≡ sheet_drawn sheet p h glyphs r entries mem
    → (translate_def sheet p h glyphs entries).answer.number ≡ 0 → Bytes glyphs
    → sound_b r ≡ true → Typed r → Words mem → length_b r.board.wiring (length mem) ≡ true → p * h ≤ length mem
    → Right p h glyphs (figures_of sheet p h glyphs) (finished (state r mem)).sent.regs (finished (state r mem)).mem q out drawn

-- .. and where the set is in write mode, with its buffer empty and nothing being drawn, over the memory as it is lent
abbrev pub ReadySheetIsDrawn : Type 0
ReadySheetIsDrawn =
    (sheet : List ℕ) (p h : ℕ) (glyphs : List ℕ) (r : Registers) (entries mem : List ℕ) (q : Drawn) (out drawn : List ℕ)
    → outcome q out drawn ≡ sheet_drawn sheet p h glyphs r entries mem
    → (translate_def sheet p h glyphs entries).answer.number ≡ 0 → Bytes glyphs
    → Ready r → Typed r → length_b r.board.wiring (length mem) ≡ true → p * h ≤ length mem
    → Right p h glyphs (figures_of sheet p h glyphs) r mem q out drawn

-- .. and 0 is answered nowhere else: where it is, no entry was refused, and the picture is drawn
abbrev pub ZeroIsDrawn : Type 0
ZeroIsDrawn =
    (sheet : List ℕ) (p h : ℕ) (glyphs : List ℕ) (r : Registers) (entries mem : List ℕ) (q : Drawn) (out drawn : List ℕ)
    → outcome q out drawn ≡ sheet_drawn sheet p h glyphs r entries mem → q.number ≡ 0 → Bytes glyphs → Typed r → Words mem
    → Right p h glyphs (figures_of sheet p h glyphs) (finished (state r mem)).sent.regs (finished (state r mem)).mem q out drawn

-- 02, M-106: .. and its answer was to be had in advance: where it is 0, so is the number that the cost's call answers, c, and the entries
-- and units of both are the same
abbrev pub CostIsTold : Type 0
CostIsTold =
    (sheet : List ℕ) (p h : ℕ) (glyphs : List ℕ) (r : Registers) (entries mem : List ℕ) (q : Drawn) (out drawn : List ℕ)
    → outcome q out drawn ≡ sheet_drawn sheet p h glyphs r entries mem → q.number ≡ 0 → Bytes glyphs → Typed r → Words mem
    → (c : Cost) → c ≡ cost_def sheet p h glyphs → (c.number ≡ 0) × (c.first ≡ q.first) × (c.units ≡ q.units)
