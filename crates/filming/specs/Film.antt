-- The pictures of a replayed record (issue 20): a picture that is made at some moment shows the memory of that moment, dot by dot; and the
-- record of a sheet's listing does what drawing the sheet does. `pixel_is_the_dot` and `listing_is_filmed` of proofs/Film.antt prove the
-- two statements.
use Rattle.std.specs.Prelude.{◌≡◌, true, List, ℕ, ◌+◌, ◌-◌, ◌*◌, ◌/◌, ◌%◌, ◌≤◌, length, get_or, take}
use Rattle.dots.specs.Bit.{bit}
use Rattle.dots.specs.Dot.{dot}
use Rattle.registers.specs.declared.Registers.{Registers}
use Rattle.registers.specs.State.{State, state}
use Rattle.registers.specs.Typed.{Typed}
use Rattle.units.specs.Run.{length_b}
use Rattle.records.specs.declared.Record.{Record}
use Rattle.sheets.specs.Sheet.{figures_of, translate_def}
use Rattle.geometry.specs.Plane.{InPlane}
use Rattle.sending.specs.Send.{Ready}
use Rattle.demand.specs.Picture.{figures_made}
use Rattle.demand.specs.Shown.{Bytes}
use Rattle.bitmap.specs.Image.{image_of}
use Rattle.drawing.specs.declared.Drawn.{Drawn}
use Rattle.drawing.specs.Draw.{sheet_drawn}
use Rattle.drawing.specs.Draw.{outcome as drawnWith}
use Rattle.replaying.specs.Replay.{Outcome, outcome, all_done, replayed}
use Rattle.replaying.specs.Record.{listing_events}

-- pixel (x, y) of the bytes of a portable bitmap with p words a line: eight to a byte, "the leftmost dot in the byte's most significant
-- bit"
abbrev pub pixel_at : ℕ → ℕ → ℕ → List ℕ → ℕ
pixel_at p x y image = bit (7 - x % 8) (get_or image (y * (2 * p) + x / 8) 0)

-- the memory at a moment of a record: after its first k events, however they are lent (`RecordGoesOn`)
abbrev pub memory_at : State → List ℕ → ℕ → List ℕ
memory_at s events k = (all_done s (take k events)).mem

-- "each pixel of each picture is the memory's dot at that moment": of a picture of p words by h lines, which `fill_image` makes of that
-- memory, whatever its bytes were before
abbrev pub PixelIsTheDot : Type 0
PixelIsTheDot =
    (s : State) (events : List ℕ) (k p h : ℕ) (image : List ℕ) → length image ≡ h * (2 * p) → (x y : ℕ) → InPlane p h x y
    → pixel_at p x y (image_of p (memory_at s events k) image) ≡ dot p x y (memory_at s events k)

-- what a sheet's record o leaves, where `draw_sheet` answers q and leaves the memory drawn
pub record Filmed (p h : ℕ) (glyphs : List ℕ) (figures : List Record) (mem : List ℕ) (q : Drawn) (drawn : List ℕ)
    (o : Outcome) : Type 0 where
  -- nothing is refused, two events are taken for each entry, and units, registers and memory are those of `draw_sheet`
  pub same : o ≡ outcome (record { number = 0; taken = 2 * q.first; units = q.units; regs = q.regs }) drawn
  -- every pixel of the picture is what the figures, in order, make of the earlier dot
  pub pixels : (image : List ℕ) → length image ≡ h * (2 * p) → (x y : ℕ) → InPlane p h x y
      → pixel_at p x y (image_of p o.mem image) ≡ figures_made glyphs figures (λ u v. dot p u v mem) x y

-- Take any sheet for which `draw_sheet` answers 0, from a register set in write mode with its buffer empty and nothing being drawn
-- (`Bytes` and `Typed` are what the types say); and the record of the listing of the entries that it wrote, replayed from that set over
-- that memory.
abbrev pub ListingIsFilmed : Type 0
ListingIsFilmed =
    (sheet : List ℕ) (p h : ℕ) (glyphs : List ℕ) (r : Registers) (entries mem : List ℕ) (q : Drawn) (out drawn : List ℕ)
    → drawnWith q out drawn ≡ sheet_drawn sheet p h glyphs r entries mem → q.number ≡ 0 → Bytes glyphs → Ready r → Typed r
    → Filmed p h glyphs (figures_of sheet p h glyphs) mem q drawn (replayed (state r mem) (listing_events (take q.first out)))
