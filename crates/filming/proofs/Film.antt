-- A picture shows the memory that it is made of, by bitmap's `pixel_right`, whatever the record did before. And the entries that
-- `draw_sheet` wrote are all accepted, so that their listing's record sends them (`listing_is_sent`), as `draw_sheet` does.
use mathlib.Core.Path.{◌≡◌, sym, ap, ◌∙◌}
use mathlib.Core.List.{List}
use Prim.Native.Nat.{ℕ, suc, ◌+◌, ◌*◌, ◌/◌, ◌<◌, ◌≤◌}
use native.Mathlib.Nat.{suc-mul, mul-le-mul_right}
use native.Mathlib.Omega.{arith}
use lib.ListN.{length}
use Rattle.dots.specs.Dot.{dot}
use Rattle.registers.specs.State.{State, state}
use Rattle.sheets.specs.Slots.{translation}
use Rattle.sheets.specs.Sheet.{figures_of}
use Rattle.geometry.specs.Plane.{InPlane}
use Rattle.sending.specs.Send.{units_of}
use Rattle.bitmap.specs.Image.{image_of}
use Rattle.bitmap.proofs.PixelLaws.{pixel_right}
use Rattle.drawing.specs.Draw.{Outcome as Drawing}
use Rattle.drawing.proofs.Right.{few, ready_sheet_is_drawn}
use Rattle.drawing.proofs.Zero.{zero_granted, zero_fits}
use Rattle.replaying.specs.Replay.{Outcome, outcome, most_replayed, replayed}
use Rattle.replaying.specs.Record.{listing_events}
use Rattle.replaying.proofs.ListingLaws.{listing_is_sent}
use Rattle.filming.specs.Film.{pixel_at, memory_at, PixelIsTheDot, ListingIsFilmed}

-- the byte of a dot in the plane lies in the image
byte_inside : (p h x y : ℕ) → InPlane p h x y → y * (2 * p) + x / 8 < h * (2 * p)
byte_inside p h x y i =
    let most : suc y * (2 * p) ≤ h * (2 * p) = mul-le-mul_right (2 * p) i.row in
    let next : suc y * (2 * p) ≡ y * (2 * p) + 2 * p = suc-mul y (2 * p) in
    let across : x / 8 < 2 * p = omega (arith, i.column) in
    omega arith

pixel_shows : (p h : ℕ) (mem image : List ℕ) → length image ≡ h * (2 * p) → (x y : ℕ) → InPlane p h x y
    → pixel_at p x y (image_of p mem image) ≡ dot p x y mem
pixel_shows p h mem image long x y i = pixel_right p mem image x y i.column (rw long (byte_inside p h x y i))

pub pixel_is_the_dot : PixelIsTheDot
pixel_is_the_dot s events k p h image long x y i = pixel_shows p h (memory_at s events k) image long x y i

pub listing_is_filmed : ListingIsFilmed
listing_is_filmed sheet p h glyphs r entries mem q out drawn e z bytes ready typed =
    let g = zero_granted sheet p h glyphs r entries mem (ap (λ (o : Drawing). o.drawn.number) (sym e) ∙ z) in
    let v =
    ready_sheet_is_drawn sheet p h glyphs r entries mem q out drawn e g.accepted bytes ready typed g.long
    (zero_fits sheet p h glyphs r entries mem g) in
    let l = translation glyphs p (figures_of sheet p h glyphs) in
    let short : 2 * length l ≤ most_replayed = omega (arith, few sheet p h glyphs entries g.accepted bytes) in
    let same =
    ap (λ (k : List ℕ). replayed (state r mem) (listing_events k)) v.entries
    ∙ listing_is_sent (state r mem) l ready.sound g.long short v.accepted
    ∙ ap (λ (t : State). outcome (record { number = 0; taken = 2 * length l; units = units_of (state r mem) l; regs = t.regs }) t.mem)
    (sym v.sent)
    ∙ ap (λ (u : ℕ). outcome (record { number = 0; taken = 2 * length l; units = u; regs = q.regs }) drawn) (sym v.counted)
    ∙ ap (λ (n : ℕ). outcome (record { number = 0; taken = 2 * n; units = q.units; regs = q.regs }) drawn) (sym v.first) in
    record {
      same = same;
      pixels = λ image wide x y i.
          ap (λ (o : Outcome). pixel_at p x y (image_of p o.mem image)) same ∙ pixel_shows p h drawn image wide x y i ∙ v.dots x y i;
    }
