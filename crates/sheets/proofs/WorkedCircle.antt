-- A sheet of one circle, by computing: radius 3 about (17, 18), P 40, H 400. Its largest i is 2, whose dot lies 2 out, so the odd arcs have
-- DC 1 and DM 1. They start at the left, top, bottom, left, right, bottom, top and right end. With room for one entry less the answer is 20
-- and the 163 entries needed; and for a plane of 21 lines, which its lowest dot is below, it is 19.
use Prim.Native.Nat.{ℕ}
use mathlib.Core.Path.{◌≡◌, refl}
use mathlib.Core.List.{List, [], ◌∷◌, ◌++◌}
use lib.ListN.{replicate}
use Rattle.dots.specs.Operation.{operation_of}
use Rattle.circles.specs.Circle.{out_below, circle_out, last_below, largest, coincide, arc_dm, arc_dc}
use Rattle.records.specs.Decode.{figure_of, decoded_of, decoded_at}
use Rattle.blocks.specs.Answer.{answer, first_from}
use Rattle.blocks.specs.Block.{sum_words, check_of, zeros_b, head_b, block_refusal, blocks_checked}
use Rattle.entries.specs.Entries.{arc_entries, arcs_from, circle_entries, entries_of}
use Rattle.refusals.specs.Refusals.{frame_refusal, slot_refusal, records_checked, sheet_refusal}
use Rattle.sheets.specs.Slots.{slot_figures, figures_from, figures, translated, translation}
use Rattle.sheets.specs.Sheet.{answer_of, Outcome, outcome, translate_def}

-- one block of one record: kind 5, operation 3, x 17, y 18, radius 3, two zero bytes
pub sheet : List ℕ
sheet = 0x00 ∷ 0x00 ∷ 0x01 ∷ 0x01 ∷ 0x05 ∷ 0x03 ∷ 0x11 ∷ 0x00 ∷ 0x12 ∷ 0x00 ∷ 0x03 ∷ 0x00 ∷ 0x00 ∷ 0x00 ∷ replicate 496 0 ++ 0x60 ∷ 0x20 ∷
    []

-- PITCH, WDAT, and the arcs of DIR 0 to 7: CURS and PRAM on one line, FIGS and FIGD on the next
pub listing : List ℕ
listing = 0x147 ∷ 0x28 ∷ 0x123
    ∷ 0x149 ∷ 0xD0 ∷ 0x02 ∷ 0xE0 ∷ 0x178 ∷ 0xFF ∷ 0xFF
    ∷ 0x14C ∷ 0x20 ∷ 0x02 ∷ 0x00 ∷ 0x02 ∷ 0x00 ∷ 0x04 ∷ 0x00 ∷ 0xFF ∷ 0x3F ∷ 0x00 ∷ 0x00 ∷ 0x16C
    ∷ 0x149 ∷ 0x59 ∷ 0x02 ∷ 0x10 ∷ 0x178 ∷ 0xFF ∷ 0xFF
    ∷ 0x14C ∷ 0x21 ∷ 0x01 ∷ 0x00 ∷ 0x02 ∷ 0x00 ∷ 0x04 ∷ 0x00 ∷ 0xFF ∷ 0x3F ∷ 0x01 ∷ 0x00 ∷ 0x16C
    ∷ 0x149 ∷ 0x49 ∷ 0x03 ∷ 0x10 ∷ 0x178 ∷ 0xFF ∷ 0xFF
    ∷ 0x14C ∷ 0x22 ∷ 0x02 ∷ 0x00 ∷ 0x02 ∷ 0x00 ∷ 0x04 ∷ 0x00 ∷ 0xFF ∷ 0x3F ∷ 0x00 ∷ 0x00 ∷ 0x16C
    ∷ 0x149 ∷ 0xD0 ∷ 0x02 ∷ 0xE0 ∷ 0x178 ∷ 0xFF ∷ 0xFF
    ∷ 0x14C ∷ 0x23 ∷ 0x01 ∷ 0x00 ∷ 0x02 ∷ 0x00 ∷ 0x04 ∷ 0x00 ∷ 0xFF ∷ 0x3F ∷ 0x01 ∷ 0x00 ∷ 0x16C
    ∷ 0x149 ∷ 0xD1 ∷ 0x02 ∷ 0x40 ∷ 0x178 ∷ 0xFF ∷ 0xFF
    ∷ 0x14C ∷ 0x24 ∷ 0x02 ∷ 0x00 ∷ 0x02 ∷ 0x00 ∷ 0x04 ∷ 0x00 ∷ 0xFF ∷ 0x3F ∷ 0x00 ∷ 0x00 ∷ 0x16C
    ∷ 0x149 ∷ 0x49 ∷ 0x03 ∷ 0x10 ∷ 0x178 ∷ 0xFF ∷ 0xFF
    ∷ 0x14C ∷ 0x25 ∷ 0x01 ∷ 0x00 ∷ 0x02 ∷ 0x00 ∷ 0x04 ∷ 0x00 ∷ 0xFF ∷ 0x3F ∷ 0x01 ∷ 0x00 ∷ 0x16C
    ∷ 0x149 ∷ 0x59 ∷ 0x02 ∷ 0x10 ∷ 0x178 ∷ 0xFF ∷ 0xFF
    ∷ 0x14C ∷ 0x26 ∷ 0x02 ∷ 0x00 ∷ 0x02 ∷ 0x00 ∷ 0x04 ∷ 0x00 ∷ 0xFF ∷ 0x3F ∷ 0x00 ∷ 0x00 ∷ 0x16C
    ∷ 0x149 ∷ 0xD1 ∷ 0x02 ∷ 0x40 ∷ 0x178 ∷ 0xFF ∷ 0xFF
    ∷ 0x14C ∷ 0x27 ∷ 0x01 ∷ 0x00 ∷ 0x02 ∷ 0x00 ∷ 0x04 ∷ 0x00 ∷ 0xFF ∷ 0x3F ∷ 0x01 ∷ 0x00 ∷ 0x16C
    ∷ []

pub worked_circle : ◌≡◌ {A = List Outcome}
    (translate_def sheet 40 400 [] (replicate 164 7) ∷ translate_def sheet 40 400 [] (replicate 162 7) ∷ translate_def sheet 40 21 [] []
    ∷ [])
    (outcome (answer 0 163 0) (listing ++ 7 ∷ []) ∷ outcome (answer 20 163 0) (replicate 162 7) ∷ outcome (answer 19 0 0) [] ∷ [])
unfolding sheet listing operation_of figure_of decoded_of decoded_at sum_words check_of zeros_b head_b block_refusal first_from
    blocks_checked out_below circle_out last_below largest coincide arc_dm arc_dc arc_entries arcs_from circle_entries entries_of
    slot_refusal
    records_checked slot_figures figures_from figures translated translation frame_refusal sheet_refusal answer_of translate_def
worked_circle = refl
