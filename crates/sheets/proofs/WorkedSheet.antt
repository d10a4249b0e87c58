-- 01's bench sheet, by computing: one block, one dot, P 40, H 400, no glyphs, is translated to the thirteen entries of the listing, and the
-- output past them stays; with room for one entry less the answer is 20, 13, 0 and nothing is written.
use Prim.Native.Nat.{ℕ}
use mathlib.Core.Path.{◌≡◌, refl}
use mathlib.Core.List.{List, [], ◌∷◌, ◌++◌}
use lib.ListN.{replicate}
use Rattle.dots.specs.Operation.{operation_of}
use Rattle.records.specs.Decode.{figure_of, decoded_of, decoded_at}
use Rattle.blocks.specs.Answer.{answer, first_from}
use Rattle.blocks.specs.Block.{sum_words, check_of, zeros_b, head_b, block_refusal, blocks_checked}
use Rattle.entries.specs.Entries.{dir_of, slope_of, dot_entries, line_entries, rectangle_entries, glyph_entries, entries_of}
use Rattle.refusals.specs.Refusals.{frame_refusal, slot_refusal, records_checked, sheet_refusal}
use Rattle.sheets.specs.Slots.{slot_figures, figures_from, figures, translated, translation}
use Rattle.sheets.specs.Sheet.{answer_of, Outcome, outcome, translate_def}

-- "Block 0 holds 00 00 01 01, then 01 03 11 00 02 00 00 00 00 00, zeros, and 49 20 at its end"
pub sheet : List ℕ
sheet = 0x00 ∷ 0x00 ∷ 0x01 ∷ 0x01 ∷ 0x01 ∷ 0x03 ∷ 0x11 ∷ 0x00 ∷ 0x02 ∷ 0x00 ∷ 0x00 ∷ 0x00 ∷ 0x00 ∷ 0x00 ∷ replicate 496 0 ++ 0x49 ∷ 0x20 ∷
    []

-- "C 47, P 28, C 23, C 49, P 51, P 00, P 10, C 78, P FF, P FF, C 4C, P 02, C 6C"
pub listing : List ℕ
listing = 0x147 ∷ 0x28 ∷ 0x123 ∷ 0x149 ∷ 0x51 ∷ 0x00 ∷ 0x10 ∷ 0x178 ∷ 0xFF ∷ 0xFF ∷ 0x14C ∷ 0x02 ∷ 0x16C ∷ []

pub worked_sheet : ◌≡◌ {A = List Outcome}
    (translate_def sheet 40 400 [] (replicate 15 7) ∷ translate_def sheet 40 400 [] (replicate 12 7) ∷ [])
    (outcome (answer 0 13 0) (listing ++ 7 ∷ 7 ∷ []) ∷ outcome (answer 20 13 0) (replicate 12 7) ∷ [])
unfolding sheet listing operation_of figure_of decoded_of decoded_at sum_words check_of zeros_b head_b block_refusal first_from
    blocks_checked dir_of slope_of dot_entries line_entries rectangle_entries glyph_entries entries_of slot_refusal records_checked
    slot_figures
    figures_from figures translated translation frame_refusal sheet_refusal answer_of translate_def
worked_sheet = refl
