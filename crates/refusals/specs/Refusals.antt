-- 01, Numbers of refusal, 11 to 19 in table order. The records of a sheet are its slots in order: slot k is record k % 50 of block k / 50.
use Rattle.std.specs.Prelude.{ℕ, ◌*◌, ◌/◌, ◌%◌, List, Bool, cond, ◌&&◌, eqb, ltb, leb, length}
use Rattle.records.specs.declared.Room.{Room}
use Rattle.records.specs.Raw.{record_place}
use Rattle.records.specs.Decode.{Decoded, decoded_at}
use Rattle.records.specs.Inside.{judged}
use Rattle.records.specs.Refused.{number_of}
use Rattle.blocks.specs.declared.Answer.{Answer}
use Rattle.blocks.specs.Answer.{answer, refusal_unless, or_else, first_from}
use Rattle.blocks.specs.Block.{count_of, blocks_checked}

-- 11: "P 1 to 255, H 1 to 4,096, P·H at most 262,144"
abbrev pub plane_b : ℕ → ℕ → Bool
plane_b p h = leb 1 p && leb p 255 && leb 1 h && leb h 4096 && leb (p * h) 262144

-- 12: "glyph bytes not a multiple of 8, or over 2,048"
abbrev pub table_b : ℕ → Bool
table_b g = eqb (g % 8) 0 && leb g 2048

-- 13: "A sheet is 1 to 16 blocks of 512 bytes"
abbrev pub sheet_length_b : ℕ → Bool
sheet_length_b l = eqb (l % 512) 0 && leb 1 (l / 512) && leb (l / 512) 16

-- "11 | P, H or P·H out of range | 0, 0"
abbrev pub plane_refusal : ℕ → ℕ → Answer
plane_refusal p h = refusal_unless (plane_b p h) 11

-- "12 | glyph bytes not a multiple of 8, or over 2,048 | 0, 0"
abbrev pub table_refusal : ℕ → Answer
table_refusal g = refusal_unless (table_b g) 12

-- "13 | sheet length wrong | 0, 0"
abbrev pub length_refusal : ℕ → Answer
length_refusal l = refusal_unless (sheet_length_b l) 13

-- 11, then 12, then 13
unfoldable pub frame_refusal : ℕ → ℕ → ℕ → ℕ → Answer
frame_refusal p h g l = or_else (plane_refusal p h) (or_else (table_refusal g) (length_refusal l))

-- "P words by H lines" of 16 dots a word; "Glyph table: lent bytes, eight per glyph"
abbrev pub room_of : ℕ → ℕ → ℕ → Room
room_of p h g = record { across = 16 * p; down = h; glyphs = g / 8 }

abbrev pub place_of : ℕ → ℕ
place_of k = record_place (k / 50) (k % 50)

-- "2 figure count": the block's records below it are its figures
abbrev pub used_b : List ℕ → ℕ → Bool
used_b s k = ltb (k % 50) (count_of s (k / 50))

-- what a slot's record stands for: 16 to 18 by its bytes, then 19 in the plane
abbrev pub slot_decoded : List ℕ → Room → ℕ → Decoded
slot_decoded s m k = judged m (decoded_at s (place_of k) m.glyphs)

-- the number of a record's refusal, 0 for none
unfoldable pub slot_refusal : List ℕ → Room → ℕ → ℕ
slot_refusal s m k = cond (used_b s k) (number_of (slot_decoded s m k)) 0

-- "16, 17, 18, 19 | .. | block, record"
abbrev pub slot_answer : List ℕ → Room → ℕ → Answer
slot_answer s m k = answer (slot_refusal s m k) (k / 50) (k % 50)

-- "16 to 19 record by record over the sheet"; "fifty records" in each of n blocks
unfoldable pub records_checked : List ℕ → Room → ℕ → Answer
records_checked s m n = first_from (slot_answer s m) (50 * n) 0

-- 11 to 19, a sheet's refusals, 0, 0, 0 for none: "Checks run in table order; 14 and 15 block by block, then 16 to 19 record by record
-- over the sheet"
unfoldable pub sheet_refusal : List ℕ → ℕ → ℕ → List ℕ → Answer
sheet_refusal s p h t =
    or_else (frame_refusal p h (length t) (length s))
    (or_else (blocks_checked s (length s / 512)) (records_checked s (room_of p h (length t)) (length s / 512)))
