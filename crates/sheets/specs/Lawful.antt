-- A sheet that 01, with 02's circles (M-100), accepts: its conditions in the order of its table of refusals, each a line, and no word of
-- how the translator looks.
-- `accepts`, `tells_need` and `accepted_only` of proofs/AcceptLaws show that the translator answers 0, or 20 where the output is too short,
-- exactly for these.
use Rattle.std.specs.Prelude.{◌≡◌, true, cond, List, ℕ, ◌+◌, ◌*◌, ◌/◌, ◌%◌, ◌<◌, ◌≤◌, eqb, length}
use Rattle.geometry.specs.Plane.{InMoved, Shape, dot_on, line_on, border_on, square_on, circle_on}
use Rattle.records.specs.declared.Raw.{Raw}
use Rattle.records.specs.Raw.{byte_at, word_at, record_place, raw_at, dot_kind, line_kind, rectangle_kind, glyph_kind, circle_kind}
use Rattle.blocks.specs.Block.{sum_words, count_of}

-- block b of n
pub record LawfulBlock (s : List ℕ) (n b : ℕ) : Type 0 where
  -- 14: "510-511 the check: the sum of the 255 words before it plus 7220, modulo 65,536"
  pub check : word_at s (512 * b + 510) ≡ (sum_words 255 s (512 * b) + 7220) % 65536
  -- 15, the heading: "Bytes 0-1 block number from 0"
  pub number : word_at s (512 * b) ≡ b
  -- "2 figure count 0 to 50"
  pub count : byte_at s (512 * b + 2) ≤ 50
  -- "3 is 1 in the last block, else 0"
  pub last : b + 1 ≡ n → byte_at s (512 * b + 3) ≡ 1
  pub not_last : (b + 1 ≡ n → ⊥) → byte_at s (512 * b + 3) ≡ 0
  -- the spare bytes: "504-509 zero"
  pub spare : (j : ℕ) → 504 ≤ j → j < 510 → byte_at s (512 * b + j) ≡ 0
  -- "4-503 fifty records of ten bytes, unused ones zero"
  pub unused : (i j : ℕ) → count_of s b ≤ i → i < 50 → j < 10 → byte_at s (record_place b i + j) ≡ 0

-- the dots of a record moved right and down by k, by its kind: "1 dot"; "2 line to x1, y1"; "3 rectangle to any opposite corner
-- x1, y1"; "4 glyph"; else "a circle about x, y", whose radius stands where x1 does
abbrev pub record_on : Raw → ℕ → Shape
record_on r k =
    cond (eqb r.kind dot_kind) (dot_on (r.x + k) (r.y + k))
    (cond (eqb r.kind line_kind) (line_on (r.x + k) (r.y + k) (r.x1 + k) (r.y1 + k))
    (cond (eqb r.kind rectangle_kind) (border_on (r.x + k) (r.y + k) (r.x1 + k) (r.y1 + k))
    (cond (eqb r.kind glyph_kind) (square_on (r.x + k) (r.y + k) r.factor) (circle_on (r.x + k) (r.y + k) r.x1))))

-- a record within its block's count, for a plane of P words by H lines and so many glyphs
pub record LawfulRecord (p h glyphs : ℕ) (r : Raw) : Type 0 where
  -- 16, the form: kinds 1 to 5
  pub least_kind : dot_kind ≤ r.kind
  pub greatest_kind : r.kind ≤ circle_kind
  -- "operation 0 to 3"
  pub operation : r.op ≤ 3
  -- "1 dot (four zeros)"
  pub dot_zeros : r.kind ≡ dot_kind → (r.x1 ≡ 0) × (r.y1 ≡ 0)
  -- "4 glyph (number, factor 1 to 16, two zeros)"
  pub glyph_zeros : r.kind ≡ glyph_kind → r.y1 ≡ 0
  -- "kind 5 is a circle about x, y, radius 1 to 2,000, two zero bytes"
  pub circle_zeros : r.kind ≡ circle_kind → r.y1 ≡ 0
  -- 17: the table has the glyph
  pub number : r.kind ≡ glyph_kind → r.number < glyphs
  -- 18: "factor 1 to 16"; "also for a radius out of range"
  pub factor : r.kind ≡ glyph_kind → (1 ≤ r.factor) × (r.factor ≤ 16)
  pub radius : r.kind ≡ circle_kind → (1 ≤ r.x1) × (r.x1 ≤ 2000)
  -- 19: no dot outside, whatever k the record and the plane are moved by; so no dot lies left of the plane or above it either
  pub inside : (k x y : ℕ) → record_on r k x y ≡ true → InMoved k p h x y

-- the sheet s, for a plane of P words by H lines and the glyph table t
pub record Lawful (s : List ℕ) (p h : ℕ) (t : List ℕ) : Type 0 where
  -- 11: "P 1 to 255, H 1 to 4,096, P·H at most 262,144"
  pub some_words : 1 ≤ p
  pub words : p ≤ 255
  pub some_lines : 1 ≤ h
  pub lines : h ≤ 4096
  pub area : p * h ≤ 262144
  -- 12: glyph bytes a "multiple of 8", at most 2,048
  pub glyphs_whole : length t % 8 ≡ 0
  pub glyphs : length t ≤ 2048
  -- 13: "A sheet is 1 to 16 blocks of 512 bytes"
  pub blocks_whole : length s % 512 ≡ 0
  pub some_blocks : 1 ≤ length s / 512
  pub few_blocks : length s / 512 ≤ 16
  -- 14 and 15, each block
  pub blocks : (b : ℕ) → b < length s / 512 → LawfulBlock s (length s / 512) b
  -- 16 to 19, each record within its block's count; "Glyph table: lent bytes, eight per glyph"
  pub records : (b i : ℕ) → b < length s / 512 → i < count_of s b → LawfulRecord p h (length t / 8) (raw_at s (record_place b i))
