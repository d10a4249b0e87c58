-- 01, Drawing sheets: where a sheet's numbers stand, and the kinds of records. A byte past the sheet's end reads 0 (no sheet that passes
-- the
-- check of its length is read there).
use Rattle.std.specs.Prelude.{ℕ, ◌+◌, ◌*◌, List, get_or}
use Rattle.records.specs.declared.Raw.{Raw}

abbrev pub byte_at : List ℕ → ℕ → ℕ
byte_at s at = get_or s at 0

-- "numbers unsigned, little-endian"
abbrev pub word_at : List ℕ → ℕ → ℕ
word_at s at = byte_at s at + 256 * byte_at s (at + 1)

-- "blocks of 512 bytes", "4-503 fifty records of ten bytes"
abbrev pub record_place : ℕ → ℕ → ℕ
record_place b i = 512 * b + 4 + 10 * i

-- "A record: kind, operation 0 to 3, x, y, four bytes." The four bytes are x1, y1, or a glyph's "number, factor 1 to 16, two zeros"; a
-- circle's radius stands where x1 does
abbrev pub raw_at : List ℕ → ℕ → Raw
raw_at s at =
    record {
      kind = byte_at s at;
      op = byte_at s (at + 1);
      x = word_at s (at + 2);
      y = word_at s (at + 4);
      x1 = word_at s (at + 6);
      y1 = word_at s (at + 8);
      number = byte_at s (at + 6);
      factor = byte_at s (at + 7);
    }

-- "Kinds: 1 dot (four zeros); 2 line to x1, y1; 3 rectangle to any opposite corner x1, y1; 4 glyph (number, factor 1 to 16, two zeros)"
abbrev pub dot_kind : ℕ
dot_kind = 1

abbrev pub line_kind : ℕ
line_kind = 2

abbrev pub rectangle_kind : ℕ
rectangle_kind = 3

abbrev pub glyph_kind : ℕ
glyph_kind = 4

-- 02, M-100: "Sheet record kind 5 is a circle about x, y, radius 1 to 2,000, two zero bytes"
abbrev pub circle_kind : ℕ
circle_kind = 5
