-- The papers are one buffer: a glyph table of at most 4,096 bytes, then a sheet.
use Rattle.std.specs.Prelude.{ℕ, cond, List, ltb, length, take, drop}
use Rattle.buffers.specs.Used.{used_of}

-- n elements of a buffer, or all where it has fewer
abbrev pub part_of : ℕ → List ℕ → List ℕ
part_of n xs = take (used_of n xs) xs

-- the glyph table's n bytes
abbrev pub table_of : List ℕ → ℕ → List ℕ
table_of papers n = part_of n papers

-- the sheet's n bytes, behind "glyph tables up to 4,096 bytes"
unfoldable pub sheet_of : List ℕ → ℕ → List ℕ
sheet_of papers n = cond (ltb (length papers) 4096) papers (part_of n (drop 4096 papers))
