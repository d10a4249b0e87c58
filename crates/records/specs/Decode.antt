-- 01, Drawing sheets and Numbers of refusal, and 02's M-100: what a record stands for, and 16 to 18 in their order. The plane has no part
-- in it: 19 is a test of the figure (specs/Inside).
use Rattle.std.specs.Prelude.{ℕ, List, Bool, cond, not, ◌&&◌, ◌||◌, eqb, ltb, leb, Result, Ok, Err}
use Rattle.dots.specs.Operation.{operation_of}
use Rattle.records.specs.declared.Raw.{Raw}
use Rattle.records.specs.declared.Point.{Point}
use Rattle.records.specs.declared.Figure.{Figure}
use Rattle.records.specs.declared.Figure.TheVariants.{Dot, Line, Rectangle, Glyph, Circle}
use Rattle.records.specs.declared.Record.{Record}
use Rattle.records.specs.declared.Refusal.{Refusal}
use Rattle.records.specs.declared.Refusal.TheVariants.{Form, GlyphNumber, Factor, Radius}
use Rattle.records.specs.Raw.{raw_at, dot_kind, line_kind, rectangle_kind, glyph_kind, circle_kind}

abbrev pub point : ℕ → ℕ → Point
point x y = record { x = x; y = y }

-- 16, the "record's form": kinds 1 to 5; "operation 0 to 3"; "1 dot (four zeros)"; "4 glyph (number, factor 1 to 16, two zeros)"; "kind 5
-- is a circle .. two zero bytes"
abbrev pub record_form_b : Raw → Bool
record_form_b r =
    leb dot_kind r.kind && leb r.kind circle_kind && leb r.op 3
    && (not (eqb r.kind dot_kind) || (eqb r.x1 0 && eqb r.y1 0))
    && (not (eqb r.kind glyph_kind) || eqb r.y1 0) && (not (eqb r.kind circle_kind) || eqb r.y1 0)

-- 17, "glyph number": a glyph's is one of the table's
abbrev pub known_b : Raw → ℕ → Bool
known_b r glyphs = not (eqb r.kind glyph_kind) || ltb r.number glyphs

-- 18: a glyph's "factor 1 to 16"
abbrev pub factor_b : Raw → Bool
factor_b r = not (eqb r.kind glyph_kind) || (leb 1 r.factor && leb r.factor 16)

-- "18 also for a radius out of range": a circle's "radius 1 to 2,000"
abbrev pub radius_b : Raw → Bool
radius_b r = not (eqb r.kind circle_kind) || (leb 1 r.x1 && leb r.x1 2000)

-- "1 dot", "2 line to x1, y1", "3 rectangle to any opposite corner x1, y1", "4 glyph (number, factor ..)", "5 is a circle about x, y"
unfoldable pub figure_of : Raw → Figure
figure_of r =
    cond (eqb r.kind dot_kind) (Dot (point r.x r.y))
    (cond (eqb r.kind line_kind) (Line (point r.x r.y) (point r.x1 r.y1))
    (cond (eqb r.kind rectangle_kind) (Rectangle (point r.x r.y) (point r.x1 r.y1))
    (cond (eqb r.kind glyph_kind) (Glyph (point r.x r.y) r.number r.factor) (Circle (point r.x r.y) r.x1))))

-- what a record stands for, or why it is refused
abbrev pub Decoded : Type 0
Decoded = Result Record Refusal

-- 16, then 17, then 18; else the figure with its operation
unfoldable pub decoded_of : Raw → ℕ → Decoded
decoded_of r glyphs =
    cond (record_form_b r)
    (cond (known_b r glyphs)
    (cond (factor_b r)
    (cond (radius_b r) (Ok (record { op = operation_of r.op; figure = figure_of r })) (Err Radius)) (Err Factor))
    (Err GlyphNumber))
    (Err Form)

unfoldable pub decoded_at : List ℕ → ℕ → ℕ → Decoded
decoded_at s at glyphs = decoded_of (raw_at s at) glyphs
