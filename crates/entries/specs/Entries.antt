-- 01, Drawing sheets, Translation, and 02's M-100: the entries for one figure. "16-bit entries, commands are the byte + 256".
use Rattle.std.specs.Prelude.{ℕ, zero, suc, ◌+◌, ◌-◌, ◌*◌, ◌/◌, ◌%◌, min, max, List, [], ◌∷◌, ◌++◌, Bool, false, cond, ◌&&◌, ◌||◌, eqb, leb}
use Rattle.std.specs.Prelude.{get_or}
use Rattle.std.proofs.lemmas.List.Edits.{sets}
use Rattle.dots.specs.Operation.{operation_number}
use Rattle.circles.specs.Circle.{arc_dm, arc_dc, end_x, end_y}
use Rattle.records.specs.declared.Point.{Point}
use Rattle.records.specs.declared.Record.{Record}
use Rattle.records.specs.declared.Figure.{Figure}
use Rattle.records.specs.declared.Figure.TheVariants.{Dot, Line, Rectangle, Glyph, Circle}
use Rattle.entries.specs.declared.Slope.{Slope}

-- "commands are the byte + 256": "WDAT 20 + 8·type + operation" of a word, the operation to be added; "ZOOM 46", "PITCH 47",
-- "CURS 49", "FIGS 4C", "GCHRD 68", "FIGD 6C"; "PRAM 70 + address", the address being 8
abbrev pub wdat_code : ℕ
wdat_code = 0x120

abbrev pub zoom_code : ℕ
zoom_code = 0x146

abbrev pub pitch_code : ℕ
pitch_code = 0x147

abbrev pub curs_code : ℕ
curs_code = 0x149

abbrev pub figs_code : ℕ
figs_code = 0x14C

abbrev pub gchrd_code : ℕ
gchrd_code = 0x168

abbrev pub figd_code : ℕ
figd_code = 0x16C

abbrev pub pram_code : ℕ
pram_code = 0x178

-- ---- what every figure starts with

-- "dot (x, y) is bit x mod 16 of word y·P + x div 16"
abbrev pub ead_of : ℕ → Point → ℕ
ead_of p a = a.y * p + a.x / 16

-- "CURS (3 bytes)": EAD's low byte, its middle byte, and "bits 7-4 dot address n", "bits 1-0 EAD's top"
abbrev pub cursor_entries : ℕ → ℕ → List ℕ
cursor_entries e x = curs_code ∷ (e % 256) ∷ (e / 256 % 256) ∷ (x % 16 * 16 + e / 65536 % 4) ∷ []

-- "for dots, lines, rectangles CURS (3 bytes), PRAM 8 with FF FF"
abbrev pub head_entries : ℕ → Point → List ℕ
head_entries p a = cursor_entries (ead_of p a) a.x ++ pram_code ∷ 0xFF ∷ 0xFF ∷ []

-- "both bytes of each number", low byte first
abbrev pub both : ℕ → List ℕ
both n = (n % 256) ∷ (n / 256 % 256) ∷ []

-- x - n in the 14 bits of DC, D, D2, D1, DM
abbrev pub minus14 : ℕ → ℕ → ℕ
minus14 x n = (x + 16384 - n % 16384) % 16384

-- ---- dots

-- "FIGS: dot 02", FIGD
unfoldable pub dot_entries : ℕ → Point → List ℕ
dot_entries p a = head_entries p a ++ figs_code ∷ 0x02 ∷ figd_code ∷ []

-- ---- lines

abbrev pub distance : ℕ → ℕ → ℕ
distance a b = (a - b) + (b - a)

-- which way b lies from a (both ways at distance 0), and which distance is the larger (both where they are equal)
abbrev pub right_b : Point → Point → Bool
right_b a b = leb a.x b.x

abbrev pub left_b : Point → Point → Bool
left_b a b = leb b.x a.x

abbrev pub down_b : Point → Point → Bool
down_b a b = leb a.y b.y

abbrev pub up_b : Point → Point → Bool
up_b a b = leb b.y a.y

abbrev pub tall_b : Point → Point → Bool
tall_b a b = leb (distance a.x b.x) (distance a.y b.y)

abbrev pub wide_b : Point → Point → Bool
wide_b a b = leb (distance a.y b.y) (distance a.x b.x)

-- A DIR fits where its axis is the way of the larger distance and its diagonal adds the way of the smaller: "For even DIR the axis is DIR
-- and
-- the diagonal DIR + 1; for odd, the axis is DIR + 1 mod 8 and the diagonal DIR", "0 to 7: down, down-right, right, up-right, up, up-left,
-- left, down-left"
abbrev pub dir_fits : ℕ → Point → Point → Bool
dir_fits d a b =
    cond (eqb d 0) (right_b a b && down_b a b && tall_b a b)
    (cond (eqb d 1) (right_b a b && down_b a b && wide_b a b)
    (cond (eqb d 2) (right_b a b && up_b a b && wide_b a b)
    (cond (eqb d 3) (right_b a b && up_b a b && tall_b a b)
    (cond (eqb d 4) (left_b a b && up_b a b && tall_b a b)
    (cond (eqb d 5) (left_b a b && up_b a b && wide_b a b)
    (cond (eqb d 6) (left_b a b && down_b a b && wide_b a b)
    (cond (eqb d 7) (left_b a b && down_b a b && tall_b a b) false)))))))

-- "the smallest fitting DIR"
unfoldable pub dir_of : Point → Point → ℕ
dir_of a b =
    cond (dir_fits 0 a b) 0
    (cond (dir_fits 1 a b) 1
    (cond (dir_fits 2 a b) 2 (cond (dir_fits 3 a b) 3 (cond (dir_fits 4 a b) 4 (cond (dir_fits 5 a b) 5 (cond (dir_fits 6 a b) 6 7))))))

-- "N the larger and m the smaller distance"
unfoldable pub slope_of : Point → Point → Slope
slope_of a b =
    record {
      dir = dir_of a b;
      major = max (distance a.x b.x) (distance a.y b.y);
      minor = min (distance a.x b.x) (distance a.y b.y);
    }

-- "line L with the smallest fitting DIR, DC N, D 2m - N, D2 2m - 2N, D1 2m", FIGD; "3 L, 2-0 DIR"
abbrev pub slope_entries : Slope → List ℕ
slope_entries s =
    figs_code ∷ (8 + s.dir)
    ∷ both s.major ++ both (minus14 (2 * s.minor) s.major) ++ both (minus14 (2 * s.minor) (2 * s.major)) ++ both (2 * s.minor)
    ++ figd_code ∷ []

unfoldable pub line_entries : ℕ → Point → Point → List ℕ
line_entries p a b = head_entries p a ++ slope_entries (slope_of a b)

-- ---- rectangles

-- "rectangle from its top left, DIR 0, DC 3, D height - 1, D2 width - 1, D1 -1, DM = D", FIGD; "6 R"; -1 is FF 3F in 14 bits; w and h are
-- the corners' distances
unfoldable pub rectangle_entries : ℕ → Point → ℕ → ℕ → List ℕ
rectangle_entries p a w h = head_entries p a ++ figs_code ∷ 0x40 ∷ both 3 ++ both h ++ both w ++ 0xFF ∷ 0x3F ∷ both h ++ figd_code ∷ []

abbrev pub least : Point → Point → Point
least a b = record { x = min a.x b.x; y = min a.y b.y }

abbrev pub greatest : Point → Point → Point
greatest a b = record { x = max a.x b.x; y = max a.y b.y }

-- "one dot wide or high"
abbrev pub flat_b : Point → Point → Bool
flat_b a b = eqb a.x b.x || eqb a.y b.y

-- "A rectangle one dot wide or high is translated as the line from its least to its greatest corner"; the corners of another are put in
-- order
abbrev pub plain : Figure → Figure
plain (Dot a) = Dot a
plain (Line a b) = Line a b
plain (Rectangle a b) = cond (flat_b a b) (Line (least a b) (greatest a b)) (Rectangle (least a b) (greatest a b))
plain (Glyph a n g) = Glyph a n g
plain (Circle c r) = Circle c r

-- ---- glyphs

-- "glyph from its bottom left": it is 8g dots high
abbrev pub foot : Point → ℕ → Point
foot a g = record { x = a.x; y = a.y + (8 * g - 1) }

-- "Glyph table: lent bytes, eight per glyph, top row first"
abbrev pub glyph_rows : List ℕ → ℕ → List ℕ
glyph_rows t n =
    get_or t (8 * n) 0 ∷ get_or t (8 * n + 1) 0 ∷ get_or t (8 * n + 2) 0 ∷ get_or t (8 * n + 3) 0
    ∷ get_or t (8 * n + 4) 0 ∷ get_or t (8 * n + 5) 0 ∷ get_or t (8 * n + 6) 0 ∷ get_or t (8 * n + 7) 0 ∷ []

-- "for glyphs ZOOM g - 1, CURS, PRAM 8 with eight rows, FIGS, GCHRD"; "glyph from its bottom left, DIR 2, DC 7"; "4 GC"
unfoldable pub glyph_entries : List ℕ → ℕ → Point → ℕ → ℕ → List ℕ
glyph_entries t p a n g =
    zoom_code ∷ (g - 1) ∷ cursor_entries (ead_of p (foot a g)) a.x ++ pram_code ∷ glyph_rows t n ++ figs_code ∷ 0x12 ∷ both 7 ++ gchrd_code
    ∷ []

-- ---- circles (02, M-100)

-- where the arc of a DIR starts: at the end of an axis from which its axis move is the tangent
abbrev pub arc_start : Point → ℕ → ℕ → Point
arc_start c r dir = record { x = end_x c.x r dir; y = end_y c.y r dir }

-- FIGS of an arc, "5 A, 2-0 DIR", and both bytes of DC, D, D2, D1, DM: "With D = r - 1, D2 = 2(r - 1), D1 = -1 this is the midpoint
-- circle"; -1 is FF 3F in 14 bits
abbrev pub arc_figs : ℕ → ℕ → ℕ → ℕ → List ℕ
arc_figs dir dc r dm = figs_code ∷ (0x20 + dir) ∷ both dc ++ both (r - 1) ++ both (2 * (r - 1)) ++ 0xFF ∷ 0x3F ∷ both dm

-- "each sent as a line is, with DC the largest i, and DM too: even ones have DM 0, odd ones DM 1 and a DC one less where the octants'
-- last dots coincide on the diagonal"
unfoldable pub arc_entries : ℕ → Point → ℕ → ℕ → List ℕ
arc_entries p c r dir = head_entries p (arc_start c r dir) ++ arc_figs dir (arc_dc r dir) r (arc_dm dir) ++ figd_code ∷ []

-- n arcs in order of DIR, from dir on
unfoldable pub arcs_from : ℕ → Point → ℕ → ℕ → ℕ → List ℕ
arcs_from p c r zero dir = []
arcs_from p c r (suc n) dir = arc_entries p c r dir ++ arcs_from p c r n (suc dir)

-- "after one WDAT its eight arcs go in order of DIR"
unfoldable pub circle_entries : ℕ → Point → ℕ → List ℕ
circle_entries p c r = arcs_from p c r 8 0

-- ---- a figure, a record

abbrev pub figure_entries : List ℕ → ℕ → Figure → List ℕ
figure_entries t p (Dot a) = dot_entries p a
figure_entries t p (Line a b) = line_entries p a b
figure_entries t p (Rectangle a b) = rectangle_entries p a (distance a.x b.x) (distance a.y b.y)
figure_entries t p (Glyph a n g) = glyph_entries t p a n g
figure_entries t p (Circle c r) = circle_entries p c r

-- "per figure WDAT word with the operation, then" the figure's own; "WDAT 20 + 8·type + operation"
unfoldable pub entries_of : List ℕ → ℕ → Record → List ℕ
entries_of t p r = (wdat_code + operation_number r.op) ∷ figure_entries t p (plain r.figure)

-- how many they are (`entries_size` of PutLaws)
abbrev pub figure_size : Figure → ℕ
figure_size (Dot a) = 10
figure_size (Line a b) = 18
figure_size (Rectangle a b) = 20
figure_size (Glyph a n g) = 20
figure_size (Circle c r) = 160

unfoldable pub size_of : Record → ℕ
size_of r = suc (figure_size (plain r.figure))

-- o with the entries e from at on, the rest unaltered (`placed_is` of PutLaws)
unfoldable pub placed : List ℕ → ℕ → List ℕ → List ℕ
placed o at e = sets o at e
