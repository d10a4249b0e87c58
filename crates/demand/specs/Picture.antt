-- 01, Drawing sheets, Plane, and 02's circles (M-100): what a sheet's figures, taken in order, make of a picture, and how many dots they
-- have.
use Rattle.std.specs.Prelude.{cond, ◌||◌, List, [], ◌∷◌, ℕ, ◌+◌, ◌-◌, ◌*◌, max, eqb}
use Rattle.dots.specs.declared.Operation.{Operation}
use Rattle.records.specs.declared.Figure.{Figure}
use Rattle.records.specs.declared.Figure.TheVariants.{Dot, Line, Rectangle, Glyph, Circle}
use Rattle.records.specs.declared.Record.{Record}
use Rattle.geometry.specs.Plane.{Picture, Shape, changed, solid, distance, dot_on, line_on, border_on, square_on, glyph_ink, circle_on}
use Rattle.circles.specs.Circle.{largest, coincide}

-- the dots of a figure
abbrev pub figure_on : Figure → Shape
figure_on (Dot a) = dot_on a.x a.y
figure_on (Line a b) = line_on a.x a.y b.x b.y
figure_on (Rectangle a b) = border_on a.x a.y b.x b.y
figure_on (Glyph a n g) = square_on a.x a.y g
figure_on (Circle a r) = circle_on a.x a.y r

-- what each is drawn with: "pattern bit 1"; for a glyph "the pattern bit being the glyph's"
abbrev pub figure_ink : List ℕ → Figure → Picture
figure_ink table (Dot a) = solid
figure_ink table (Line a b) = solid
figure_ink table (Rectangle a b) = solid
figure_ink table (Glyph a n g) = glyph_ink table n a.x a.y g
figure_ink table (Circle a r) = solid

-- "A figure changes each of its dots once, as the logic unit does with its operation and pattern bit"
abbrev pub figure_made : List ℕ → Operation → Figure → Picture → Picture
figure_made table op f = changed op (figure_on f) (figure_ink table f)

-- one after the other, each with its record's operation
unfoldable pub figures_made : List ℕ → List Record → Picture → Picture
figures_made table [] pic = pic
figures_made table (r ∷ l) pic = figures_made table l (figure_made table r.op r.figure pic)

-- how many dots a figure has; a border goes all round, or there alone where it is "one dot wide or high"; a circle has four ends, in each
-- octant "the largest i" dots more, and four fewer "where the octants' last dots coincide on the diagonal"
abbrev pub figure_dots : Figure → ℕ
figure_dots (Dot a) = 1
figure_dots (Line a b) = max (distance a.x b.x) (distance a.y b.y) + 1
figure_dots (Rectangle a b) =
    cond (eqb a.x b.x || eqb a.y b.y) (max (distance a.x b.x) (distance a.y b.y) + 1)
    (2 * (distance a.x b.x + distance a.y b.y))
figure_dots (Glyph a n g) = 8 * g * (8 * g)
figure_dots (Circle a r) = 8 * largest r + 4 - cond (coincide r) 4 0

unfoldable pub figures_dots : List Record → ℕ
figures_dots [] = 0
figures_dots (r ∷ l) = figure_dots r.figure + figures_dots l
