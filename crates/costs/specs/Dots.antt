-- 02, M-106, "one cycle for each visited dot": how many dots each figure has.
use Rattle.std.specs.Prelude.{cond, ◌||◌, List, [], ◌∷◌, ℕ, ◌+◌, ◌*◌, max, eqb}
use Rattle.geometry.specs.Plane.{distance}
use Rattle.circles.specs.Circle.{circle_dots}
use Rattle.records.specs.declared.Record.{Record}
use Rattle.records.specs.declared.Figure.{Figure}
use Rattle.records.specs.declared.Figure.TheVariants.{Dot, Line, Rectangle, Glyph, Circle}

-- "N + 1 for a line", N being "the larger" of its distances a and b
abbrev pub line_dots : ℕ → ℕ → ℕ
line_dots a b = max a b + 1

-- "2(A + B) for a rectangle of A + 1 by B + 1 when neither is 0, else its line's"
abbrev pub border_dots : ℕ → ℕ → ℕ
border_dots a b = cond (eqb a 0 || eqb b 0) (line_dots a b) (2 * (a + b))

-- "1 for a dot, N + 1 for a line, 2(A + B) for a rectangle .., 64·g² for a glyph, the number of its dots for a circle"
abbrev pub figure_dots : Figure → ℕ
figure_dots (Dot a) = 1
figure_dots (Line a b) = line_dots (distance a.x b.x) (distance a.y b.y)
figure_dots (Rectangle a b) = border_dots (distance a.x b.x) (distance a.y b.y)
figure_dots (Glyph a n g) = 64 * (g * g)
figure_dots (Circle c r) = circle_dots r

-- "for each visited dot": of all figures
unfoldable pub figures_dots : List Record → ℕ
figures_dots [] = 0
figures_dots (r ∷ l) = figure_dots r.figure + figures_dots l
