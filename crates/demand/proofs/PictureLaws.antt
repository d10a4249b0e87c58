-- Figures on blank paper, by computing: under COMPLEMENT a border changes its corner and a flat one its middle once, and a circle the dots
-- where its octants meet; a glyph's bit 0 is its leftmost dot and its first row the top one; of two figures the later one decides.
use mathlib.Core.Path.{◌≡◌, refl}
use mathlib.Core.List.{[], ◌∷◌}
use Prim.Native.Nat.{ℕ}
use Rattle.dots.specs.declared.Operation.TheVariants.{Complement, Reset, Set}
use Rattle.dots.specs.Bit.{bit}
use Rattle.dots.specs.Logic.{one_bit}
use Rattle.geometry.specs.Plane.{Picture, changed, border_on, square_on, glyph_ink, lies_out, circle_on}
use Rattle.records.specs.declared.Point.{Point}
use Rattle.records.specs.declared.Figure.TheVariants.{Dot, Rectangle, Glyph, Circle}
use Rattle.circles.specs.Circle.{out_below, circle_out, last_below, largest, coincide}
use Rattle.demand.specs.Picture.{figure_made, figures_made, figure_dots}

abbrev blank : Picture
blank x y = 0

abbrev at : ℕ → ℕ → Point
at x y = record { x = x; y = y }

-- the corner, the dot right of it and the middle of a rectangle (0, 0) to (3, 2)
border_once : figure_made [] Complement (Rectangle (at 0 0) (at 3 2)) blank 0 0 ∷ figure_made [] Complement
    (Rectangle (at 0 0) (at 3 2)) blank 1 0
    ∷ figure_made [] Complement (Rectangle (at 0 0) (at 3 2)) blank 1 1 ∷ [] ≡ 1 ∷ 1 ∷ 0 ∷ []
unfolding changed border_on one_bit
border_once = refl

-- 01's slip: "under COMPLEMENT, (0,0)-(3,0) flips dots 1 and 2 twice"
flat_once : figure_made [] Complement (Rectangle (at 0 0) (at 3 0)) blank 1 0 ∷ figure_made [] Complement
    (Rectangle (at 3 0) (at 0 0)) blank 2 0 ∷ [] ≡ 1 ∷ 1 ∷ []
unfolding changed border_on one_bit
flat_once = refl

-- a glyph of one dot, at its top left, twice as large: dots (0, 0), (1, 1), (2, 0), (15, 15)
abbrev corner : ℕ → ℕ → ℕ
corner x y = figure_made (1 ∷ 0 ∷ 0 ∷ 0 ∷ 0 ∷ 0 ∷ 0 ∷ 0 ∷ []) Set (Glyph (at 0 0) 0 2) blank x y

glyph_upright : corner 0 0 ∷ corner 1 1 ∷ corner 2 0 ∷ corner 15 15 ∷ [] ≡ 1 ∷ 1 ∷ 0 ∷ 0 ∷ []
unfolding changed square_on glyph_ink one_bit bit
glyph_upright = refl

-- set, then cleared
later_decides : figures_made [] (record { op = Set; figure = Dot (at 5 6) } ∷ record { op = Reset; figure = Dot (at 5 6) } ∷ []) blank 5 6
    ≡ 0
unfolding figures_made changed one_bit
later_decides = refl

-- 02, M-100: "Each dot of the circle is changed once, also where octants meet": of radius 3 about (5, 5) the end of an axis, the dot beside
-- it, the one on the diagonal, and the centre
abbrev ring : ℕ → ℕ → ℕ
ring x y = figure_made [] Complement (Circle (at 5 5) 3) blank x y

circle_once : ring 5 2 ∷ ring 6 2 ∷ ring 7 3 ∷ ring 5 5 ∷ [] ≡ 1 ∷ 1 ∷ 1 ∷ 0 ∷ []
unfolding changed circle_on lies_out one_bit
circle_once = refl

-- the four dots beside a dot, a circle whose octants' last dots coincide, and one whose do not
circles_counted : figure_dots (Circle (at 5 5) 1) ∷ figure_dots (Circle (at 5 5) 3) ∷ figure_dots (Circle (at 9 9) 7) ∷ [] ≡ 4 ∷ 16 ∷ 36
    ∷ []
unfolding largest last_below coincide circle_out out_below
circles_counted = refl
