-- What the code counts is what a figure has: by cases of the figure, of a rectangle that is flat or goes round, and of a circle whose last
-- dots coincide. Dots and figures add up over lists of figures. Last, what some figures have, by computing.
use mathlib.Core.Path.{◌≡◌, refl, ◌∙◌}
use mathlib.Core.Bool.{Bool, true, false, cond, ◌&&◌, false≢true}
use mathlib.Core.List.{[], ◌∷◌}
use Prim.Native.Nat.{ℕ, ◌+◌, ◌-◌, ◌*◌}
use native.Mathlib.Omega.{arith}
use lib.Dec.{ltb}
use lib.ListN.{length, length-append}
use borrow.Author.Tests.{ltb-true, ltb-false}
use Rattle.geometry.specs.Plane.{distance}
use Rattle.circles.specs.Circle.{out_below, circle_out, last_below, largest, coincide, arc_dm, arc_dc, circle_dots}
use Rattle.circles.proofs.SizeLaws.{circle_dots_count}
use Rattle.entries.specs.Entries.{distance as apart}
use Rattle.records.specs.declared.Point.{Point}
use Rattle.records.specs.declared.Figure.{Figure}
use Rattle.records.specs.declared.Figure.TheVariants.{Dot, Line, Rectangle, Glyph, Circle}
use Rattle.sheets.proofs.SlotLaws.{AddsUp}
use Rattle.costs.specs.Dots.{line_dots, border_dots, figure_dots, figures_dots}

-- the entries' distance is the plane's
pub same_distance : (a b : ℕ) → apart a b ≡ distance a b
same_distance a b = omega arith

-- ---- what the code counts
-- even arcs have the largest i and one dot more, odd ones the largest i, or one less where the last dots coincide
module _ (r : ℕ) {n : ℕ} {t : Bool} (e : n ≡ largest r) (f : t ≡ coincide r) where
  counted : circle_dots r ≡ 4 * (n + 1) + 4 * (n - cond t 1 0)
  counted = circle_dots_count r ∙ rw (e, f)

  pub circle_less : (t && ltb 0 n) ≡ true → 8 * n ≡ circle_dots r
  circle_less q = rw counted (go t q)
    where
      go : (u : Bool) → (u && ltb 0 n) ≡ true → 8 * n ≡ 4 * (n + 1) + 4 * (n - cond u 1 0)
      go true k = omega (arith, ltb-true 0 n k)
      go false k = absurd (false≢true k)

  pub circle_more : (t && ltb 0 n) ≡ false → 8 * n + 4 ≡ circle_dots r
  circle_more q = rw counted (go t q)
    where
      go : (u : Bool) → (u && ltb 0 n) ≡ false → 8 * n + 4 ≡ 4 * (n + 1) + 4 * (n - cond u 1 0)
      go true k = omega (arith, ltb-false 0 n k)
      go false k = omega arith

-- a figure, by its case
pub dots_by : {f g : Figure} {n : ℕ} → f ≡ g → n ≡ figure_dots g → n ≡ figure_dots f
dots_by e q = rw e q

module _ {a b : Point} {u v : ℕ} where
  pub line_by_law : {f : Figure} {n : ℕ} → f ≡ Line a b → u ≡ apart a.x b.x → v ≡ apart a.y b.y → n ≡ line_dots u v
      → n ≡ figure_dots f
  line_by_law e x y q = q ∙ rw (e, x, y, same_distance a.x b.x, same_distance a.y b.y)

  pub rectangle_by : {f : Figure} {n : ℕ} → f ≡ Rectangle a b → u ≡ apart a.x b.x → v ≡ apart a.y b.y → n ≡ border_dots u v
      → n ≡ figure_dots f
  rectangle_by e x y q = q ∙ rw (e, x, y, same_distance a.x b.x, same_distance a.y b.y)

-- ---- lists of figures
pub dots_append : AddsUp figures_dots
unfolding figures_dots
dots_append [] b = omega arith
dots_append (r ∷ a) b = omega (arith, dots_append a b)

pub figures_append : AddsUp length
figures_append a b = length-append a b

-- ---- by computing: a dot; a line; a rectangle of 4 by 3 dots, one of a dot and one a dot high; a glyph twice as large
abbrev at : ℕ → ℕ → Point
at x y = record { x = x; y = y }

figures_counted : figure_dots (Dot (at 5 5)) ∷ figure_dots (Line (at 9 2) (at 5 5)) ∷ figure_dots (Rectangle (at 0 0) (at 3 2))
    ∷ figure_dots (Rectangle (at 7 7) (at 7 7)) ∷ figure_dots (Rectangle (at 3 0) (at 0 0)) ∷ figure_dots (Glyph (at 0 0) 0 2) ∷ []
    ≡ 1 ∷ 5 ∷ 10 ∷ 1 ∷ 4 ∷ 256 ∷ []
figures_counted = refl

-- the four dots beside a dot, a circle whose octants' last dots coincide, and one whose do not
circles_counted : figure_dots (Circle (at 5 5) 1) ∷ figure_dots (Circle (at 5 5) 3) ∷ figure_dots (Circle (at 9 9) 7) ∷ [] ≡ 4 ∷ 16 ∷ 36
    ∷ []
unfolding circle_dots arc_dc arc_dm largest last_below coincide circle_out out_below
circles_counted = refl
