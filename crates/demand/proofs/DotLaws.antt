-- How many dots figures have is said twice: shape by shape in specs/Picture, and in M-106's words in crate costs. Of figures that lie in
-- the plane both are the same number: a rectangle is flat where a distance is 0, and a circle's arcs have eight times "the largest i"
-- dots and the four ends, but for the last dots that coincide.
use mathlib.Core.Path.{◌≡◌, refl, ap₂, sym, ◌∙◌}
use mathlib.Core.Bool.{Bool, true, false, cond}
use mathlib.Core.List.{List, [], ◌∷◌}
use Prim.Native.Nat.{ℕ, ◌+◌, ◌-◌, ◌*◌}
use native.Mathlib.Omega.{arith}
use lib.Dec.{eqb}
use borrow.Author.Tests.{eq-eqb, eqb-true}
use Rattle.geometry.specs.Plane.{distance}
use Rattle.geometry.proofs.TestLaws.{same_test}
use Rattle.circles.specs.Circle.{largest, coincide, circle_dots}
use Rattle.circles.proofs.SizeLaws.{circle_dots_law}
use Rattle.records.specs.declared.Record.{Record}
use Rattle.records.specs.declared.Figure.{Figure}
use Rattle.records.specs.declared.Figure.TheVariants.{Dot, Line, Rectangle, Glyph, Circle}
use Rattle.costs.specs.Dots as costs
use Rattle.demand.specs.Picture.{figure_dots, figures_dots}
use Rattle.demand.proofs.InsideLaws.{Inside, AllInside}

-- a rectangle is flat where a distance is 0
zero_apart : (x y : ℕ) → eqb x y ≡ eqb (distance x y) 0
zero_apart x y =
    same_test (eqb x y) (eqb (distance x y) 0) (λ e. eq-eqb (distance x y) 0 (omega (arith, eqb-true x y e)))
    (λ e. eq-eqb x y (omega (arith, eqb-true (distance x y) 0 e)))

counts : (n : ℕ) (t : Bool) → 8 * n + 4 - cond t 4 0 ≡ 8 * n + cond t 0 4
counts n true = omega arith
counts n false = omega arith

module _ (p h : ℕ) where
  figure_same : (f : Figure) → Inside p h f → figure_dots f ≡ costs.figure_dots f
  unfolding circle_dots
  figure_same (Dot a) i = refl
  figure_same (Line a b) i = refl
  figure_same (Rectangle a b) i = rw (zero_apart a.x b.x, zero_apart a.y b.y)
  figure_same (Glyph a n g) i = omega arith
  figure_same (Circle a r) i = counts (largest r) (coincide r) ∙ sym (circle_dots_law r i.some)

  pub figures_same : (l : List Record) → AllInside p h l → figures_dots l ≡ costs.figures_dots l
  unfolding figures_dots costs.figures_dots
  figures_same [] i = refl
  figures_same (r ∷ l) i = ap₂ (λ (a b : ℕ). a + b) (figure_same r.figure i.0) (figures_same l i.1)
