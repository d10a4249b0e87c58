-- What a sheet costs is what demand 3's run reports: `shown` counts a unit for each entry and for each dot, and the call counts the
-- same figures (`figures_same`). The bound holds figure by figure, since each lies in the plane: a line has no more dots than the longer
-- side, a border no more than go round the plane, nor has a circle; a glyph is at most 128 dots wide and high.
use mathlib.Core.Path.{◌≡◌, sym, ap, ◌∙◌}
use mathlib.Core.Bool.{Bool, true, false, cond, ◌||◌}
use mathlib.Core.List.{List, [], ◌∷◌}
use Prim.Native.Nat.{ℕ, suc, ◌+◌, ◌*◌, ◌/◌, ◌≤◌, ◌<◌}
use native.Mathlib.Nat.{mul-le-mul}
use native.Mathlib.Omega.{arith}
use lib.Dec.{eqb}
use lib.ListN.{length}
use Rattle.geometry.specs.Plane.{distance}
use Rattle.circles.proofs.SizeLaws.{largest_le, dots_few}
use Rattle.records.specs.declared.Record.{Record}
use Rattle.records.specs.declared.Figure.{Figure}
use Rattle.records.specs.declared.Figure.TheVariants.{Dot, Line, Rectangle, Glyph, Circle}
use Rattle.refusals.specs.Refusals.{room_of}
use Rattle.sheets.specs.Lawful.{Lawful}
use Rattle.sheets.specs.Slots.{sized, figures, translation}
use Rattle.sheets.specs.Sheet.{figures_of}
use Rattle.sheets.proofs.SlotLaws.{figures_few, figures_most, translation_length}
use Rattle.costs.specs.declared.Cost.{Cost}
use Rattle.costs.specs.Dots.{line_dots, border_dots, figure_dots, figures_dots}
use Rattle.costs.specs.Cost.{cost_of}
use Rattle.costs.proofs.CostLaws.{cost_told_law, cost_below}
use Rattle.sending.proofs.WaitLaws.{waiting}
use Rattle.demand.specs.Cost.{most_dots, UnitsAreEntriesAndDots, CostIsTheRuns, CyclesAreBounded, CostFits}
use Rattle.demand.proofs.InsideLaws.{Inside, AllInside, sheet_inside}
use Rattle.demand.proofs.DotLaws.{figures_same}
use Rattle.demand.proofs.Whole.{shown}

-- ---- the run
pub units_are_entries_and_dots : UnitsAreEntriesAndDots
units_are_entries_and_dots sheet p h table w bytes r mem ready typed right room =
    (shown p h (record { wide = omega (arith, w.words); tall = w.lines; area = w.area }) table bytes (figures_of sheet p h table)
    (sheet_inside p h (length table) sheet (length sheet / 512)) r (waiting r ready typed) mem right room).units
    ∙ ap (λ (n : ℕ). length (translation table p (figures_of sheet p h table)) + n)
    (figures_same p h (figures_of sheet p h table) (sheet_inside p h (length table) sheet (length sheet / 512)))

pub cost_is_the_runs : CostIsTheRuns
cost_is_the_runs sheet p h table c e z bytes r mem ready typed right room =
    let k = cost_told_law sheet p h table e z in
    units_are_entries_and_dots sheet p h table k.lawful bytes r mem ready typed right room ∙ sym (ap (λ (x : Cost). x.units) k.is)

-- ---- the bound
module _ (p h : ℕ) where
  border_few : (a b : ℕ) → a < 16 * p → b < h → border_dots a b ≤ most_dots p h
  border_few a b k l = go (eqb a 0 || eqb b 0)
    where
      go : (t : Bool) → cond t (line_dots a b) (2 * (a + b)) ≤ most_dots p h
      go true = omega arith
      go false = omega arith

  apart_few : (a b n : ℕ) → a < n → b < n → distance a b < n
  apart_few a b n k l = omega arith

  line_few : (a b : ℕ) → a < 16 * p → b < h → line_dots a b ≤ most_dots p h
  line_few a b k l = omega arith

  figure_few : (f : Figure) → Inside p h f → figure_dots f ≤ most_dots p h
  figure_few (Dot a) i = omega arith
  figure_few (Line a b) i = line_few _ _ (apart_few _ _ _ i.0.column i.1.column) (apart_few _ _ _ i.0.row i.1.row)
  figure_few (Rectangle a b) i = border_few _ _ (apart_few _ _ _ i.0.column i.1.column) (apart_few _ _ _ i.0.row i.1.row)
  figure_few (Glyph a n g) i =
      let few : g ≤ 16 = omega (arith, i.few) in
      let m : g * g ≤ 16 * 16 = mul-le-mul few few in omega arith
  figure_few (Circle c r) i = omega (arith, dots_few r, largest_le r, i.left, i.top, i.right, i.low)

  figures_few_dots : (l : List Record) → AllInside p h l → figures_dots l ≤ length l * most_dots p h
  unfolding figures_dots
  figures_few_dots [] i = omega arith
  figures_few_dots (r ∷ l) i =
      let e : suc (length l) * most_dots p h ≡ most_dots p h + length l * most_dots p h = omega arith in
      omega (arith, figure_few r.figure i.0, figures_few_dots l i.1)

pub cycles_are_bounded : CyclesAreBounded
cycles_are_bounded sheet p h table w =
    figures_few_dots p h (figures_of sheet p h table) (sheet_inside p h (length table) sheet (length sheet / 512))

-- ---- the call's answer
-- an accepted sheet has at most 800 figures, of 16,384 dots each: no plane is longer round
module _ (sheet : List ℕ) (p h : ℕ) (table : List ℕ) (w : Lawful sheet p h table) where
  few : (length (figures_of sheet p h table) ≤ 800) × (sized (figures_of sheet p h table) ≤ 128800)
  unfolding figures
  few = (
    omega (arith, w.few_blocks, figures_most sheet (room_of p h (length table)) (50 * (length sheet / 512)) 0),
    omega (arith, w.few_blocks, figures_few sheet (room_of p h (length table)) (50 * (length sheet / 512)) 0),
  )

  fits : (cost_of table p (figures_of sheet p h table)).units ≤ 13236002
  fits =
      let l = figures_of sheet p h table in
      let round : most_dots p h ≤ 16384 = omega (arith, w.words, w.lines) in
      let m : length l * most_dots p h ≤ 800 * 16384 = mul-le-mul few.0 round in
      omega (arith, translation_length table p l, few.1, cycles_are_bounded sheet p h table w)

pub cost_fits : CostFits
cost_fits sheet p h table = cost_below sheet p h table 13236002 (fits sheet p h table)
