-- `run_on`: after n units, what is left to do from here is what was to do from the start; many units at once are as many (`figure_ahead`,
-- `arc_ahead`, `character_ahead`).
use Rattle.units.specs.Stop.{reason_number}
use Rattle.units.proofs.AheadLaws.{Ahead, figure_ahead, arc_ahead, character_ahead, goes_ahead}
use Rattle.units.proofs.RunLaws.{run_ends, run_stops, run_goes_on, stop_some}
use Rattle.units.proofs.UnitLaws.{unit_by_law}
use mathlib.Core.Path.{refl, sym, ap, ◌∙◌}
use native.Mathlib.Omega.{arith}
use Rattle.units.proofs.run_on.Goals as goal

pub returns-in-Some : goal.returns-in-Some
returns-in-Some c =
    run_stops _ _ _ c.loop-n-test.true (ap reason_number (sym c.in-Some.is) ∙ c.reason.ensures) (stop_some c.in-Some.why)
    ∙ sym c.loop-n.invariant.same

pub loop-n-preserved-in-Reading : goal.loop-n-preserved-in-Reading
loop-n-preserved-in-Reading c = let l = c.loop-n in
    record {
      within = omega arith;
      same = l.invariant.same ∙ run_goes_on _ _ _ c.loop-n-test.true (ap reason_number (sym c.in_default.is) ∙ c.reason.ensures) refl
          (unit_by_law _ _ c.in-Reading.is c.read_unit-s.ensures);
    }

pub loop-n-preserved : goal.loop-n-preserved
loop-n-preserved c = let l = c.loop-n in
    record {
      within = omega arith;
      same = l.invariant.same ∙ run_goes_on _ _ _ c.loop-n-test.true (ap reason_number (sym c.in_default.is) ∙ c.reason.ensures) refl
          (unit_by_law _ _ c.in-Idle.is c.idle_unit-s.ensures);
    }

-- ---- a burst goes so many units ahead: of a figure
drawn_figure : (c : goal.After-struct_known-1) → Ahead c.loop-n.s c.args.budget c.loop-n.n c.loop-n.mem c.figure-q.new.mem c.figure-q.result
drawn_figure c = figure_ahead c.loop-n.s _ _ _ _ _ _ c.loop-n-test.true c.in-Figure.is c.brush_of.ensures c.figure-q.ensures

pub overflow_add-n : goal.overflow_add-n
overflow_add-n c = omega (arith, c.ranges, (drawn_figure c).within)

pub loop-n-smaller-in-Figure : goal.loop-n-smaller-in-Figure
loop-n-smaller-in-Figure c = omega (arith, (drawn_figure c).some, (drawn_figure c).within)

pub loop-n-preserved-in-Figure : goal.loop-n-preserved-in-Figure
loop-n-preserved-in-Figure c =
    record {
      within = (drawn_figure c).within;
      same = c.loop-n.invariant.same ∙ goes_ahead _ _ _ _ _ (drawn_figure c) c.after_burst-s.ensures;
    }

-- of an arc
drawn_arc : (c : goal.After-struct_known-in-Arc-1) → Ahead c.loop-n.s c.args.budget c.loop-n.n c.loop-n.mem c.arc-q.new.mem c.arc-q.result
drawn_arc c = arc_ahead c.loop-n.s _ _ _ _ _ _ c.loop-n-test.true c.in-Arc.is c.brush_of-in-Arc.ensures c.arc-q.ensures

pub overflow_add-n-in-Arc : goal.overflow_add-n-in-Arc
overflow_add-n-in-Arc c = omega (arith, c.ranges, (drawn_arc c).within)

pub loop-n-smaller-in-Arc : goal.loop-n-smaller-in-Arc
loop-n-smaller-in-Arc c = omega (arith, (drawn_arc c).some, (drawn_arc c).within)

pub loop-n-preserved-in-Arc : goal.loop-n-preserved-in-Arc
loop-n-preserved-in-Arc c =
    record {
      within = (drawn_arc c).within;
      same = c.loop-n.invariant.same ∙ goes_ahead _ _ _ _ _ (drawn_arc c) c.after_burst-s-in-Arc.ensures;
    }

-- of a character
drawn_character : (c : goal.After-struct_known-in-Character-1)
    → Ahead c.loop-n.s c.args.budget c.loop-n.n c.loop-n.mem c.character-q.new.mem c.character-q.result
drawn_character c = character_ahead c.loop-n.s _ _ _ _ _ _ _ c.loop-n-test.true c.in-Character.is c.brush_of-b.ensures c.character-q.ensures

pub overflow_add-n-in-Character : goal.overflow_add-n-in-Character
overflow_add-n-in-Character c = omega (arith, c.ranges, (drawn_character c).within)

pub loop-n-smaller-in-Character : goal.loop-n-smaller-in-Character
loop-n-smaller-in-Character c = omega (arith, (drawn_character c).some, (drawn_character c).within)

pub loop-n-preserved-in-Character : goal.loop-n-preserved-in-Character
loop-n-preserved-in-Character c =
    record {
      within = (drawn_character c).within;
      same = c.loop-n.invariant.same ∙ goes_ahead _ _ _ _ _ (drawn_character c) c.after_burst-s-in-Character.ensures;
    }

pub returns : goal.returns
returns c = run_ends _ _ _ c.loop-n-test.false ∙ sym c.loop-n.invariant.same
