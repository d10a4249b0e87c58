-- `counted` counts figures, entries and dots: what is counted and what the slots left have are the whole, at each turn.
use Prim.Native.Nat.{◌+◌}
use native.Mathlib.Omega.{arith}
use mathlib.Core.Path.{ap, ◌∙◌}
use lib.ListN.{length}
use Rattle.sheets.specs.Slots.{sized}
use Rattle.sheets.proofs.SlotLaws.{slot_small, slot_one, sized_append, figures_start, count_starts, count_goes_on, count_ends}
use Rattle.costs.specs.declared.Share.{Share}
use Rattle.costs.specs.Dots.{figures_dots}
use Rattle.costs.proofs.DotLaws.{dots_append, figures_append}
use Rattle.costs.proofs.CostLaws.{cost_is}
use Rattle.costs.proofs.counted.Goals as goal

pub loop-k-init : goal.loop-k-init
loop-k-init c =
    record {
      few = omega arith;
      small = omega arith;
      less = omega arith;
      count = count_starts _ _ _ 0 length;
      need = ap (λ l. 2 + sized l) (figures_start _ _ _ 0);
      dots = count_starts _ _ _ 0 figures_dots;
    }

pub overflow_add-figures : goal.overflow_add-figures
overflow_add-figures c = omega (arith, slot_one _ _ _ (ap (λ (x : Share). x.figures) c.slot_share-x.ensures))

pub overflow_add-entries : goal.overflow_add-entries
overflow_add-entries c = omega (arith, slot_small _ _ _ (ap (λ (x : Share). x.entries) c.slot_share-x.ensures))

pub loop-k-preserved : goal.loop-k-preserved
loop-k-preserved c =
    let x = c.slot_share-x.ensures in
    let inv = c.loop-k.invariant in
    let on = c.loop-k-test.true in
    record {
      few = omega (arith, slot_one _ _ _ (ap (λ (y : Share). y.figures) x));
      small = omega (arith, slot_small _ _ _ (ap (λ (y : Share). y.entries) x));
      less = omega arith;
      count = inv.count ∙ count_goes_on _ _ _ _ length figures_append _ on (ap (λ (y : Share). y.figures) x);
      need = inv.need ∙ count_goes_on _ _ _ _ sized sized_append _ on (ap (λ (y : Share). y.entries) x);
      dots = inv.dots ∙ count_goes_on _ _ _ _ figures_dots dots_append _ on (ap (λ (y : Share). y.dots) x);
    }

pub returns : goal.returns
returns c =
    let inv = c.loop-k.invariant in
    let end = c.loop-k-test.false in
    cost_is _ (inv.count ∙ count_ends _ _ _ _ length figures_append _ end)
    (inv.need ∙ count_ends _ _ _ _ sized sized_append _ end)
    (inv.dots ∙ count_ends _ _ _ _ figures_dots dots_append _ end)
