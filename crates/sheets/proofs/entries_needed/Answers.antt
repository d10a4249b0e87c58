-- `entries_needed` counts PITCH P and the figures' entries: what is counted and what the slots left take are the whole, at each turn.
use Prim.Native.Nat.{◌+◌}
use native.Mathlib.Omega.{arith}
use mathlib.Core.Path.{sym, ap, ◌∙◌}
use Rattle.sheets.specs.Slots.{sized}
use Rattle.sheets.proofs.SlotLaws.{slot_small, sized_append, figures_start, count_goes_on, count_ends}
use Rattle.sheets.proofs.entries_needed.Goals as goal

pub loop-k-init : goal.loop-k-init
loop-k-init c = record { small = omega arith; total = ap (λ f. 2 + sized f) (figures_start _ _ _ 0) }

pub overflow_add-need : goal.overflow_add-need
overflow_add-need c = omega (arith, slot_small _ _ _ c.slot_size-need.ensures)

pub loop-k-preserved : goal.loop-k-preserved
loop-k-preserved c =
    record {
      small = omega (arith, slot_small _ _ _ c.slot_size-need.ensures);
      total = c.loop-k.invariant.total ∙ count_goes_on _ _ _ _ sized sized_append _ c.loop-k-test.true
          c.slot_size-need.ensures;
    }

pub returns : goal.returns
returns c = sym (c.loop-k.invariant.total ∙ count_ends _ _ _ _ sized sized_append _ c.loop-k-test.false)
