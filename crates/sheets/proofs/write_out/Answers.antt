-- `write_out` places the translation: what is still to be placed, from where the loop stands, makes the same output at each turn.
use native.Mathlib.Omega.{arith}
use mathlib.Core.Path.{refl, sym, ◌∙◌}
use Rattle.sheets.proofs.SlotLaws.{slot_small, write_starts, write_goes_on, write_ends, pitch_first}
use Rattle.sheets.proofs.write_out.Goals as goal

pub loop-k-init : goal.loop-k-init
loop-k-init c = record { small = omega arith; long = refl; same = write_starts _ _ _ 0 _ _ _ }

pub overflow_add-at : goal.overflow_add-at
overflow_add-at c = omega (arith, slot_small _ _ _ c.put_slot-at.ensures.0)

pub loop-k-preserved : goal.loop-k-preserved
loop-k-preserved c = let l = c.loop-k in
    let w = c.put_slot-at.ensures in
    record {
      small = omega (arith, slot_small _ _ _ w.0);
      long = c.put_slot-at.auto.out ∙ l.invariant.long;
      same = l.invariant.same ∙ write_goes_on _ _ _ _ _ _ _ _ c.loop-k-test.true w;
    }

pub shape_of-out : goal.shape_of-out
shape_of-out c = c.loop-k.invariant.long ∙ c.put.auto.out

pub returns : goal.returns
returns c = write_ends _ _ _ _ _ _ _ _ c.loop-k-test.false ∙ sym c.loop-k.invariant.same
    ∙ pitch_first _ _ _ _ c.put.ensures
