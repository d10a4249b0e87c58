-- `check_records` gives `records_checked`: the slots left decide the answer as all the slots do, at each turn.
use mathlib.Core.Path.{sym, ◌∙◌}
use Rattle.std.proofs.lemmas.Result.{err_from_is_err_and}
use Rattle.blocks.proofs.AnswerLaws.{first_start, err_stops, ok_goes_on, first_end}
use Rattle.refusals.specs.Refusals.{slot_answer, records_checked}
use Rattle.refusals.proofs.check_records.Goals as goal

pub loop-k-init : goal.loop-k-init
unfolding records_checked
loop-k-init c = first_start (slot_answer _ _) _

pub returns-in_err-check_slot : goal.returns-in_err-check_slot
returns-in_err-check_slot c =
    let p = err_from_is_err_and c.from_residual.result c.from_residual.ensures.1 in
    rw (p.1, p.2) (err_stops (slot_answer _ _) _ _ c.loop-k-test.true _ c.in_err-check_slot.ensures ∙ sym c.loop-k.invariant)

pub loop-k-preserved : goal.loop-k-preserved
loop-k-preserved c = c.loop-k.invariant ∙ ok_goes_on (slot_answer _ _) _ _ c.loop-k-test.true c.in_ok-check_slot.ensures

pub returns : goal.returns
returns c = first_end (slot_answer _ _) _ _ c.loop-k-test.false ∙ sym c.loop-k.invariant
