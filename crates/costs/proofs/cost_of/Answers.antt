-- `cost_of` gives `cost_def`: one law of CostLaws for each way out.
use mathlib.Core.Path.{refl}
use native.Mathlib.Omega.{arith}
use Rattle.std.proofs.lemmas.Result.{err_from_is_err_and}
use Rattle.blocks.proofs.AnswerLaws.{refused_some}
use Rattle.refusals.proofs.RefusalLaws.{sheet_framed}
use Rattle.costs.proofs.CostLaws.{way_refused, way_counted}
use Rattle.costs.proofs.cost_of.Goals as goal

pub returns-in_err-sheet_refusal : goal.returns-in_err-sheet_refusal
returns-in_err-sheet_refusal c =
    let p = err_from_is_err_and c.from_residual.result c.from_residual.ensures.1 in
    rw (p.1, p.2) (way_refused _ _ _ _ c.in_err-sheet_refusal.ensures (refused_some _))

pub overflow_cast-n : goal.overflow_cast-n
overflow_cast-n c = omega (arith, sheet_framed _ _ _ _ c.in_ok-sheet_refusal.ensures refl)

pub overflow_cast-p : goal.overflow_cast-p
overflow_cast-p c = omega (arith, sheet_framed _ _ _ _ c.in_ok-sheet_refusal.ensures refl)

pub overflow_cast-h : goal.overflow_cast-h
overflow_cast-h c = omega (arith, sheet_framed _ _ _ _ c.in_ok-sheet_refusal.ensures refl)

pub overflow_cast-t : goal.overflow_cast-t
overflow_cast-t c = omega (arith, sheet_framed _ _ _ _ c.in_ok-sheet_refusal.ensures refl)

pub returns : goal.returns
returns c =
    way_counted _ _ _ _ c.in_ok-sheet_refusal.ensures refl
    (rw c.room_of-m.ensures at c.counted.ensures)
