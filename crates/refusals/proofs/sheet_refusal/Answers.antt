-- `sheet_refusal` gives `sheet_refusal`: one law of RefusalLaws for each way out.
use mathlib.Core.Path.{refl, sym}
use native.Mathlib.Omega.{arith}
use Rattle.std.proofs.lemmas.Result.{err_from_is_err_and}
use Rattle.blocks.proofs.AnswerLaws.{or_first, refused_some}
use Rattle.refusals.proofs.RefusalLaws.{framed, way_frame, way_checked}
use Rattle.refusals.proofs.sheet_refusal.Goals as goal

pub returns-in_err-frame_refusal : goal.returns-in_err-frame_refusal
returns-in_err-frame_refusal c =
    let p = err_from_is_err_and c.from_residual.result c.from_residual.ensures.1 in
    rw (p.1, p.2) (way_frame _ _ _ _ c.in_err-frame_refusal.ensures (refused_some _))

pub overflow_cast-n : goal.overflow_cast-n
overflow_cast-n c = omega (arith, framed _ _ _ _ c.in_ok-frame_refusal.ensures refl)

pub overflow_cast-p : goal.overflow_cast-p
overflow_cast-p c = omega (arith, framed _ _ _ _ c.in_ok-frame_refusal.ensures refl)

pub overflow_cast-h : goal.overflow_cast-h
overflow_cast-h c = omega (arith, framed _ _ _ _ c.in_ok-frame_refusal.ensures refl)

pub overflow_cast-t : goal.overflow_cast-t
overflow_cast-t c = omega (arith, framed _ _ _ _ c.in_ok-frame_refusal.ensures refl)

pub returns-in_err-check_blocks : goal.returns-in_err-check_blocks
returns-in_err-check_blocks c =
    let p = err_from_is_err_and c.from_residual-in_err-check_blocks.result c.from_residual-in_err-check_blocks.ensures.1 in
    rw (p.1, p.2)
    (way_checked _ _ _ _ c.in_ok-frame_refusal.ensures refl c.in_err-check_blocks.ensures refl (sym (or_first _ _ (refused_some _))))

pub returns : goal.returns
returns c =
    way_checked _ _ _ _ c.in_ok-frame_refusal.ensures refl c.in_ok-check_blocks.ensures
    (rw c.room_of-m.ensures at c.check_records.ensures) refl
