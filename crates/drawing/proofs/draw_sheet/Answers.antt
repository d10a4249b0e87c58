-- `draw_sheet` is `sheet_drawn`: one law of DrawLaws for each way out.
use mathlib.Core.Path.{refl, sym, ◌∙◌}
use Rattle.std.proofs.lemmas.Result.{err_from_is_err_and}
use Rattle.blocks.proofs.AnswerLaws.{refused_some}
use Rattle.units.proofs.RunLaws.{accepted_right}
use Rattle.drawing.proofs.DrawLaws.{way_run, way_larger, way_refused, way_sent, part_fits, part_long}
use Rattle.drawing.proofs.draw_sheet.Goals as goal

pub returns-in_err-accepted : goal.returns-in_err-accepted
returns-in_err-accepted c =
    let p = err_from_is_err_and c.from_residual.result c.from_residual.ensures.1 in
    rw (p.1, p.2) (way_run _ _ _ _ _ _ _ c.in_err-accepted.ensures)

pub returns-then-larger : goal.returns-then-larger
returns-then-larger c =
    way_larger _ _ _ _ _ _ _ (accepted_right _ _ c.in_ok-accepted.ensures).0 (accepted_right _ _ c.in_ok-accepted.ensures).1
    (sym c.larger.ensures ∙ c.if-larger.true) refl

pub returns-in_err-written : goal.returns-in_err-written
returns-in_err-written c =
    let p = err_from_is_err_and c.from_residual-in_err-written.result c.from_residual-in_err-written.ensures.1 in
    rw (p.1, p.2)
    (way_refused _ _ _ _ _ _ _ (accepted_right _ _ c.in_ok-accepted.ensures).0 (accepted_right _ _ c.in_ok-accepted.ensures).1
    (sym c.larger.ensures ∙ c.if-larger.false) c.in_err-written.ensures
    (refused_some _) refl)

pub slice_bounds-send_all-end : goal.slice_bounds-send_all-end
slice_bounds-send_all-end c =
    part_fits _ _ _ _ _ c.in_ok-written.ensures refl

pub slice_bounds-send_all-end-2 : goal.slice_bounds-send_all-end-2
slice_bounds-send_all-end-2 c =
    part_long _ _ _ _ _ c.in_ok-written.ensures refl

pub returns : goal.returns
returns c =
    way_sent _ _ _ _ _ _ _ (accepted_right _ _ c.in_ok-accepted.ensures).0 (accepted_right _ _ c.in_ok-accepted.ensures).1
    (sym c.larger.ensures ∙ c.if-larger.false) c.in_ok-written.ensures refl
    c.finish-w.ensures
    c.send_all-q.ensures
