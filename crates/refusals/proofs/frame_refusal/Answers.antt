-- `frame_refusal` gives `frame_refusal`: 11, 12, 13 in this order.
use Rattle.std.proofs.lemmas.Result.{err_from_is_err_and}
use Rattle.blocks.proofs.AnswerLaws.{refused_some}
use Rattle.refusals.proofs.RefusalLaws.{way_plane, way_table, way_length}
use Rattle.refusals.proofs.frame_refusal.Goals as goal

pub returns-in_err-plane_refusal : goal.returns-in_err-plane_refusal
returns-in_err-plane_refusal c =
    let p = err_from_is_err_and c.from_residual.result c.from_residual.ensures.1 in
    rw (p.1, p.2) (way_plane _ _ _ _ c.in_err-plane_refusal.ensures (refused_some _))

pub returns-in_err-table_refusal : goal.returns-in_err-table_refusal
returns-in_err-table_refusal c =
    let p = err_from_is_err_and c.from_residual-in_err-table_refusal.result c.from_residual-in_err-table_refusal.ensures.1 in
    rw (p.1, p.2) (way_table _ _ _ _ c.in_ok-plane_refusal.ensures c.in_err-table_refusal.ensures (refused_some _))

pub returns : goal.returns
returns c = way_length _ _ _ _ c.in_ok-plane_refusal.ensures c.in_ok-table_refusal.ensures c.length_refusal.ensures
