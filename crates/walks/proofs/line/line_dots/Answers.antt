-- `line_dots` walks as the cursor does (`line_done`).
use Rattle.walks.proofs.BitLaws.{line_done}
use Rattle.walks.proofs.LoopLaws.{line_walked}
use Rattle.walks.proofs.line.line_dots.Goals as goal

pub returns : goal.returns
returns c =
    let p = c.requires in
    line_done _ _ _ _ _ _ _ _ p.0 p.1
    c.axis_of.ensures
    c.stride-along.ensures
    c.packed-2.ensures
    c.diagonal_of.ensures
    c.stride-across.ensures
    c.packed-3.ensures
    c.packed.ensures
    (line_walked _ _ _ _ _ _ _ _ _ c.stroke.ensures c.walk-place.ensures)
    c.cursor_at.ensures
