-- `row_bits` walks as the cursor does (`row_done`).
use mathlib.Core.Path.{refl}
use Rattle.walks.proofs.LoopLaws.{straight_walked}
use Rattle.walks.proofs.RowLaws.{row_done}
use Rattle.walks.proofs.side.row_bits.Goals as goal

pub returns : goal.returns
returns c =
    let p = c.requires in
    row_done _ _ _ _ _ _ _ _ p.0 p.1 c.row_byte-byte.ensures
    c.stride.ensures (straight_walked _ _ _ _ _ _ _ _ _ refl c.walk_by.ensures)
