-- `send_all` is `list_sent`: the run's two tests in their order, else the entries that are looked at.
use Rattle.units.proofs.RunLaws.{accepted_right}
use Rattle.sends.proofs.SendLaws.{way_refused, way_sent, looked_long, looked_few}
use Rattle.lists.proofs.send_all.Goals as goal

pub returns-in-Err : goal.returns-in-Err
returns-in-Err c = rw c.from.ensures (way_refused _ _ c.in-Err.ensures)

pub slice_bounds-send_on-end : goal.slice_bounds-send_on-end
slice_bounds-send_on-end c = looked_long _ c.looked_at-n.ensures

pub send_on-requires : goal.send_on-requires
send_on-requires c =
    let t = accepted_right _ _ c.in_default.ensures in (t.0, (t.1, looked_few _ c.looked_at-n.ensures))

pub returns : goal.returns
returns c = way_sent _ _ c.in_default.ensures c.looked_at-n.ensures c.send_on.ensures
