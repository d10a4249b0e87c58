-- `replay` is `replayed`: the run's two tests in their order, else the events that are looked at.
use Rattle.replaying.proofs.ListLaws.{looked_long, looked_few, way_refused, way_done}
use Rattle.replaying.proofs.replay.Goals as goal

pub returns-in-Err : goal.returns-in-Err
returns-in-Err c = rw c.from.ensures (way_refused _ _ c.in-Err.ensures)

pub slice_bounds-replay_on-end : goal.slice_bounds-replay_on-end
slice_bounds-replay_on-end c = looked_long _ c.looked_at-n.ensures

pub replay_on-requires : goal.replay_on-requires
replay_on-requires c = looked_few _ c.looked_at-n.ensures

pub returns : goal.returns
returns c = way_done _ _ c.in_default.ensures c.looked_at-n.ensures c.replay_on.ensures
