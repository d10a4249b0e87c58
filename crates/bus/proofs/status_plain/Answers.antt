-- `status_plain` is the status of the set that the numbers give.
use Rattle.bus.proofs.BytesLaws.{read_mode, figure_there}
use Rattle.status.specs.Status.{status_of}
use Rattle.plain.specs.Mirror.{from_plain}
use Rattle.bus.proofs.status_plain.Goals as goal

pub returns : goal.returns
unfolding status_of from_plain
returns c =
    let p = c.args.p in
    rw (c.status_by.ensures, c.bit_of.ensures, figure_there p.work, read_mode p.mode)
