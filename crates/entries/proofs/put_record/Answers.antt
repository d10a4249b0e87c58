-- `put_record` gives `placed` of `entries_of`: WDAT is stored, and the figure's entries are put behind it.
use Rattle.entries.proofs.PutLaws.{record_put}
use Rattle.entries.proofs.put_record.Goals as goal

pub returns : goal.returns
returns c =
    record_put _ _ _ _ _ c.wdat.ensures
    c.plain_of.ensures
    c.store.ensures c.put_figure.ensures
