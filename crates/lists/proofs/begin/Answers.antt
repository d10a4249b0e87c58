-- `begin` is `begun_by`: the entry is taken with an empty buffer, and the run goes on from there.
use Rattle.lists.proofs.QuickLaws.{begins}
use Rattle.lists.proofs.begin.Goals as goal

pub returns : goal.returns
returns c =
    begins _ _ _ c.no_entries.ensures
    c.entry_taken-t.ensures
    c.run_on-q.ensures
