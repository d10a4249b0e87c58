-- `fetch` is the definition, of what its calls ensure (`fetched_by`).
use Rattle.units.proofs.UnitLaws.{fetched_by}
use Rattle.units.proofs.fetch.Goals as goal

pub returns : goal.returns
returns c = fetched_by _ _ c.pop-left.ensures c.oldest_of.ensures
    c.entry_taken.ensures
