-- `set_at` is `set_at`: the same test, and then `settle`.
use Rattle.lists.proofs.QuickLaws.{sets_at_once, sets_nothing}
use Rattle.lists.proofs.set_at.Goals as goal

pub returns-then-at_once : goal.returns-then-at_once
returns-then-at_once c =
    sets_at_once _ _ _ c.at_once.ensures c.if-at_once.true
    c.settings_of-p.ensures c.settle.ensures

pub returns : goal.returns
returns c = sets_nothing _ _ _ c.at_once.ensures c.if-at_once.false c.settings_of-p.ensures
