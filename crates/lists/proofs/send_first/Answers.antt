-- `send_first` is `first_sent`: the same test, and then the entry at once or its port.
use mathlib.Core.List.{[]}
use Rattle.lists.proofs.QuickLaws.{begins_at_once, goes_by_port}
use Rattle.lists.proofs.send_first.Goals as goal

pub returns-then-at_once : goal.returns-then-at_once
returns-then-at_once c =
    begins_at_once _ [] _ c.at_once.ensures c.if-at_once.true
    c.begin.ensures

pub returns : goal.returns
returns c =
    goes_by_port _ [] _ c.at_once.ensures c.if-at_once.false
    c.send_one.ensures
