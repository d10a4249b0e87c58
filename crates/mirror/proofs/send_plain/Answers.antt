-- `send_plain` refuses what is no register set; else it sends the entries, and gives the answer in plain numbers.
use Rattle.mirror.proofs.AskedLaws.{sends}
use mathlib.Core.Path.{sym, ◌∙◌}
use Rattle.mirror.proofs.send_plain.Goals as goal

pub returns-then-not-formed : goal.returns-then-not-formed
returns-then-not-formed c = rw (sym c.formed.ensures ∙ c.if-not-formed.true)

pub returns : goal.returns
returns c =
    sends _ _ _ (sym c.formed.ensures
    ∙ c.if-not-formed.false)
    c.into.ensures c.send_all.ensures
    c.into-2.ensures
