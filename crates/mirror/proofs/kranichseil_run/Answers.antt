-- `kranichseil_run` refuses what is no register set; else it runs the controller, and gives its answer in plain numbers.
use Rattle.units.proofs.RunLaws.{told_ran}
use Rattle.mirror.proofs.AskedLaws.{runs}
use mathlib.Core.Path.{sym, ◌∙◌}
use Rattle.mirror.proofs.kranichseil_run.Goals as goal

pub returns-then-not-formed : goal.returns-then-not-formed
returns-then-not-formed c = rw (sym c.formed.ensures ∙ c.if-not-formed.true)

pub returns : goal.returns
returns c =
    runs _ _ _ (sym c.formed.ensures
    ∙ c.if-not-formed.false)
    c.into-set.ensures (told_ran c.told.ensures c.run.ensures) c.into.ensures
