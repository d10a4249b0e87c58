-- `slot_figure` gives the figure of `slot_figures`: none, or one record.
use mathlib.Core.Path.{sym, ◌∙◌}
use Rattle.sheets.proofs.SlotLaws.{none, bad, good}
use Rattle.sheets.proofs.slot_figure.Goals as goal

pub returns-then-not-used : goal.returns-then-not-used
returns-then-not-used c = sym (none _ _ _ (sym c.used.ensures ∙ c.if-not-used.true))

pub returns-in_default : goal.returns-in_default
returns-in_default c =
    sym (bad _ _ _ (sym c.used.ensures ∙ c.if-not-used.false) c.slot_decoded.ensures c.in_default.is)

pub returns : goal.returns
returns c =
    sym (good _ _ _ (sym c.used.ensures ∙ c.if-not-used.false) c.slot_decoded.ensures c.in-Ok.is)
