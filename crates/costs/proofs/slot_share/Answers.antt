-- `slot_share` gives the share of `slot_figures`: none, or one record.
use mathlib.Core.Path.{sym}
use Rattle.costs.proofs.CostLaws.{share_none, share_one}
use Rattle.costs.proofs.slot_share.Goals as goal

pub returns-in-Some : goal.returns-in-Some
returns-in-Some c = share_one (sym c.in-Some.ensures) c.size_of.ensures c.figure_dots.ensures

pub returns-in-None : goal.returns-in-None
returns-in-None c = share_none (sym c.in-None.ensures)
