-- `slot_size` gives the size of `slot_figures`: none, or one record.
use mathlib.Core.Path.{sym}
use Rattle.sheets.proofs.SlotLaws.{size_none, size_one}
use Rattle.sheets.proofs.slot_size.Goals as goal

pub returns-in-Some : goal.returns-in-Some
returns-in-Some c = size_one (sym c.in-Some.ensures) c.size_of.ensures

pub returns-in-None : goal.returns-in-None
returns-in-None c = size_none (sym c.in-None.ensures)
