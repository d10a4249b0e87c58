-- `put_slot` puts the entries of `slot_figures`: none, or one record's.
use mathlib.Core.Path.{sym}
use Rattle.sheets.proofs.SlotLaws.{put_none, put_one}
use Rattle.sheets.proofs.put_slot.Goals as goal

pub returns-in_default : goal.returns-in_default
returns-in_default c = put_none _ _ _ _ (sym c.in_default.ensures)

pub returns : goal.returns
returns c = put_one _ _ _ _ (sym c.in-Some.ensures) c.size_of.ensures c.put_record.ensures
