-- `sheet_of` gives `sheet_of`: the part in use of what is behind the table.
use mathlib.Core.Path.{refl, ◌∙◌}
use Rattle.easel.proofs.PartLaws.{sheet_part}
use Rattle.easel.proofs.paper.sheet_of.Goals as goal

pub returns : goal.returns
returns c =
    let behind = c.in-Some.ensures.lookup.0 in c.part.ensures ∙ sheet_part _ _ behind.0 behind.2 refl
