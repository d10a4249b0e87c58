-- What the pass over the records counts, of a slot's figures and of all; the entries by their number alone (`translation_length` of sheets'
-- SlotLaws).
use Rattle.std.specs.Prelude.{◌+◌, List, length}
use Rattle.records.specs.declared.Record.{Record}
use Rattle.sheets.specs.Slots.{sized}
use Rattle.costs.specs.declared.Cost.{Cost}
use Rattle.costs.specs.declared.Share.{Share}
use Rattle.costs.specs.Dots.{figures_dots}

-- how many figures they are, the entries they take and the dots they have
abbrev pub share_of : List Record → Share
share_of l = record { figures = length l; entries = sized l; dots = figures_dots l }

-- "PITCH P; per figure ..", and "one cycle for each visited dot"
abbrev pub cost_by : List Record → Cost
cost_by l = record { number = 0; first = 2 + sized l; second = 0; figures = length l; units = 2 + sized l + figures_dots l }
