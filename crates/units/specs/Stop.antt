-- The number that says why a run stops.
use Rattle.std.specs.Prelude.{ℕ, Option, None, Some}
use Rattle.units.specs.declared.Stop.{Stop}
use Rattle.units.specs.declared.Stop.TheVariants.{Spent, Idle, Full}

-- 1 its budget is spent, 2 nothing is in progress or queued, 3 a read awaits room
abbrev pub stop_number : Stop → ℕ
stop_number Spent = 1
stop_number Idle = 2
stop_number Full = 3

-- 0 where it goes on
abbrev pub reason_number : Option Stop → ℕ
reason_number None = 0
reason_number (Some why) = stop_number why
