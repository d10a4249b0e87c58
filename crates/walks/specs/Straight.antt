-- A place along one direction: a bit address, with what a step adds to it.
use Rattle.std.specs.Prelude.{ℕ, ◌+◌, ◌%◌}
use Rattle.walks.specs.declared.side.Straight.{Straight}

-- its bit address, and the place after a step
abbrev pub straight_at : Straight → ℕ
straight_at p = p.at

abbrev pub straight_on : Straight → Straight
straight_on p = record { at = (p.at + p.step) % 4194304; step = p.step }
