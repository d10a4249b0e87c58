-- 01, Ports and Units, of a controller that waits: in write mode, with its buffer empty and nothing in progress. A port puts an entry of
-- nine bits that is no RESET into the buffer, and the run's first unit takes it from there: so it may be taken at once, and that is a unit.
use Rattle.std.specs.Prelude.{ℕ, Bool, true, false, not, ◌&&◌, eqb, ltb}
use Rattle.registers.specs.declared.Mode.{Mode}
use Rattle.registers.specs.declared.Work.{Work}
use Rattle.registers.specs.declared.Work.TheVariants.{Idle, Figure, Arc, Character, Reading}
use Rattle.registers.specs.Width.{command_mark, entry_end}
use Rattle.registers.specs.Sound.{write_b}

-- nothing is in progress
abbrev pub idle_b : Work → Bool
idle_b Idle = true
idle_b (Figure k d) = false
idle_b (Arc k a) = false
idle_b (Character row column start) = false
idle_b (Reading item t) = false

-- the controller waits, so many entries being held, and the entry is one that it takes at once
abbrev pub at_once_b : Mode → Work → ℕ → ℕ → Bool
at_once_b m w held e = write_b m && idle_b w && eqb held 0 && not (eqb e command_mark) && ltb e entry_end
