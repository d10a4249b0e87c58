-- `run_on`: after n units, what is left to do from here is what was to do from the start; many units at once are as many (`figure_ahead`,
-- `arc_ahead`, `character_ahead`).
use Rattle.units.specs.Run.{run_from}
use Rattle.registers.specs.State.{state}
use mathlib.Core.Path.{◌≡◌}
use Prim.Native.Nat.{◌-◌, ◌≤◌}
use Rattle.units.proofs.run_on.Given as goal

abbrev pub invariant-loop-n : goal.invariant-loop-n
invariant-loop-n l =
    record {
      within : l.n ≤ l.budget;
      same : run_from l.budget 0 (state l.initial.s l.initial.mem) ≡ run_from (l.budget - l.n) l.n (state l.s l.mem);
    }

abbrev pub decreases-loop-n : goal.decreases-loop-n
decreases-loop-n l = l.budget - l.n
