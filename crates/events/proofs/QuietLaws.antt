-- A line that is no byte and no units asks nothing of the controller: no units are done, and all stays as it was. For a run whose budget
-- is 0 stops before its first unit, and one that is refused alters nothing.
use mathlib.Core.Path.{◌≡◌, refl}
use mathlib.Core.Bool.{Bool, true, false}
use Rattle.registers.specs.Sound.{sound_b}
use Rattle.registers.specs.State.{State}
use Rattle.units.specs.Run.{fitted_b, run_from, run_by, run_done}
use Rattle.finishing.specs.Finish.{outcome as runs}
use Rattle.replaying.specs.Replay.{Effect, ran, runs_of, event_done}
use Rattle.events.specs.Event.{units_asked}

module _ (s : State) where
  abbrev unmoved : Effect
  unmoved = record { number = 0; units = 0; left = s }

  still : (sound long : Bool)
      → ran (runs (record { regs = (run_by sound long 0 s).ran.regs; units = (run_by sound long 0 s).ran.count })
      (run_by sound long 0 s).mem)
      ≡ unmoved
  unfolding run_from
  still false long = refl
  still true false = refl
  still true true = refl

  pub no_units_alter_nothing : event_done s (units_asked 0) ≡ unmoved
  unfolding event_done runs_of run_done
  no_units_alter_nothing = still (sound_b s.regs) (fitted_b s)
