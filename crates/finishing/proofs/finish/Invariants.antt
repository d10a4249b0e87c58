-- `finish`: what is left to run from here, with the units so far, is what was to run from the start; a run that does not say that its
-- budget is spent is the last one.
use Prim.Native.Nat.{◌-◌, ◌*◌, ◌≤◌}
use mathlib.Core.Path.{◌≡◌}
use lib.ListN.{length}
use Rattle.registers.specs.State.{state}
use Rattle.finishing.specs.Finish.{more, runs_done, finished}
use Rattle.finishing.proofs.finish.Given as goal

abbrev pub invariant-loop-done : goal.invariant-loop-done
invariant-loop-done l =
    record {
      long : length l.mem ≡ length l.initial.mem;
      few : l.units ≤ 4294967295 * l.done;
      rest : finished (state l.initial.regs l.initial.mem) ≡ more l.units (runs_done (272 - l.done) (state l.regs l.mem));
    }
