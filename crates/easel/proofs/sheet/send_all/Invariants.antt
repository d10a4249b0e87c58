-- `send_all` gives `played`: what is left to play from here, with the units so far, is what was to play from the start.
use Prim.Native.Nat.{◌*◌, ◌≤◌}
use mathlib.Core.Path.{◌≡◌}
use lib.ListN.{length, drop}
use Rattle.registers.specs.State.{state}
use Rattle.finishing.specs.Finish.{more}
use Rattle.easel.specs.Drawing.{played}
use Rattle.easel.proofs.sheet.send_all.Given as goal

abbrev pub invariant-loop-e : goal.invariant-loop-e
invariant-loop-e l =
    record {
      short : length l.entries ≤ 128802;
      few : l.units ≤ 1168231104240 * l.e-index;
      rest : played (state l.initial.regs l.initial.mem) l.entries ≡ more l.units (played (state l.regs l.mem) (drop l.e-index l.entries));
    }
