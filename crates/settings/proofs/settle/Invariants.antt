-- `settle`: what is left to take from here, with the entries so far, is what was to take from the start. A turn takes a command
-- (`by_command`), a parameter of the command in progress (`by_parameter`) or a stretch of WDAT's bytes (`by_data`); the loop ends behind
-- the last entry or before one that does more.
use Prim.Native.Nat.{◌-◌, ◌≤◌}
use mathlib.Core.Path.{◌≡◌}
use lib.ListN.{length, drop}
use Rattle.settings.specs.Settings.{settle_all}
use Rattle.settings.proofs.DataLaws.{beyond}
use Rattle.settings.proofs.settle.Given as goal

abbrev pub invariant-loop-at : goal.invariant-loop-at
invariant-loop-at l =
    record {
      past : l.k ≤ l.at;
      long : length l.mem ≡ length l.initial.mem;
      rest : settle_all l.sync l.initial.p (drop l.k l.entries) l.initial.mem
          ≡ beyond (l.at - l.k) (settle_all l.sync l.p (drop l.at l.entries) l.mem);
    }

abbrev pub decreases-loop-at : goal.decreases-loop-at
decreases-loop-at l = length l.entries - l.at
