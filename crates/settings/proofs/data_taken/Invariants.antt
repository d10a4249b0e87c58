-- `data_taken`: what is left to take from here, with the entries so far, is what was to take from the start; a byte leaves its set
-- half-sent (`half_sent`) or completes it (`completed`), and the loop ends behind the last entry or at a command.
use mathlib.Core.Path.{◌≡◌}
use lib.ListN.{length, drop}
use Rattle.settings.specs.Settings.{data_all}
use Rattle.settings.proofs.DataLaws.{beyond, within}
use Rattle.settings.proofs.data_taken.Given as goal

abbrev pub invariant-loop-e : goal.invariant-loop-e
invariant-loop-e l =
    record {
      counted : l.count ≡ l.e-index;
      long : length l.mem ≡ length l.initial.mem;
      rest : data_all l.sync l.t l.from l.entries l.initial.mem
          ≡ beyond l.e-index (data_all l.sync l.t (within l.t l.from l.cursor l.next l.low) (drop l.e-index l.entries) l.mem);
    }
