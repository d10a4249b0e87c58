-- `write_out` places the translation: what is still to be placed, from where the loop stands, makes the same output at each turn.
use Prim.Native.Nat.{◌+◌, ◌-◌, ◌*◌, ◌≤◌}
use mathlib.Core.Path.{◌≡◌}
use lib.ListN.{length}
use Rattle.entries.specs.Entries.{placed}
use Rattle.sheets.specs.Slots.{figures, figures_from, translated}
use Rattle.sheets.proofs.write_out.Given as goal

abbrev pub invariant-loop-k : goal.invariant-loop-k
invariant-loop-k l =
    record {
      small : l.at ≤ 2 + 161 * l.k;
      long : length l.out ≡ length l.initial.out;
      same : placed l.initial.out 2 (translated l.t l.p (figures l.s l.m l.n))
          ≡ placed l.out l.at (translated l.t l.p (figures_from l.s l.m (50 * l.n - l.k) l.k));
    }
