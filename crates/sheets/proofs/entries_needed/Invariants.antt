-- `entries_needed` counts PITCH P and the figures' entries: what is counted and what the slots left take are the whole, at each turn.
use Prim.Native.Nat.{◌+◌, ◌-◌, ◌*◌, ◌≤◌}
use mathlib.Core.Path.{◌≡◌}
use Rattle.sheets.specs.Slots.{sized, figures, figures_from}
use Rattle.sheets.proofs.entries_needed.Given as goal

abbrev pub invariant-loop-k : goal.invariant-loop-k
invariant-loop-k l =
    record {
      small : l.need ≤ 2 + 161 * l.k;
      total : 2 + sized (figures l.s l.m l.n) ≡ l.need + sized (figures_from l.s l.m (50 * l.n - l.k) l.k);
    }
