-- `counted` counts figures, entries and dots: what is counted and what the slots left have are the whole, at each turn.
use Prim.Native.Nat.{◌+◌, ◌-◌, ◌*◌, ◌≤◌}
use mathlib.Core.Path.{◌≡◌}
use lib.ListN.{length}
use Rattle.sheets.specs.Slots.{sized, figures, figures_from}
use Rattle.costs.specs.Dots.{figures_dots}
use Rattle.costs.proofs.counted.Given as goal

abbrev pub invariant-loop-k : goal.invariant-loop-k
invariant-loop-k l =
    record {
      few : l.figures ≤ l.k;
      small : l.entries ≤ 2 + 161 * l.k;
      less : l.dots ≤ 4294967295 * l.k;
      count : length (figures l.s l.m l.n) ≡ l.figures + length (figures_from l.s l.m (50 * l.n - l.k) l.k);
      need : 2 + sized (figures l.s l.m l.n) ≡ l.entries + sized (figures_from l.s l.m (50 * l.n - l.k) l.k);
      dots : figures_dots (figures l.s l.m l.n) ≡ l.dots + figures_dots (figures_from l.s l.m (50 * l.n - l.k) l.k);
    }
