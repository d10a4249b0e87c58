-- `side_dots`: what is left to do from here is what was to do from the start, a side at a time (`side_on`).
use mathlib.Core.Path.{◌≡◌}
use Prim.Native.Nat.{◌-◌, ◌<◌}
use lib.ListN.{length}
use Rattle.dots.specs.Dot.{cursor_at}
use Rattle.walks.specs.Walk.{figure_walk}
use Rattle.walks.proofs.side.side_dots.Given as goal

abbrev pub invariant-loop-i : goal.invariant-loop-i
invariant-loop-i l =
    record {
      small : l.a < 4194304;
      long : length l.mem ≡ length l.initial.mem;
      same : figure_walk l.b (l.end - l.k) l.k l.d (cursor_at l.at) l.initial.mem
          ≡ figure_walk l.b (l.end - l.i) l.i l.d (cursor_at l.a) l.mem;
    }

abbrev pub decreases-loop-i : goal.decreases-loop-i
decreases-loop-i l = l.end - l.i
