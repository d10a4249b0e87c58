-- `rows_bits`: what is left to do from here is what was to do from the start, a row at a time (`rows_on`).
use mathlib.Core.Path.{◌≡◌}
use Prim.Native.Nat.{◌-◌, ◌<◌}
use Rattle.dots.specs.Dot.{cursor_at}
use Rattle.walks.specs.Walk.{rows_walk}
use Rattle.walks.proofs.side.rows_bits.Given as goal

abbrev pub invariant-loop-i : goal.invariant-loop-i
invariant-loop-i l =
    record {
      small : l.s < 4194304;
      same : rows_walk l.b (l.end - l.y) l.y (cursor_at l.at) l.initial.mem ≡ rows_walk l.b (l.end - l.i) l.i (cursor_at l.s) l.mem;
    }
