-- `plain_rows`: what is left to do from here is what was to do from the start (`rows_on`).
use mathlib.Core.Path.{◌≡◌}
use Prim.Native.Nat.{◌-◌}
use Rattle.walks.specs.Walk.{rows_walk}
use Rattle.walks.proofs.steps.plain_rows.Given as goal

abbrev pub invariant-loop-i : goal.invariant-loop-i
invariant-loop-i l =
    rows_walk l.b (l.end - l.y) l.y l.initial.s l.initial.mem ≡ rows_walk l.b (l.end - l.i) l.i l.s l.mem
