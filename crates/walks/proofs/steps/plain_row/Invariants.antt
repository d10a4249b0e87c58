-- `plain_row`: what is left to do from here is what was to do from the start (`row_on`).
use mathlib.Core.Path.{◌≡◌}
use Prim.Native.Nat.{◌-◌}
use Rattle.walks.specs.Walk.{row_walk}
use Rattle.walks.proofs.steps.plain_row.Given as goal

abbrev pub invariant-loop-i : goal.invariant-loop-i
invariant-loop-i l =
    row_walk l.b (l.end - l.x) l.y l.x l.initial.c l.initial.mem ≡ row_walk l.b (l.end - l.i) l.y l.i l.c l.mem
