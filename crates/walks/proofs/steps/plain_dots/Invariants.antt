-- `plain_dots`: what is left to do from here is what was to do from the start (`dots_on`).
use mathlib.Core.Path.{◌≡◌}
use Prim.Native.Nat.{◌-◌}
use Rattle.walks.specs.Walk.{figure_walk}
use Rattle.walks.proofs.steps.plain_dots.Given as goal

abbrev pub invariant-loop-i : goal.invariant-loop-i
invariant-loop-i l =
    figure_walk l.b (l.end - l.k) l.k l.initial.d l.initial.c l.initial.mem ≡ figure_walk l.b (l.end - l.i) l.i l.d l.c l.mem
