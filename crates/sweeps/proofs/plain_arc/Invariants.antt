-- `plain_arc`: what is left to do from here is what was to do from the start (`sweep_on`).
use mathlib.Core.Path.{◌≡◌}
use Prim.Native.Nat.{◌-◌}
use Rattle.sweeps.specs.Sweep.{arc_walk}
use Rattle.sweeps.proofs.plain_arc.Given as goal

abbrev pub invariant-loop-k : goal.invariant-loop-k
invariant-loop-k l = arc_walk l.b (l.end - l.i) l.i l.initial.m l.initial.mem ≡ arc_walk l.b (l.end - l.k) l.k l.m l.mem
