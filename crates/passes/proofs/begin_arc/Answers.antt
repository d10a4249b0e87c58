-- `begin_arc` is the definition, by whether the arc has a dot to draw.
use Prim.Native.Nat.{◌≤◌}
use native.Mathlib.Omega.{arith}
use Rattle.arcs.proofs.RunningLaws.{arc_begins, arc_passes}
use Rattle.passes.proofs.begin_arc.Goals as goal

pub returns-then-arc_cycles_of-gt0 : goal.returns-then-arc_cycles_of-gt0
returns-then-arc_cycles_of-gt0 c = arc_begins _ c.arc_cycles_of.ensures c.copy-running.ensures c.if-arc_cycles_of-gt0.true

pub returns : goal.returns
returns c =
    let none : c.arc_cycles_of.result ≤ 0 = omega arith in
    arc_passes _ c.arc_cycles_of.ensures c.copy-running.ensures none c.pass.ensures
