-- `walk_loop`: what is left to do from here is what was to do from the start (`pace_on`).
use Rattle.std.proofs.Common.{◌≡◌, ◌-◌}
use Rattle.dots.specs.Operation.{operation_of}
use Rattle.walks.specs.Pace.{pace_walk}
use Rattle.walks.proofs.pace.walk_loop.Given as goal

abbrev pub invariant-loop-i : goal.invariant-loop-i
invariant-loop-i g l =
    let walk = pace_walk g.P.Pace.at g.P.Pace.on l.s.wiring (operation_of g.row.OP) l.s.low l.s.high in
    walk (l.end - l.k) l.k l.initial.p l.initial.mem ≡ walk (l.end - l.i) l.i l.p l.mem
