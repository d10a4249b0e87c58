-- `put_circle` gives `placed` of `circle_entries`: the arcs that are still to be placed, from where the loop stands, make the same list at
-- each turn.
use Prim.Native.Nat.{◌+◌, ◌-◌, ◌*◌}
use mathlib.Core.Path.{◌≡◌}
use lib.ListN.{length}
use Rattle.entries.specs.Entries.{placed, arcs_from, circle_entries}
use Rattle.entries.proofs.put_circle.Given as goal

abbrev pub invariant-loop-dir : goal.invariant-loop-dir
invariant-loop-dir l = (length l.out ≡ length l.initial.out) × (placed l.initial.out l.at (circle_entries l.p l.c l.r)
    ≡ placed l.out (l.at + 20 * l.dir) (arcs_from l.p l.c l.r (8 - l.dir) l.dir))
