-- `put_from` gives `placed`: what is still to be placed, from where the loop stands, makes the same list at each turn.
use Prim.Native.Nat.{◌+◌}
use mathlib.Core.Path.{◌≡◌}
use lib.ListN.{length, drop}
use Rattle.entries.specs.Entries.{placed}
use Rattle.entries.proofs.put_from.Given as goal

abbrev pub invariant-loop-i : goal.invariant-loop-i
invariant-loop-i l =
    (length l.out ≡ length l.initial.out) × (placed l.initial.out l.at l.e ≡ placed l.out (l.at + l.i) (drop l.i l.e))
