-- `send_on`: after k entries, what is left to send from here, with the units so far, is what was to send from the start. Both ways
-- of a turn keep that: entries that only set registers, and one entry.
use Prim.Native.Nat.{◌-◌}
use lib.ListN.{length}
use Rattle.registers.specs.State.{state}
use Rattle.lists.proofs.QuickLaws.{Going}
use Rattle.lists.proofs.send_on.Given as goal

abbrev pub invariant-loop-k : goal.invariant-loop-k
invariant-loop-k l =
    Going l.initial.s.board (length l.initial.mem) l.entries (state l.initial.s l.initial.mem) (state l.s l.mem) l.units l.k

abbrev pub decreases-loop-k : goal.decreases-loop-k
decreases-loop-k l = length l.entries - l.k
