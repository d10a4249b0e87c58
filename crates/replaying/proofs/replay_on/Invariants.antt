-- `replay_on`: after k events, what is left to do from here, with the units so far, is what was to do from the start. Both ways of a turn
-- keep that: an entry that its port takes, and a run.
use lib.ListN.{length}
use Rattle.registers.specs.State.{state}
use Rattle.replaying.proofs.ListLaws.{Going}
use Rattle.replaying.proofs.replay_on.Given as goal

abbrev pub invariant-loop-k : goal.invariant-loop-k
invariant-loop-k l = Going (length l.initial.mem) l.events (state l.initial.s l.initial.mem) (state l.s l.mem) l.units l.k
