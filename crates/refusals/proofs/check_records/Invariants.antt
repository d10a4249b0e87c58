-- `check_records` gives `records_checked`: the slots left decide the answer as all the slots do, at each turn.
use Prim.Native.Nat.{◌-◌, ◌*◌}
use mathlib.Core.Path.{◌≡◌}
use Rattle.blocks.specs.Answer.{first_from}
use Rattle.refusals.specs.Refusals.{slot_answer, records_checked}
use Rattle.refusals.proofs.check_records.Given as goal

abbrev pub invariant-loop-k : goal.invariant-loop-k
invariant-loop-k l = records_checked l.s l.m l.n ≡ first_from (slot_answer l.s l.m) (50 * l.n - l.k) l.k
