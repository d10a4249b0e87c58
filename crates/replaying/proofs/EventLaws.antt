-- One event: the kinds that `event_done` and `runs_of` tell apart by the tests that the code makes. None does more units than 272 budgets,
-- as
-- a run does no more than its budget.
use mathlib.Core.Path.{◌≡◌, refl}
use Prim.Native.Nat.{ℕ, ◌%◌, ◌≤◌, ◌<◌}
use native.Mathlib.Omega.{arith}
use lib.Dec.{ltb}
use borrow.Author.Tests.{lt-ltb, le-ltb}
use Rattle.registers.specs.State.{State, state}
use Rattle.ports.specs.declared.Answer.{Answer}
use Rattle.units.specs.Run.{run_done}
use Rattle.units.specs.Run.{Outcome as Ran}
use Rattle.laws.proofs.BranchLaws.{either}
use Rattle.laws.proofs.RunLaws.{run_within_law}
use Rattle.sending.specs.Send.{written}
use Rattle.finishing.specs.Finish.{finished}
use Rattle.finishing.specs.Finish.{Outcome as Runs, outcome as runs}
use Rattle.finishing.proofs.FinishLaws.{finished_few}
use Rattle.replaying.specs.Replay.{Effect, ran, units_mark, idle_mark, runs_of, event_done}

module _ (s : State) (e : ℕ) where
  pub units_run_law : {o : Ran} → e < idle_mark → o ≡ run_done (e % units_mark) s
      → runs (record { regs = o.ran.regs; units = o.ran.count }) o.mem ≡ runs_of s e
  unfolding runs_of
  units_run_law h q = rw (q, lt-ltb e idle_mark h)

  pub idle_run : {o : Runs} → idle_mark ≤ e → o ≡ finished s → o ≡ runs_of s e
  unfolding runs_of
  idle_run h q = rw (q, le-ltb e idle_mark h)

  pub entry_done : {a : Answer} → e < units_mark → a ≡ written s.regs e
      → record { number = a.number; units = 0; left = state a.regs s.mem } ≡ event_done s e
  unfolding event_done
  entry_done h q = rw (q, lt-ltb e units_mark h)

  pub run_done_law : {o : Runs} → units_mark ≤ e → o ≡ runs_of s e → ran o ≡ event_done s e
  unfolding event_done
  run_done_law h q = rw (q, le-ltb e units_mark h)

  pub event_few : (event_done s e).units ≤ 1168231104240
  unfolding event_done runs_of
  event_few =
      either (λ (f : Effect). f.units ≤ 1168231104240) (ltb e units_mark) (omega arith)
      (either (λ (o : Runs). o.sent.units ≤ 1168231104240) (ltb e idle_mark) (omega (arith, run_within_law (e % units_mark) s))
      (finished_few s refl))
