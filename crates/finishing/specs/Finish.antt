-- 01, demand 3's start as a function brings it about: what was waiting or in progress is finished, by runs with the whole budget.
use Rattle.std.specs.Prelude.{ℕ, zero, suc, ◌+◌, cond, List, eqb}
use Rattle.registers.specs.State.{State, state}
use Rattle.units.specs.Run.{run_done}
use Rattle.sending.specs.Send.{full_budget}
use Rattle.finishing.specs.declared.Sent.{Sent}

-- an answer, with what the lent memory then holds
pub record Outcome : Type 0 where
  pub sent : Sent
  pub mem : List ℕ

abbrev pub outcome : Sent → List ℕ → Outcome
outcome q m = record { sent = q; mem = m }

-- the controller and its memory then
abbrev pub left_at : Outcome → State
left_at o = state o.sent.regs o.mem

-- nothing is done
abbrev pub unmoved : State → Outcome
unmoved s = outcome (record { regs = s.regs; units = 0 }) s.mem

-- so many units were done before
abbrev pub more : ℕ → Outcome → Outcome
more u o = outcome (record { regs = o.sent.regs; units = u + o.sent.units }) o.mem

-- a run with the whole budget, and further ones while a run says 1, "its 32-bit budget is spent"; n runs at most
unfoldable pub runs_done : ℕ → State → Outcome
runs_done zero s = unmoved s
runs_done (suc n) s =
    more (run_done full_budget s).ran.count
    (cond (eqb (run_done full_budget s).ran.why 1)
    (runs_done n (state (run_done full_budget s).ran.regs (run_done full_budget s).mem))
    (unmoved (state (run_done full_budget s).ran.regs (run_done full_budget s).mem)))

-- What was waiting or in progress is finished. The longest figure has 262,144 rows of 262,128 dots, and behind one in progress
-- sixteen entries can wait that start one each: 272 budgets are more than all that takes (`finishes` of FinishLaws).
unfoldable pub finished : State → Outcome
finished s = runs_done 272 s
