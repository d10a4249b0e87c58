-- 01, Ports, Units and Translation: entries sent to the controller one at a time, with a run after each.
use Rattle.std.specs.Prelude.{◌≡◌, true, cond, List, [], ◌∷◌, ℕ, ◌+◌, ◌%◌, ltb}
use Rattle.registers.specs.declared.Mode.TheVariants.{Write}
use Rattle.registers.specs.declared.Work.TheVariants.{Idle}
use Rattle.registers.specs.declared.Registers.{Registers}
use Rattle.registers.specs.Sound.{sound_b}
use Rattle.registers.specs.State.{State, state}
use Rattle.ports.specs.declared.Answer.{Answer}
use Rattle.ports.specs.Port.{command_written, parameter_written}
use Rattle.units.specs.Run.{Outcome, run_done}

-- a sound register set "in write mode", that holds no entry and has nothing in progress
pub record Ready (r : Registers) : Type 0 where
  pub sound : sound_b r ≡ true
  pub mode : r.mode ≡ Write
  pub empty : r.buffer.count ≡ 0
  pub idle : r.work ≡ Idle

-- an entry goes to its port: "16-bit entries, commands are the byte + 256"; of one past nine bits the low byte goes to the command port
abbrev pub written : Registers → ℕ → Answer
written r e = cond (ltb e 256) (parameter_written r e) (command_written r (e % 256))

-- the whole of a run's "32-bit budget"
abbrev pub full_budget : ℕ
full_budget = 4294967295

-- one entry: what its port answers, and what the run after it does
pub record Reply : Type 0 where
  pub port : Answer
  pub run : Outcome

unfoldable pub sent : State → ℕ → Reply
sent s e = record { port = written s.regs e; run = run_done full_budget (state (written s.regs e).regs s.mem) }

-- the controller and its memory then
abbrev pub left : Reply → State
left q = state q.run.ran.regs q.run.mem

-- neither the port nor the run refuses ("Success is number 0"), and the run stops because "nothing is in progress or .. queued", which is 2
pub record Accepted (q : Reply) : Type 0 where
  pub port : q.port.number ≡ 0
  pub run : q.run.ran.number ≡ 0
  pub idle : q.run.ran.why ≡ 2

-- the entries of a list in order: the state that they lead to; that each is accepted; the units that their runs report
unfoldable pub sent_all : State → List ℕ → State
sent_all s [] = s
sent_all s (e ∷ l) = sent_all (left (sent s e)) l

abbrev pub AllAccepted : State → List ℕ → Type 0
AllAccepted s [] = Unit
AllAccepted s (e ∷ l) = Accepted (sent s e) × AllAccepted (left (sent s e)) l

unfoldable pub units_of : State → List ℕ → ℕ
units_of s [] = 0
units_of s (e ∷ l) = (sent s e).run.ran.count + units_of (left (sent s e)) l
