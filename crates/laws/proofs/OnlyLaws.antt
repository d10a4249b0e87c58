-- For every input a contract leaves one answer and one content of the lent memory. Each public contract is an equation with a
-- definition of the inputs on its right, so two answers that meet it are equal, and with them their parts.
use mathlib.Core.Path.{◌≡◌, sym, ap, ◌∙◌}
use mathlib.Core.List.{List}
use Prim.Native.Nat.{ℕ}
use Rattle.registers.specs.declared.Registers.{Registers}
use Rattle.registers.specs.State.{State, state}
use Rattle.units.specs.declared.Ran.{Ran}
use Rattle.units.specs.Run.{Outcome, outcome}

-- an answer alone: the ports, the status, the light pen, the fresh set, the test of soundness
pub only : {A : Type 0} {d a b : A} → a ≡ d → b ≡ d → a ≡ b
only e f = e ∙ sym f

-- registers and memory: a unit
pub only_state : {d : State} {r q : Registers} {m n : List ℕ} → state r m ≡ d → state q n ≡ d → (r ≡ q) × (m ≡ n)
only_state e f = (ap (λ (s : State). s.regs) (only e f), ap (λ (s : State). s.mem) (only e f))

-- what a run answers, and memory
pub only_outcome : {d : Outcome} {a b : Ran} {m n : List ℕ} → outcome a m ≡ d → outcome b n ≡ d → (a ≡ b) × (m ≡ n)
only_outcome e f = (ap (λ (o : Outcome). o.ran) (only e f), ap (λ (o : Outcome). o.mem) (only e f))
