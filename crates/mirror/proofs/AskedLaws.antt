-- The run of what is a register set, step by step as `kranichseil_run` makes it, is the definition, and a list sent as `send_plain` sends
-- it. True since each step is an equation.
use Prim.Native.Nat.{ℕ}
use mathlib.Core.Path.{◌≡◌, ap, ◌∙◌}
use mathlib.Core.Bool.{true}
use mathlib.Core.List.{List}
use Rattle.registers.specs.declared.Registers.{Registers}
use Rattle.registers.specs.State.{state}
use Rattle.units.specs.declared.Ran.{Ran}
use Rattle.units.specs.Run.{Outcome, outcome, run_done}
use Rattle.sends.specs.declared.Listed.{Listed}
use Rattle.sends.specs.Sends.{ListOutcome, listed, list_sent}
use Rattle.plain.specs.declared.PlainRegisters.{PlainRegisters}
use Rattle.mirror.specs.declared.PlainRan.{PlainRan}
use Rattle.mirror.specs.declared.PlainSent.{PlainSent}
use Rattle.plain.specs.Form.{plain_form_b}
use Rattle.plain.specs.Mirror.{from_plain}
use Rattle.mirror.specs.Asked.{plained, ran_plain, ran_on, delivered, sent_plain, sent_on}

module _ (f : ℕ) (p : PlainRegisters) (m : List ℕ) where
  pub runs : {x : Registers} {d : Ran} {z : List ℕ} {y : PlainRan} → plain_form_b p ≡ true → x ≡ from_plain p
      → outcome d z ≡ run_done f (state x m)
      → y ≡ ran_plain d
      → plained y z ≡ ran_on p m (run_done f (state (from_plain p) m))
  runs s e q r =
      rw (s, r) (ap (λ (o : Outcome). plained (ran_plain o.ran) o.mem) (q ∙ ap (λ (u : Registers). run_done f (state u m)) e))

module _ (l : List ℕ) (p : PlainRegisters) (m : List ℕ) where
  pub sends : {x : Registers} {d : Listed} {z : List ℕ} {y : PlainSent} → plain_form_b p ≡ true → x ≡ from_plain p
      → listed d z ≡ list_sent (state x m) l
      → y ≡ sent_plain d
      → delivered y z ≡ sent_on p m (list_sent (state (from_plain p) m) l)
  sends s e q r =
      rw (s, r) (ap (λ (o : ListOutcome). delivered (sent_plain o.list) o.mem) (q ∙ ap (λ (u : Registers). list_sent (state u m) l) e))
