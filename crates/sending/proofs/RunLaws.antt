-- A run that ends because nothing is left to do: it does n units if there is something to do before each of them and nothing
-- after the last, as each turn of the run looks at the reason to stop and else does one unit.
use mathlib.Core.Path.{◌≡◌, refl, ap, ◌∙◌}
use Prim.Native.Nat.{ℕ, zero, suc, ◌+◌, ◌<◌}
use native.Mathlib.Omega.{arith}
use Rattle.registers.specs.State.{State}
use Rattle.units.specs.Unit.{unit_done}
use Rattle.units.specs.Run.{reason_of, units_done, stopped, run_from}

-- one unit more is made last
pub units_last : (n : ℕ) (s : State) → units_done (suc n) s ≡ unit_done (units_done n s)
unfolding units_done
units_last zero s = refl
units_last (suc n) s = units_last n (unit_done s)

pub goes_on : (f k : ℕ) (s : State) → reason_of s.regs ≡ 0 → run_from (suc f) k s ≡ run_from f (k + 1) (unit_done s)
unfolding run_from
goes_on f k s e = rw e

stops : (f k : ℕ) (s : State) → reason_of s.regs ≡ 2 → run_from (suc f) k s ≡ stopped s k 2
unfolding run_from
stops f k s e = rw e

pub runs : (n f k : ℕ) (s : State) → ((i : ℕ) → i < n → reason_of (units_done i s).regs ≡ 0) → reason_of (units_done n s).regs ≡ 2 → n < f
    → run_from f k s ≡ stopped (units_done n s) (k + n) 2
unfolding units_done
runs n zero k s busy idle h = absurd (omega arith)
runs zero (suc f) k s busy idle h = stops f k s idle ∙ ap (λ (j : ℕ). stopped s j 2) (omega arith)
runs (suc n) (suc f) k s busy idle h =
    goes_on f k s (busy 0 (omega arith))
    ∙ runs n f (k + 1) (unit_done s) (λ i l. busy (suc i) (omega arith)) idle (omega arith)
    ∙ ap (λ (j : ℕ). stopped (units_done n (unit_done s)) j 2) (omega arith)
