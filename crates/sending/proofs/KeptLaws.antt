-- Entries sent, whatever they are, keep a lawful register set lawful, of its board, and the memory's words 16 bits wide: each port and each
-- run
-- keeps them, by crate laws.
use mathlib.Core.List.{List, [], ◌∷◌}
use Prim.Native.Nat.{ℕ}
use Rattle.registers.specs.declared.Board.{Board}
use Rattle.registers.specs.State.{State, state}
use Rattle.laws.proofs.KeptLaws.{Whole}
use Rattle.laws.proofs.KeptUnitLaws.{run_kept}
use Rattle.sending.specs.Send.{written, full_budget, sent, left, sent_all}
use Rattle.sending.proofs.PortLaws.{written_kept}

module _ {board : Board} (n : ℕ) where
  pub sent_kept : (s : State) → Whole board n s → (e : ℕ) → Whole board n (left (sent s e))
  unfolding sent
  sent_kept s w e =
      run_kept n full_budget (state (written s.regs e).regs s.mem)
      (record { regs = written_kept s.regs w.regs e; words = w.words; long = w.long })

  pub sent_all_kept : (l : List ℕ) (s : State) → Whole board n s → Whole board n (sent_all s l)
  unfolding sent_all
  sent_all_kept [] s w = w
  sent_all_kept (e ∷ l) s w = sent_all_kept l (left (sent s e)) (sent_kept s w e)
