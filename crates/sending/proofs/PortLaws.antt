-- An entry at its port: the two ports that `written` tells apart by the test that code makes, and a lawful set stays lawful, by crate laws.
use mathlib.Core.Path.{◌≡◌}
use Prim.Native.Nat.{ℕ, ◌%◌, ◌≤◌, ◌<◌}
use native.Mathlib.Omega.{arith}
use lib.Dec.{ltb}
use borrow.Author.Tests.{ltb-true, lt-ltb, le-ltb}
use Rattle.registers.specs.declared.Board.{Board}
use Rattle.registers.specs.declared.Registers.{Registers}
use Rattle.ports.specs.declared.Answer.{Answer}
use Rattle.ports.specs.Port.{command_written, parameter_written}
use Rattle.laws.proofs.BranchLaws.{cases}
use Rattle.laws.proofs.KeptLaws.{SoundSet}
use Rattle.laws.proofs.KeptPortLaws.{Answers, command_written_kept, parameter_written_kept}
use Rattle.sending.specs.Send.{written}

module _ (r : Registers) (e : ℕ) where
  pub to_parameter : {a : Answer} → e < 256 → a ≡ parameter_written r (e % 256) → a ≡ written r e
  to_parameter h q = let f : e % 256 ≡ e = omega arith in rw (q, f, lt-ltb e 256 h)

  pub to_command : {a : Answer} → 256 ≤ e → a ≡ command_written r (e % 256) → a ≡ written r e
  to_command h q = rw (q, le-ltb e 256 h)

pub written_kept : {board : Board} (r : Registers) → SoundSet board r → (e : ℕ) → Answers board (written r e)
written_kept {board} r l e =
    cases (Answers board) (ltb e 256) (λ t. parameter_written_kept r l e (ltb-true e 256 t))
    (λ t. command_written_kept r l (e % 256) (omega arith))
