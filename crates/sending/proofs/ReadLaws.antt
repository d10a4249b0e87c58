-- In read mode a command byte "first discards all read data, ends the read and turns to write mode": PITCH, sent to a set in read mode, is
-- answered, and its run goes, as if the set had been turned before.
use mathlib.Core.Path.{◌≡◌, refl, sym, ap, ◌∙◌}
use mathlib.Core.List.{List}
use Prim.Native.Nat.{ℕ}
use Rattle.registers.specs.declared.Mode.{Mode}
use Rattle.registers.specs.declared.Mode.TheVariants.{Read}
use Rattle.registers.specs.declared.Registers.{Registers}
use Rattle.registers.specs.State.{state}
use Rattle.units.specs.Run.{run_done}
use Rattle.ports.specs.declared.Answer.{Answer}
use Rattle.ports.specs.Port.{granted, queued, turned_back, queued_or3, command_in, command_written}
use Rattle.laws.proofs.KeptLaws.{SoundSet, lawful_sound}
use Rattle.laws.proofs.KeptPortLaws.{turned_back_law}
use Rattle.sending.specs.Send.{written, full_budget, Reply, sent}
use Rattle.sending.proofs.WaitLaws.{Waiting}

module _ (r : Registers) (l : SoundSet r.board r) (read : r.mode ≡ Read) where
  pub turned_waits : Waiting (turned_back r)
  turned_waits = record { lawful = turned_back_law r l read; mode = refl; idle = refl; empty = refl }

  turns : written r 0x147 ≡ granted 0 (queued (turned_back r) 0x147)
  unfolding command_written
  turns = rw (lawful_sound r l) (ap (λ (x : Mode). command_in x r 0x47) read)

  turned : written (turned_back r) 0x147 ≡ granted 0 (queued (turned_back r) 0x147)
  unfolding command_written queued_or3
  turned = rw (lawful_sound (turned_back r) (turned_back_law r l read))

  pub pitch_turns : (m : List ℕ) → sent (state r m) 0x147 ≡ sent (state (turned_back r) m) 0x147
  unfolding sent
  pitch_turns m =
      ap (reply m) (turns ∙ sym turned)
    where
      reply : List ℕ → Answer → Reply
      reply k a = record { port = a; run = run_done full_budget (state a.regs k) }
