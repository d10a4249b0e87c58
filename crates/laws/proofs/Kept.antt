-- A sound set stays sound, whatever the entry: soundness and what the types say are together `SoundSet`, which each entry keeps.
use mathlib.Core.Path.{refl}
use mathlib.Core.List.{List}
use Prim.Native.Nat.{ℕ}
use lib.ListN.{length}
use Rattle.registers.specs.declared.Board.{Board}
use Rattle.registers.specs.declared.Registers.{Registers}
use Rattle.registers.specs.State.{state}
use Rattle.registers.specs.Typed.{Words}
use Rattle.units.specs.Run.{run_done}
use Rattle.laws.specs.Kept.{KeepsSound, EveryEntryKeepsSound}
use Rattle.laws.proofs.SoundLaws.{fresh_sound, fresh_typed}
use Rattle.laws.proofs.KeptLaws.{SoundSet, Whole, lawful, lawful_sound, lawful_typed}
use Rattle.laws.proofs.KeptUnitLaws.{left_by, run_kept}
use Rattle.laws.proofs.KeptPortLaws.{command_written_kept, parameter_written_kept, byte_read_kept, status_read_kept}
use Rattle.laws.proofs.KeptPortLaws.{pen_posted_kept}

keeps : {after : Registers → Registers} → ((r : Registers) → SoundSet r.board r → SoundSet r.board (after r)) → KeepsSound after
keeps {after} h r t e =
    let l : SoundSet r.board (after r) = h r (lawful r e t) in
    (lawful_sound (after r) l, (lawful_typed (after r) l, l.same))

-- what a run leaves of a sound set and a memory of 16-bit words
run_leaves : {board : Board} (budget : ℕ) (r : Registers) (m : List ℕ) → SoundSet board r → Words m
    → Whole board (length m) (left_by (run_done budget (state r m)))
run_leaves budget r m l w = run_kept (length m) budget (state r m) (record { regs = l; words = w; long = refl })

pub every_entry_keeps_sound : EveryEntryKeepsSound
every_entry_keeps_sound =
    record {
      command = λ b h. keeps (λ r l. command_written_kept r l b h);
      parameter = λ b h. keeps (λ r l. parameter_written_kept r l b h);
      read = keeps (λ r l. byte_read_kept r l);
      status = keeps (λ r l. status_read_kept r l);
      pen = λ a. keeps (λ r l. pen_posted_kept r l a);
      run = λ budget m w. keeps (λ r l. (run_leaves budget r m l w).regs);
      words = λ budget r m t e w. let left = run_leaves budget r m (lawful r e t) w in (left.words, left.long);
      fresh = (fresh_sound, fresh_typed);
    }
