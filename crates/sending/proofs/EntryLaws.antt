-- Entries that set registers, as changes of registers: the command bytes of the translation, and one parameter byte of each of
-- its commands. At a known command byte, and at a known command in progress, the definitions compute.
use mathlib.Core.Path.{◌≡◌, refl, ap, ◌∙◌}
use mathlib.Core.Bool.{Bool, cond}
use mathlib.Core.List.{List, [], ◌∷◌}
use Prim.Native.Nat.{ℕ, zero, suc, ◌+◌, ◌<◌}
use native.Mathlib.Omega.{arith}
use lib.ListN.{set}
use borrow.Author.Tests.{lt-ltb}
use Rattle.registers.specs.declared.Command.{Command}
use Rattle.registers.specs.declared.Command.TheVariants.{Zoom, Curs, Pram, Pitch, Figs, Wdat}
use Rattle.registers.specs.declared.Transfer.TheVariants.{Word}
use Rattle.registers.specs.declared.Progress.{Progress}
use Rattle.registers.specs.declared.Registers.{Registers}
use Rattle.registers.specs.Fresh.{fresh_drawing}
use Rattle.registers.specs.Put.{put_cursor, put_pitch, put_drawing, put_op, put_ram, put_video, put_progress, put_zoom}
use Rattle.registers.specs.State.{state}
use Rattle.commands.specs.Decode.{command_of, family_of}
use Rattle.dots.specs.Operation.{operation_of}
use Rattle.processor.specs.Command.{command_taken}
use Rattle.parameters.specs.Parameter.{curs_by, figs_by, zoom_by, ram_by, pitch_by}
use Rattle.processor.specs.Entry.{next_of, counted, parameter_by, parameter_taken, entry_taken}
use Rattle.sending.proofs.WaitLaws.{Waiting, drained, taken_by}
use Rattle.sending.proofs.SendLaws.{Acts, acts_one}

-- a command in progress whose next parameter goes to i
abbrev pub progress : Command → ℕ → Progress
progress c i = record { command = c; next = i; low = 0 }

-- ---- command bytes
module _ {r : Registers} (v : Waiting r) where
  pub pitch_command : Acts r (0x147 ∷ []) (put_progress (drained r) (progress Pitch 0))
  unfolding entry_taken command_taken command_of
  pitch_command = acts_one v (omega arith) (λ q. omega arith) (λ m. refl) refl refl refl

  pub zoom_command : Acts r (0x146 ∷ []) (put_progress (drained r) (progress Zoom 0))
  unfolding entry_taken command_taken command_of
  zoom_command = acts_one v (omega arith) (λ q. omega arith) (λ m. refl) refl refl refl

  pub curs_command : Acts r (0x149 ∷ []) (put_progress (drained r) (progress Curs 0))
  unfolding entry_taken command_taken command_of
  curs_command = acts_one v (omega arith) (λ q. omega arith) (λ m. refl) refl refl refl

  -- PRAM with the address 8
  pub pram_command : Acts r (0x178 ∷ []) (put_progress (drained r) (progress Pram 8))
  unfolding entry_taken command_taken command_of family_of
  pram_command = acts_one v (omega arith) (λ q. omega arith) (λ m. refl) refl refl refl

  pub figs_command : Acts r (0x14C ∷ []) (put_progress (put_drawing (drained r) (fresh_drawing r.drawing)) (progress Figs 0))
  unfolding entry_taken command_taken command_of
  figs_command = acts_one v (omega arith) (λ q. omega arith) (λ m. refl) refl refl refl

  -- WDAT word, with the operation's number
  pub wdat_command : (n : ℕ) → n < 4 → Acts r ((0x120 + n) ∷ [])
      (put_progress (put_op (drained r) (operation_of n)) (progress (Wdat Word) 0))
  unfolding entry_taken command_taken command_of family_of operation_of
  wdat_command zero h = acts_one v (omega arith) (λ q. omega arith) (λ m. refl) refl refl refl
  wdat_command (suc zero) h = acts_one v (omega arith) (λ q. omega arith) (λ m. refl) refl refl refl
  wdat_command (suc (suc zero)) h = acts_one v (omega arith) (λ q. omega arith) (λ m. refl) refl refl refl
  wdat_command (suc (suc (suc zero))) h = acts_one v (omega arith) (λ q. omega arith) (λ m. refl) refl refl refl
  wdat_command (suc (suc (suc (suc n)))) h = absurd (omega arith)

-- ---- parameter bytes
-- one parameter of the command c
module _ {r : Registers} (v : Waiting r) (b : ℕ) (byte : b < 256) (i : ℕ) (few : i < 16) where
  as_parameter : (c : Command) → r.progress ≡ progress c i → (m : List ℕ)
      → taken_by b r m ≡ parameter_by c i b (put_progress (drained r) (progress c (i + 1))) m
  unfolding entry_taken parameter_taken next_of
  as_parameter c e m =
      rw (lt-ltb b 256 byte)
      (ap (λ (p : Progress). parameter_by p.command p.next b (put_progress (drained r) (counted p)) m) e
      ∙ ap (λ (t : Bool). parameter_by c i b (put_progress (drained r) (progress c (cond t (i + 1) 16))) m) (lt-ltb i 16 few))

  pub curs_byte : r.progress ≡ progress Curs i → Acts r (b ∷ [])
      (put_progress (put_cursor (drained r) (curs_by i b r.cursor)) (progress Curs (i + 1)))
  curs_byte e = acts_one v (omega arith) (λ q. omega arith) (as_parameter Curs e) refl refl refl

  pub pram_byte : r.progress ≡ progress Pram i → Acts r (b ∷ [])
      (put_progress (put_ram (drained r) (set r.ram i b)) (progress Pram (i + 1)))
  unfolding ram_by
  pram_byte e =
      acts_one v (omega arith) (λ q. omega arith)
      (λ m. as_parameter Pram e m ∙ ap (λ (t : Bool). state (cond t (put_ram next (set r.ram i b)) next) m) (lt-ltb i 16 few))
      refl refl refl
    where
      next : Registers
      next = put_progress (drained r) (progress Pram (i + 1))

  pub figs_byte : r.progress ≡ progress Figs i → Acts r (b ∷ [])
      (put_progress (put_drawing (drained r) (figs_by i b r.drawing)) (progress Figs (i + 1)))
  figs_byte e = acts_one v (omega arith) (λ q. omega arith) (as_parameter Figs e) refl refl refl

-- the one parameter of PITCH, and of ZOOM
module _ {r : Registers} (v : Waiting r) (b : ℕ) (byte : b < 256) where
  pub pitch_byte : r.progress ≡ progress Pitch 0 → Acts r (b ∷ []) (put_progress (put_pitch (drained r) b) (progress Pitch 1))
  unfolding pitch_by
  pitch_byte e = acts_one v (omega arith) (λ q. omega arith) (as_parameter v b byte 0 (omega arith) Pitch e) refl refl refl

  pub zoom_byte : r.progress ≡ progress Zoom 0 → Acts r (b ∷ [])
      (put_progress (put_video (drained r) (put_zoom r.video b)) (progress Zoom 1))
  unfolding zoom_by
  zoom_byte e = acts_one v (omega arith) (λ q. omega arith) (as_parameter v b byte 0 (omega arith) Zoom e) refl refl refl
