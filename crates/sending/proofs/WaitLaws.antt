-- A controller that waits for entries: the start condition as the laws of sending use it. It stays sound with an entry more in its
-- buffer, and whatever that entry does, by crate laws: the memory has no part in it, so an empty one serves.
use mathlib.Core.Path.{◌≡◌, refl, subst}
use mathlib.Core.Bool.{true}
use mathlib.Core.List.{List, []}
use Prim.Native.Nat.{ℕ, ◌<◌}
use native.Mathlib.Omega.{arith}
use Rattle.registers.specs.declared.Mode.TheVariants.{Write}
use Rattle.registers.specs.declared.Work.TheVariants.{Idle}
use Rattle.registers.specs.declared.Registers.{Registers}
use Rattle.registers.specs.Fresh.{empty_buffer}
use Rattle.registers.specs.Buffer.{pushed}
use Rattle.registers.specs.Sound.{sound_b}
use Rattle.registers.specs.Put.{put_buffer}
use Rattle.registers.specs.State.{State, state}
use Rattle.registers.specs.Typed.{Typed}
use Rattle.processor.specs.Entry.{entry_taken}
use Rattle.units.specs.Run.{reason_of, units_done}
use Rattle.ports.specs.Port.{queued}
use Rattle.laws.proofs.KeptLaws.{SoundSet, own, lawful, lawful_sound, buffer_kept}
use Rattle.laws.proofs.KeptBufferLaws.{empty_queue, pushed_queue}
use Rattle.laws.proofs.KeptProcessorLaws.{entry_kept}
use Rattle.laws.proofs.KeptUnitLaws.{units_kept}
use Rattle.sending.specs.Send.{Ready}

pub record Waiting (r : Registers) : Type 0 where
  pub lawful : SoundSet r.board r
  pub mode : r.mode ≡ Write
  pub idle : r.work ≡ Idle
  pub empty : r.buffer.count ≡ 0

pub waiting : (r : Registers) → Ready r → Typed r → Waiting r
waiting r v t = record { lawful = lawful r v.sound t; mode = v.mode; idle = v.idle; empty = v.empty }

pub waiting_ready : {r : Registers} → Waiting r → Ready r
waiting_ready {r} v = record { sound = lawful_sound r v.lawful; mode = v.mode; empty = v.empty; idle = v.idle }

pub waiting_reason : (r : Registers) → Waiting r → reason_of r ≡ 2
unfolding reason_of
waiting_reason r v = rw (v.idle, v.mode, v.empty)

-- the buffer is as an entry that was taken leaves it
abbrev pub drained : Registers → Registers
drained r = put_buffer r empty_buffer

-- what an entry does to registers and memory when it is taken
abbrev pub taken_by : ℕ → Registers → List ℕ → State
taken_by e r m = entry_taken e (state (drained r) m)

module _ {r : Registers} (v : Waiting r) (e : ℕ) where
  pub waiting_sound : sound_b r ≡ true
  waiting_sound = lawful_sound r v.lawful

  pub queued_sound : e < 512 → sound_b (queued r e) ≡ true
  queued_sound h =
      lawful_sound (queued r e) (buffer_kept r v.lawful (pushed r.buffer e)
      (pushed_queue r.mode r.buffer v.lawful.buffer e (rw v.mode h)))

  -- n units after the entry was taken: sound, and of the same board
  units_sound : (n : ℕ) {s : State} → units_done n (taken_by e r []) ≡ s → SoundSet r.board s.regs
  units_sound n is =
      subst (λ (s : State). SoundSet r.board s.regs) is
      (units_kept 0 n (taken_by e r [])
      (entry_kept 0 e (state (drained r) [])
      (record {
        regs = buffer_kept r v.lawful empty_buffer (empty_queue r.mode);
        words = record { below = λ j. omega arith };
        long = refl;
      })
      v.idle v.mode)).regs

  pub units_lawful : (n : ℕ) {s : State} → units_done n (taken_by e r []) ≡ s → SoundSet s.regs.board s.regs
  units_lawful n {s} is = own s.regs (units_sound n is)

  pub units_board : (n : ℕ) {s : State} → units_done n (taken_by e r []) ≡ s → s.regs.board ≡ r.board
  units_board n is = (units_sound n is).same
