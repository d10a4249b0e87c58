-- Demand 1: "A sound set stays sound." One statement for each entry of the controller: if the set given is sound, so is the one that is
-- answered, by a refusal too. What the types say of what is given comes as premises: `Typed` of the registers, below 256 of a byte,
-- `Words` of a memory. (The board call's statement is `BoardCallKeepsSound` in crate board.)
use Rattle.std.specs.Prelude.{◌≡◌, true, List, ℕ, ◌<◌, length}
use Rattle.registers.specs.declared.Registers.{Registers}
use Rattle.registers.specs.Fresh.{fresh_set}
use Rattle.registers.specs.Sound.{sound_b}
use Rattle.registers.specs.State.{state}
use Rattle.registers.specs.Typed.{Typed, Words}
use Rattle.ports.specs.Port.{command_written, parameter_written, byte_read, status_read, pen_posted}
use Rattle.units.specs.Run.{run_done}

-- of a sound set it makes a sound one, and of what the types say it loses nothing: so one entry may follow another. And the board stays
-- what it is (02, M-108: no entry changes the wiring)
abbrev pub KeepsSound : (Registers → Registers) → Type 0
KeepsSound after =
    (r : Registers) → Typed r → sound_b r ≡ true → (sound_b (after r) ≡ true) × (Typed (after r) × ((after r).board ≡ r.board))

pub record EveryEntryKeepsSound : Type 0 where
  -- a byte to the command port, a byte to the parameter port
  pub command : (b : ℕ) → b < 256 → KeepsSound (λ r. (command_written r b).regs)
  pub parameter : (b : ℕ) → b < 256 → KeepsSound (λ r. (parameter_written r b).regs)
  -- a byte read, the status, the light pen
  pub read : KeepsSound (λ r. (byte_read r).regs)
  pub status : KeepsSound (λ r. (status_read r).regs)
  pub pen : (a : ℕ) → KeepsSound (λ r. (pen_posted r a).regs)
  -- a run with any budget
  pub run : (budget : ℕ) (m : List ℕ) → Words m → KeepsSound (λ r. (run_done budget (state r m)).ran.regs)
  -- .. which leaves as many words, of 16 bits each
  pub words : (budget : ℕ) (r : Registers) (m : List ℕ) → Typed r → sound_b r ≡ true → Words m
      → Words (run_done budget (state r m)).mem × (length (run_done budget (state r m)).mem ≡ length m)
  -- the fresh set is sound
  pub fresh : (sound_b fresh_set ≡ true) × Typed fresh_set
