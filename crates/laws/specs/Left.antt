-- 02, M-103: what the count tells. "how many cycles the present figure still needs" is defined of the figure and the place reached, and
-- not of a count (`cycles_left`); here it is a number of units, and the count of a sound set.
use Rattle.std.specs.Prelude.{◌≡◌, true, List, ℕ, suc, ◌<◌}
use Rattle.registers.specs.declared.Registers.{Registers}
use Rattle.registers.specs.declared.Work.TheVariants.{Idle}
use Rattle.registers.specs.Left.{cycles_left}
use Rattle.registers.specs.Sound.{sound_b}
use Rattle.registers.specs.State.{state}
use Rattle.registers.specs.Typed.{Typed, Words}
use Rattle.status.specs.Status.{figure_in_progress_b}
use Rattle.units.specs.Unit.{unit_done}
use Rattle.units.specs.Run.{units_done}

-- "the cycles still to come by the figure's definition", of a register set
abbrev pub left_in : Registers → ℕ
left_in r = cycles_left r.drawing r.video.zoom r.work

-- of a sound set, with what the types say, over 16-bit words
pub record CyclesLeftAreUnits : Type 0 where
  -- "It equals, at all times, the cycles still to come by the figure's definition"
  pub count : (r : Registers) → sound_b r ≡ true → r.remaining ≡ left_in r
  -- a unit of a figure is one of its cycles: one fewer is left
  pub falls : (r : Registers) (m : List ℕ) → sound_b r ≡ true → Typed r → Words m → figure_in_progress_b r.work ≡ true
      → left_in r ≡ suc (left_in (unit_done (state r m)).regs)
  -- before so many units the figure is in progress, and after them it has ended
  pub before : (r : Registers) (m : List ℕ) → sound_b r ≡ true → Typed r → Words m → (i : ℕ) → i < left_in r
      → figure_in_progress_b (units_done i (state r m)).regs.work ≡ true
  pub ends : (r : Registers) (m : List ℕ) → sound_b r ≡ true → Typed r → Words m → figure_in_progress_b r.work ≡ true
      → (units_done (left_in r) (state r m)).regs.work ≡ Idle
