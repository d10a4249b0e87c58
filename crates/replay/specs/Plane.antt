-- What the program's arguments are refused with, in the order in which a sheet's drawing is.
use Rattle.std.specs.Prelude.{ℕ, ◌*◌, cond, nat_lt, Option, None, Some}
use Rattle.dots.specs.declared.Wiring.{Wiring}
use Rattle.registers.specs.declared.Registers.{Registers}
use Rattle.registers.specs.Fresh.{fresh_set}
use Rattle.wirings.specs.Wired.{wired_as}
use Rattle.units.specs.Run.{length_b}
use Rattle.refusals.specs.Refusals.{plane_b}
use Rattle.replay.specs.declared.Plane.{Plane}

-- "2 memory length wrong", which "depends on the wiring" (02, M-108), "11 P, H or P·H out of range", then 02's "23 a picture larger
-- than the memory"; or none
unfoldable pub plane_refused : Wiring → ℕ → ℕ → ℕ → Option ℕ
plane_refused w p h words = cond (length_b w words) (cond (plane_b p h) (cond (nat_lt words (p * h)) (Some 23) None) (Some 11)) (Some 2)

-- the registers before the first line: fresh, but for the wiring
abbrev pub fresh_on : Plane → Registers
fresh_on p = wired_as p.wiring fresh_set
