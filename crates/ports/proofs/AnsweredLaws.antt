-- A refusal of a port is never number 0. True by its cases.
use mathlib.Core.Path.{◌≡◌}
use native.Mathlib.Omega.{arith}
use Rattle.ports.specs.declared.Refusal.{Refusal}
use Rattle.ports.specs.declared.Refusal.TheVariants.{Unsound, Full, Reading, NoByte, PenAddress}
use Rattle.ports.specs.Answered.{refusal_number}

pub refusal_some : (w : Refusal) → refusal_number w ≡ 0 → ⊥
refusal_some Unsound e = omega arith
refusal_some Full e = omega arith
refusal_some Reading e = omega arith
refusal_some NoByte e = omega arith
refusal_some PenAddress e = omega arith
