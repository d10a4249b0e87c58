-- The controller and the display memory that it is lent.
use Rattle.std.specs.Prelude.{ℕ, List}
use Rattle.registers.specs.declared.Registers.{Registers}

-- "Display memory is a lent run of 16-bit words"
pub record State : Type 0 where
  pub regs : Registers
  pub mem : List ℕ

abbrev pub state : Registers → List ℕ → State
state r m = record { regs = r; mem = m }
