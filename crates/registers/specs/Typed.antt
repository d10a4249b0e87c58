-- What the types of a register set and of a lent memory say by themselves, as far as the laws use it: a `u16` is below 65,536,
-- a `[u16; 16]` has sixteen elements. Every value of these types in a program has it; a law over plain numbers asks for it.
use Rattle.std.specs.Prelude.{◌≡◌, List, ℕ, ◌<◌, length, get_or}
use Rattle.registers.specs.declared.Work.{Work}
use Rattle.registers.specs.declared.Work.TheVariants.{Idle, Figure, Arc, Character, Reading}
use Rattle.registers.specs.declared.Registers.{Registers}

-- the mask with which a character's row started; the next row starts from it
abbrev pub StartFits : Work → Type 0
StartFits Idle = Unit {0}
StartFits (Figure k d) = Unit {0}
StartFits (Arc k a) = Unit {0}
StartFits (Character row column start) = start.mask < 65536
StartFits (Reading item t) = Unit {0}

pub record Typed (r : Registers) : Type 0 where
  pub mask : r.cursor.mask < 65536
  pub ram : length r.ram ≡ 16
  pub entries : length r.buffer.entries ≡ 16
  pub start : StartFits r.work

-- each word has 16 bits
pub record Words (m : List ℕ) : Type 0 where
  pub below : (j : ℕ) → get_or m j 0 < 65536
