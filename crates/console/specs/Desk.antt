-- What stands on the bench from line to line.
use Rattle.registers.specs.Fresh.{fresh_set}
use Rattle.console.specs.declared.desk.Left.{Left}

-- "Before the first line: fresh registers, a memory of 16 zero words, picture 28 190 (40 words by 400 lines), no glyphs, an empty sheet"
abbrev pub before_first : Left
before_first = record {
  regs = fresh_set;
  desk = record { words = 16; across = 40; down = 400; glyphs = 0; sheet = 0 };
}
