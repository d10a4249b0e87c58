-- A line's place: the bit address and D in one number, with what its two moves add to them.
use Rattle.std.specs.Prelude.{ℕ, ◌%◌}
use Rattle.walks.specs.declared.line.Line.{Line}
use Rattle.walks.specs.Address.{line_stepped}

-- its bit address, and the place after a move
abbrev pub line_at : Line → ℕ
line_at p = p.place % 4194304

abbrev pub line_on : Line → Line
line_on p = record { place = line_stepped p.axis p.diagonal p.place; axis = p.axis; diagonal = p.diagonal }
