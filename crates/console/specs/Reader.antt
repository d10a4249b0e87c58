-- The script in pieces, and a line taken out of them.
use Rattle.std.specs.Prelude.{ℕ, ◌+◌, List, [], ◌∷◌, true, false, cond, ◌&&◌, ltb, eqb, length as count, take, drop, set}
use Rattle.buffers.specs.Used.{used_of}
use Rattle.console.specs.declared.reader.Reader.{Reader}

-- before the first piece
abbrev pub at_start : Reader
at_start = record { at = 0; filled = 0; length = 0; whole = false; closed = false; ended = false }

-- after a line: the next begins, if the script is not closed
abbrev pub past_line : Reader → Reader
past_line r = record { at = r.at; filled = r.filled; length = 0; whole = false; closed = r.closed; ended = r.closed }

-- a reader and the line's characters
pub record Taking : Type 0 where
  pub reader : Reader
  pub line : List ℕ

abbrev pub taking : Reader → List ℕ → Taking
taking r l = record { reader = r; line = l }

-- a newline: the line is whole
abbrev pub whole_at : ℕ → ℕ → ℕ → Reader
whole_at at filled n = record { at = at; filled = filled; length = n; whole = true; closed = false; ended = false }

-- the piece's end: a script that is closed ends its last line, "if that has a character"
abbrev pub piece_end : Reader → ℕ → ℕ → ℕ → Reader
piece_end r at filled n =
    record { at = at; filled = filled; length = n; whole = r.closed && ltb 0 n; closed = r.closed; ended = r.closed }

-- the characters left in the piece: up to a newline each goes to the line's end, while that has room
unfoldable pub taken_from : Reader → ℕ → List ℕ → ℕ → ℕ → List ℕ → Taking
taken_from r filled [] at n l = taking (piece_end r at filled n) l
taken_from r filled (b ∷ rest) at n l =
    cond (eqb b 10) (taking (whole_at (at + 1) filled n) l)
    (cond (ltb n (count l)) (taken_from r filled rest (at + 1) (n + 1) (set l n b)) (taken_from r filled rest (at + 1) n l))

unfoldable pub taken : List ℕ → Reader → List ℕ → Taking
taken input r l = taken_from r (used_of r.filled input) (drop r.at (take (used_of r.filled input) input)) r.at r.length l
