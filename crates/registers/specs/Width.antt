-- 01, Numbers and Ports: widths by name, each one more than the greatest number of its width. The code has them in capitals.
use Rattle.std.specs.Prelude.{ℕ}

-- the five type bits SL, R, A, GC, L; DIR
abbrev pub kinds : ℕ
kinds = 32

abbrev pub directions : ℕ
directions = 8

-- "DC, D, D2, D1, DM 14 bits"; of the two's complement the half that is negative starts at the sign
abbrev pub fourteen_bits : ℕ
fourteen_bits = 16384

abbrev pub sign : ℕ
sign = 8192

-- the buffer has sixteen places
abbrev pub places : ℕ
places = 16

-- an entry is a byte, "queued with a command mark" or without
abbrev pub command_mark : ℕ
command_mark = 256

abbrev pub entry_end : ℕ
entry_end = 512

-- at most sixteen parameters of a command are told apart
abbrev pub parameters : ℕ
parameters = 16
