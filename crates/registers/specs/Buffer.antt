-- 01, Ports: the buffer of sixteen entries, the oldest first.
use Rattle.std.specs.Prelude.{ℕ, ◌+◌, ◌-◌, cond, List, [], ◌∷◌, ◌++◌, ltb, leb, get_or, set, drop}
use Rattle.registers.specs.declared.Buffer.{Buffer}
use Rattle.registers.specs.Width.{places}
use Rattle.registers.specs.Fresh.{empty_buffer}

-- an entry more, behind the others; a buffer of sixteen takes none
unfoldable pub pushed : Buffer → ℕ → Buffer
pushed b e = cond (ltb b.count places) (record { entries = set b.entries b.count e; count = b.count + 1 }) b

-- the oldest entry
unfoldable pub oldest : Buffer → ℕ
oldest b = get_or b.entries 0 0

-- .. and the buffer without it: the others move up by one place, with a 0 behind. After the last entry it is the empty buffer, whatever
-- stood in the places past it; a set that is given may have anything there.
unfoldable pub popped : Buffer → Buffer
popped b =
    cond (leb b.count 1) empty_buffer (record { entries = drop 1 b.entries ++ 0 ∷ []; count = b.count - 1 })
