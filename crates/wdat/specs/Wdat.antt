-- 01, Commands and Units, and request M-101: WDAT's sets. "A WDAT set that becomes complete makes its cycle in the unit that takes its
-- last byte."
use Rattle.std.specs.Prelude.{ℕ, ◌+◌, ◌*◌, Bool, false, cond, ◌&&◌, ◌||◌, List, eqb, get_or}
use Rattle.dots.specs.Bit.{bit}
use Rattle.dots.specs.Step.{word_move_of}
use Rattle.dots.specs.Cycle.{cycled}
use Rattle.registers.specs.declared.Transfer.{Transfer}
use Rattle.registers.specs.declared.Transfer.TheVariants.{Word, Low, High}
use Rattle.registers.specs.declared.Command.TheVariants.{Wdat}
use Rattle.registers.specs.declared.Progress.{Progress}
use Rattle.registers.specs.declared.Registers.{Registers}
use Rattle.registers.specs.Put.{put_cursor, put_progress}
use Rattle.registers.specs.State.{State, state}

-- the first byte of a word leaves its set half-sent
abbrev pub half_b : Transfer → ℕ → Bool
half_b Word i = eqb i 0
half_b Low i = false
half_b High i = false

-- "WDAT uses all sixteen bits as the pattern; in a byte transfer the other byte is zero." A word comes low byte first.
abbrev pub wdat_pattern : Transfer → ℕ → ℕ → ℕ
wdat_pattern Word low v = low + 256 * v
wdat_pattern Low low v = v
wdat_pattern High low v = 256 * v

-- M-101, "bit-mapped work": "When sync byte 1 has C = 0 and G = 1, or C = G = 0 with GD set"
abbrev pub mapped_by : ℕ → ℕ → Bool → Bool
mapped_by C G GD = (eqb C 0 && eqb G 1) || (eqb C 0 && eqb G 0 && GD)

-- .. sync byte 1 being the first of the eight, 002's P1: 0 0 C F I D G S
abbrev pub first_sync : Registers → ℕ
first_sync r = get_or r.video.sync 0 0

unfoldable pub bit_mapped_b : ℕ → Bool → Bool
bit_mapped_b sync gd = mapped_by (bit 5 sync) (bit 1 sync) gd

-- "bit 0 of a word's low byte fills all sixteen pattern bits; bit 0 of a single byte fills that byte, the other being zero."
abbrev pub bit_mapped_pattern : Transfer → ℕ → ℕ → ℕ
bit_mapped_pattern Word low v = bit 0 low * 65535
bit_mapped_pattern Low low v = bit 0 v * 255
bit_mapped_pattern High low v = bit 0 v * 65280

-- a complete set's pattern: "in bit-mapped work only the lowest bit of the parameter counts"; "Coded character work keeps all bits"
abbrev pub set_pattern : Bool → Transfer → ℕ → ℕ → ℕ
set_pattern mapped t low v = cond mapped (bit_mapped_pattern t low v) (wdat_pattern t low v)

abbrev pub wdat_progress : Transfer → ℕ → ℕ → Progress
wdat_progress t i low = record { command = Wdat t; next = i; low = low }

-- "After each set EAD moves a whole word along DIR, mask unchanged."
unfoldable pub set_done : Transfer → Registers → Registers
set_done t r =
    put_progress (put_cursor r (word_move_of r.drawing.dir r.pitch r.cursor)) (wdat_progress t 0 0)

unfoldable pub wdat_taken : Transfer → ℕ → ℕ → Registers → List ℕ → State
wdat_taken t i v r m =
    cond (half_b t i) (state (put_progress r (wdat_progress t 1 v)) m)
    (state (set_done t r)
    (cycled r.board.wiring r.op (set_pattern (bit_mapped_b (first_sync r) r.drawing.gd) t r.progress.low v) r.cursor m))
