-- 01, Commands: the codes, "(hexadecimal; this list decides over 002's drawings)".
use Rattle.std.specs.Prelude.{ℕ, Bool, cond, ◌&&◌, eqb, leb}
use Rattle.registers.specs.declared.Command.{Command}
use Rattle.registers.specs.declared.Command.TheVariants.{Reset, Vsync, Cchar, Start, Zoom, Curs, Pram, Pitch, Mask, Figs, Figd, Gchrd}
use Rattle.registers.specs.declared.Command.TheVariants.{Curd, Lprd, Wdat, Rdat, Unknown}
use Rattle.registers.specs.declared.Transfer.TheVariants.{Word, Low, High}

abbrev pub within : ℕ → ℕ → ℕ → Bool
within a e b = leb a b && leb b e

-- "PRAM 70 + address", "WDAT 20 + 8·type + operation"; "Any other byte, or an invalid type" is unknown
unfoldable pub family_of : ℕ → Command
family_of b =
    cond (within 0x70 0x7F b) Pram
    (cond (within 0x20 0x23 b) (Wdat Word)
    (cond (within 0x30 0x33 b) (Wdat Low)
    (cond (within 0x38 0x3B b) (Wdat High)
    Unknown)))

-- "RESET 00, VSYNC 6E/6F, CCHAR 4B, START 6B, ZOOM 46, CURS 49, .., RDAT A0 + 8·type. Types: 0 word .., 2 low byte, 3 high byte"
unfoldable pub command_of : ℕ → Command
command_of b =
    cond (eqb b 0x00) Reset
    (cond (eqb b 0x6E) Vsync
    (cond (eqb b 0x6F) Vsync
    (cond (eqb b 0x4B) Cchar
    (cond (eqb b 0x6B) Start
    (cond (eqb b 0x46) Zoom
    (cond (eqb b 0x49) Curs
    (cond (eqb b 0x47) Pitch
    (cond (eqb b 0x4A) Mask
    (cond (eqb b 0x4C) Figs
    (cond (eqb b 0x6C) Figd
    (cond (eqb b 0x68) Gchrd
    (cond (eqb b 0xE0) Curd
    (cond (eqb b 0xC0) Lprd
    (cond (eqb b 0xA0) (Rdat Word)
    (cond (eqb b 0xB0) (Rdat Low)
    (cond (eqb b 0xB8) (Rdat High)
    (family_of b)))))))))))))))))
