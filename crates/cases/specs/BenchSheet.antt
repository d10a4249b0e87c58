-- 01's bench sheet, K1 to K12 and its last line, as one statement over a list: what each case gives by the definitions, and what the
-- sheet says. From K8 on the host writes entries to the ports and lets the controller run; those of K8 to K10 are what the translator
-- makes of the two points.
use Rattle.std.specs.Prelude.{◌≡◌, false, cond, List, [], ◌∷◌, ◌++◌, ℕ, zero, suc, ◌+◌, ◌-◌, ◌*◌, eqb, replicate}
use Rattle.dots.specs.declared.Cursor.{Cursor}
use Rattle.dots.specs.declared.Operation.TheVariants.{Replace, Complement, Reset, Set}
use Rattle.dots.specs.Logic.{combined}
use Rattle.dots.specs.Step.{step_of}
use Rattle.registers.specs.declared.Command.TheVariants as command
use Rattle.registers.specs.declared.Registers.{Registers}
use Rattle.registers.specs.Fresh.{fresh_set}
use Rattle.registers.specs.Size.{rectangle_kind}
use Rattle.registers.specs.Put.{put_cursor, put_drawing, put_op, put_ram, put_progress}
use Rattle.registers.specs.State.{State, state}
use Rattle.units.specs.Run.{Outcome, run_done}
use Rattle.ports.specs.Port.{byte_read}
use Rattle.records.specs.declared.Figure.TheVariants.{Line}
use Rattle.sheets.specs.Slots.{translation}
use Rattle.sending.specs.Send.{written}

-- ---- the bench

-- the registers and the memory that a run leaves
abbrev pub left_by : Outcome → State
left_by o = state o.ran.regs o.mem

-- the host writes entries, and after each lets the controller run (64 units are more than any entry here takes)
abbrev pub played : State → List ℕ → State
played s [] = s
played s (e ∷ l) = played (left_by (run_done 64 (state (written s.regs e).regs s.mem))) l

-- .. writes them with no run between, and keeps the numbers of refusal
abbrev pub refusals : List ℕ → Registers → List ℕ
refusals [] r = []
refusals (e ∷ l) r = (written r e).number ∷ refusals l (written r e).regs

-- .. reads n bytes
abbrev pub bytes_read : ℕ → Registers → List ℕ
bytes_read zero r = []
bytes_read (suc n) r = (byte_read r).value ∷ bytes_read n (byte_read r).regs

-- fresh registers over sixteen words of memory
abbrev pub over : ℕ → State
over w = state fresh_set (w ∷ replicate 15 0)

-- memory of one word a line with one dot in each of some columns: column 0 in the first row of the list, column 1 in the second, ..
abbrev pub row_word : ℕ → ℕ → List ℕ → ℕ
row_word y dot [] = 0
row_word y dot (row ∷ l) = cond (eqb row y) dot 0 + row_word y (2 * dot) l

abbrev pub dotted_from : ℕ → ℕ → List ℕ → List ℕ
dotted_from y zero l = []
dotted_from y (suc n) l = row_word y 1 l ∷ dotted_from (y + 1) n l

abbrev pub dotted : List ℕ → List ℕ
dotted l = dotted_from 0 16 l

-- the translator's entries for a line between two points, with SET, on a plane of one word a line
abbrev pub line : ℕ → ℕ → ℕ → ℕ → List ℕ
line x y x1 y1 = translation [] 1 (record { op = Set; figure = Line (record { x = x; y = y }) (record { x = x1; y = y1 }) } ∷ [])

-- the place of EAD and mask
abbrev pub standing : ℕ → ℕ → Cursor
standing e m = record { ead = e; mask = m }

-- DIR, D, D2, D1
abbrev pub slope : Registers → List ℕ
slope r = r.drawing.dir ∷ r.drawing.d ∷ r.drawing.d2 ∷ r.drawing.d1 ∷ []

-- a rectangle of D = D2 = 0 whose every dot would show
abbrev pub flat : State
flat =
    state
    (put_cursor (put_ram
    (put_op (put_drawing fresh_set (record { kind = rectangle_kind; dir = 0; gd = false; dc = 3; d = 0; d2 = 0; d1 = 16383; dm = 0 })) Set)
    (replicate 16 0xFF)) (standing 0 0x0001))
    (replicate 16 0)

-- WDAT 30 with AB, mask FFFF, word 1234, behind RESET with its sync byte 1
abbrev pub byte_written : ℕ → List ℕ
byte_written sync = (played (over 0x1234) (0x100 ∷ sync ∷ 0x14A ∷ 0xFF ∷ 0xFF ∷ 0x130 ∷ 0xAB ∷ [])).mem

-- ---- the sheet

pub record Case : Type 1 where
  pub what : Type 0
  pub gives : what
  pub says : what

abbrev pub case : {A : Type 0} → A → A → Case
case {A} g s = record { what = A; gives = g; says = s }

unfoldable pub bench : List Case
bench =
    -- "K1 to K4: word 00FF, mask 0F0F, pattern 3333: REPLACE 03F3, COMPLEMENT 03FC, RESET 00FC, SET 03FF."
    case (combined Replace 0x00FF 0x0F0F 0x3333) 0x03F3
    ∷ case (combined Complement 0x00FF 0x0F0F 0x3333) 0x03FC
    ∷ case (combined Reset 0x00FF 0x0F0F 0x3333) 0x00FC
    ∷ case (combined Set 0x00FF 0x0F0F 0x3333) 0x03FF
    -- "K5: EAD 5, mask 8000, right: 6, 0001."
    ∷ case (step_of 2 0 (standing 5 0x8000)) (standing 6 0x0001)
    -- "K6: EAD 0, mask 0001, left: 262,143, 8000."
    ∷ case (step_of 6 0 (standing 0 0x0001)) (standing 262143 0x8000)
    -- "K7: pitch 40, EAD 100, mask 8000, up-right: 61, 0001."
    ∷ case (step_of 3 40 (standing 100 0x8000)) (standing 61 0x0001)
    -- "K8: line (0,0)-(5,2): DIR 1, D -1, D2 -6, D1 4; rows 0 0 1 1 2 2."
    ∷ case (slope (played (over 0) (line 0 0 5 2)).regs) (1 ∷ (16384 - 1) ∷ (16384 - 6) ∷ 4 ∷ [])
    ∷ case (played (over 0) (line 0 0 5 2)).mem (dotted (0 ∷ 0 ∷ 1 ∷ 1 ∷ 2 ∷ 2 ∷ []))
    -- "K9: (0,0)-(2,1) passes (1,1); K10: (2,1)-(0,0) passes (1,0)."
    ∷ case (played (over 0) (line 0 0 2 1)).mem (dotted (0 ∷ 1 ∷ 1 ∷ []))
    ∷ case (played (over 0) (line 2 1 0 0)).mem (dotted (0 ∷ 0 ∷ 1 ∷ []))
    -- "K11: chip rectangle with D = D2 = 0 draws nothing.": FIGD leaves all but the command in progress
    ∷ case (played flat (0x16C ∷ [])) (state (put_progress flat.regs (record { command = command.Figd; next = 0; low = 0 })) flat.mem)
    -- "K12: CURS 51 00 10, then CURD: 51 00 00 02 00."
    ∷ case (bytes_read 5 (played (over 0) (0x149 ∷ 0x51 ∷ 0x00 ∷ 0x10 ∷ 0x1E0 ∷ [])).regs) (0x51 ∷ 0x00 ∷ 0x00 ∷ 0x02 ∷ 0x00 ∷ [])
    -- "The seventeenth waiting byte gets 3."
    ∷ case (refusals (replicate 17 0) fresh_set) (replicate 16 0 ++ 3 ∷ [])
    -- "WDAT 30 with AB, mask FFFF, word 1234: 00AB.", in coded character work, as M-101 says: sync byte 1 with C = 1 and G = 0
    ∷ case (byte_written 0x20) (0x00AB ∷ replicate 15 0)
    -- .. and in bit-mapped work bit 0 fills the byte: C = 0 and G = 1
    ∷ case (byte_written 0x02) (0x00FF ∷ replicate 15 0)
    ∷ []

-- each case gives what the sheet says
abbrev pub AllHold : List Case → Type 0
AllHold [] = Unit {0}
AllHold (c ∷ l) = (c.gives ≡ c.says) × AllHold l

-- the whole sheet
abbrev pub BenchHolds : Type 0
BenchHolds = AllHold bench
