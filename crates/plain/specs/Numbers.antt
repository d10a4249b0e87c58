-- The numbers that stand for bits and enums where C holds a register set: those of an enum count from 0 in its order.
use Rattle.std.specs.Prelude.{ℕ, Bool, true, false, cond, eqb}
use Rattle.dots.specs.declared.Wiring.{Wiring}
use Rattle.dots.specs.declared.Wiring.TheVariants as wiring
use Rattle.registers.specs.declared.Mode.{Mode}
use Rattle.registers.specs.declared.Mode.TheVariants as mode
use Rattle.registers.specs.declared.Transfer.{Transfer}
use Rattle.registers.specs.declared.Transfer.TheVariants as transfer
use Rattle.registers.specs.declared.Command.{Command}
use Rattle.registers.specs.declared.Command.TheVariants.{Nothing, Reset, Vsync, Cchar, Start, Zoom, Curs, Pram, Pitch, Mask, Figs, Figd}
use Rattle.registers.specs.declared.Command.TheVariants.{Gchrd, Curd, Lprd, Wdat, Rdat, Unknown}

-- how many operations, modes, wirings, transfers and commands there are, so that each one's number is below
abbrev pub operations : ℕ
operations = 4

abbrev pub modes : ℕ
modes = 2

abbrev pub wirings : ℕ
wirings = 2

abbrev pub transfers : ℕ
transfers = 3

abbrev pub commands : ℕ
commands = 18

-- the two commands that a transfer stands beside
abbrev pub wdat_number : ℕ
wdat_number = 15

abbrev pub rdat_number : ℕ
rdat_number = 16

abbrev pub bit_of : ℕ → Bool
bit_of n = eqb n 1

abbrev pub bit_number : Bool → ℕ
bit_number true = 1
bit_number false = 0

abbrev pub mode_of : ℕ → Mode
mode_of n = cond (eqb n 0) mode.Write mode.Read

abbrev pub mode_number : Mode → ℕ
mode_number mode.Write = 0
mode_number mode.Read = 1

-- 02, M-108: "folded or open wiring"
abbrev pub wiring_of : ℕ → Wiring
wiring_of n = cond (eqb n 0) wiring.Folded wiring.Open

abbrev pub wiring_number : Wiring → ℕ
wiring_number wiring.Folded = 0
wiring_number wiring.Open = 1

-- a word, its low byte, its high byte
abbrev pub transfer_of : ℕ → Transfer
transfer_of n = cond (eqb n 0) transfer.Word (cond (eqb n 1) transfer.Low transfer.High)

abbrev pub transfer_number : Transfer → ℕ
transfer_number transfer.Word = 0
transfer_number transfer.Low = 1
transfer_number transfer.High = 2

-- none yet, those of 01's list, and any other byte; a transfer stands beside WDAT and RDAT alone
abbrev pub command_of : ℕ → ℕ → Command
command_of n x =
    cond (eqb n 0) Nothing
    (cond (eqb n 1) Reset
    (cond (eqb n 2) Vsync
    (cond (eqb n 3) Cchar
    (cond (eqb n 4) Start
    (cond (eqb n 5) Zoom
    (cond (eqb n 6) Curs
    (cond (eqb n 7) Pram
    (cond (eqb n 8) Pitch
    (cond (eqb n 9) Mask
    (cond (eqb n 10) Figs
    (cond (eqb n 11) Figd
    (cond (eqb n 12) Gchrd
    (cond (eqb n 13) Curd
    (cond (eqb n 14) Lprd
    (cond (eqb n 15) (Wdat (transfer_of x))
    (cond (eqb n 16) (Rdat (transfer_of x))
    Unknown))))))))))))))))

abbrev pub command_number : Command → ℕ
command_number Nothing = 0
command_number Reset = 1
command_number Vsync = 2
command_number Cchar = 3
command_number Start = 4
command_number Zoom = 5
command_number Curs = 6
command_number Pram = 7
command_number Pitch = 8
command_number Mask = 9
command_number Figs = 10
command_number Figd = 11
command_number Gchrd = 12
command_number Curd = 13
command_number Lprd = 14
command_number (Wdat t) = 15
command_number (Rdat t) = 16
command_number Unknown = 17

abbrev pub command_transfer : Command → ℕ
command_transfer Nothing = 0
command_transfer Reset = 0
command_transfer Vsync = 0
command_transfer Cchar = 0
command_transfer Start = 0
command_transfer Zoom = 0
command_transfer Curs = 0
command_transfer Pram = 0
command_transfer Pitch = 0
command_transfer Mask = 0
command_transfer Figs = 0
command_transfer Figd = 0
command_transfer Gchrd = 0
command_transfer Curd = 0
command_transfer Lprd = 0
command_transfer (Wdat t) = transfer_number t
command_transfer (Rdat t) = transfer_number t
command_transfer Unknown = 0
