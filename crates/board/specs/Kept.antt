-- Demand 1, of the board calls: "A sound set stays sound." Whatever the contracts of `board_run` and `board_send` let stand behind the
-- reference is sound and of the same board, if what stood there before was sound. What the types say comes as premises, as in crate laws,
-- `EveryEntryKeepsSound`.
use Rattle.std.specs.Prelude.{◌≡◌, true, List, ℕ}
use Rattle.registers.specs.declared.Registers.{Registers}
use Rattle.registers.specs.Sound.{sound_b}
use Rattle.registers.specs.State.{state}
use Rattle.registers.specs.Typed.{Typed, Words}
use Rattle.units.specs.Run.{run_done}
use Rattle.sends.specs.Sends.{list_sent}
use Rattle.board.specs.declared.Report.{Report}
use Rattle.board.specs.declared.Tally.{Tally}
use Rattle.board.specs.Board.{report, tallied}

abbrev pub BoardCallKeepsSound : Type 0
BoardCallKeepsSound =
    (budget : ℕ) (r left : Registers) (m after : List ℕ) (q : Report) → report q left after ≡ run_done budget (state r m)
    → Typed r → Words m → sound_b r ≡ true → (sound_b left ≡ true) × (Typed left × (left.board ≡ r.board))

-- .. whatever the entries are, and whether or not one is refused
abbrev pub BoardListKeepsSound : Type 0
BoardListKeepsSound =
    (l : List ℕ) (r left : Registers) (m after : List ℕ) (q : Tally) → tallied q left after ≡ list_sent (state r m) l
    → Typed r → Words m → sound_b r ≡ true → (sound_b left ≡ true) × (Typed left × (left.board ≡ r.board))
