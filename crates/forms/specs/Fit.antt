-- What `fits` tests, beside the form of the command and of the work and the buffer: where the work stands, of all kinds and kind by kind,
-- and the numbers.
use Rattle.std.specs.Prelude.{Bool, ◌&&◌, ℕ, eqb, ltb, leb}
use Rattle.dots.specs.Step.{addresses}
use Rattle.registers.specs.Width.{parameters}
use Rattle.registers.specs.declared.Mode.{Mode}
use Rattle.registers.specs.declared.Work.{Work}
use Rattle.registers.specs.declared.Work.TheVariants.{Figure, Arc, Character, Reading}
use Rattle.registers.specs.declared.Drawing.{Drawing}
use Rattle.registers.specs.Left.{cycles_left}
use Rattle.registers.specs.Sound.{cursor_b, drawing_b, place_b, work_b}
use Rattle.plain.specs.declared.PlainRegisters.{PlainRegisters}
use Rattle.plain.specs.declared.PlainWork.{PlainWork}
use Rattle.plain.specs.Numbers.{operations, modes, wirings, transfers, transfer_of, mode_of}
use Rattle.plain.specs.Parts.{cursor_of, drawing_of, work_of}
use Rattle.plain.specs.Form.{no_figure_b, no_arc_b, no_character_b, no_reading_b, work_form_b, bits_b}

-- what is in progress is inside its figure or read, and of its mode, and n cycles of it are left
abbrev pub placed_b : Drawing → ℕ → Mode → ℕ → Work → Bool
placed_b f zoom m n w = place_b f zoom w && work_b m w && eqb n (cycles_left f zoom w)

-- kind by kind: the fields that the work has no use for are 0, and it is placed
abbrev pub nothing_b : PlainWork → ℕ → Bool
nothing_b w n = (no_figure_b w && no_arc_b w && no_character_b w && no_reading_b w) && eqb n 0

abbrev pub figure_b : PlainWork → Drawing → ℕ → Mode → ℕ → Bool
figure_b w f zoom m n = (no_arc_b w && no_character_b w && no_reading_b w) && placed_b f zoom m n (Figure w.dot w.d)

abbrev pub character_b : PlainWork → Drawing → ℕ → Mode → ℕ → Bool
character_b w f zoom m n =
    (no_figure_b w && no_arc_b w && no_reading_b w) && placed_b f zoom m n (Character w.row w.column (cursor_of w.start))

abbrev pub read_b : PlainWork → Drawing → ℕ → Mode → ℕ → Bool
read_b w f zoom m n =
    (no_figure_b w && no_arc_b w && no_character_b w && ltb w.transfer transfers)
    && placed_b f zoom m n (Reading w.item (transfer_of w.transfer))

abbrev pub arc_b : PlainWork → Drawing → ℕ → Mode → ℕ → Bool
arc_b w f zoom m n =
    (no_character_b w && no_reading_b w) && placed_b f zoom m n (Arc w.dot (record { d = w.d; d1 = w.d1; d2 = w.d2 }))

-- what is in progress is formed and placed, with its count
abbrev pub in_progress_b : PlainRegisters → Bool
in_progress_b p =
    work_form_b p.work && placed_b (drawing_of p.drawing) p.video.zoom (mode_of p.mode) p.remaining (work_of p.work)

-- every number that stands for itself, a bit or an enum's case is within its width
abbrev pub numbers_b : PlainRegisters → Bool
numbers_b p =
    (bits_b p && ltb p.op operations && ltb p.mode modes && ltb p.board.wiring wirings)
    && (cursor_b (cursor_of p.cursor) && drawing_b (drawing_of p.drawing) && ltb p.pen.address addresses
    && leb p.progress.next parameters)
