-- Which plain numbers are those of some register set: each bit 0 or 1, each enum's number within its range, and every field 0 that
-- the command or the work has no use for. Whether the set is sound ("1 register set unsound") is another question, asked after.
use Rattle.std.specs.Prelude.{ℕ, Bool, true, false, cond, ◌&&◌, ◌||◌, eqb, ltb}
use Rattle.plain.specs.declared.PlainWork.{PlainWork}
use Rattle.plain.specs.declared.PlainRegisters.{PlainRegisters}
use Rattle.plain.specs.Numbers.{operations, modes, wirings, transfers, commands, wdat_number, rdat_number}

-- WDAT and RDAT have one of the transfers beside them, any other command 0
abbrev pub command_form_b : ℕ → ℕ → Bool
command_form_b n x = cond (eqb n wdat_number || eqb n rdat_number) (ltb x transfers) (ltb n commands && eqb x 0)

abbrev pub no_figure_b : PlainWork → Bool
no_figure_b w = eqb w.dot 0 && eqb w.d 0

abbrev pub no_arc_b : PlainWork → Bool
no_arc_b w = eqb w.d1 0 && eqb w.d2 0

abbrev pub no_character_b : PlainWork → Bool
no_character_b w = eqb w.row 0 && eqb w.column 0 && eqb w.start.ead 0 && eqb w.start.mask 0

abbrev pub no_reading_b : PlainWork → Bool
no_reading_b w = eqb w.item 0 && eqb w.transfer 0

-- an arc has a figure's fields, and two more
abbrev pub work_form_b : PlainWork → Bool
work_form_b w =
    cond (eqb w.kind 0) (no_figure_b w && no_arc_b w && no_character_b w && no_reading_b w)
    (cond (eqb w.kind 1) (no_arc_b w && no_character_b w && no_reading_b w)
    (cond (eqb w.kind 2) (no_figure_b w && no_arc_b w && no_reading_b w)
    (cond (eqb w.kind 3) (no_figure_b w && no_arc_b w && no_character_b w && ltb w.transfer transfers)
    (cond (eqb w.kind 4) (no_character_b w && no_reading_b w)
    false))))

abbrev pub bits_b : PlainRegisters → Bool
bits_b p = ltb p.drawing.gd 2 && ltb p.video.display 2 && ltb p.video.vsync 2 && ltb p.pen.set 2

unfoldable pub plain_form_b : PlainRegisters → Bool
plain_form_b p =
    bits_b p && ltb p.op operations && ltb p.mode modes && ltb p.board.wiring wirings
    && command_form_b p.progress.command p.progress.transfer && work_form_b p.work
