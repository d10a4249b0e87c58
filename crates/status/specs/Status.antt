-- 01, Ports: the status byte.
use Rattle.std.specs.Prelude.{ℕ, ◌+◌, ◌*◌, Bool, true, false, ◌&&◌, eqb, ltb}
use Rattle.registers.specs.declared.Mode.{Mode}
use Rattle.registers.specs.declared.Mode.TheVariants.{Write, Read}
use Rattle.registers.specs.declared.Work.{Work}
use Rattle.registers.specs.declared.Work.TheVariants.{Idle, Figure, Arc, Character, Reading}
use Rattle.registers.specs.declared.Registers.{Registers}
use Rattle.registers.specs.Width.{places}

unfoldable pub one_if : Bool → ℕ
one_if true = 1
one_if false = 0

abbrev pub figure_in_progress_b : Work → Bool
figure_in_progress_b Idle = false
figure_in_progress_b (Figure k d) = true
figure_in_progress_b (Arc k a) = true
figure_in_progress_b (Character row column start) = true
figure_in_progress_b (Reading i t) = false

abbrev pub read_mode_b : Mode → Bool
read_mode_b Write = false
read_mode_b Read = true

-- "Status: bit 7 light pen, 3 figure in progress, 2 buffer holds nothing, 1 holds 16, 0 read mode and a byte held"; "status bits 6, 5 and 4
-- read 0"
unfoldable pub status_of : Registers → ℕ
status_of r =
    128 * one_if r.pen.set + 8 * one_if (figure_in_progress_b r.work) + 4 * one_if (eqb r.buffer.count 0)
    + 2 * one_if (eqb r.buffer.count places) + one_if (read_mode_b r.mode && ltb 0 r.buffer.count)
