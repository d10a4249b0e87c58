-- The register set and its plain numbers: the conversions are inverse to each other on what is formed, and what a register set is
-- turned into is formed. So nothing of a register set is lost between two calls, and a set that is refused for its form is none.
use mathlib.Core.Path.{◌≡◌}
use mathlib.Core.Bool.{true, ◌&&◌}
use lib.Dec.{ltb}
use borrow.Author.Tests.{ltb-true, lt-ltb}
use Rattle.dots.specs.Operation.{operation_number}
use Rattle.dots.proofs.OperationLaws.{operation_below, operation_back, operation_there}
use Rattle.registers.specs.declared.Registers.{Registers}
use Rattle.registers.proofs.BoolLaws.{and_left, and_right}
use Rattle.plain.specs.declared.PlainRegisters.{PlainRegisters}
use Rattle.plain.specs.Numbers.{wirings}
use Rattle.plain.specs.Form.{command_form_b, work_form_b, bits_b, plain_form_b}
use Rattle.plain.specs.Mirror.{from_plain, to_plain}
use Rattle.plain.proofs.NumberLaws.{bit_fits, mode_back, mode_fits, mode_there, wiring_fits}
use Rattle.plain.proofs.NumberLaws.{command_fits}
use Rattle.plain.proofs.PartLaws.{drawing_back, drawing_there, video_back, video_there, pen_back, pen_there, progress_back}
use Rattle.plain.proofs.PartLaws.{progress_there, work_back, work_fits, work_there, board_back, board_there}

-- the plain numbers of a register set give the set back
pub from_to : (r : Registers) → from_plain (to_plain r) ≡ r
unfolding from_plain to_plain
from_to r = λ i.
    record {
      cursor = r.cursor;
      pitch = r.pitch;
      drawing = drawing_back r.drawing i;
      op = operation_back r.op i;
      ram = r.ram;
      video = video_back r.video i;
      pen = pen_back r.pen i;
      mode = mode_back r.mode i;
      buffer = r.buffer;
      progress = progress_back r.progress i;
      work = work_back r.work i;
      remaining = r.remaining;
      board = board_back r.board i;
    }

-- .. and are formed
pub formed_to : (r : Registers) → plain_form_b (to_plain r) ≡ true
unfolding plain_form_b to_plain
formed_to r =
    rw (
      bit_fits r.drawing.gd,
      bit_fits r.video.display,
      bit_fits r.video.vsync,
      bit_fits r.pen.set,
      lt-ltb (operation_number r.op) 4 (operation_below r.op),
      mode_fits r.mode,
      wiring_fits r.board.wiring,
      command_fits r.progress.command,
      work_fits r.work,
    )

-- plain numbers that are formed are those of the register set that they give
pub to_from : (p : PlainRegisters) → plain_form_b p ≡ true → to_plain (from_plain p) ≡ p
unfolding plain_form_b from_plain to_plain
to_from p s =
    let a = bits_b p in
    let b = ltb p.op 4 in
    let c = ltb p.mode 2 in
    let w = ltb p.board.wiring wirings in
    let d = command_form_b p.progress.command p.progress.transfer in
    let e = work_form_b p.work in
    let s₄ = and_left (a && b && c && w && d) e s in
    let s₃ = and_left (a && b && c && w) d s₄ in
    let s₂ = and_left (a && b && c) w s₃ in
    let s₁ = and_left (a && b) c s₂ in
    let gd = ltb p.drawing.gd 2 in
    let display = ltb p.video.display 2 in
    let vsync = ltb p.video.vsync 2 in
    let set = ltb p.pen.set 2 in
    let t₃ = and_left a b s₁ in
    let t₂ = and_left (gd && display && vsync) set t₃ in
    let t₁ = and_left (gd && display) vsync t₂ in
    λ i.
    record {
      cursor = p.cursor;
      pitch = p.pitch;
      drawing = drawing_there p.drawing (and_left gd display t₁) i;
      op = operation_there p.op (ltb-true p.op 4 (and_right a b s₁)) i;
      ram = p.ram;
      video = video_there p.video (and_right gd display t₁) (and_right (gd && display) vsync t₂) i;
      pen = pen_there p.pen (and_right (gd && display && vsync) set t₃) i;
      mode = mode_there p.mode (and_right (a && b) c s₂) i;
      buffer = p.buffer;
      progress = progress_there p.progress (and_right (a && b && c && w) d s₄) i;
      work = work_there p.work (and_right (a && b && c && w && d) e s) i;
      remaining = p.remaining;
      board = board_there p.board (and_right (a && b && c) w s₃) i;
    }
