-- The parts of a register set, both ways: plain numbers of a part give the part back, and plain numbers that are formed are those of
-- the part that they give. True field by field; what is in progress, case by case.
use Prim.Native.Nat.{ℕ, zero, suc, ◌≤◌}
use mathlib.Core.Path.{◌≡◌, refl, sym, ◌∙◌}
use mathlib.Core.Bool.{true, false, ◌&&◌}
use lib.Dec.{eqb, ltb}
use native.Mathlib.Omega.{arith}
use borrow.Author.Tests.{eqb-true, ne_eqb}
use Rattle.registers.specs.declared.Drawing.{Drawing}
use Rattle.registers.specs.declared.Video.{Video}
use Rattle.registers.specs.declared.Pen.{Pen}
use Rattle.registers.specs.declared.Progress.{Progress}
use Rattle.registers.specs.declared.Board.{Board}
use Rattle.registers.specs.declared.Work.{Work}
use Rattle.registers.specs.declared.Work.TheVariants.{Idle, Figure, Arc, Character, Reading}
use Rattle.registers.proofs.BoolLaws.{and_left, and_right, false_true}
use Rattle.plain.specs.declared.PlainDrawing.{PlainDrawing}
use Rattle.plain.specs.declared.PlainVideo.{PlainVideo}
use Rattle.plain.specs.declared.PlainPen.{PlainPen}
use Rattle.plain.specs.declared.PlainProgress.{PlainProgress}
use Rattle.plain.specs.declared.PlainBoard.{PlainBoard}
use Rattle.plain.specs.declared.PlainWork.{PlainWork}
use Rattle.plain.specs.Numbers.{wirings}
use Rattle.plain.specs.Parts.{drawing_of, drawing_plain, video_of, video_plain, pen_of, pen_plain, progress_of, progress_plain, work_of}
use Rattle.plain.specs.Parts.{work_plain, board_of, board_plain}
use Rattle.plain.specs.Form.{command_form_b, no_figure_b, no_arc_b, no_character_b, no_reading_b, work_form_b}
use Rattle.plain.proofs.NumberLaws.{bit_back, bit_there, transfer_back, transfer_fits, transfer_there, command_back, command_there}
use Rattle.plain.proofs.NumberLaws.{transfer_beside, wiring_back, wiring_there}

-- ---- a part, its plain numbers, the part
pub drawing_back : (f : Drawing) → drawing_of (drawing_plain f) ≡ f
drawing_back f = λ i.
    record { kind = f.kind; dir = f.dir; gd = bit_back f.gd i; dc = f.dc; d = f.d; d2 = f.d2; d1 = f.d1; dm = f.dm }

pub video_back : (v : Video) → video_of (video_plain v) ≡ v
video_back v = λ i.
    record { zoom = v.zoom; display = bit_back v.display i; vsync = bit_back v.vsync i; sync = v.sync; cchar = v.cchar }

pub pen_back : (p : Pen) → pen_of (pen_plain p) ≡ p
pen_back p = λ i. record { address = p.address; set = bit_back p.set i }

pub progress_back : (p : Progress) → progress_of (progress_plain p) ≡ p
progress_back p = λ i. record { command = command_back p.command i; next = p.next; low = p.low }

pub board_back : (b : Board) → board_of (board_plain b) ≡ b
board_back b = λ i. record { wiring = wiring_back b.wiring i }

pub work_back : (w : Work) → work_of (work_plain w) ≡ w
work_back Idle = refl
work_back (Figure n d) = refl
work_back (Arc n a) = refl
work_back (Character r c s) = refl
work_back (Reading k t) = λ i. Reading k (transfer_back t i)

-- .. which are formed
pub work_fits : (w : Work) → work_form_b (work_plain w) ≡ true
work_fits Idle = refl
work_fits (Figure n d) = refl
work_fits (Arc n a) = refl
work_fits (Character r c s) = refl
work_fits (Reading k t) = transfer_fits t

-- ---- plain numbers that are formed, the part, the numbers
pub drawing_there : (p : PlainDrawing) → ltb p.gd 2 ≡ true → drawing_plain (drawing_of p) ≡ p
drawing_there p e = λ i.
    record { kind = p.kind; dir = p.dir; gd = bit_there p.gd e i; dc = p.dc; d = p.d; d2 = p.d2; d1 = p.d1; dm = p.dm }

pub video_there : (p : PlainVideo) → ltb p.display 2 ≡ true → ltb p.vsync 2 ≡ true → video_plain (video_of p) ≡ p
video_there p e f = λ i.
    record { zoom = p.zoom; display = bit_there p.display e i; vsync = bit_there p.vsync f i; sync = p.sync; cchar = p.cchar }

pub pen_there : (p : PlainPen) → ltb p.set 2 ≡ true → pen_plain (pen_of p) ≡ p
pen_there p e = λ i. record { address = p.address; set = bit_there p.set e i }

pub progress_there : (p : PlainProgress) → command_form_b p.command p.transfer ≡ true → progress_plain (progress_of p) ≡ p
progress_there p e = λ i.
    record {
      command = command_there p.command p.transfer e i;
      transfer = transfer_beside p.command p.transfer e i;
      next = p.next;
      low = p.low;
    }

pub board_there : (p : PlainBoard) → ltb p.wiring wirings ≡ true → board_plain (board_of p) ≡ p
board_there p e = λ i. record { wiring = wiring_there p.wiring e i }

-- ---- what is in progress: the fields that a kind has no use for are 0
no_figure : (w : PlainWork) → no_figure_b w ≡ true → (w.dot ≡ 0) × (w.d ≡ 0)
no_figure w e =
    let a = eqb w.dot 0 in
    let b = eqb w.d 0 in
    (eqb-true w.dot 0 (and_left a b e), eqb-true w.d 0 (and_right a b e))

no_arc : (w : PlainWork) → no_arc_b w ≡ true → (w.d1 ≡ 0) × (w.d2 ≡ 0)
no_arc w e =
    let a = eqb w.d1 0 in
    let b = eqb w.d2 0 in
    (eqb-true w.d1 0 (and_left a b e), eqb-true w.d2 0 (and_right a b e))

no_character_law : (w : PlainWork) → no_character_b w ≡ true → ((w.row ≡ 0) × (w.column ≡ 0)) × ((w.start.ead ≡ 0) × (w.start.mask ≡ 0))
no_character_law w e =
    let a = eqb w.row 0 in
    let b = eqb w.column 0 in
    let c = eqb w.start.ead 0 in
    let d = eqb w.start.mask 0 in
    let f = and_left (a && b && c) d e in
    let g = and_left (a && b) c f in (
      (eqb-true w.row 0 (and_left a b g), eqb-true w.column 0 (and_right a b g)),
      (eqb-true w.start.ead 0 (and_right (a && b) c f), eqb-true w.start.mask 0 (and_right (a && b && c) d e)),
    )

no_reading : (w : PlainWork) → no_reading_b w ≡ true → (w.item ≡ 0) × (w.transfer ≡ 0)
no_reading w e =
    let a = eqb w.item 0 in
    let b = eqb w.transfer 0 in
    (eqb-true w.item 0 (and_left a b e), eqb-true w.transfer 0 (and_right a b e))

abbrev of_kind : ℕ → PlainWork → PlainWork
of_kind k w =
    record {
      kind = k;
      transfer = w.transfer;
      d = w.d;
      d1 = w.d1;
      d2 = w.d2;
      item = w.item;
      dot = w.dot;
      row = w.row;
      column = w.column;
      start = w.start;
    }

-- there is no sixth kind
no_kind : (k : ℕ) (w : PlainWork) → 5 ≤ k → work_form_b (of_kind k w) ≡ false
no_kind k w h =
    let a = ne_eqb k 0 (λ (z : k ≡ 0). absurd (omega arith)) in
    let b = ne_eqb k 1 (λ (z : k ≡ 1). absurd (omega arith)) in
    let c = ne_eqb k 2 (λ (z : k ≡ 2). absurd (omega arith)) in
    let d = ne_eqb k 3 (λ (z : k ≡ 3). absurd (omega arith)) in
    let e = ne_eqb k 4 (λ (z : k ≡ 4). absurd (omega arith)) in
    rw (a, b, c, d, e)

work_of_kind : (k : ℕ) (w : PlainWork) → work_form_b (of_kind k w) ≡ true → work_plain (work_of (of_kind k w)) ≡ of_kind k w
work_of_kind zero w e =
    let a = no_figure_b w in
    let o = no_arc_b w in
    let b = no_character_b w in
    let c = no_reading_b w in
    let f = and_left (a && o && b) c e in
    let g = and_left (a && o) b f in
    let x = no_figure w (and_left a o g) in
    let v = no_arc w (and_right a o g) in
    let y = no_character_law w (and_right (a && o) b f) in
    let z = no_reading w (and_right (a && o && b) c e) in
    λ i.
    record {
      kind = 0;
      transfer = sym z.1 i;
      d = sym x.1 i;
      d1 = sym v.0 i;
      d2 = sym v.1 i;
      item = sym z.0 i;
      dot = sym x.0 i;
      row = sym y.0.0 i;
      column = sym y.0.1 i;
      start = record { ead = sym y.1.0 i; mask = sym y.1.1 i };
    }
work_of_kind (suc zero) w e =
    let o = no_arc_b w in
    let b = no_character_b w in
    let c = no_reading_b w in
    let f = and_left (o && b) c e in
    let v = no_arc w (and_left o b f) in
    let y = no_character_law w (and_right o b f) in
    let z = no_reading w (and_right (o && b) c e) in
    λ i.
    record {
      kind = 1;
      transfer = sym z.1 i;
      d = w.d;
      d1 = sym v.0 i;
      d2 = sym v.1 i;
      item = sym z.0 i;
      dot = w.dot;
      row = sym y.0.0 i;
      column = sym y.0.1 i;
      start = record { ead = sym y.1.0 i; mask = sym y.1.1 i };
    }
work_of_kind (suc (suc zero)) w e =
    let a = no_figure_b w in
    let o = no_arc_b w in
    let c = no_reading_b w in
    let f = and_left (a && o) c e in
    let x = no_figure w (and_left a o f) in
    let v = no_arc w (and_right a o f) in
    let z = no_reading w (and_right (a && o) c e) in
    λ i.
    record {
      kind = 2;
      transfer = sym z.1 i;
      d = sym x.1 i;
      d1 = sym v.0 i;
      d2 = sym v.1 i;
      item = sym z.0 i;
      dot = sym x.0 i;
      row = w.row;
      column = w.column;
      start = w.start;
    }
work_of_kind (suc (suc (suc zero))) w e =
    let a = no_figure_b w in
    let o = no_arc_b w in
    let b = no_character_b w in
    let c = ltb w.transfer 3 in
    let f = and_left (a && o && b) c e in
    let g = and_left (a && o) b f in
    let x = no_figure w (and_left a o g) in
    let v = no_arc w (and_right a o g) in
    let y = no_character_law w (and_right (a && o) b f) in
    let t = transfer_there w.transfer (and_right (a && o && b) c e) in
    λ i.
    record {
      kind = 3;
      transfer = t i;
      d = sym x.1 i;
      d1 = sym v.0 i;
      d2 = sym v.1 i;
      item = w.item;
      dot = sym x.0 i;
      row = sym y.0.0 i;
      column = sym y.0.1 i;
      start = record { ead = sym y.1.0 i; mask = sym y.1.1 i };
    }
work_of_kind (suc (suc (suc (suc zero)))) w e =
    let b = no_character_b w in
    let c = no_reading_b w in
    let y = no_character_law w (and_left b c e) in
    let z = no_reading w (and_right b c e) in
    λ i.
    record {
      kind = 4;
      transfer = sym z.1 i;
      d = w.d;
      d1 = w.d1;
      d2 = w.d2;
      item = sym z.0 i;
      dot = w.dot;
      row = sym y.0.0 i;
      column = sym y.0.1 i;
      start = record { ead = sym y.1.0 i; mask = sym y.1.1 i };
    }
work_of_kind (suc (suc (suc (suc (suc k))))) w e =
    absurd (false_true (sym (no_kind (suc (suc (suc (suc (suc k))))) w (omega arith)) ∙ e))

pub work_there : (w : PlainWork) → work_form_b w ≡ true → work_plain (work_of w) ≡ w
work_there w e = work_of_kind w.kind w e
