-- Demand 3 from the translator's own answer. Where that is 0 its contract says that the output starts with PITCH and the entries of
-- the sheet's figures, and that P and H are in range; every figure lies in the plane; PITCH makes the pitch P; then SheetLaws.
-- And from 01's words: for a lawful sheet the translator's answer is 0.
use mathlib.Core.Path.{◌≡◌, refl, sym, ap, subst, ◌∙◌}
use mathlib.Core.Bool.{true}
use mathlib.Core.List.{List}
use Prim.Native.Nat.{ℕ, ◌+◌, ◌*◌, ◌/◌, ◌≤◌}
use native.Mathlib.Omega.{arith}
use lib.ListN.{length, get_or, take, drop}
use lib.Seq.{take_at}
use Rattle.dots.specs.Dot.{dot}
use Rattle.geometry.proofs.WalkLaws.{Sized}
use Rattle.records.specs.declared.Record.{Record}
use Rattle.entries.specs.Entries.{placed}
use Rattle.entries.proofs.PutLaws.{placed_is}
use Rattle.sheets.specs.Slots.{translation}
use Rattle.sheets.specs.Sheet.{Outcome, figures_of, translate_def}
use Rattle.sheets.proofs.SlotLaws.{translation_length}
use Rattle.sheets.proofs.SheetLaws.{translated_means}
use Rattle.sheets.proofs.AcceptLaws.{accepts}
use Rattle.registers.specs.declared.Registers.{Registers}
use Rattle.registers.specs.State.{State, state}
use Rattle.units.specs.Run.{length_b}
use Rattle.sending.specs.Send.{Ready}
use Rattle.sending.proofs.WaitLaws.{Waiting, waiting, waiting_ready}
use Rattle.sending.proofs.KeptLaws.{sent_all_kept}
use Rattle.sending.proofs.SendLaws.{leads_then}
use Rattle.sending.proofs.GroupLaws.{acts_pitch}
use Rattle.demand.specs.Shown.{Shown, Bytes, PictureIsRight, LawfulSheetIsShown}
use Rattle.demand.proofs.InsideLaws.{AllInside, sheet_inside}
use Rattle.demand.proofs.SheetLaws.{sheet_law}

-- the entries written are the translation
pub taken_out : (o e : List ℕ) (n : ℕ) → length e ≡ n → n ≤ length o → take n (placed o 0 e) ≡ e
taken_out o e n l h = ap (take n) (placed_is o 0 e (omega arith)) ∙ take_at e (drop (0 + length e) o) n l

-- figures in the plane, from any controller that waits and any memory that holds the plane
module _ (p h : ℕ) (sized : Sized p h) (table : List ℕ) (bytes : Bytes table) (l : List Record) (inside : AllInside p h l)
    (r : Registers) (v : Waiting r) (mem : List ℕ) (lawful : length_b r.board.wiring (length mem) ≡ true)
    (room : p * h ≤ length mem) where
  pub shown : Shown p h table l (translation table p l) (state r mem)
  unfolding translation
  shown =
      let pitch = acts_pitch v p sized.wide in
      let rest = sheet_law p h sized table bytes l inside _ (record { waits = pitch.waits; pitch = refl; room = room; lawful = lawful }) in
      let all = leads_then (pitch.leads mem lawful) rest.leads in
      record {
        accepted = all.accepted;
        idle = subst (λ (s : State). Ready s.regs) (sym all.ends) (waiting_ready rest.held.waits);
        dots = λ x y i. ap (λ (s : State). dot p x y s.mem) all.ends ∙ rest.dots x y i;
        words = λ j k. ap (λ (s : State). get_or s.mem j 0) all.ends ∙ rest.words j k;
        long = ap (λ (s : State). length s.mem) all.ends ∙ rest.long;
        wide = λ k. (sent_all_kept (length mem) (translation table p l) (state r mem)
            (record { regs = v.lawful; words = k; long = refl })).words;
        units = all.units ∙ omega arith;
      }

pub picture_is_right : PictureIsRight
picture_is_right sheet p h table out written a e z bytes r mem ready typed lawful room =
    let k = translated_means sheet p h table out e z in
    let figures = figures_of sheet p h table in
    let is : take a.first written ≡ translation table p figures =
    ap (take a.first) k.out ∙ taken_out out (translation table p figures) a.first
    (translation_length table p figures ∙ sym k.first) k.fits in
    subst (λ (l : List ℕ). Shown p h table figures l (state r mem)) (sym is)
    (shown p h (record { wide = k.frame.wide; tall = k.frame.tall; area = k.frame.area }) table bytes figures
    (sheet_inside p h (length table) sheet (length sheet / 512)) r (waiting r ready typed) mem lawful room)

pub lawful_sheet_is_shown : LawfulSheetIsShown
lawful_sheet_is_shown sheet p h table out lawful long bytes r mem ready typed right room =
    let t = translate_def sheet p h table out in
    let z : t.answer.number ≡ 0 = ap (λ (o : Outcome). o.answer.number) (accepts sheet p h table lawful out long) in
    (z, picture_is_right sheet p h table out t.out t.answer refl z bytes r mem ready typed right room)
