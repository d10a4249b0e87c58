-- Demand 3 of `draw_sheet`'s own answer. Where its contract holds and nothing is refused, the answer is what the entries of the
-- translation, sent one at a time, lead to from where the earlier work ended; demand's `picture_is_right` says what that is. Where the
-- earlier work ends in read mode, the first entry, PITCH, turns it to write mode.
use mathlib.Core.Path.{◌≡◌, refl, sym, ap, subst, ◌∙◌}
use mathlib.Core.Bool.{Bool, true, false, ◌&&◌}
use mathlib.Core.List.{List, ◌∷◌}
use Prim.Native.Nat.{ℕ, ◌+◌, ◌*◌, ◌/◌, ◌≤◌}
use native.Mathlib.Omega.{arith}
use lib.ListN.{length, get_or, take}
use borrow.Author.Tests.{eq-eqb, le-ltb}
use Rattle.dots.specs.Dot.{dot}
use Rattle.registers.specs.declared.Mode.TheVariants.{Read}
use Rattle.registers.specs.declared.Registers.{Registers}
use Rattle.registers.specs.Sound.{sound_b}
use Rattle.registers.specs.State.{State, state}
use Rattle.registers.specs.Typed.{Words}
use Rattle.units.specs.Run.{length_b, fitted_b}
use Rattle.ports.specs.Port.{turned_back}
use Rattle.records.specs.declared.Record.{Record}
use Rattle.blocks.specs.declared.Answer.{Answer}
use Rattle.refusals.specs.Refusals.{plane_b, room_of}
use Rattle.sheets.specs.Slots.{translated, translation}
use Rattle.sheets.specs.Slots.{figures as slot_figures}
use Rattle.sheets.specs.Sheet.{figures_of, translate_def}
use Rattle.sheets.proofs.SlotLaws.{translation_length, figures_few}
use Rattle.sheets.proofs.SheetLaws.{translated_means}
use Rattle.laws.proofs.KeptLaws.{SoundSet, own, lawful, lawful_sound, lawful_typed}
use Rattle.laws.proofs.RunLaws.{still_right}
use Rattle.sending.specs.Send.{Ready, Reply, Accepted, sent, left, sent_all, AllAccepted, units_of}
use Rattle.sending.proofs.WaitLaws.{Waiting, waiting, waiting_ready}
use Rattle.sending.proofs.ReadLaws.{turned_waits, pitch_turns}
use Rattle.demand.specs.Shown.{Shown, Bytes}
use Rattle.demand.proofs.Whole.{taken_out, picture_is_right}
use Rattle.finishing.specs.Finish.{left_at, unmoved, finished}
use Rattle.finishing.specs.Finish.{Outcome as Sending}
use Rattle.finishing.proofs.FinishLaws.{finishes, stands, waits_already}
use Rattle.sends.specs.Sends.{most_listed, list_sent}
use Rattle.sends.proofs.SendLaws.{accepted_listed}
use Rattle.drawing.specs.declared.Drawn.{Drawn}
use Rattle.drawing.specs.Draw.{Outcome, outcome, all_sent, larger_b, sheet_drawn}
use Rattle.drawing.specs.Right.{Right, SheetIsDrawn, ReadySheetIsDrawn}

-- ---- PITCH from read mode
module _ (p h : ℕ) (glyphs : List ℕ) (figures : List Record) (r : Registers) (lawful : SoundSet r.board r) (read : r.mode ≡ Read)
    (m l : List ℕ) where
  same : sent (state r m) 0x147 ≡ sent (state (turned_back r) m) 0x147
  same = pitch_turns r lawful read m

  ends : sent_all (state r m) (0x147 ∷ l) ≡ sent_all (state (turned_back r) m) (0x147 ∷ l)
  unfolding sent_all
  ends = ap (λ (q : Reply). sent_all (left q) l) same

  from_read : Shown p h glyphs figures (0x147 ∷ l) (state (turned_back r) m) → Shown p h glyphs figures (0x147 ∷ l) (state r m)
  unfolding units_of
  from_read v = record {
    accepted = subst (λ (q : Reply). Accepted q × AllAccepted (left q) l) (sym same) v.accepted;
    idle = subst (λ (s : State). Ready s.regs) (sym ends) v.idle;
    dots = λ x y i. ap (λ (s : State). dot p x y s.mem) ends ∙ v.dots x y i;
    words = λ j k. ap (λ (s : State). get_or s.mem j 0) ends ∙ v.words j k;
    long = ap (λ (s : State). length s.mem) ends ∙ v.long;
    wide = λ k. subst (λ (s : State). Words s.mem) (sym ends) (v.wide k);
    units = ap (λ (q : Reply). q.run.ran.count + units_of (left q) l) same ∙ v.units;
  }

-- ---- what the definition is where nothing is refused
module _ (sheet : List ℕ) (p h : ℕ) (glyphs : List ℕ) (entries : List ℕ)
    (accepted : (translate_def sheet p h glyphs entries).answer.number ≡ 0)
    (bytes : Bytes glyphs) where
  abbrev a : Answer
  a = (translate_def sheet p h glyphs entries).answer

  abbrev out : List ℕ
  out = (translate_def sheet p h glyphs entries).out

  abbrev figures : List Record
  figures = figures_of sheet p h glyphs

  abbrev all : List ℕ
  all = translation glyphs p figures

  size : length all ≡ a.first
  size = translation_length glyphs p figures ∙ sym (translated_means sheet p h glyphs entries refl accepted).first

  pub few : length all ≤ 128802
  unfolding slot_figures
  few =
      let k = (translated_means sheet p h glyphs entries refl accepted).frame in
      omega (
        arith,
        k.blocks,
        translation_length glyphs p figures,
        figures_few sheet (room_of p h (length glyphs)) (50 * (length sheet / 512)) 0,
      )

  first_written : take a.first out ≡ all
  first_written =
      let k = translated_means sheet p h glyphs entries refl accepted in
      ap (take a.first) k.out ∙ taken_out entries all a.first size k.fits

  -- the entries drawn from any set that waits, and from one in read mode
  from_waiting : (r : Registers) → Waiting r → (m : List ℕ) → length_b r.board.wiring (length m) ≡ true → p * h ≤ length m
      → Shown p h glyphs figures all (state r m)
  from_waiting r v m long room =
      subst (λ (l : List ℕ). Shown p h glyphs figures l (state r m)) first_written
      (picture_is_right sheet p h glyphs entries out a refl accepted bytes r m (waiting_ready v) (lawful_typed r v.lawful) long room)

  from_reading : (r : Registers) → SoundSet r.board r → r.mode ≡ Read → (m : List ℕ)
      → length_b r.board.wiring (length m) ≡ true → p * h ≤ length m → Shown p h glyphs figures all (state r m)
  unfolding translation
  from_reading r l read m long room =
      from_read p h glyphs figures r l read m (p ∷ translated glyphs p figures)
      (from_waiting (turned_back r) (turned_waits r l read) m long room)

  module _ (r : Registers) (mem : List ℕ) where
    fits : p * h ≤ length mem → larger_b p h (length mem) ≡ false
    fits room = rw (le-ltb (length mem) (p * h) room) (and_false (plane_b p h))
      where
        and_false : (t : Bool) → (t && false) ≡ false
        and_false true = refl
        and_false false = refl

    granted : sound_b r ≡ true → length_b r.board.wiring (length mem) ≡ true → p * h ≤ length mem
        → sheet_drawn sheet p h glyphs r entries mem
        ≡ all_sent a out (finished (state r mem)) (list_sent (left_at (finished (state r mem))) (take a.first out))
    unfolding sheet_drawn
    granted s l room = rw (s, l, fits room, eq-eqb a.number 0 accepted)

  -- what the entries draw from w on is what the answer says
  right : (w : Sending) {q : Drawn} {out' drawn : List ℕ} → sound_b w.sent.regs ≡ true → fitted_b (left_at w) ≡ true
      → Shown p h glyphs figures all (left_at w)
      → outcome q out' drawn ≡ all_sent a out w (list_sent (left_at w) (take a.first out))
      → Right p h glyphs figures w.sent.regs w.mem q out' drawn
  right w {q} sound long shown e =
      let most : length all ≤ most_listed = omega (arith, few) in
      let sends =
      e ∙ ap (λ (l : List ℕ). all_sent a out w (list_sent (left_at w) l)) first_written
      ∙ ap (all_sent a out w) (accepted_listed (left_at w) all sound long most shown.accepted) in
      let first : q.first ≡ a.first = ap (λ (x : Outcome). x.drawn.first) e in
      record {
        number = ap (λ (x : Outcome). x.drawn.number) e;
        entries = ap (λ (x : Outcome). take x.drawn.first x.entries) e ∙ first_written;
        first = first ∙ sym size;
        accepted = shown.accepted;
        sent = ap (λ (o : Outcome). state o.drawn.regs o.mem) sends;
        counted = ap (λ (o : Outcome). o.drawn.units) sends;
        idle = subst Ready (sym (ap (λ (x : Outcome). x.drawn.regs) sends)) shown.idle;
        dots = λ x y i. ap (λ (o : Outcome). dot p x y o.mem) sends ∙ shown.dots x y i;
        words = λ j k. ap (λ (o : Outcome). get_or o.mem j 0) sends ∙ shown.words j k;
        long = ap (λ (o : Outcome). length o.mem) sends ∙ shown.long;
        wide = λ k. subst Words (sym (ap (λ (o : Outcome). o.mem) sends)) (shown.wide k);
        units = ap (λ (o : Outcome). o.drawn.units) sends ∙ shown.units ∙ omega (arith, size, first);
      }

pub sheet_is_drawn : SheetIsDrawn
sheet_is_drawn sheet p h glyphs r entries mem q out' drawn e z bytes sound typed words long room =
    let w = finished (state r mem) in
    let settled = finishes (length mem) long (state r mem)
    (record { regs = lawful r sound typed; words = words; long = refl }) in
    let long' : fitted_b (left_at w) ≡ true = still_right (length mem) long (left_at w) settled.whole in
    let room' : p * h ≤ length w.mem = rw settled.whole.long room in
    right sheet p h glyphs entries z bytes w (lawful_sound w.sent.regs settled.whole.regs) long'
    (stands w.sent.regs settled.whole.regs
    (λ v. from_waiting sheet p h glyphs entries z bytes w.sent.regs v w.mem long' room')
    (λ k. from_reading sheet p h glyphs entries z bytes w.sent.regs (own w.sent.regs settled.whole.regs) k w.mem long' room')
    settled.still)
    (e ∙ granted sheet p h glyphs entries z bytes r mem sound long room)

pub ready_sheet_is_drawn : ReadySheetIsDrawn
ready_sheet_is_drawn sheet p h glyphs r entries mem q out' drawn e z bytes ready typed long room =
    let v = waiting r ready typed in
    let t = translate_def sheet p h glyphs entries in
    right sheet p h glyphs entries z bytes (unmoved (state r mem)) ready.sound long
    (from_waiting sheet p h glyphs entries z bytes r v mem long room)
    (e ∙ granted sheet p h glyphs entries z bytes r mem ready.sound long room
    ∙ ap (λ (w : Sending). all_sent t.answer t.out w (list_sent (left_at w) (take t.answer.first t.out)))
    (waits_already r mem v long))
