-- One law for each way out of `draw_sheet`, and that two allowed answers are equal. True because the tests of the code run in the
-- definition's order, and the translator leaves its output as it was where it refuses.
use mathlib.Core.Path.{◌≡◌, refl, sym, ap, ◌∙◌}
use Rattle.std.specs.Prelude.{Bool, true, false, cond, Result, Ok, Err}
use mathlib.Core.List.{List}
use Prim.Native.Nat.{ℕ, ◌<◌, ◌≤◌}
use lib.ListN.{length, take, length-take}
use native.Mathlib.Omega.{arith}
use borrow.Author.Tests.{eq-eqb, ne_eqb}
use Rattle.registers.specs.declared.Registers.{Registers}
use Rattle.registers.specs.Sound.{sound_b}
use Rattle.registers.specs.State.{state}
use Rattle.units.specs.declared.Refusal.{Refusal}
use Rattle.units.specs.declared.Refusal.TheVariants.{Unsound, Length}
use Rattle.units.specs.Answered.{refusal_number, accepted_by}
use Rattle.units.specs.Run.{length_b}
use Rattle.units.proofs.RunLaws.{refused_by}
use Rattle.blocks.specs.declared.Answer.{Answer}
use Rattle.blocks.specs.declared.Fault.TheVariants as faults
use Rattle.blocks.specs.declared.Refused.{Refused}
use Rattle.blocks.specs.declared.Refused.TheVariants as sheets
use Rattle.blocks.specs.Answer.{answer}
use Rattle.blocks.specs.Refused.{refused as sheet_refused}
use Rattle.blocks.proofs.AnswerLaws.{refused_one}
use Rattle.sheets.specs.Sheet.{answer_of, translate_def}
use Rattle.sheets.specs.Sheet.{Outcome as Translated, outcome as translated}
use Rattle.entries.proofs.PutLaws.{placed_length}
use Rattle.sheets.proofs.SheetLaws.{translated_means}
use Rattle.drawing.specs.declared.Drawn.{Drawn}
use Rattle.finishing.specs.declared.Sent.{Sent}
use Rattle.finishing.specs.Finish.{left_at, finished}
use Rattle.finishing.specs.Finish.{Outcome as Sending, outcome as sending}
use Rattle.sends.specs.declared.Listed.{Listed}
use Rattle.sends.specs.Sends.{listed, list_sent}
use Rattle.drawing.specs.declared.Picture.{Picture}
use Rattle.drawing.specs.declared.Refusal.{Refusal as Why}
use Rattle.drawing.specs.declared.Refusal.TheVariants.{Run, Larger, Sheet}
use Rattle.drawing.specs.Draw.{Outcome, outcome, refusal, all_sent, drawn_by, larger_b, sheet_drawn}
use Rattle.drawing.specs.Refused.{refused, answered}

module _ (sheet : List ℕ) (p h : ℕ) (glyphs : List ℕ) (r : Registers) (entries mem : List ℕ) where
  abbrev all : Outcome
  all = sheet_drawn sheet p h glyphs r entries mem

  -- the tests behind the run's two, which `sheet_drawn` nests
  abbrev by_tests : Bool → Bool → Outcome
  by_tests k l =
      cond k
      (cond l
      (cond (larger_b p h (length mem)) (outcome (refusal 23 0 0 r) entries mem)
      (drawn_by (translate_def sheet p h glyphs entries).answer (translate_def sheet p h glyphs entries).out r entries mem))
      (outcome (refusal 2 0 0 r) entries mem))
      (outcome (refusal 1 0 0 r) entries mem)

  pub way_run : {why : Refusal} → Err why ≡ accepted_by (sound_b r) (length_b r.board.wiring (length mem))
      → outcome (refusal (refusal_number why) 0 0 r) entries mem ≡ all
  unfolding sheet_drawn
  way_run e =
      refused_by by_tests (λ (n : ℕ). outcome (refusal n 0 0 r) entries mem) (λ l. refl) refl
      (sound_b r) (length_b r.board.wiring (length mem)) e

  module _ (s : sound_b r ≡ true) where
    module _ (l : length_b r.board.wiring (length mem) ≡ true) where
      pub way_larger : {q : Drawn} → larger_b p h (length mem) ≡ true → q ≡ refusal 23 0 0 r → outcome q entries mem ≡ all
      unfolding sheet_drawn
      way_larger k e = rw (e, s, l, k)

      module _ (k : larger_b p h (length mem) ≡ false) {a : Answer} {out : List ℕ}
          (t : translated a out ≡ translate_def sheet p h glyphs entries) where
        past : all ≡ drawn_by a out r entries mem
        unfolding sheet_drawn
        past = rw (s, l, k) (sym (ap (λ (x : Translated). drawn_by x.answer x.out r entries mem) t))

        -- a refused translation leaves the output as it was
        unaltered : (a.number ≡ 0 → ⊥) → out ≡ entries
        unfolding translate_def
        unaltered z =
            let e : a ≡ answer_of sheet p h glyphs (length entries) = ap (λ (x : Translated). x.answer) t in
            ap (λ (x : Translated). x.out) t ∙ rw (← e, ne_eqb a.number 0 z)

        pub way_refused : {q : Drawn} → (a.number ≡ 0 → ⊥) → q ≡ refusal a.number a.first a.second r
            → outcome q out mem ≡ all
        way_refused z e = rw (past, e, unaltered z, ne_eqb a.number 0 z)

        pub way_sent : {w : Sent} {q : Listed} {m n : List ℕ} → a.number ≡ 0 → sending w m ≡ finished (state r mem)
            → listed q n ≡ list_sent (state w.regs m) (take a.first out)
            → outcome (record { number = 0; first = a.first; second = a.second; units = q.units; earlier = w.units; regs = q.regs })
            out n
            ≡ all
        way_sent {w} {q} {m} {n} z f e =
            ap (all_sent a out (sending w m)) e
            ∙ ap (λ (x : Sending). all_sent a out x (list_sent (left_at x) (take a.first out))) f
            ∙ rw (past, eq-eqb a.number 0 z)

  -- two allowed answers are equal, and so are the entries and the memories
  pub only : {q w : Drawn} {a b m n : List ℕ} → outcome q a m ≡ all → outcome w b n ≡ all → (q ≡ w) × (a ≡ b) × (m ≡ n)
  only e f = (
    ap (λ (x : Outcome). x.drawn) (e ∙ sym f),
    ap (λ (x : Outcome). x.entries) (e ∙ sym f),
    ap (λ (x : Outcome). x.mem) (e ∙ sym f),
  )

-- the entries that were written are a part of the output
module _ (sheet : List ℕ) (p h : ℕ) (glyphs entries : List ℕ) {a : Answer} {out : List ℕ}
    (t : translated a out ≡ translate_def sheet p h glyphs entries) (z : a.number ≡ 0) where
  pub part_fits : a.first ≤ length out
  part_fits =
      let k = translated_means sheet p h glyphs entries t z in
      let e : length out ≡ length entries = ap length k.out ∙ placed_length entries 0 _ in
      omega (arith, k.fits)

  pub part_long : a.first ≡ length (take a.first out)
  part_long = sym (length-take a.first out ∙ omega (arith, part_fits))

-- ---- an answer in numbers is of one picture or of one refusal: a run's are 1 and 2, the sheet's 11 to 20, and 23 is a larger picture's
from_11 : (w : Refused) → 10 < (sheet_refused w).number
from_11 sheets.Plane = omega arith
from_11 sheets.Table = omega arith
from_11 sheets.Length = omega arith
from_11 (sheets.Check b) = omega arith
from_11 (sheets.Heading b) = omega arith
from_11 (sheets.Slot b i faults.Form) = omega arith
from_11 (sheets.Slot b i faults.GlyphNumber) = omega arith
from_11 (sheets.Slot b i faults.Size) = omega arith
from_11 (sheets.Slot b i faults.Outside) = omega arith
from_11 (sheets.Short n) = omega arith

to_20 : (w : Refused) → (sheet_refused w).number < 21
to_20 sheets.Plane = omega arith
to_20 sheets.Table = omega arith
to_20 sheets.Length = omega arith
to_20 (sheets.Check b) = omega arith
to_20 (sheets.Heading b) = omega arith
to_20 (sheets.Slot b i faults.Form) = omega arith
to_20 (sheets.Slot b i faults.GlyphNumber) = omega arith
to_20 (sheets.Slot b i faults.Size) = omega arith
to_20 (sheets.Slot b i faults.Outside) = omega arith
to_20 (sheets.Short n) = omega arith

some : (w : Why) → (refused w).number ≡ 0 → ⊥
some (Run Unsound) e = absurd (omega arith)
some (Run Length) e = absurd (omega arith)
some Larger e = absurd (omega arith)
some (Sheet w) e = let k = from_11 w in absurd (omega arith)

one : (v w : Why) → refused v ≡ refused w → v ≡ w
one v w e = by v w e (ap (λ (x : Answer). x.number) e)
  where
    by : (v w : Why) → refused v ≡ refused w → (refused v).number ≡ (refused w).number → v ≡ w
    by (Run Unsound) (Run Unsound) e z = refl
    by (Run Unsound) (Run Length) e z = absurd (omega arith)
    by (Run Length) (Run Unsound) e z = absurd (omega arith)
    by (Run Length) (Run Length) e z = refl
    by (Run Unsound) Larger e z = absurd (omega arith)
    by (Run Length) Larger e z = absurd (omega arith)
    by (Run Unsound) (Sheet w) e z = let k = from_11 w in absurd (omega arith)
    by (Run Length) (Sheet w) e z = let k = from_11 w in absurd (omega arith)
    by Larger (Run Unsound) e z = absurd (omega arith)
    by Larger (Run Length) e z = absurd (omega arith)
    by Larger Larger e z = refl
    by Larger (Sheet w) e z = let k = to_20 w in absurd (omega arith)
    by (Sheet v) (Run Unsound) e z = let k = from_11 v in absurd (omega arith)
    by (Sheet v) (Run Length) e z = let k = from_11 v in absurd (omega arith)
    by (Sheet v) Larger e z = let k = to_20 v in absurd (omega arith)
    by (Sheet v) (Sheet w) e z = ap Sheet (refused_one v w e)

answered_one : (r : Registers) (c d : Result Picture Why) → answered r c ≡ answered r d → c ≡ d
answered_one r (Ok a) (Ok b) e =
    ap (λ (x : Drawn). Ok (record { entries = x.first; units = x.units; earlier = x.earlier; regs = x.regs })) e
answered_one r (Ok a) (Err w) e = absurd (some w (sym (ap (λ (x : Drawn). x.number) e)))
answered_one r (Err v) (Ok b) e = absurd (some v (ap (λ (x : Drawn). x.number) e))
answered_one r (Err v) (Err w) e = ap Err (one v w (ap (λ (x : Drawn). answer x.number x.first x.second) e))

-- so two allowed answers are equal, the Results themselves, and with them the entries and the memories
pub only_told : (sheet : List ℕ) (p h : ℕ) (glyphs : List ℕ) (r : Registers) (entries mem : List ℕ) {c d : Result Picture Why}
    {a b m n : List ℕ}
    → outcome (answered r c) a m ≡ sheet_drawn sheet p h glyphs r entries mem
    → outcome (answered r d) b n ≡ sheet_drawn sheet p h glyphs r entries mem
    → (c ≡ d) × (a ≡ b) × (m ≡ n)
only_told sheet p h glyphs r entries mem {c} {d} e f =
    let w = only sheet p h glyphs r entries mem e f in (answered_one r c d w.0, w.1, w.2)
