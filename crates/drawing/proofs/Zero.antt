-- Where `draw_sheet` answers 0, nothing was refused: each refusal of its definition has a number of its own, and where the picture is no
-- larger than the memory it fits. So the picture is drawn, by `sheet_is_drawn`; and its units are those that the cost's call counts.
use mathlib.Core.Path.{◌≡◌, refl, sym, ap, ◌∙◌}
use mathlib.Core.Bool.{Bool, true, false, cond, ◌&&◌}
use mathlib.Core.List.{List}
use Prim.Native.Nat.{ℕ, zero, suc, ◌+◌, ◌*◌, ◌/◌, ◌≤◌, ◌<◌}
use Rattle.sheets.specs.Slots.{translation}
use native.Mathlib.Omega.{arith}
use lib.Dec.{eqb, ltb}
use lib.ListN.{length}
use borrow.Author.Tests.{eqb-true, eqb-false, ltb-false, le-leb}
use Rattle.registers.specs.declared.Registers.{Registers}
use Rattle.registers.specs.Sound.{sound_b}
use Rattle.units.specs.Run.{length_b}
use Rattle.blocks.specs.declared.Answer.{Answer}
use Rattle.refusals.specs.Refusals.{plane_b}
use Rattle.sheets.specs.Sheet.{figures_of, translate_def}
use Rattle.sheets.proofs.SheetLaws.{translated_means}
use Rattle.sheets.proofs.AcceptLaws.{accepted_only}
use Rattle.costs.specs.declared.Cost.{Cost}
use Rattle.demand.specs.Picture.{figures_dots}
use Rattle.demand.proofs.DotLaws.{figures_same}
use Rattle.demand.proofs.InsideLaws.{sheet_inside}
use Rattle.costs.specs.Cost.{cost_of}
use Rattle.costs.proofs.CostLaws.{lawful_told}
use Rattle.laws.proofs.BranchLaws.{cases}
use Rattle.drawing.specs.Draw.{Outcome, outcome, refusal, drawn_by, larger_b, sheet_drawn}
use Rattle.drawing.specs.Right.{ZeroIsDrawn, CostIsTold}
use Rattle.drawing.proofs.Right.{sheet_is_drawn}

-- a picture of lawful size that is not larger than the memory fits it; one of no words or lines does too
roomy : (p h n : ℕ) → p < 256 → h ≤ 4096 → p * h ≤ 262144 → larger_b p h n ≡ false → p * h ≤ n
roomy zero h n wide tall area e = omega arith
roomy (suc p) zero n wide tall area e = let z : suc p * 0 ≡ 0 = omega arith in omega arith
roomy (suc p) (suc h) n wide tall area e =
    let lawful : plane_b (suc p) (suc h) ≡ true =
    rw (
      le-leb 1 (suc p) (omega arith),
      le-leb (suc p) 255 (omega arith),
      le-leb 1 (suc h) (omega arith),
      le-leb (suc h) 4096 tall,
      le-leb (suc p * suc h) 262144 area,
    ) in
    ltb-false n (suc p * suc h) (ap (λ (b : Bool). b && ltb n (suc p * suc h)) (sym lawful) ∙ e)

module _ (sheet : List ℕ) (p h : ℕ) (glyphs : List ℕ) (r : Registers) (entries mem : List ℕ) where
  abbrev a : Answer
  a = (translate_def sheet p h glyphs entries).answer

  pub record Granted : Type 0 where
    pub sound : sound_b r ≡ true
    pub long : length_b r.board.wiring (length mem) ≡ true
    pub fits : larger_b p h (length mem) ≡ false
    pub accepted : a.number ≡ 0

  -- each refusal has a number
  abbrev by : Bool → Bool → Bool → Outcome
  by s l k =
      cond s
      (cond l
      (cond k (outcome (refusal 23 0 0 r) entries mem)
      (drawn_by a (translate_def sheet p h glyphs entries).out r entries mem))
      (outcome (refusal 2 0 0 r) entries mem))
      (outcome (refusal 1 0 0 r) entries mem)

  granted_by : (s l k : Bool) → sound_b r ≡ s → length_b r.board.wiring (length mem) ≡ l → larger_b p h (length mem) ≡ k
      → (by s l k).drawn.number ≡ 0
      → Granted
  granted_by false l k e f g z = let w : ◌≡◌ {A = ℕ} 1 0 = z in absurd (omega arith)
  granted_by true false k e f g z = let w : ◌≡◌ {A = ℕ} 2 0 = z in absurd (omega arith)
  granted_by true true true e f g z = let w : ◌≡◌ {A = ℕ} 23 0 = z in absurd (omega arith)
  granted_by true true false e f g z =
      cases (λ (o : Outcome). o.drawn.number ≡ 0 → Granted) (eqb a.number 0)
      (λ t w. record { sound = e; long = f; fits = g; accepted = eqb-true a.number 0 t })
      (λ t w. absurd (eqb-false a.number 0 t w)) z

  pub zero_granted : (sheet_drawn sheet p h glyphs r entries mem).drawn.number ≡ 0 → Granted
  unfolding sheet_drawn
  zero_granted z = granted_by (sound_b r) (length_b r.board.wiring (length mem)) (larger_b p h (length mem)) refl refl refl z

  pub zero_fits : Granted → p * h ≤ length mem
  zero_fits g =
      let k = (translated_means sheet p h glyphs entries refl g.accepted).frame in
      roomy p h (length mem) k.wide k.tall k.area g.fits

pub zero_is_drawn : ZeroIsDrawn
zero_is_drawn sheet p h glyphs r entries mem q out drawn e z bytes typed words =
    let g = zero_granted sheet p h glyphs r entries mem (ap (λ (o : Outcome). o.drawn.number) (sym e) ∙ z) in
    sheet_is_drawn sheet p h glyphs r entries mem q out drawn e g.accepted bytes g.sound typed words g.long
    (zero_fits sheet p h glyphs r entries mem g)

-- the cost's call counts the same figures
pub cost_is_told : CostIsTold
cost_is_told sheet p h glyphs r entries mem q out drawn e z bytes typed words c f =
    let g = zero_granted sheet p h glyphs r entries mem (ap (λ (o : Outcome). o.drawn.number) (sym e) ∙ z) in
    let w = zero_is_drawn sheet p h glyphs r entries mem q out drawn e z bytes typed words in
    let k : c ≡ cost_of glyphs p (figures_of sheet p h glyphs) =
    f ∙ lawful_told sheet p h glyphs (accepted_only sheet p h glyphs entries refl g.accepted) in (
      ap (λ (x : Cost). x.number) k,
      ap (λ (x : Cost). x.first) k ∙ sym w.first,
      ap (λ (x : Cost). x.units) k ∙ sym (w.units ∙ ap (λ (n : ℕ). n + figures_dots (figures_of sheet p h glyphs)) w.first
          ∙ ap (λ (n : ℕ). length (translation glyphs p (figures_of sheet p h glyphs)) + n)
          (figures_same p h (figures_of sheet p h glyphs) (sheet_inside p h (length glyphs) sheet (length sheet / 512)))),
    )
