-- One law for each way out of a slot and of `sheet_refusal`, and what P, H and the lengths are where nothing is refused. True because the
-- checks of the code run in the definitions' order, so that each way's tests decide each `or_else` of `sheet_refusal`.
use mathlib.Core.Path.{◌≡◌, refl, sym, ap, ◌∙◌}
use mathlib.Core.Bool.{Bool, true, false, ◌&&◌}
use mathlib.Core.List.{List}
use Prim.Native.Nat.{ℕ, ◌*◌, ◌/◌, ◌%◌, ◌<◌, ◌≤◌}
use native.Mathlib.Omega.{arith}
use lib.Dec.{eqb, leb}
use lib.ListN.{length}
use borrow.Author.Tests.{leb-true, eqb-true}
use Rattle.std.specs.Prelude.{Result}
use Rattle.records.specs.declared.Room.{Room}
use Rattle.records.specs.Decode.{Decoded}
use Rattle.records.specs.Refused.{number_of}
use Rattle.records.proofs.TestLaws.{and_both}
use Rattle.blocks.specs.declared.Answer.{Answer}
use Rattle.blocks.specs.declared.Refused.{Refused}
use Rattle.blocks.specs.Answer.{answer, refusal_unless, or_else}
use Rattle.blocks.specs.Refused.{checked}
use Rattle.blocks.specs.Block.{blocks_checked}
use Rattle.blocks.proofs.AnswerLaws.{or_first, or_next, or_zero, checked_one}
use Rattle.refusals.specs.Refusals.{used_b, slot_decoded, slot_refusal, records_checked}
use Rattle.refusals.specs.Refusals.{plane_b, table_b, sheet_length_b, plane_refusal, table_refusal, length_refusal, frame_refusal}
use Rattle.refusals.specs.Refusals.{room_of, sheet_refusal}

-- ---- one slot
module _ (s : List ℕ) (m : Room) (k : ℕ) where
  pub not_refused : used_b s k ≡ false → 0 ≡ slot_refusal s m k
  unfolding slot_refusal
  not_refused u = rw u

  pub number_is : {d : Decoded} {x : ℕ} → used_b s k ≡ true → d ≡ slot_decoded s m k → x ≡ number_of d → x ≡ slot_refusal s m k
  unfolding slot_refusal
  number_is u e q = rw (u, ← e, q)

-- ---- the plane, the table and the length are right where nothing is refused
pub record Framed (p h g l : ℕ) : Type 0 where
  pub wide : p < 256
  pub tall : h ≤ 4096
  pub area : p * h ≤ 262144
  pub table : g ≤ 2048
  pub whole : l % 512 ≡ 0
  pub blocks : l ≤ 8192

unless_zero : (t : Bool) (n : ℕ) → 0 < n → (refusal_unless t n).number ≡ 0 → t ≡ true
unless_zero true n k e = refl
unless_zero false n k e = absurd (omega arith)

pub three : (p h g l : ℕ) → (frame_refusal p h g l).number ≡ 0 → (plane_b p h ≡ true) × (table_b g ≡ true) × (sheet_length_b l ≡ true)
unfolding frame_refusal
three p h g l e =
    let u = or_zero (plane_refusal p h) (or_else (table_refusal g) (length_refusal l)) e in
    let v = or_zero (table_refusal g) (length_refusal l) (sym (ap (λ (x : Answer). x.number) u.1) ∙ e) in
    let w : (length_refusal l).number ≡ 0 = sym (ap (λ (x : Answer). x.number) (u.1 ∙ v.1)) ∙ e in (
      unless_zero (plane_b p h) 11 (omega arith) u.0,
      unless_zero (table_b g) 12 (omega arith) v.0,
      unless_zero (sheet_length_b l) 13 (omega arith) w,
    )

pub framed : (p h g l : ℕ) {f : Answer} → f ≡ frame_refusal p h g l → f.number ≡ 0 → Framed p h g l
framed p h g l e z =
    let w = three p h g l (sym (ap (λ (x : Answer). x.number) e) ∙ z) in
    let a = and_both (leb 1 p && leb p 255 && leb 1 h && leb h 4096) (leb (p * h) 262144) w.0 in
    let b = and_both (leb 1 p && leb p 255 && leb 1 h) (leb h 4096) a.0 in
    let c = and_both (leb 1 p && leb p 255) (leb 1 h) b.0 in
    let d = and_both (leb 1 p) (leb p 255) c.0 in
    let t = and_both (eqb (g % 8) 0) (leb g 2048) w.1 in
    let u = and_both (eqb (l % 512) 0 && leb 1 (l / 512)) (leb (l / 512) 16) w.2 in
    let v = and_both (eqb (l % 512) 0) (leb 1 (l / 512)) u.0 in
    record {
      wide = omega (arith, leb-true p 255 d.1);
      tall = leb-true h 4096 b.1;
      area = leb-true (p * h) 262144 a.1;
      table = leb-true g 2048 t.1;
      whole = eqb-true (l % 512) 0 v.0;
      blocks = omega (arith, leb-true (l / 512) 16 u.1, eqb-true (l % 512) 0 v.0);
    }

-- ---- the frame: the plane, then the table, then the length
module _ (p h g l : ℕ) where
  pub way_plane : {a : Answer} → a ≡ plane_refusal p h → (a.number ≡ 0 → ⊥) → a ≡ frame_refusal p h g l
  unfolding frame_refusal
  way_plane e z = e ∙ sym (or_first (plane_refusal p h) _ (rw e at z))

  module _ (e : answer 0 0 0 ≡ plane_refusal p h) where
    way_next : or_else (table_refusal g) (length_refusal l) ≡ frame_refusal p h g l
    unfolding frame_refusal
    way_next = sym (or_next (plane_refusal p h) _ (sym (ap (λ (x : Answer). x.number) e)))

    pub way_table : {a : Answer} → a ≡ table_refusal g → (a.number ≡ 0 → ⊥) → a ≡ frame_refusal p h g l
    way_table f z = f ∙ sym (or_first (table_refusal g) _ (rw f at z)) ∙ way_next

    pub way_length : answer 0 0 0 ≡ table_refusal g → {a : Answer} → a ≡ length_refusal l → a ≡ frame_refusal p h g l
    way_length f k = k ∙ sym (or_next (table_refusal g) _ (sym (ap (λ (x : Answer). x.number) f))) ∙ way_next

-- ---- the ways out
module _ (s : List ℕ) (p h : ℕ) (t : List ℕ) where
  abbrev frame : Answer
  frame = frame_refusal p h (length t) (length s)

  -- the frame is right where the sheet is not refused
  pub sheet_framed : {a : Answer} → a ≡ sheet_refusal s p h t → a.number ≡ 0 → Framed p h (length t) (length s)
  unfolding sheet_refusal
  sheet_framed e z = framed p h (length t) (length s) refl (or_zero frame _ (sym (ap (λ (x : Answer). x.number) e) ∙ z)).0

  -- the frame, then the blocks and the records
  pub way_frame : {f : Answer} → f ≡ frame → (f.number ≡ 0 → ⊥) → f ≡ sheet_refusal s p h t
  unfolding sheet_refusal
  way_frame e z = e ∙ sym (or_first frame _ (rw e at z))

  pub way_checked : {f b r c : Answer} → f ≡ frame → f.number ≡ 0 → b ≡ blocks_checked s (length s / 512)
      → r ≡ records_checked s (room_of p h (length t)) (length s / 512) → c ≡ or_else b r → c ≡ sheet_refusal s p h t
  unfolding sheet_refusal
  way_checked e z be re ce = rw (← be, ← re) ce ∙ sym (or_next frame _ (sym (ap (λ (x : Answer). x.number) e) ∙ z))

  -- two allowed answers are equal: the Results themselves, which are told apart
  pub only_told : {q r : Result (Unit {0}) Refused} → checked q ≡ sheet_refusal s p h t → checked r ≡ sheet_refusal s p h t → q ≡ r
  only_told {q} {r} e f = checked_one q r (e ∙ sym f)
