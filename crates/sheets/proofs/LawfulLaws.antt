-- A block is not refused exactly if it is a `LawfulBlock`, a record exactly if it is a `LawfulRecord`. True because each test says one of
-- 01's conditions in numbers; and the test of the corners, of the square or of a circle's ends holds exactly if every dot of the record's
-- shape lies in the plane (`Judges` of crate geometry).
use mathlib.Core.Path.{◌≡◌, refl, sym}
use mathlib.Core.Bool.{Bool, true, false, cond, ◌&&◌}
use mathlib.Core.List.{List}
use Prim.Native.Nat.{ℕ, ◌+◌, ◌-◌, ◌*◌, ◌/◌, ◌%◌, ◌<◌, ◌≤◌}
use native.Mathlib.Omega.{arith}
use lib.Dec.{eqb}
use borrow.Author.Tests.{eqb-true, eqb-false, eq-eqb, leb-true, le-leb}
use Rattle.std.specs.Prelude.{Ok, Err}
use Rattle.geometry.specs.Plane.{Shape}
use Rattle.geometry.proofs.OutsideLaws.{Outside, Judges, judges_only, outside_only, dot_judged, line_judged, border_judged, square_judged}
use Rattle.circles.proofs.OutsideLaws.{circle_judged}
use Rattle.records.specs.declared.Raw.{Raw}
use Rattle.records.specs.declared.Room.{Room}
use Rattle.records.specs.declared.Record.{Record}
use Rattle.records.specs.declared.Figure.{Figure}
use Rattle.records.specs.declared.Refusal.TheVariants.{Form, GlyphNumber, Factor, Radius}
use Rattle.records.specs.declared.Refusal.TheVariants as refusals
use Rattle.records.specs.Raw.{record_place, dot_kind, line_kind, rectangle_kind, glyph_kind, circle_kind}
use Rattle.records.specs.Decode.{Decoded, record_form_b, known_b, factor_b, radius_b, figure_of, decoded_of}
use Rattle.records.specs.Inside.{inside_b, judged}
use Rattle.records.specs.Refused.{number_of}
use Rattle.records.proofs.TestLaws.{and_both}
use Rattle.records.proofs.FormLaws.{Formed, form_means, form_is, known_means, known_is, factor_means, factor_is, radius_means, radius_is}
use Rattle.records.proofs.FormLaws.{else_circle}
use Rattle.blocks.specs.Block.{check_of, count_of, check_b, number_b, count_b, last_b, spare_b, unused_b, head_b, block_refusal}
use Rattle.blocks.proofs.BlockLaws.{zeros_all, all_zeros}
use Rattle.sheets.specs.Lawful.{LawfulBlock, record_on, LawfulRecord}

-- ---- a block
two : (a b : Bool) → ◌≡◌ {A = ℕ} (cond a (cond b 0 15) 14) 0 → (a ≡ true) × (b ≡ true)
two true true e = (refl, refl)
two true false e = absurd (omega arith)
two false b e = absurd (omega arith)

module _ (s : List ℕ) (n b : ℕ) where
  abbrev at : ℕ
  at = 512 * b

  -- the mark of the last block
  marked : (t : Bool) → eqb (b + 1) n ≡ t → {x : ℕ} → x ≡ cond t 1 0 → (b + 1 ≡ n → x ≡ 1) × ((b + 1 ≡ n → ⊥) → x ≡ 0)
  marked true e q = (λ k. q, λ k. absurd (k (eqb-true (b + 1) n e)))
  marked false e q = (λ k. absurd (eqb-false (b + 1) n e k), λ k. q)

  mark_is : (t : Bool) → eqb (b + 1) n ≡ t → {x : ℕ} → (b + 1 ≡ n → x ≡ 1) → ((b + 1 ≡ n → ⊥) → x ≡ 0) → x ≡ cond t 1 0
  mark_is true e f g = f (eqb-true (b + 1) n e)
  mark_is false e f g = g (eqb-false (b + 1) n e)

  pub block_lawful : block_refusal s n b ≡ 0 → LawfulBlock s n b
  unfolding block_refusal check_of head_b
  block_lawful z =
      let w = two (check_b s b) (head_b s n b) z in
      let f = and_both (number_b s b && count_b s b && last_b s n b && spare_b s b) (unused_b s b) w.1 in
      let g = and_both (number_b s b && count_b s b && last_b s n b) (spare_b s b) f.0 in
      let h = and_both (number_b s b && count_b s b) (last_b s n b) g.0 in
      let k = and_both (number_b s b) (count_b s b) h.0 in
      let l = marked (eqb (b + 1) n) refl (eqb-true _ _ h.1) in
      record {
        check = sym (eqb-true _ _ w.0);
        number = eqb-true _ _ k.0;
        count = leb-true _ _ k.1;
        last = l.0;
        not_last = l.1;
        spare = λ j u v.
            let e : at + 504 + (j - 504) ≡ at + j = omega arith in rw (← e) (zeros_all 6 s (at + 504) g.1 (j - 504) (omega arith));
        unused = λ i j u v c.
            let e : at + 4 + 10 * count_of s b + (10 * i + j - 10 * count_of s b) ≡ record_place b i + j = omega arith in
            rw (← e) (zeros_all _ s (at + 4 + 10 * count_of s b) f.1 (10 * i + j - 10 * count_of s b) (omega arith));
      }

  pub block_granted : LawfulBlock s n b → block_refusal s n b ≡ 0
  unfolding block_refusal check_of head_b
  block_granted w =
      let c : count_of s b ≤ 50 = w.count in
      let free : unused_b s b ≡ true =
      all_zeros (500 - 10 * count_of s b) s (at + 4 + 10 * count_of s b)
      (λ j l. let e : record_place b (count_of s b + j / 10) + j % 10 ≡ at + 4 + 10 * count_of s b + j = omega arith in
      rw e at (w.unused (count_of s b + j / 10) (j % 10) (omega arith) (omega arith) (omega arith))) in
      let zero : spare_b s b ≡ true =
      all_zeros 6 s (at + 504)
      (λ j l. let e : at + (504 + j) ≡ at + 504 + j = omega arith in rw e at (w.spare (504 + j) (omega arith) (omega arith))) in
      rw (
        eq-eqb _ _ (sym w.check),
        eq-eqb _ _ w.number,
        le-leb _ _ w.count,
        eq-eqb _ _ (mark_is (eqb (b + 1) n) refl w.last w.not_last),
        zero,
        free,
      )

-- ---- a record
module _ (p h glyphs : ℕ) where
  abbrev m : Room
  m = record { across = 16 * p; down = h; glyphs = glyphs }

  by_test : (t : Bool) (f g : Figure) (u v : ℕ → Shape) → (t ≡ true → Judges p h (inside_b m f) u)
      → (t ≡ false → Judges p h (inside_b m g) v) → Judges p h (inside_b m (cond t f g)) (λ k. cond t (u k) (v k))
  by_test true f g u v j k = j refl
  by_test false f g u v j k = k refl

  -- a factor and a radius of 1 or more, as 18 asks
  record Eighteen (r : Raw) : Type 0 where
    factor : r.kind ≡ glyph_kind → 0 < r.factor
    radius : (r.kind ≡ dot_kind → ⊥) → (r.kind ≡ line_kind → ⊥) → (r.kind ≡ rectangle_kind → ⊥) → (r.kind ≡ glyph_kind → ⊥) → 0 < r.x1

  -- each kind of shape is judged by its own test
  record_judged : (r : Raw) → Eighteen r → Judges p h (inside_b m (figure_of r)) (record_on r)
  unfolding figure_of
  record_judged r some =
      by_test (eqb r.kind 1) _ _ _ _ (λ e. dot_judged p h r.x r.y)
      (λ a. by_test (eqb r.kind 2) _ _ _ _ (λ e. line_judged p h r.x r.y r.x1 r.y1)
      (λ b. by_test (eqb r.kind 3) _ _ _ _ (λ e. border_judged p h r.x r.y r.x1 r.y1)
      (λ c. by_test (eqb r.kind 4) _ _ _ _ (λ d. square_judged r.x r.y r.factor (some.factor (eqb-true _ 4 d)) p h)
      (λ d. circle_judged r.x r.y r.x1
      (some.radius (eqb-false _ 1 a) (eqb-false _ 2 b) (eqb-false _ 3 c) (eqb-false _ 4 d)) p h))))

  eighteen : (r : Raw) → Formed r → (r.kind ≡ glyph_kind → (1 ≤ r.factor) × (r.factor ≤ 16))
      → (r.kind ≡ circle_kind → (1 ≤ r.x1) × (r.x1 ≤ 2000)) → Eighteen r
  eighteen r w f g = record { factor = λ k. (f k).0; radius = λ a b c d. (g (else_circle r w a b c d)).0 }

  -- the five tests of a record in their order: past 16 to 18 the fifth decides
  abbrev decoded_by : Bool → Bool → Bool → Bool → Record → Decoded
  decoded_by a b c d q = cond a (cond b (cond c (cond d (Ok q) (Err Radius)) (Err Factor)) (Err GlyphNumber)) (Err Form)

  tests : (a b c d : Bool) (q : Record) (x : ℕ) → number_of (judged m (decoded_by a b c d q)) ≡ x
      → (x ≡ 16 → ⊥) → (x ≡ 17 → ⊥) → (x ≡ 18 → ⊥)
      → (a ≡ true) × (b ≡ true) × (c ≡ true) × (d ≡ true) × (number_of (judged m (Ok q)) ≡ x)
  tests true true true true q x e f g k = (refl, refl, refl, refl, e)
  tests true true true false q x e f g k = absurd (k (sym e))
  tests true true false d q x e f g k = absurd (k (sym e))
  tests true false c d q x e f g k = absurd (g (sym e))
  tests false b c d q x e f g k = absurd (f (sym e))

  passed : (a b c d : Bool) (q : Record) → number_of (decoded_by a b c d q) ≡ 0 → (a ≡ true) × (b ≡ true) × (c ≡ true) × (d ≡ true)
  passed true true true true q e = (refl, refl, refl, refl)
  passed true true true false q e = absurd (omega arith)
  passed true true false d q e = absurd (omega arith)
  passed true false c d q e = absurd (omega arith)
  passed false b c d q e = absurd (omega arith)

  test_in : (d : Bool) (q : Record) → number_of (cond d (Ok q) (Err refusals.Outside)) ≡ 0 → d ≡ true
  test_in true q e = refl
  test_in false q e = absurd (omega arith)

  test_out : (d : Bool) (q : Record) → number_of (cond d (Ok q) (Err refusals.Outside)) ≡ 19 → d ≡ false
  test_out true q e = absurd (omega arith)
  test_out false q e = refl

  module _ (r : Raw) where
    pub record_lawful : number_of (judged m (decoded_of r glyphs)) ≡ 0 → LawfulRecord p h glyphs r
    unfolding decoded_of
    record_lawful e =
        let w = tests (record_form_b r) (known_b r glyphs) (factor_b r) (radius_b r) _ 0 e (λ k. omega arith) (λ k. omega arith)
        (λ k. omega arith) in
        let f = form_means r w.0 in
        let g = factor_means r w.2 in
        let s = radius_means r w.3 in
        record {
          least_kind = f.least;
          greatest_kind = f.greatest;
          operation = f.operation;
          dot_zeros = f.dot_zeros;
          glyph_zeros = f.glyph_zeros;
          circle_zeros = f.circle_zeros;
          number = known_means r w.1;
          factor = g;
          radius = s;
          inside = (record_judged r (eighteen r f g s)).inside (test_in (inside_b m (figure_of r)) _ w.4);
        }

    pub record_granted : LawfulRecord p h glyphs r → number_of (judged m (decoded_of r glyphs)) ≡ 0
    unfolding decoded_of
    record_granted w =
        let f : Formed r = record {
          least = w.least_kind;
          greatest = w.greatest_kind;
          operation = w.operation;
          dot_zeros = w.dot_zeros;
          glyph_zeros = w.glyph_zeros;
          circle_zeros = w.circle_zeros;
        } in
        rw (
          form_is r f,
          known_is r w.number,
          factor_is r w.factor,
          radius_is r w.radius,
          judges_only (record_judged r (eighteen r f w.factor w.radius)) w.inside,
        )

    -- "19 | a dot outside": some dot of the record's shape lies outside the plane, and where 16 to 18 do not arise only there
    pub nineteen_means : number_of (judged m (decoded_of r glyphs)) ≡ 19 → Outside p h (record_on r)
    unfolding decoded_of
    nineteen_means e =
        let w = tests (record_form_b r) (known_b r glyphs) (factor_b r) (radius_b r) _ 19 e (λ k. omega arith) (λ k. omega arith)
        (λ k. omega arith) in
        (record_judged r (eighteen r (form_means r w.0) (factor_means r w.2) (radius_means r w.3))
        ).outside (test_out (inside_b m (figure_of r)) _ w.4)

    pub nineteen_only : number_of (decoded_of r glyphs) ≡ 0 → Outside p h (record_on r) → number_of (judged m (decoded_of r glyphs)) ≡ 19
    unfolding decoded_of
    nineteen_only z o =
        let w = passed (record_form_b r) (known_b r glyphs) (factor_b r) (radius_b r) _ z in
        rw (
          w.0,
          w.1,
          w.2,
          w.3,
          outside_only (record_judged r (eighteen r (form_means r w.0) (factor_means r w.2) (radius_means r w.3))) o,
        )
