-- What the tests 16 to 18 of a record say in numbers, both ways; and that a record which passes them and is no dot, line, rectangle or
-- glyph is a circle, so that its radius is 1 to 2,000. True by taking each test apart.
use mathlib.Core.Path.{◌≡◌}
use mathlib.Core.Bool.{true, not, ◌&&◌, ◌||◌}
use Prim.Native.Nat.{ℕ, ◌≤◌, ◌<◌}
use native.Mathlib.Omega.{arith}
use lib.Dec.{eqb, leb}
use borrow.Author.Tests.{ltb-true, lt-ltb, leb-true, le-leb, eqb-true, eq-eqb}
use Rattle.records.specs.declared.Raw.{Raw}
use Rattle.records.specs.Raw.{dot_kind, line_kind, rectangle_kind, glyph_kind, circle_kind}
use Rattle.records.specs.Decode.{record_form_b, known_b, factor_b, radius_b}
use Rattle.records.proofs.TestLaws.{and_both, then_holds, holds_then}

pub record Formed (r : Raw) : Type 0 where
  pub least : dot_kind ≤ r.kind
  pub greatest : r.kind ≤ circle_kind
  pub operation : r.op ≤ 3
  pub dot_zeros : r.kind ≡ dot_kind → (r.x1 ≡ 0) × (r.y1 ≡ 0)
  pub glyph_zeros : r.kind ≡ glyph_kind → r.y1 ≡ 0
  pub circle_zeros : r.kind ≡ circle_kind → r.y1 ≡ 0

module _ (r : Raw) where
  pub form_means : record_form_b r ≡ true → Formed r
  form_means e =
      let n = and_both (leb 1 r.kind && leb r.kind 5 && leb r.op 3
      && (not (eqb r.kind 1) || (eqb r.x1 0 && eqb r.y1 0)) && (not (eqb r.kind 4) || eqb r.y1 0))
      (not (eqb r.kind 5) || eqb r.y1 0) e in
      let a = and_both (leb 1 r.kind && leb r.kind 5 && leb r.op 3
      && (not (eqb r.kind 1) || (eqb r.x1 0 && eqb r.y1 0))) (not (eqb r.kind 4) || eqb r.y1 0) n.0 in
      let b = and_both (leb 1 r.kind && leb r.kind 5 && leb r.op 3) (not (eqb r.kind 1) || (eqb r.x1 0 && eqb r.y1 0))
      a.0 in
      let c = and_both (leb 1 r.kind && leb r.kind 5) (leb r.op 3) b.0 in
      let d = and_both (leb 1 r.kind) (leb r.kind 5) c.0 in
      record {
        least = leb-true _ _ d.0;
        greatest = leb-true _ _ d.1;
        operation = leb-true _ _ c.1;
        dot_zeros = λ k.
            let z = and_both (eqb r.x1 0) (eqb r.y1 0) (then_holds (eqb r.kind 1) _ b.1 (eq-eqb _ 1 k)) in
            (eqb-true _ 0 z.0, eqb-true _ 0 z.1);
        glyph_zeros = λ k. eqb-true _ 0 (then_holds (eqb r.kind 4) _ a.1 (eq-eqb _ 4 k));
        circle_zeros = λ k. eqb-true _ 0 (then_holds (eqb r.kind 5) _ n.1 (eq-eqb _ 5 k));
      }

  pub form_is : Formed r → record_form_b r ≡ true
  form_is w =
      rw (
        le-leb 1 r.kind w.least,
        le-leb r.kind 5 w.greatest,
        le-leb r.op 3 w.operation,
        holds_then (eqb r.kind 1) (eqb r.x1 0 && eqb r.y1 0)
            (λ e. let z = w.dot_zeros (eqb-true _ 1 e) in rw (eq-eqb _ 0 z.0, eq-eqb _ 0 z.1)),
        holds_then (eqb r.kind 4) (eqb r.y1 0) (λ e. eq-eqb _ 0 (w.glyph_zeros (eqb-true _ 4 e))),
        holds_then (eqb r.kind 5) (eqb r.y1 0) (λ e. eq-eqb _ 0 (w.circle_zeros (eqb-true _ 5 e))),
      )

  pub known_means : {glyphs : ℕ} → known_b r glyphs ≡ true → r.kind ≡ glyph_kind → r.number < glyphs
  known_means e k = ltb-true _ _ (then_holds (eqb r.kind 4) _ e (eq-eqb _ 4 k))

  pub known_is : {glyphs : ℕ} → (r.kind ≡ glyph_kind → r.number < glyphs) → known_b r glyphs ≡ true
  known_is f = holds_then (eqb r.kind 4) _ (λ e. lt-ltb _ _ (f (eqb-true _ 4 e)))

  pub factor_means : factor_b r ≡ true → r.kind ≡ glyph_kind → (1 ≤ r.factor) × (r.factor ≤ 16)
  factor_means e k =
      let z = and_both (leb 1 r.factor) (leb r.factor 16) (then_holds (eqb r.kind 4) _ e (eq-eqb _ 4 k)) in
      (leb-true _ _ z.0, leb-true _ _ z.1)

  pub factor_is : (r.kind ≡ glyph_kind → (1 ≤ r.factor) × (r.factor ≤ 16)) → factor_b r ≡ true
  factor_is f =
      holds_then (eqb r.kind 4) (leb 1 r.factor && leb r.factor 16)
      (λ e. let z = f (eqb-true _ 4 e) in rw (le-leb _ _ z.0, le-leb _ _ z.1))

  pub radius_means : radius_b r ≡ true → r.kind ≡ circle_kind → (1 ≤ r.x1) × (r.x1 ≤ 2000)
  radius_means e k =
      let z = and_both (leb 1 r.x1) (leb r.x1 2000) (then_holds (eqb r.kind 5) _ e (eq-eqb _ 5 k)) in
      (leb-true _ _ z.0, leb-true _ _ z.1)

  pub radius_is : (r.kind ≡ circle_kind → (1 ≤ r.x1) × (r.x1 ≤ 2000)) → radius_b r ≡ true
  radius_is f =
      holds_then (eqb r.kind 5) (leb 1 r.x1 && leb r.x1 2000)
      (λ e. let z = f (eqb-true _ 5 e) in rw (le-leb _ _ z.0, le-leb _ _ z.1))

  -- the last kind
  pub else_circle : Formed r → (r.kind ≡ dot_kind → ⊥) → (r.kind ≡ line_kind → ⊥) → (r.kind ≡ rectangle_kind → ⊥)
      → (r.kind ≡ glyph_kind → ⊥) → r.kind ≡ circle_kind
  else_circle w a b c d = let l = w.least in let g = w.greatest in omega arith
