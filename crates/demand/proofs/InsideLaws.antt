-- Every figure that a sheet holds lies in the plane: a figure that was decoded has a factor of 1 to 16 or a radius of 1 to 2,000, it is
-- taken
-- only where its corners, its square or its four ends pass the test of 19, and a record that is refused gives none. No word of what else is
-- refused.
-- And that test is true exactly if every dot of the figure's shape lies in the plane, false exactly if one lies outside.
use mathlib.Core.Path.{◌≡◌, refl}
use mathlib.Core.Bool.{Bool, true, false, cond, ◌&&◌}
use mathlib.Core.List.{List, [], ◌∷◌, ◌++◌}
use Prim.Native.Nat.{ℕ, zero, suc, ◌+◌, ◌*◌, ◌≤◌, ◌<◌}
use native.Mathlib.Omega.{arith}
use lib.Dec.{eqb, ltb, leb}
use borrow.Author.Tests.{ltb-true, leb-true, eqb-true, eqb-false}
use Rattle.std.specs.Prelude.{Ok, Err}
use Rattle.dots.specs.Operation.{operation_of}
use Rattle.geometry.specs.Plane.{InPlane}
use Rattle.geometry.proofs.TestLaws.{cases, and_both}
use Rattle.geometry.proofs.OutsideLaws.{Judges, dot_judged, line_judged, border_judged, square_judged}
use Rattle.circles.proofs.OutsideLaws.{circle_judged}
use Rattle.records.specs.declared.Raw.{Raw}
use Rattle.records.specs.declared.Room.{Room}
use Rattle.records.specs.declared.Point.{Point}
use Rattle.records.specs.declared.Record.{Record}
use Rattle.records.specs.declared.Figure.{Figure}
use Rattle.records.specs.declared.Figure.TheVariants.{Dot, Line, Rectangle, Glyph, Circle}
use Rattle.records.specs.Raw.{raw_at}
use Rattle.records.specs.declared.Refusal.TheVariants.{Form, GlyphNumber, Factor, Radius}
use Rattle.records.specs.Decode.{Decoded, point, record_form_b, known_b, factor_b, radius_b, figure_of, decoded_of, decoded_at}
use Rattle.records.specs.Inside.{point_b, inside_b, judged}
use Rattle.records.proofs.FormLaws.{Formed, form_means, factor_means, radius_means, else_circle}
use Rattle.refusals.specs.Refusals.{room_of, place_of, used_b, slot_decoded}
use Rattle.sheets.specs.Slots.{figures_in, slot_figures, figures_from, figures}
use Rattle.demand.specs.Picture.{figure_on}

-- a glyph's factor is 1 to 16, and its square lies in the plane
pub record Square (p h : ℕ) (a : Point) (g : ℕ) : Type 0 where
  pub some : 0 < g
  pub few : g < 17
  pub right : a.x + 8 * g ≤ 16 * p
  pub low : a.y + 8 * g ≤ h

-- a circle's radius is 1 to 2,000, and its four ends lie in the plane
pub record Round (p h : ℕ) (a : Point) (r : ℕ) : Type 0 where
  pub some : 0 < r
  pub few : r ≤ 2000
  pub left : r ≤ a.x
  pub top : r ≤ a.y
  pub right : a.x + r < 16 * p
  pub low : a.y + r < h

abbrev pub Inside : ℕ → ℕ → Figure → Type 0
Inside p h (Dot a) = InPlane p h a.x a.y
Inside p h (Line a b) = InPlane p h a.x a.y × InPlane p h b.x b.y
Inside p h (Rectangle a b) = InPlane p h a.x a.y × InPlane p h b.x b.y
Inside p h (Glyph a n g) = Square p h a g
Inside p h (Circle a r) = Round p h a r

-- a glyph's factor is 1 to 16 and a circle's radius 1 to 2,000, as 18 asks
abbrev pub Measured : Figure → Type 0
Measured (Dot a) = Unit
Measured (Line a b) = Unit
Measured (Rectangle a b) = Unit
Measured (Glyph a n g) = (1 ≤ g) × (g ≤ 16)
Measured (Circle a r) = (1 ≤ r) × (r ≤ 2000)

module _ (r : Raw) (w : Formed r) (f : factor_b r ≡ true) (g : radius_b r ≡ true) where
  measured : Measured (figure_of r)
  unfolding figure_of
  measured = go (eqb r.kind 1) refl (eqb r.kind 2) refl (eqb r.kind 3) refl (eqb r.kind 4) refl
    where
      go : (a : Bool) → eqb r.kind 1 ≡ a → (b : Bool) → eqb r.kind 2 ≡ b → (c : Bool) → eqb r.kind 3 ≡ c
          → (d : Bool) → eqb r.kind 4 ≡ d
          → Measured (cond a (Dot (point r.x r.y)) (cond b (Line (point r.x r.y) (point r.x1 r.y1))
          (cond c (Rectangle (point r.x r.y) (point r.x1 r.y1))
          (cond d (Glyph (point r.x r.y) r.number r.factor) (Circle (point r.x r.y) r.x1)))))
      go true x b y c z d u = tt
      go false x true y c z d u = tt
      go false x false y true z d u = tt
      go false x false y false z true u = factor_means r f (eqb-true _ 4 u)
      go false x false y false z false u =
          radius_means r g (else_circle r w (eqb-false _ 1 x) (eqb-false _ 2 y) (eqb-false _ 3 z) (eqb-false _ 4 u))

abbrev pub AllInside : ℕ → ℕ → List Record → Type 0
AllInside p h [] = Unit
AllInside p h (r ∷ l) = Inside p h r.figure × AllInside p h l

module _ (p h k : ℕ) where
  abbrev m : Room
  m = room_of p h k

  abbrev Lies : Decoded → Type 0
  Lies (Ok r) = Inside p h r.figure
  Lies (Err w) = Unit

  in_plane : (a : Point) → point_b m a ≡ true → InPlane p h a.x a.y
  in_plane a e =
      let t = and_both (ltb a.x (16 * p)) (ltb a.y h) e in record { column = ltb-true _ _ t.0; row = ltb-true _ _ t.1 }

  both_in : (a b : Point) → (point_b m a && point_b m b) ≡ true → InPlane p h a.x a.y × InPlane p h b.x b.y
  both_in a b e = let t = and_both (point_b m a) (point_b m b) e in (in_plane a t.0, in_plane b t.1)

  -- a figure's own test
  in_figure : (f : Figure) → Measured f → inside_b m f ≡ true → Inside p h f
  in_figure (Dot a) w e = in_plane a e
  in_figure (Line a b) w e = both_in a b e
  in_figure (Rectangle a b) w e = both_in a b e
  in_figure (Glyph a n g) w e =
      let t = and_both (leb (a.x + 8 * g) (16 * p)) (leb (a.y + 8 * g) h) e in
      record { some = w.0; few = omega (arith, w.1); right = leb-true _ _ t.0; low = leb-true _ _ t.1 }
  in_figure (Circle a r) w e =
      let t = and_both (leb r a.x && leb r a.y && ltb (a.x + r) (16 * p)) (ltb (a.y + r) h) e in
      let u = and_both (leb r a.x && leb r a.y) (ltb (a.x + r) (16 * p)) t.0 in
      let v = and_both (leb r a.x) (leb r a.y) u.0 in
      record {
        some = w.0;
        few = w.1;
        left = leb-true _ _ v.0;
        top = leb-true _ _ v.1;
        right = ltb-true _ _ u.1;
        low = ltb-true _ _ t.1;
      }

  -- what the decoder gives is judged
  ok_decoded : (r : Raw) (g : ℕ) → Lies (judged m (decoded_of r g))
  unfolding decoded_of
  ok_decoded r g =
      go (record_form_b r) refl (known_b r g) (factor_b r) refl (radius_b r) refl
    where
      go : (a : Bool) → record_form_b r ≡ a → (b c : Bool) → factor_b r ≡ c → (d : Bool) → radius_b r ≡ d
          → Lies (judged m (cond a (cond b (cond c (cond d (Ok (record { op = operation_of r.op; figure = figure_of r })) (Err Radius))
          (Err Factor)) (Err GlyphNumber)) (Err Form)))
      go true e true true f true k =
          cases Lies (inside_b m (figure_of r)) (in_figure (figure_of r) (measured r (form_means r e) f k)) (λ i. tt)
      go true e true true f false k = tt
      go true e true false f d k = tt
      go true e false c f d k = tt
      go false e b c f d k = tt

  in_append : (a b : List Record) → AllInside p h a → AllInside p h b → AllInside p h (a ++ b)
  in_append [] b u v = v
  in_append (r ∷ a) b u v = (u.0, in_append a b u.1 v)

  in_decoded : (d : Decoded) → Lies d → AllInside p h (figures_in d)
  in_decoded (Ok r) o = (o, tt)
  in_decoded (Err w) o = tt

  module _ (s : List ℕ) where
    in_slot : (i : ℕ) → AllInside p h (slot_figures s m i)
    unfolding slot_figures decoded_at
    in_slot i =
        cases (AllInside p h) (used_b s i) (λ e. in_decoded (slot_decoded s m i) (ok_decoded (raw_at s (place_of i)) m.glyphs)) (λ e. tt)

    in_from : (f i : ℕ) → AllInside p h (figures_from s m f i)
    unfolding figures_from
    in_from zero i = tt
    in_from (suc f) i = in_append (slot_figures s m i) (figures_from s m f (i + 1)) (in_slot i) (in_from f (i + 1))

    pub sheet_inside : (n : ℕ) → AllInside p h (figures s m n)
    unfolding figures
    sheet_inside n = in_from (50 * n) 0

-- ---- 19 is "a dot outside"
-- a figure moved right and down by k
abbrev point_shifted : ℕ → Point → Point
point_shifted k a = record { x = a.x + k; y = a.y + k }

abbrev pub figure_shifted : ℕ → Figure → Figure
figure_shifted k (Dot a) = Dot (point_shifted k a)
figure_shifted k (Line a b) = Line (point_shifted k a) (point_shifted k b)
figure_shifted k (Rectangle a b) = Rectangle (point_shifted k a) (point_shifted k b)
figure_shifted k (Glyph a n g) = Glyph (point_shifted k a) n g
figure_shifted k (Circle a r) = Circle (point_shifted k a) r

-- the test of 19 judges the figure's own shape, dot by dot: figure and plane being moved alike, a dot left of the plane or above it too
pub figure_judged : (p h g : ℕ) (f : Figure) → Measured f → Judges p h (inside_b (room_of p h g) f) (λ k. figure_on (figure_shifted k f))
figure_judged p h g (Dot a) w = dot_judged p h a.x a.y
figure_judged p h g (Line a b) w = line_judged p h a.x a.y b.x b.y
figure_judged p h g (Rectangle a b) w = border_judged p h a.x a.y b.x b.y
figure_judged p h g (Glyph a n f) w = square_judged a.x a.y f w.0 p h
figure_judged p h g (Circle a r) w = circle_judged a.x a.y r w.0 p h
