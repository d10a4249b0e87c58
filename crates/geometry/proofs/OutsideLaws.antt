-- When a shape lies in the plane, dot by dot: a line and a border do exactly if their two corners do, a square of 8g by 8g dots exactly if
-- it ends within the plane. True because no dot of a line or border lies past both corners in either coordinate, and the corners are
-- dots of it; and because a square's last dot is its bottom right one. A figure is given with each k that it may be moved by, right and
-- down, so that dots left of the plane or above it count too.
use mathlib.Core.Path.{◌≡◌, refl, sym, ap₂, subst, ◌∙◌}
use mathlib.Core.Bool.{Bool, true, false, cond, ◌&&◌, false≢true}
use Prim.Native.Nat.{ℕ, zero, suc, ◌+◌, ◌-◌, ◌*◌, ◌≤◌, ◌<◌, min, max}
use native.Mathlib.Nat.{mul_comm}
use native.Mathlib.Omega.{arith}
use lib.Arith.{digits_div}
use lib.Dec.{eqb, ltb, leb}
use borrow.Author.Tests.{ltb-true, lt-ltb, leb-true, leb-false, le-leb}
use Rattle.geometry.specs.Plane.{InPlane, InMoved, Shape, distance, minor, toward, line_x, line_y, dot_on, line_on, border_on, square_on}
use Rattle.geometry.proofs.TestLaws.{and_both, some_found, some_at, pair_same, same_pair}
use Rattle.geometry.proofs.ErrorLaws.{minor_start, minor_le}
use Rattle.geometry.proofs.BorderLaws.{Rim, on_left, on_right, border_edge, edge_border}

-- a dot of the figure lies outside the plane, both moved by a k
pub record Outside (p h : ℕ) (on : ℕ → Shape) : Type 0 where
  pub moved : ℕ
  pub x : ℕ
  pub y : ℕ
  pub dot : on moved x y ≡ true
  pub out : InMoved moved p h x y → ⊥

-- a test is true where every dot of the figure lies in the plane, and false where one lies outside
pub record Judges (p h : ℕ) (test : Bool) (on : ℕ → Shape) : Type 0 where
  pub inside : test ≡ true → (k x y : ℕ) → on k x y ≡ true → InMoved k p h x y
  pub outside : test ≡ false → Outside p h on

-- so it is true only there, and false only there
pub judges_only : {p h : ℕ} {test : Bool} {on : ℕ → Shape} → Judges p h test on
    → ((k x y : ℕ) → on k x y ≡ true → InMoved k p h x y) → test ≡ true
judges_only {test = true} j all = refl
judges_only {test = false} j all = let o = j.outside refl in absurd (o.out (all o.moved o.x o.y o.dot))

pub outside_only : {p h : ℕ} {test : Bool} {on : ℕ → Shape} → Judges p h test on → Outside p h on → test ≡ false
outside_only {test = true} j o = absurd (o.out (j.inside refl o.moved o.x o.y o.dot))
outside_only {test = false} j o = refl

-- a dot of the plane, both moved
moved_in : {p h x y : ℕ} (k : ℕ) → InPlane p h x y → InMoved k p h (x + k) (y + k)
moved_in k i =
    record { west = omega arith; north = omega arith; inside = record { column = omega (arith, i.column); row = omega (arith, i.row) } }

in_moved : {p h x y : ℕ} (k : ℕ) → InMoved k p h (x + k) (y + k) → InPlane p h x y
in_moved k i = record { column = omega (arith, i.inside.column); row = omega (arith, i.inside.row) }

-- ---- a dot's test
abbrev in_b : ℕ → ℕ → ℕ → ℕ → Bool
in_b p h x y = ltb x (16 * p) && ltb y h

in_plane : (p h x y : ℕ) → in_b p h x y ≡ true → InPlane p h x y
in_plane p h x y e =
    let t = and_both (ltb x (16 * p)) (ltb y h) e in
    record { column = ltb-true _ _ t.0; row = ltb-true _ _ t.1 }

not_in : (p h x y : ℕ) → in_b p h x y ≡ false → InPlane p h x y → ⊥
not_in p h x y e i = false≢true (sym e ∙ ap₂ ◌&&◌ (lt-ltb x (16 * p) i.column) (lt-ltb y h i.row))

pub dot_judged : (p h x y : ℕ) → Judges p h (in_b p h x y) (λ k. dot_on (x + k) (y + k))
dot_judged p h x y =
    record {
      inside = λ e k u v on. let s = pair_same u (x + k) v (y + k) on in rw (s.0, s.1) (moved_in k (in_plane p h x y e));
      outside = λ e. record {
        moved = 0;
        x = x + 0;
        y = y + 0;
        dot = same_pair (x + 0) (x + 0) (y + 0) (y + 0) refl refl;
        out = λ i. not_in p h x y e (in_moved 0 i);
      };
    }

-- a figure that has two dots and lies between them
two_corners : (p h x0 y0 x1 y1 : ℕ) (on : ℕ → Shape)
    → ((k : ℕ) → on k (x0 + k) (y0 + k) ≡ true) → ((k : ℕ) → on k (x1 + k) (y1 + k) ≡ true)
    → (InPlane p h x0 y0 → InPlane p h x1 y1 → (k x y : ℕ) → on k x y ≡ true → InMoved k p h x y)
    → Judges p h (in_b p h x0 y0 && in_b p h x1 y1) on
two_corners p h x0 y0 x1 y1 on first last between =
    record {
      inside = λ e.
          let t = and_both (in_b p h x0 y0) (in_b p h x1 y1) e in between (in_plane p h x0 y0 t.0) (in_plane p h x1 y1 t.1);
      outside = go (in_b p h x0 y0) (in_b p h x1 y1) refl refl;
    }
  where
    corner : (x y : ℕ) → on 0 (x + 0) (y + 0) ≡ true → in_b p h x y ≡ false → Outside p h on
    corner x y d e = record { moved = 0; x = x + 0; y = y + 0; dot = d; out = λ i. not_in p h x y e (in_moved 0 i) }

    go : (a b : Bool) → in_b p h x0 y0 ≡ a → in_b p h x1 y1 ≡ b → (a && b) ≡ false → Outside p h on
    go true b e f k = corner x1 y1 (last 0) (f ∙ k)
    go false b e f k = corner x0 y0 (first 0) e

-- ---- lines
toward_lt : (a b k w : ℕ) → k ≤ distance a b → a < w → b < w → toward a b k < w
unfolding toward
toward_lt a b k w l f g = go (leb a b) refl
  where
    go : (t : Bool) → leb a b ≡ t → cond t (a + k) (a - k) < w
    go true e = omega (arith, leb-true a b e)
    go false e = omega arith

toward_ge : (a b k w : ℕ) → k ≤ distance a b → w ≤ a → w ≤ b → w ≤ toward a b k
unfolding toward
toward_ge a b k w l f g = go (leb a b) refl
  where
    go : (t : Bool) → leb a b ≡ t → w ≤ cond t (a + k) (a - k)
    go true e = omega arith
    go false e = omega (arith, leb-false a b e)

toward_start : (a b k : ℕ) → k ≡ 0 → toward a b k ≡ a
unfolding toward
toward_start a b k z = go (leb a b)
  where
    go : (t : Bool) → cond t (a + k) (a - k) ≡ a
    go true = omega arith
    go false = omega arith

toward_end : (a b k : ℕ) → k ≡ distance a b → toward a b k ≡ b
unfolding toward
toward_end a b k z = go (leb a b) refl
  where
    go : (t : Bool) → leb a b ≡ t → cond t (a + k) (a - k) ≡ b
    go true e = omega (arith, leb-true a b e)
    go false e = omega (arith, leb-false a b e)

minor_end : (n m : ℕ) → m ≤ n → minor n m n ≡ m
unfolding minor
minor_end zero m h = omega arith
minor_end (suc n) m h = rw (mul_comm (2 * suc n) m) (digits_div m (omega arith))

-- how far the longer and the shorter way have gone: never past their distances, nothing at first and all at the end
module _ (dx dy : ℕ) where
  abbrev n : ℕ
  n = max dx dy

  abbrev m : ℕ
  m = min dx dy

  far_x : (t : Bool) → leb dy dx ≡ t → (i : ℕ) → i ≤ n → cond t i (minor n m i) ≤ dx
  far_x true e i k = omega (arith, leb-true dy dx e)
  far_x false e i k = omega (arith, minor_le n m i k)

  far_y : (t : Bool) → leb dy dx ≡ t → (i : ℕ) → i ≤ n → cond t (minor n m i) i ≤ dy
  far_y true e i k = omega (arith, minor_le n m i k)
  far_y false e i k = omega (arith, leb-false dy dx e)

  none_x : (t : Bool) → cond t 0 (minor n m 0) ≡ 0
  none_x true = refl
  none_x false = minor_start n m

  none_y : (t : Bool) → cond t (minor n m 0) 0 ≡ 0
  none_y true = minor_start n m
  none_y false = refl

  all_x : (t : Bool) → leb dy dx ≡ t → cond t n (minor n m n) ≡ dx
  all_x true e = omega (arith, leb-true dy dx e)
  all_x false e = omega (arith, leb-false dy dx e, minor_end n m (omega arith))

  all_y : (t : Bool) → leb dy dx ≡ t → cond t (minor n m n) n ≡ dy
  all_y true e = omega (arith, leb-true dy dx e, minor_end n m (omega arith))
  all_y false e = omega (arith, leb-false dy dx e)

module _ (x0 y0 x1 y1 : ℕ) where
  abbrev dx : ℕ
  dx = distance x0 x1

  abbrev dy : ℕ
  dy = distance y0 y1

  line_first : line_on x0 y0 x1 y1 x0 y0 ≡ true
  unfolding line_on
  line_first =
      some_at _ (max dx dy) 0 (omega arith)
      (same_pair _ _ _ _ (sym (toward_start x0 x1 _ (none_x dx dy (leb dy dx)))) (sym (toward_start y0 y1 _ (none_y dx dy (leb dy dx)))))

  line_last : line_on x0 y0 x1 y1 x1 y1 ≡ true
  unfolding line_on
  line_last =
      some_at _ (max dx dy) (max dx dy) (omega arith)
      (same_pair _ _ _ _ (sym (toward_end x0 x1 _ (all_x dx dy (leb dy dx) refl)))
      (sym (toward_end y0 y1 _ (all_y dx dy (leb dy dx) refl))))

  -- no dot lies before both ends, nor past both
  line_between : (low right bottom : ℕ) → low ≤ x0 → low ≤ x1 → low ≤ y0 → low ≤ y1 → x0 < right → x1 < right → y0 < bottom → y1 < bottom
      → (x y : ℕ) → line_on x0 y0 x1 y1 x y ≡ true → (low ≤ x) × (low ≤ y) × (x < right) × (y < bottom)
  unfolding line_on
  line_between low right bottom a b c d e f g k x y on =
      let r = some_found (λ i. eqb x (line_x x0 x1 dx dy i) && eqb y (line_y y0 y1 dx dy i)) (max dx dy) on in
      let s = pair_same x (line_x x0 x1 dx dy r.0) y (line_y y0 y1 dx dy r.0) r.2 in
      let u = far_x dx dy (leb dy dx) refl r.0 r.1 in
      let v = far_y dx dy (leb dy dx) refl r.0 r.1 in (
        subst (λ (z : ℕ). low ≤ z) (sym s.0) (toward_ge x0 x1 _ low u a b),
        subst (λ (z : ℕ). low ≤ z) (sym s.1) (toward_ge y0 y1 _ low v c d),
        subst (λ (z : ℕ). z < right) (sym s.0) (toward_lt x0 x1 _ right u e f),
        subst (λ (z : ℕ). z < bottom) (sym s.1) (toward_lt y0 y1 _ bottom v g k),
      )

pub line_judged : (p h x0 y0 x1 y1 : ℕ)
    → Judges p h (in_b p h x0 y0 && in_b p h x1 y1) (λ k. line_on (x0 + k) (y0 + k) (x1 + k) (y1 + k))
line_judged p h x0 y0 x1 y1 =
    two_corners p h x0 y0 x1 y1 (λ k. line_on (x0 + k) (y0 + k) (x1 + k) (y1 + k))
    (λ k. line_first (x0 + k) (y0 + k) (x1 + k) (y1 + k)) (λ k. line_last (x0 + k) (y0 + k) (x1 + k) (y1 + k))
    (λ a b k x y on.
    let t = line_between (x0 + k) (y0 + k) (x1 + k) (y1 + k) k (16 * p + k) (h + k) (omega arith) (omega arith) (omega arith) (omega arith)
    (omega (arith, a.column)) (omega (arith, b.column)) (omega (arith, a.row)) (omega (arith, b.row)) x y on in
    record { west = t.0; north = t.1; inside = record { column = omega (arith, t.0, t.2); row = omega (arith, t.1, t.3) } })

-- ---- borders
module _ (x0 y0 x1 y1 : ℕ) where
  abbrev Side : ℕ → ℕ → Type 0
  Side x y = Rim (min x0 x1) (max x0 x1) (min y0 y1) (max y0 y1) x y

  first_side : (t : Bool) → leb x0 x1 ≡ t → Side x0 y0
  first_side true e = on_left (omega (arith, leb-true x0 x1 e))
  first_side false e = on_right (omega (arith, leb-false x0 x1 e))

  last_side : (t : Bool) → leb x0 x1 ≡ t → Side x1 y1
  last_side true e = on_right (omega (arith, leb-true x0 x1 e))
  last_side false e = on_left (omega (arith, leb-false x0 x1 e))

  border_first : border_on x0 y0 x1 y1 x0 y0 ≡ true
  border_first =
      edge_border x0 y0 x1 y1 _ _ _ _ refl refl refl refl x0 y0
      (record { west = omega arith; east = omega arith; north = omega arith; south = omega arith; rim = first_side (leb x0 x1) refl })

  border_last : border_on x0 y0 x1 y1 x1 y1 ≡ true
  border_last =
      edge_border x0 y0 x1 y1 _ _ _ _ refl refl refl refl x1 y1
      (record { west = omega arith; east = omega arith; north = omega arith; south = omega arith; rim = last_side (leb x0 x1) refl })

pub border_judged : (p h x0 y0 x1 y1 : ℕ)
    → Judges p h (in_b p h x0 y0 && in_b p h x1 y1) (λ k. border_on (x0 + k) (y0 + k) (x1 + k) (y1 + k))
border_judged p h x0 y0 x1 y1 =
    two_corners p h x0 y0 x1 y1 (λ k. border_on (x0 + k) (y0 + k) (x1 + k) (y1 + k))
    (λ k. border_first (x0 + k) (y0 + k) (x1 + k) (y1 + k)) (λ k. border_last (x0 + k) (y0 + k) (x1 + k) (y1 + k))
    (λ a b k x y on.
    let e = border_edge (x0 + k) (y0 + k) (x1 + k) (y1 + k) _ _ _ _ refl refl refl refl x y on in
    record {
      west = omega (arith, e.west);
      north = omega (arith, e.north);
      inside = record {
        column = omega (arith, e.west, e.east, a.column, b.column);
        row = omega (arith, e.north, e.south, a.row, b.row);
      };
    })

-- ---- squares
module _ (x0 y0 g : ℕ) (some : 0 < g) where
  square_last : square_on x0 y0 g (x0 + (8 * g - 1)) (y0 + (8 * g - 1)) ≡ true
  unfolding square_on
  square_last =
      rw (
        le-leb x0 (x0 + (8 * g - 1)) (omega arith),
        lt-ltb (x0 + (8 * g - 1)) (x0 + 8 * g) (omega arith),
        le-leb y0 (y0 + (8 * g - 1)) (omega arith),
        lt-ltb (y0 + (8 * g - 1)) (y0 + 8 * g) (omega arith),
      )

  square_within : (x y : ℕ) → square_on x0 y0 g x y ≡ true → (x0 ≤ x) × (y0 ≤ y) × (x < x0 + 8 * g) × (y < y0 + 8 * g)
  unfolding square_on
  square_within x y e =
      let s = and_both (leb x0 x && ltb x (x0 + 8 * g) && leb y0 y) (ltb y (y0 + 8 * g)) e in
      let m = and_both (leb x0 x && ltb x (x0 + 8 * g)) (leb y0 y) s.0 in
      let n = and_both (leb x0 x) (ltb x (x0 + 8 * g)) m.0 in
      (leb-true _ _ n.0, leb-true _ _ m.1, ltb-true _ _ n.1, ltb-true _ _ s.1)

pub square_judged : (x0 y0 g : ℕ) → 0 < g → (p h : ℕ)
    → Judges p h (leb (x0 + 8 * g) (16 * p) && leb (y0 + 8 * g) h) (λ k. square_on (x0 + k) (y0 + k) g)
square_judged x0 y0 g some p h =
    record {
      inside = λ e k x y on.
          let t = and_both (leb (x0 + 8 * g) (16 * p)) (leb (y0 + 8 * g) h) e in
          let w = square_within (x0 + k) (y0 + k) g some x y on in
          record {
            west = omega (arith, w.0);
            north = omega (arith, w.1);
            inside = record {
              column = omega (arith, w.0, w.2, leb-true (x0 + 8 * g) (16 * p) t.0);
              row = omega (arith, w.1, w.3, leb-true (y0 + 8 * g) h t.1);
            };
          };
      outside = λ e.
          record {
            moved = 0;
            x = x0 + 0 + (8 * g - 1);
            y = y0 + 0 + (8 * g - 1);
            dot = square_last (x0 + 0) (y0 + 0) g some;
            out = λ i. let c = i.inside.column in
                let r = i.inside.row in
                false≢true (sym e ∙ ap₂ ◌&&◌ (le-leb (x0 + 8 * g) (16 * p) (omega arith)) (le-leb (y0 + 8 * g) h (omega arith)));
          };
    }
