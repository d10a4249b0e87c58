-- When a circle lies in the plane, dot by dot: exactly if its four ends do. True because no dot of it lies past an end, and the ends are
-- dots of it. Moved right and down by its radius, the circle has a number for each of its dots, those left of 0 and above 0 too.
use mathlib.Core.Path.{◌≡◌, refl}
use mathlib.Core.Bool.{Bool, true, false, ◌&&◌, true≢false}
use Prim.Native.Nat.{ℕ, ◌+◌, ◌*◌, ◌≤◌, ◌<◌}
use native.Mathlib.Omega.{arith}
use lib.Dec.{ltb, leb}
use borrow.Author.Tests.{leb-true, leb-false, ltb-true, ltb-false}
use Rattle.geometry.specs.Plane.{InMoved, circle_on}
use Rattle.geometry.proofs.TestLaws.{and_both}
use Rattle.geometry.proofs.OutsideLaws.{Outside, Judges}
use Rattle.circles.specs.Circle.{end_x, end_y}
use Rattle.circles.proofs.SizeLaws.{Reach, circle_reach, circle_end}

module _ (cx cy r : ℕ) (pos : 0 < r) (p h : ℕ) where
  all_in : r ≤ cx → r ≤ cy → cx + r < 16 * p → cy + r < h → (k x y : ℕ) → circle_on (cx + k) (cy + k) r x y ≡ true → InMoved k p h x y
  all_in left top right bottom k x y on =
      let n : Reach (cx + k) (cy + k) r x y = circle_reach (cx + k) (cy + k) r x y on in
      record {
        west = omega (arith, n.west);
        north = omega (arith, n.north);
        inside = record { column = omega (arith, n.west, n.east); row = omega (arith, n.north, n.south) };
      }

  -- the end of a DIR lies outside
  past : (dir : ℕ) → dir < 8 → (InMoved r p h (end_x (cx + r) r dir) (end_y (cy + r) r dir) → ⊥)
      → Outside p h (λ k. circle_on (cx + k) (cy + k) r)
  past dir b f = record {
    moved = r;
    x = end_x (cx + r) r dir;
    y = end_y (cy + r) r dir;
    dot = circle_end (cx + r) (cy + r) r pos (omega arith) (omega arith) dir b;
    out = f;
  }

  pub circle_judged : Judges p h (leb r cx && leb r cy && ltb (cx + r) (16 * p) && ltb (cy + r) h) (λ k. circle_on (cx + k) (cy + k) r)
  circle_judged = record {
    inside = λ e.
        let a = and_both (leb r cx && leb r cy && ltb (cx + r) (16 * p)) (ltb (cy + r) h) e in
        let b = and_both (leb r cx && leb r cy) (ltb (cx + r) (16 * p)) a.0 in
        let c = and_both (leb r cx) (leb r cy) b.0 in
        all_in (leb-true _ _ c.0) (leb-true _ _ c.1) (ltb-true _ _ b.1) (ltb-true _ _ a.1);
    outside = go (leb r cx) (leb r cy) (ltb (cx + r) (16 * p)) (ltb (cy + r) h) refl refl refl refl;
  }
    where
      go : (a b c d : Bool) → leb r cx ≡ a → leb r cy ≡ b → ltb (cx + r) (16 * p) ≡ c → ltb (cy + r) h ≡ d → (a && b && c && d) ≡ false
          → Outside p h (λ k. circle_on (cx + k) (cy + k) r)
      go false b c d e f g i n = past 0 (omega arith) (λ m. omega (arith, leb-false r cx e, m.west))
      go true false c d e f g i n = past 1 (omega arith) (λ m. omega (arith, leb-false r cy f, m.north))
      go true true false d e f g i n = past 4 (omega arith) (λ m. omega (arith, ltb-false (cx + r) (16 * p) g, m.inside.column))
      go true true true false e f g i n = past 2 (omega arith) (λ m. omega (arith, ltb-false (cy + r) h i, m.inside.row))
      go true true true true e f g i n = absurd (true≢false n)
