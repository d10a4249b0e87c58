-- The circle's size: how its largest i is known, how far it reaches, and how many dots its arcs draw. The largest i is the one
-- that 2i² ≤ r² holds for and not for i + 1. Where its dot lies i out, only r² ≤ i(i + 1) + i² has to be asked: the other half
-- follows from 2i² ≤ r². No i and no y is more than r.
use mathlib.Core.Path.{◌≡◌, refl, sym, ap, ap₂, ◌∙◌}
use mathlib.Core.Bool.{Bool, true, false, cond}
use Prim.Native.Nat.{ℕ, zero, suc, ◌+◌, ◌-◌, ◌*◌, ◌%◌, ◌≤◌, ◌<◌}
use native.Mathlib.Nat.{mul_assoc, mul-le-mul}
use native.Mathlib.Omega.{arith}
use native.Mathlib.Decide.{dec_lt}
use lib.Dec.{leb}
use borrow.Author.Tests.{leb-true, le-leb, eqb-true, eq-eqb}
use Rattle.geometry.specs.Plane.{InPlane, distance, lies_out, circle_on}
use Rattle.geometry.proofs.TestLaws.{cases, same_test, or_cases}
use Rattle.circles.specs.Circle.{out_below, circle_out, last_below, largest, coincide, arc_dm, arc_dc, arc_dots, circle_dots, end_x, end_y}
use Rattle.circles.proofs.OutLaws.{square_le, out_lies, out_le, out_is, out_of, out_positive, within, within_r, to_largest}
use Rattle.circles.proofs.CircleLaws.{arc_circle, arc_starts}

-- ---- the largest i
pub largest_is : (r i : ℕ) → 2 * (i * i) ≤ r * r → r * r < 2 * (suc i * suc i) → i ≡ largest r
largest_is r i h k = at (dec_lt i (largest r))
  where
    at : Dec (i < largest r) → i ≡ largest r
    at (yes l) = absurd (omega (arith, within r (suc i) l))
    at (no l) = omega (arith, to_largest r i h)

pub largest_le : (r : ℕ) → largest r ≤ r
largest_le r = within_r r (largest r) (within r (largest r) (omega arith))

module _ (r : ℕ) (pos : 0 < r) where
  abbrev i : ℕ
  i = largest r

  inside : Dec (0 < i) → i * i + i * i < r * r + i
  inside (yes k) = omega (arith, within r i (omega arith))
  inside (no k) =
      let z : i ≡ 0 = omega arith in
      let f : i * i ≡ 0 * 0 = ap (λ (y : ℕ). y * y) z in
      let g : 1 * 1 ≤ r * r = square_le pos in
      omega arith

  -- the last dots' test, as a number's
  pub coincide_is : coincide r ≡ leb (r * r) (2 * (largest r * largest r) + largest r)
  unfolding coincide
  coincide_is = same_test _ _
      (λ e.
      let f : circle_out r i * circle_out r i ≡ i * i = ap (λ (y : ℕ). y * y) (eqb-true (circle_out r i) i e) in
      le-leb (r * r) (2 * (i * i) + i) (omega (arith, eqb-true (circle_out r i) i e, (out_of r pos i (omega arith)).outer)))
      (λ e. eq-eqb (circle_out r i) i
      (out_is (record { inner = inside (dec_lt 0 i); outer = omega (arith, leb-true (r * r) (2 * (i * i) + i) e) })))

  -- where they coincide there is a dot past the axis
  coincide_pos : coincide r ≡ true → 0 < i
  unfolding coincide
  coincide_pos e = omega (arith, eqb-true (circle_out r i) i e, out_positive r pos i (omega arith))

-- .. and it is the same at radius 0, where the only dot is the centre
pub coincide_by : (r n : ℕ) → n ≡ largest r → leb (r * r) (2 * (n * n) + n) ≡ coincide r
unfolding coincide circle_out out_below largest last_below
coincide_by zero n e = rw e
coincide_by (suc r) n e = rw e (sym (coincide_is (suc r) (omega arith)))

-- ---- how far it reaches
module _ (cx cy r : ℕ) where
  pub record Reach (x y : ℕ) : Type 0 where
    pub west : cx ≤ x + r
    pub east : x ≤ cx + r
    pub north : cy ≤ y + r
    pub south : y ≤ cy + r

  pub circle_reach : (x y : ℕ) → circle_on cx cy r x y ≡ true → Reach x y
  unfolding circle_on
  circle_reach x y e =
      or_cases (lies_out r (distance x cx) (distance y cy)) (lies_out r (distance y cy) (distance x cx)) e
      (λ q. let o = out_lies r (distance x cx) (distance y cy) q in near (within_r r (distance x cx) o.0) (out_le o.1))
      (λ q. let o = out_lies r (distance y cy) (distance x cx) q in near (out_le o.1) (within_r r (distance y cy) o.0))
    where
      near : distance x cx ≤ r → distance y cy ≤ r → Reach x y
      near a b = record { west = omega arith; east = omega arith; north = omega arith; south = omega arith }

-- a circle whose four ends are in a plane is in it
pub circle_plane : (cx cy r p h : ℕ) → cx + r < 16 * p → cy + r < h → (x y : ℕ) → circle_on cx cy r x y ≡ true → InPlane p h x y
circle_plane cx cy r p h right bottom x y e =
    let n : Reach cx cy r x y = circle_reach cx cy r x y e in
    record { column = omega (arith, n.east); row = omega (arith, n.south) }

-- .. and its radius is then at most 1,023, since a plane has at most 2,048 · 2,048 dots
pub radius_small : (cx cy r p h : ℕ) → p * h ≤ 262144 → r ≤ cx → cx + r < 16 * p → r ≤ cy → cy + r < h → r ≤ 1023
radius_small cx cy r p h area left right top bottom = at (dec_lt 1023 r)
  where
    at : Dec (1023 < r) → r ≤ 1023
    at (yes k) =
        let wide : 2049 ≤ 16 * p = omega arith in
        let tall : 2049 ≤ h = omega arith in
        let f : 2049 * 2049 ≤ 16 * p * h = mul-le-mul wide tall in
        absurd (omega (arith, mul_assoc 16 p h))
    at (no k) = omega arith

-- the ends of its axes are dots of it
pub circle_end : (cx cy r : ℕ) → 0 < r → r ≤ cx → r ≤ cy → (dir : ℕ) → dir < 8 → circle_on cx cy r (end_x cx r dir) (end_y cy r dir) ≡ true
circle_end cx cy r pos left top dir b =
    let e = arc_starts cx cy r pos dir b in
    ap₂ (circle_on cx cy r) (sym e.0) (sym e.1) ∙ arc_circle cx cy r pos 0 (omega arith) left top dir

-- ---- how many dots
-- 4 even arcs of n + 1 dots, and 4 odd ones of n or n - 1
pub circle_dots_count : (r : ℕ) → circle_dots r ≡ 4 * (largest r + 1) + 4 * (largest r - cond (coincide r) 1 0)
unfolding circle_dots arc_dc arc_dm
circle_dots_count r = omega (arith, go (coincide r))
  where
    go : (t : Bool) → 4 * (largest r - cond t 0 0 + 1) + 4 * (largest r - cond t 1 0 + 1 - 1)
        ≡ 4 * (largest r + 1) + 4 * (largest r - cond t 1 0)
    go true = omega arith
    go false = omega arith

-- so eight times "the largest i", and the four ends where the last dots do not coincide
pub circle_dots_law : (r : ℕ) → 0 < r
    → arc_dots r 0 + arc_dots r 1 + arc_dots r 2 + arc_dots r 3 + arc_dots r 4 + arc_dots r 5 + arc_dots r 6 + arc_dots r 7
    ≡ 8 * largest r + cond (coincide r) 0 4
unfolding arc_dc arc_dm
circle_dots_law r pos = omega (arith, go (coincide r) (coincide_pos r pos))
  where
    -- 4 even arcs of n + 1 dots, and 4 odd ones of n or n - 1
    go : (t : Bool) → (t ≡ true → 0 < largest r)
        → 4 * suc (largest r - cond t 0 0) + 4 * (suc (largest r - cond t 1 0) - 1) ≡ 8 * largest r + cond t 0 4
    go true f = omega (arith, f refl)
    go false f = omega arith

-- "so never at radius 1, where odd arcs have DC 0 and draw nothing"
pub one_coincides_not : coincide 1 ≡ false
unfolding coincide circle_out out_below largest last_below
one_coincides_not = refl

pub one_draws_none : (dir : ℕ) → dir % 2 ≡ 1 → (arc_dc 1 dir ≡ 0) × (arc_dots 1 dir ≡ 0)
unfolding arc_dc arc_dm coincide circle_out out_below largest last_below
one_draws_none dir odd = (refl, omega arith)

-- no more than in eight arcs of "the largest i", and the four ends
pub dots_few : (r : ℕ) → circle_dots r ≤ 8 * largest r + 4
dots_few r = omega (arith, circle_dots_count r)

-- "at most 5,788 dots" in a circle that fits a plane: counted by its arcs, and from "the largest i"
largest_most : (r : ℕ) → r ≤ 1023 → largest r ≤ 723
largest_most r b = below (dec_lt 723 (largest r))
  where
    below : Dec (723 < largest r) → largest r ≤ 723
    below (yes k) =
        let f : 724 * 724 ≤ largest r * largest r = square_le k in
        let g : r * r ≤ 1023 * 1023 = square_le b in
        absurd (omega (arith, within r (largest r) (omega arith)))
    below (no k) = omega arith

pub circle_dots_most : (r : ℕ) → r ≤ 1023 → circle_dots r ≤ 5788
circle_dots_most r b = omega (arith, dots_few r, largest_most r b)

pub dots_most : (r : ℕ) → r ≤ 1023 → 8 * largest r + cond (coincide r) 0 4 ≤ 5788
dots_most r b =
    cases (λ (v : ℕ). 8 * largest r + v ≤ 5788) (coincide r) (λ e. omega (arith, largest_most r b)) (λ e. omega (arith, largest_most r b))
