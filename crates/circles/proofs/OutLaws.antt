-- How far out dot i of an octant lies. The numbers y(y - 1) + i² grow with y, and y(y + 1) is the next of them; so for i below r
-- exactly one y has r² between the two, and the search from r down finds it. In squares: y² + i² < r² + y and
-- r² ≤ y² + y + i². Where 2i² is at most r², y is at least i; and it is i only at the largest such i.
use mathlib.Core.Path.{◌≡◌, refl, sym, ap₂}
use mathlib.Core.Bool.{Bool, true, false, cond, ◌&&◌}
use Prim.Native.Nat.{ℕ, zero, suc, ◌+◌, ◌-◌, ◌*◌, ◌≤◌, ◌<◌}
use native.Mathlib.Nat.{suc-mul, mul-suc, mul-add, mul-one, mul-le-mul}
use native.Mathlib.Omega.{arith}
use native.Mathlib.Decide.{dec_lt}
use lib.Dec.{ltb, leb}
use borrow.Author.Tests.{leb-true, leb-false, ltb-true, ltb-false, le-leb, lt-ltb, eq-eqb}
use Rattle.geometry.specs.Plane.{lies_out}
use Rattle.geometry.proofs.TestLaws.{and_both, cases}
use Rattle.circles.specs.Circle.{out_below, circle_out, last_below, largest, coincide}

-- ---- squares
pub square_on_law : (a : ℕ) → suc a * suc a ≡ a * a + 2 * a + 1
square_on_law a = omega (arith, suc-mul a (suc a), mul-suc a a)

pub square_le : {a b : ℕ} → a ≤ b → a * a ≤ b * b
square_le h = mul-le-mul h h

pub inner_square : (y : ℕ) → y * (y - 1) + y ≡ y * y
inner_square zero = refl
inner_square (suc y) = let z : suc y - 1 ≡ y = omega arith in rw z (omega (arith, mul-suc (suc y) y))

outer_square : (y : ℕ) → y * (y + 1) ≡ y * y + y
outer_square y = omega (arith, mul-add y y 1, mul-one y)

-- dot i lies y out
pub record Out (r i y : ℕ) : Type 0 where
  pub inner : y * y + i * i < r * r + y
  pub outer : r * r ≤ y * y + y + i * i

-- ---- the request's words
pub lies_out_law : (r i y : ℕ) → 2 * (i * i) ≤ r * r → Out r i y → lies_out r i y ≡ true
unfolding lies_out
lies_out_law r i y h o =
    rw (le-leb (2 * (i * i)) (r * r) h, lt-ltb (y * (y - 1) + i * i) (r * r) (omega (arith, inner_square y, o.inner)))
    (le-leb (r * r) (y * (y + 1) + i * i) (omega (arith, outer_square y, o.outer)))

pub out_lies : (r i y : ℕ) → lies_out r i y ≡ true → (2 * (i * i) ≤ r * r) × Out r i y
unfolding lies_out
out_lies r i y e =
    let f = and_both (leb (2 * (i * i)) (r * r) && ltb (y * (y - 1) + i * i) (r * r)) (leb (r * r) (y * (y + 1) + i * i)) e in
    let g = and_both (leb (2 * (i * i)) (r * r)) (ltb (y * (y - 1) + i * i) (r * r)) f.0 in (
      leb-true _ _ g.0,
      record {
        inner = omega (arith, inner_square y, ltb-true (y * (y - 1) + i * i) (r * r) g.1);
        outer = omega (arith, outer_square y, leb-true (r * r) (y * (y + 1) + i * i) f.1);
      },
    )

-- ---- one y and no other
module _ {r i y : ℕ} (o : Out r i y) where
  pub out_pos : 0 < y
  out_pos = go y o
    where
      go : (y : ℕ) → Out r i y → 0 < y
      go zero o = absurd (omega (arith, o.inner, o.outer))
      go (suc y) o = omega arith

  pub out_le : y ≤ r
  out_le = go y o
    where
      go : (y : ℕ) → Out r i y → y ≤ r
      go zero o = omega arith
      go (suc w) o = at (dec_lt w r)
        where
          at : Dec (w < r) → suc w ≤ r
          at (yes k) = k
          at (no k) = let f : r * r ≤ w * w = square_le (omega arith) in absurd (omega (arith, square_on_law w, o.inner))

  pub out_beside : 2 * (i * i) ≤ r * r → i ≤ y
  out_beside h = at (dec_lt y i)
    where
      at : Dec (y < i) → i ≤ y
      at (yes k) = let f : suc y * suc y ≤ i * i = square_le k in absurd (omega (arith, square_on_law y, o.outer))
      at (no k) = omega arith

  pub out_last : i ≡ y → r * r < 2 * (suc i * suc i)
  out_last e = let f : i * i ≡ y * y = ap₂ ◌*◌ e e in omega (arith, square_on_law i, o.outer)

not_below : {r i y z : ℕ} → Out r i y → Out r i z → y < z → ⊥
not_below {r} {i} {y} {z} o q h = go z q h
  where
    go : (z : ℕ) → Out r i z → y < z → ⊥
    go zero q h = omega arith
    go (suc w) q h = let f : y * y ≤ w * w = square_le (omega arith) in omega (arith, square_on_law w, o.outer, q.inner)

pub out_once : {r i y z : ℕ} → Out r i y → Out r i z → y ≡ z
out_once {r} {i} {y} {z} o q = at (dec_lt y z) (dec_lt z y)
  where
    at : Dec (y < z) → Dec (z < y) → y ≡ z
    at (yes k) l = absurd (not_below o q k)
    at (no k) (yes l) = absurd (not_below q o l)
    at (no k) (no l) = omega arith

-- the search from above
found : (r i : ℕ) → i * i < r * r → (y : ℕ) → r * r ≤ y * y + y + i * i → Out r i (out_below r i y)
unfolding out_below
found r i h zero f = absurd (omega arith)
found r i h (suc y) f = at (found r i h y) _ refl
  where
    at : (r * r ≤ y * y + y + i * i → Out r i (out_below r i y)) → (t : Bool) → ltb (suc y * y + i * i) (r * r) ≡ t
        → Out r i (cond t (suc y) (out_below r i y))
    at lower true e = record { inner = omega (arith, mul-suc (suc y) y, ltb-true (suc y * y + i * i) (r * r) e); outer = f }
    at lower false e = lower (omega (arith, suc-mul y y, ltb-false (suc y * y + i * i) (r * r) e))

pub circle_out_law : (r i : ℕ) → i * i < r * r → Out r i (circle_out r i)
unfolding circle_out
circle_out_law r i h = found r i h r (omega arith)

pub out_is : {r i y : ℕ} → Out r i y → circle_out r i ≡ y
out_is {r} {i} {y} o = out_once (circle_out_law r i (omega (arith, o.inner, inner_square y))) o

-- dot 0 is the end of an axis
pub out_start : (r : ℕ) → 0 < r → circle_out r 0 ≡ r
out_start r pos = out_is (record { inner = omega arith; outer = omega arith })

-- ---- the largest i
last_small : (r i : ℕ) → 2 * (last_below r i * last_below r i) ≤ r * r
unfolding last_below
last_small r zero = omega arith
last_small r (suc i) =
    cases (λ (j : ℕ). 2 * (j * j) ≤ r * r) (leb (2 * (suc i * suc i)) (r * r)) (λ e. leb-true _ _ e) (λ e. last_small r i)

last_most : (r j i : ℕ) → j ≤ i → 2 * (j * j) ≤ r * r → j ≤ last_below r i
unfolding last_below
last_most r j zero h k = h
last_most r j (suc i) h k =
    cases (λ (n : ℕ). j ≤ n) (leb (2 * (suc i * suc i)) (r * r)) (λ e. h) (λ e. last_most r j i (below (leb-false _ _ e) (dec_lt i j)) k)
  where
    below : r * r < 2 * (suc i * suc i) → Dec (i < j) → j ≤ i
    below e (yes l) = let f : suc i * suc i ≤ j * j = square_le l in absurd (omega arith)
    below e (no l) = omega arith

pub within_r : (r i : ℕ) → 2 * (i * i) ≤ r * r → i ≤ r
within_r r i h = at (dec_lt r i)
  where
    at : Dec (r < i) → i ≤ r
    at (yes k) = let f : suc r * suc r ≤ i * i = square_le k in absurd (omega (arith, square_on_law r))
    at (no k) = omega arith

pub within : (r i : ℕ) → i ≤ largest r → 2 * (i * i) ≤ r * r
unfolding largest
within r i h = let f : i * i ≤ largest r * largest r = square_le h in omega (arith, last_small r r)

pub to_largest : (r i : ℕ) → 2 * (i * i) ≤ r * r → i ≤ largest r
unfolding largest
to_largest r i h = last_most r i r (within_r r i h) h

-- the dots of a circle of radius 1 or more
module _ (r : ℕ) (pos : 0 < r) (i : ℕ) (h : i ≤ largest r) where
  below_r : i * i < r * r
  below_r = let f : 1 * 1 ≤ r * r = square_le pos in omega (arith, within r i h)

  pub out_of : Out r i (circle_out r i)
  out_of = circle_out_law r i below_r

  pub out_bound : circle_out r i ≤ r
  out_bound = out_le out_of

  pub out_positive : 0 < circle_out r i
  out_positive = out_pos out_of

  pub beside : i ≤ circle_out r i
  beside = out_beside out_of (within r i h)

  -- on the diagonal only the largest
  pub diagonal_last : i ≡ circle_out r i → i ≡ largest r
  diagonal_last e = at (dec_lt i (largest r))
    where
      at : Dec (i < largest r) → i ≡ largest r
      at (yes k) = absurd (omega (arith, out_last out_of e, within r (suc i) k))
      at (no k) = omega arith

pub diagonal_coincide : (r i : ℕ) → 0 < r → i ≤ largest r → i ≡ circle_out r i → coincide r ≡ true
unfolding coincide
diagonal_coincide r i pos h e =
    let z : i ≡ largest r = diagonal_last r pos i h e in
    rw (← z) (eq-eqb (circle_out r i) i (sym e))
