-- The controller's arc is the midpoint circle. After i moves, with y the place out, D is r² - 1 - i² - y(y - 1): it is at least 0
-- since y(y - 1) + i² < r², and below 2y since r² ≤ y(y + 1) + i². D1 is -1 - 2i and D2 is 2(y - 1). D gains D1: that is D of
-- the same y at i + 1, and it is negative exactly where y(y - 1) + (i + 1)² has reached r². Then y falls by one and D gains what
-- y(y - 1) loses. All of it is within 14 bits for r to 2,000.
use mathlib.Core.Path.{◌≡◌, refl, sym, ap, ◌∙◌}
use mathlib.Core.Bool.{Bool, true, false, cond}
use Prim.Native.Nat.{ℕ, zero, suc, ◌+◌, ◌*◌, ◌%◌, ◌≤◌, ◌<◌}
use native.Mathlib.Omega.{arith}
use native.Mathlib.Decide.{dec_lt}
use borrow.Author.Tests.{leb-true, leb-false}
use Rattle.registers.specs.declared.Running.{Running}
use Rattle.arcs.specs.Arc.{gained, turns_b, running_by, running_on}
use Rattle.circles.specs.Circle.{circle_out, largest}
use Rattle.circles.proofs.OutLaws.{Out, square_on_law, square_le, inner_square, lies_out_law, out_le, out_is, within, within_r, to_largest}
use Rattle.circles.proofs.OutLaws.{out_positive}
use Rattle.circling.specs.Midpoint.{circle_running, running_after, MidpointCircle}

-- the registers at dot i, y out, in squares
record Kept (r i y : ℕ) (a : Running) : Type 0 where
  error : a.d + 1 + i * i + y * y ≡ r * r + y
  small : a.d < 2 * y
  first : a.d1 + 2 * i ≡ 16383
  second : a.d2 + 2 ≡ 2 * y

-- y is then the place out
kept_out : {r i y : ℕ} {a : Running} → Kept r i y a → Out r i y
kept_out v = record { inner = omega (arith, v.error); outer = omega (arith, v.error, v.small) }

-- one place further in, where the move is diagonal
abbrev inward : Bool → ℕ → ℕ
inward true zero = zero
inward true (suc y) = y
inward false y = y

-- where 2(i + 1)² is at most r² a diagonal move leaves D at 0 or more
enough : (r i y d : ℕ) → d + 1 + i * i + y * y ≡ r * r + y → d < 2 * y → 2 * (suc i * suc i) ≤ r * r → 2 * i + 3 ≤ d + 2 * y
enough r i y d e s h = at (dec_lt (suc i) y) (dec_lt i y)
  where
    at : Dec (suc i < y) → Dec (i < y) → 2 * i + 3 ≤ d + 2 * y
    at (yes k) l = omega arith
    at (no k) (yes l) =
        let z : y ≡ suc i = omega arith in
        let f : y * y ≡ suc i * suc i = ap (λ (x : ℕ). x * x) z in
        omega (arith, square_on_law i)
    at (no k) (no l) = let f : y * y ≤ i * i = square_le (omega arith) in absurd (omega (arith, square_on_law i))

-- the place out after i moves, by the moves made
unfoldable place_out : ℕ → ℕ → ℕ
place_out r zero = r
place_out r (suc i) = inward (turns_b (running_after (circle_running r) i)) (place_out r i)

module _ (r : ℕ) (b : r ≤ 2000) where
  module _ (i : ℕ) (h : 2 * (suc i * suc i) ≤ r * r) where
    near : suc i ≤ r
    near = within_r r (suc i) h

    move : (y : ℕ) (a : Running) → y ≤ r → Kept r i y a → (t : Bool) → turns_b a ≡ t → Kept r (suc i) (inward t y) (running_by t a)
    move zero a l v t q = absurd (omega (arith, v.small))
    move (suc y) a l v true q =
        let neg : 8192 ≤ (a.d + a.d1) % 16384 = leb-true 8192 (gained a) q in
        let far : a.d < 2 * i + 1 = omega (arith, near, v.small, v.first) in
        let room : 2 * i + 3 ≤ a.d + 2 * suc y = enough r i (suc y) a.d v.error v.small h in
        let d : (gained a + a.d2) % 16384 + 2 * i + 1 ≡ a.d + 2 * y = omega (arith, near, v.small, v.first, v.second) in
        record {
          error = omega (arith, square_on_law i, square_on_law y, v.error, d);
          small = omega (arith, d);
          first = omega (arith, near, v.first);
          second = omega (arith, d, v.second);
        }
    move (suc y) a l v false q =
        let pos : (a.d + a.d1) % 16384 < 8192 = leb-false 8192 (gained a) q in
        let d : gained a + 2 * i + 1 ≡ a.d = omega (arith, near, v.small, v.first) in
        record {
          error = omega (arith, square_on_law i, v.error, d);
          small = omega (arith, d, v.small);
          first = omega (arith, near, v.first);
          second = v.second;
        }

  module _ (pos : 0 < r) where
    always : (i : ℕ) → 2 * (i * i) ≤ r * r → Kept r i (place_out r i) (running_after (circle_running r) i)
    unfolding running_after running_on place_out
    always zero h = record { error = omega arith; small = omega arith; first = refl; second = omega arith }
    always (suc i) h =
        let v : Kept r i (place_out r i) (running_after (circle_running r) i) = always i (omega (arith, square_on_law i)) in
        move i h (place_out r i) (running_after (circle_running r) i) (out_le (kept_out v)) v _ refl

    is_out : (i : ℕ) → 2 * (i * i) ≤ r * r → place_out r i ≡ circle_out r i
    is_out i h = sym (out_is (kept_out (always i h)))

    -- the registers after i moves
    kept : (i : ℕ) → 2 * (i * i) ≤ r * r → Kept r i (circle_out r i) (running_after (circle_running r) i)
    kept i h = rw (is_out i h) at (always i h)

    -- the sign decides whether y falls
    place_next : (i : ℕ) (t : Bool) → turns_b (running_after (circle_running r) i) ≡ t → place_out r (suc i) ≡ inward t (place_out r i)
    unfolding place_out
    place_next i t e = rw e

    next_out : (i : ℕ) → suc i ≤ largest r → (t : Bool) → turns_b (running_after (circle_running r) i) ≡ t
        → circle_out r (suc i) ≡ inward t (circle_out r i)
    next_out i h t e =
        sym (is_out (suc i) (within r (suc i) h)) ∙ place_next i t e
        ∙ ap (inward t) (is_out i (within r i (omega arith)))

    pub axis_stays : (i : ℕ) → suc i ≤ largest r → turns_b (running_after (circle_running r) i) ≡ false
        → circle_out r (suc i) ≡ circle_out r i
    axis_stays i h e = next_out i h false e

    pub diagonal_falls : (i : ℕ) → suc i ≤ largest r → turns_b (running_after (circle_running r) i) ≡ true
        → suc (circle_out r (suc i)) ≡ circle_out r i
    diagonal_falls i h e = at (circle_out r i) (out_positive r pos i (omega arith)) (next_out i h true e)
      where
        at : (y : ℕ) → 0 < y → circle_out r (suc i) ≡ inward true y → suc (circle_out r (suc i)) ≡ y
        at zero k q = absurd (omega arith)
        at (suc y) k q = ap suc q

    falls : (i : ℕ) → suc i ≤ largest r → (t : Bool) → turns_b (running_after (circle_running r) i) ≡ t
        → circle_out r (suc i) + cond t 1 0 ≡ circle_out r i
    falls i h true e = omega (arith, diagonal_falls i h e)
    falls i h false e = omega (arith, axis_stays i h e)

pub midpoint_circle : MidpointCircle
midpoint_circle r i pos b h =
    let v : Kept r i (circle_out r i) (running_after (circle_running r) i) = kept r b pos i h in
    record {
      out = lies_out_law r i (circle_out r i) h (kept_out v);
      d = omega (arith, inner_square (circle_out r i), v.error);
      d1 = omega (arith, v.first);
      d2 = omega (arith, v.second);
      d_positive = omega (arith, v.small, out_le (kept_out v));
      d1_negative = omega (arith, v.first, within_r r i h);
      d2_positive = omega (arith, v.second, out_le (kept_out v));
      falls = λ k. falls r b pos i (to_largest r (suc i) k) (turns_b (running_after (circle_running r) i)) refl;
    }
