-- The line that the translator sends: its DIR, N and m fit an octant of geometry's, by the translator's own eight cases; and the
-- controller's running D, begun with D 2m - N, D1 2m and D2 2m - 2N, is geometry's error term, move by move.
use mathlib.Core.Path.{◌≡◌, refl, sym, ap, ap₂, subst, ◌∙◌}
use mathlib.Core.Bool.{Bool, true, false, cond}
use Prim.Native.Nat.{ℕ, zero, suc, ◌+◌, ◌-◌, ◌*◌, ◌%◌, ◌≤◌, ◌<◌}
use native.Mathlib.Omega.{arith}
use lib.Dec.{eqb}
use borrow.Author.Tests.{leb-true, eq-eqb}
use Rattle.geometry.proofs.ErrorLaws.{Ruled, ruled, ruled_on}
use Rattle.geometry.proofs.OctantLaws.{Octant}
use Rattle.geometry.proofs.OctantLaws as octants
use Rattle.records.specs.declared.Point.{Point}
use Rattle.entries.specs.declared.Slope.{Slope}
use Rattle.entries.specs.Entries.{distance, right_b, left_b, down_b, up_b, tall_b, wide_b, slope_of}
use Rattle.entries.proofs.SlopeLaws.{other, octant, slope_by, slope_by_law}
use Rattle.registers.specs.declared.Drawing.{Drawing}
use Rattle.figures.specs.Figure.{negative, axis_of, diagonal_of, line_direction, error_after, side_of, direction_at, running_d}
use Rattle.circling.proofs.AxisLaws.{same_axis, same_diagonal}
use Rattle.sending.proofs.DrawLaws.{running_at, step_at}

-- ---- DIR, N and m
pub record Fit (a b : Point) (s : Slope) : Type 0 where
  pub octant : Octant a.x a.y b.x b.y s.major s.minor
  pub dir : octants.dir_of octant.across octant.right octant.down ≡ s.dir

module _ (a b : Point) where
  abbrev x : ℕ
  x = distance a.x b.x

  abbrev y : ℕ
  y = distance a.y b.y

  fit_by : Fit a b (slope_by (right_b a b) (left_b a b) (down_b a b) (up_b a b) (tall_b a b) (wide_b a b) x y)
  fit_by =
      octant (other a.x b.x) (other a.y b.y) (other x y)
      (λ r d t. rw (r, d, t) (tall true true (leb-true _ _ t) (right r) (down d)))
      (λ r d t w. rw (r, d, t) (wide true true (leb-true _ _ w) (right r) (down d)))
      (λ r d u w. rw (r, d, u, w) (wide true false (leb-true _ _ w) (right r) (up u)))
      (λ r d u w t. rw (r, d, u, w) (tall true false (leb-true _ _ t) (right r) (up u)))
      (λ r l u t. rw (r, l, u, t) (tall false false (leb-true _ _ t) (left l) (up u)))
      (λ r l u t w. rw (r, l, u, t) (wide false false (leb-true _ _ w) (left l) (up u)))
      (λ r l u d w. rw (r, l, u, d, w) (wide false true (leb-true _ _ w) (left l) (down d)))
      (λ r l u d w t. rw (r, l, u, d, w) (tall false true (leb-true _ _ t) (left l) (down d)))
    where
      wide : (e s : Bool) → y ≤ x → octants.Apart e a.x b.x x → octants.Apart s a.y b.y y
          → Fit a b (record { dir = octants.dir_of true e s; major = x; minor = y })
      wide e s h u v = record { octant = record { across = true; right = e; down = s; le = h; wide = u; tall = v }; dir = refl }

      tall : (e s : Bool) → x ≤ y → octants.Apart e a.x b.x x → octants.Apart s a.y b.y y
          → Fit a b (record { dir = octants.dir_of false e s; major = y; minor = x })
      tall e s h u v = record { octant = record { across = false; right = e; down = s; le = h; wide = u; tall = v }; dir = refl }

      right : right_b a b ≡ true → a.x + x ≡ b.x
      right r = let h : a.x ≤ b.x = leb-true _ _ r in omega arith

      left : left_b a b ≡ true → b.x + x ≡ a.x
      left l = let h : b.x ≤ a.x = leb-true _ _ l in omega arith

      down : down_b a b ≡ true → a.y + y ≡ b.y
      down d = let h : a.y ≤ b.y = leb-true _ _ d in omega arith

      up : up_b a b ≡ true → b.y + y ≡ a.y
      up u = let h : b.y ≤ a.y = leb-true _ _ u in omega arith

  pub fit : Fit a b (slope_of a b)
  fit = subst (Fit a b) (sym (slope_by_law a b)) fit_by

pub dir_lt : (across right down : Bool) → octants.dir_of across right down < 8
dir_lt true true true = omega arith
dir_lt true true false = omega arith
dir_lt true false true = omega arith
dir_lt true false false = omega arith
dir_lt false true true = omega arith
dir_lt false true false = omega arith
dir_lt false false true = omega arith
dir_lt false false false = omega arith

-- ---- the moves
module _ (f : Drawing) (n m : ℕ) (line : f.kind ≡ 1) (d : f.d ≡ (2 * m + 16384 - n) % 16384) (d1 : f.d1 ≡ 2 * m)
    (d2 : f.d2 ≡ (2 * m + 16384 - 2 * n) % 16384) where
  on : (t : Bool) (r : Ruled) → cond t ((r.d + f.d1) % 16384) ((r.d + f.d2) % 16384)
      ≡ (ruled_on t (2 * m) ((2 * m + 16384 - 2 * n) % 16384) r).d
  on true r = rw d1
  on false r = rw d2

  gains : (r : Ruled) → running_d f r.d ≡ (ruled_on (negative r.d) (2 * m) ((2 * m + 16384 - 2 * n) % 16384) r).d
  unfolding running_d error_after
  gains r = ap (λ (t : Bool). cond t (error_after f r.d) r.d) (eq-eqb f.kind 1 line) ∙ on (negative r.d) r

  running : (i : ℕ) → running_at f i ≡ (ruled n m i).d
  unfolding running_at ruled
  running zero = d
  running (suc i) = ap (running_d f) (running i) ∙ gains (ruled n m i)

  pub line_steps : f.dir < 8 → (i : ℕ) → step_at f i
      ≡ cond (negative (ruled n m i).d) (octants.axis_of f.dir) (octants.diagonal_of f.dir)
  unfolding direction_at line_direction
  line_steps h i =
      ap (direction_at f i) (running i)
      ∙ ap (λ (t : Bool). cond t (line_direction f.dir (ruled n m i).d)
      (cond (eqb f.kind 8) ((f.dir + side_of f.d f.d2 i) % 8) f.dir)) (eq-eqb f.kind 1 line)
      ∙ ap₂ (cond (negative (ruled n m i).d)) (same_axis f.dir h) (same_diagonal f.dir h)
