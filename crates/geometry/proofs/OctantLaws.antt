-- The eight octants at once: which way a line goes on each coordinate, and that each of the controller's moves goes to the
-- line's next dot. The longer way goes on by one at each move; the shorter one stays at an axis move and goes on at a
-- diagonal one. What the directions do is sixteen facts, each by computing.
use mathlib.Core.Path.{◌≡◌, refl}
use mathlib.Core.Bool.{Bool, true, false, cond}
use Prim.Native.Nat.{ℕ, suc, ◌+◌, ◌-◌, ◌%◌, ◌≤◌, ◌<◌}
use native.Mathlib.Omega.{arith}
use Rattle.geometry.specs.Plane.{minor}
use Rattle.geometry.proofs.WalkLaws.{dx, dy, Next}
use Rattle.geometry.proofs.ErrorLaws.{ruled, negative, axis_move, diagonal_move, minor_le}

-- k dots on from a, forth or back
abbrev pub ahead : Bool → ℕ → ℕ → ℕ
ahead true a k = a + k
ahead false a k = a - k

-- b lies k dots from a, forth or back
abbrev pub Apart : Bool → ℕ → ℕ → ℕ → Type 0
Apart true a b k = a + k ≡ b
Apart false a b k = b + k ≡ a

-- a line of N = n and m, seen from its first end: whether across is the longer way, and whether it goes right and down
-- Where a distance is 0, or both are equal, two octants fit.
pub record Octant (x0 y0 x1 y1 n m : ℕ) : Type 0 where
  pub across : Bool
  pub right : Bool
  pub down : Bool
  pub le : m ≤ n
  pub wide : Apart right x0 x1 (cond across n m)
  pub tall : Apart down y0 y1 (cond across m n)

abbrev pub dir_of : Bool → Bool → Bool → ℕ
dir_of true true true = 1
dir_of true true false = 2
dir_of true false false = 5
dir_of true false true = 6
dir_of false true true = 0
dir_of false true false = 3
dir_of false false false = 4
dir_of false false true = 7

-- for even DIR the axis is DIR and the diagonal DIR + 1; for odd, the axis is DIR + 1 mod 8 and the diagonal DIR
abbrev pub axis_of : ℕ → ℕ
axis_of dir = (dir + dir % 2) % 8

abbrev pub diagonal_of : ℕ → ℕ
diagonal_of dir = dir + 1 - dir % 2

-- the change of a coordinate by one dot, one too large
abbrev pub change : Bool → ℕ
change true = 2
change false = 0

pub record Ways (across right down : Bool) (axis diagonal : ℕ) : Type 0 where
  pub axis_lt : axis < 8
  pub diagonal_lt : diagonal < 8
  pub axis_x : dx axis ≡ cond across (change right) 1
  pub axis_y : dy axis ≡ cond across 1 (change down)
  pub diagonal_x : dx diagonal ≡ change right
  pub diagonal_y : dy diagonal ≡ change down

pub ways : (across right down : Bool) → Ways across right down (axis_of (dir_of across right down)) (diagonal_of (dir_of across right down))
ways true true true =
    record { axis_lt = omega arith; diagonal_lt = omega arith; axis_x = refl; axis_y = refl; diagonal_x = refl; diagonal_y = refl }
ways true true false =
    record { axis_lt = omega arith; diagonal_lt = omega arith; axis_x = refl; axis_y = refl; diagonal_x = refl; diagonal_y = refl }
ways true false true =
    record { axis_lt = omega arith; diagonal_lt = omega arith; axis_x = refl; axis_y = refl; diagonal_x = refl; diagonal_y = refl }
ways true false false =
    record { axis_lt = omega arith; diagonal_lt = omega arith; axis_x = refl; axis_y = refl; diagonal_x = refl; diagonal_y = refl }
ways false true true =
    record { axis_lt = omega arith; diagonal_lt = omega arith; axis_x = refl; axis_y = refl; diagonal_x = refl; diagonal_y = refl }
ways false true false =
    record { axis_lt = omega arith; diagonal_lt = omega arith; axis_x = refl; axis_y = refl; diagonal_x = refl; diagonal_y = refl }
ways false false true =
    record { axis_lt = omega arith; diagonal_lt = omega arith; axis_x = refl; axis_y = refl; diagonal_x = refl; diagonal_y = refl }
ways false false false =
    record { axis_lt = omega arith; diagonal_lt = omega arith; axis_x = refl; axis_y = refl; diagonal_x = refl; diagonal_y = refl }

-- one dot on, short of the far end
one_on : (s : Bool) (a b k j d : ℕ) → Apart s a b k → j < k → d ≡ change s → ahead s a (suc j) + 1 ≡ ahead s a j + d
one_on true a b k j d v h e = omega arith
one_on false a b k j d v h e = omega arith

module _ (n m : ℕ) (le : m ≤ n) (b : n < 4096) where
  stays : (s : Bool) (a i d : ℕ) → i < n → negative (ruled n m i).d ≡ true → d ≡ 1
      → ahead s a (minor n m (suc i)) + 1 ≡ ahead s a (minor n m i) + d
  stays s a i d k t e = rw (axis_move n m le (omega arith) b i t, e)

  goes_on : (s : Bool) (a z i d : ℕ) → Apart s a z m → i < n → negative (ruled n m i).d ≡ false → d ≡ change s
      → ahead s a (minor n m (suc i)) + 1 ≡ ahead s a (minor n m i) + d
  goes_on s a z i d v k t e =
      let next : minor n m (suc i) ≡ suc (minor n m i) = diagonal_move n m le (omega arith) b i t in
      rw next (one_on s a z m (minor n m i) d v (omega (arith, next, minor_le n m (suc i) k)) e)

-- dot i of the line, as its octant has it
module _ {x0 y0 x1 y1 n m : ℕ} (o : Octant x0 y0 x1 y1 n m) where
  abbrev pub octant_x : ℕ → ℕ
  octant_x i = ahead o.right x0 (cond o.across i (minor n m i))

  abbrev pub octant_y : ℕ → ℕ
  octant_y i = ahead o.down y0 (cond o.across (minor n m i) i)

  -- the line's move after dot i goes to dot i + 1
  pub moves : (dir : ℕ) → dir_of o.across o.right o.down ≡ dir → n < 4096 → (i : ℕ) → i < n
      → Next (cond (negative (ruled n m i).d) (axis_of dir) (diagonal_of dir)) (octant_x i) (octant_y i) (octant_x (suc i))
      (octant_y (suc i))
  moves dir is b i k =
      rw (← is) (go o.across o.right o.down (ways o.across o.right o.down) o.wide o.tall
      (negative (ruled n m i).d) refl)
    where
      go : (ac r d : Bool) {axis diagonal : ℕ} → Ways ac r d axis diagonal → Apart r x0 x1 (cond ac n m) → Apart d y0 y1 (cond ac m n)
          → (t : Bool) → negative (ruled n m i).d ≡ t
          → Next (cond t axis diagonal) (ahead r x0 (cond ac i (minor n m i))) (ahead d y0 (cond ac (minor n m i) i))
          (ahead r x0 (cond ac (suc i) (minor n m (suc i)))) (ahead d y0 (cond ac (minor n m (suc i)) (suc i)))
      go true r d w u v true t =
          record { small = w.axis_lt; across = one_on r x0 x1 n i _ u k w.axis_x; along = stays n m o.le b d y0 i _ k t w.axis_y }
      go true r d w u v false t =
          record {
            small = w.diagonal_lt;
            across = one_on r x0 x1 n i _ u k w.diagonal_x;
            along = goes_on n m o.le b d y0 y1 i _ v k t w.diagonal_y;
          }
      go false r d w u v true t =
          record { small = w.axis_lt; across = stays n m o.le b r x0 i _ k t w.axis_x; along = one_on d y0 y1 n i _ v k w.axis_y }
      go false r d w u v false t =
          record {
            small = w.diagonal_lt;
            across = goes_on n m o.le b r x0 x1 i _ u k t w.diagonal_x;
            along = one_on d y0 y1 n i _ v k w.diagonal_y;
          }
