-- The eight arcs together are the circle, and no dot is drawn twice. A dot of an arc lies i and y from the centre, on the two
-- coordinates; so it is the circle's. A dot of the circle lies on the arc that its distances and sides say; if that arc is odd and
-- passes the dot over or stops short of it, the dot is at an end of an axis or on a diagonal, and the even arc beside it has it too.
use mathlib.Core.Path.{◌≡◌, refl, sym, ap, ap₂, subst₂, ◌∙◌}
use mathlib.Core.Bool.{Bool, true, false, not, ◌&&◌}
use Prim.Native.Nat.{ℕ, zero, suc, ◌+◌, ◌-◌, ◌%◌, ◌≤◌, ◌<◌}
use native.Mathlib.Omega.{arith}
use native.Mathlib.Decide.{dec_lt, ℕ_discrete}
use lib.Dec.{leb, eqb}
use borrow.Author.Tests.{leb-true, leb-false, eqb-true, le-leb}
use Rattle.geometry.specs.Plane.{distance, some_to, lies_out, circle_on}
use Rattle.geometry.proofs.TestLaws.{and_both, or_right, or_cases, cases, same_test, some_found, some_at, pair_same, same_pair}
use Rattle.geometry.proofs.OctantLaws.{dir_of}
use Rattle.circles.specs.Circle.{circle_out, largest, coincide, arc_dm, arc_dc, way_of, offset, arc_x, arc_y, end_x, end_y, arc_on}
use Rattle.circles.proofs.OutLaws.{lies_out_law, out_lies, out_is, within, to_largest, out_start, out_of, out_bound, out_positive}
use Rattle.circles.proofs.OutLaws.{beside, diagonal_last, diagonal_coincide}
use Rattle.circles.proofs.WayLaws.{way_x, way_y, Beside, odd_is, one_not, apart}

-- ---- the dots that an arc draws
pub record Within (r dir i : ℕ) : Type 0 where
  pub low : arc_dm dir ≤ i
  pub high : i ≤ arc_dc r dir

pub at_most : (r dir i : ℕ) → i ≤ arc_dc r dir → i ≤ largest r
unfolding arc_dc
at_most r dir i h = omega arith

even_within : (r dir i : ℕ) → dir % 2 ≡ 0 → i ≤ largest r → Within r dir i
unfolding arc_dc arc_dm
even_within r dir i e h = record {
  low = omega arith;
  high = cases (λ (v : ℕ). i ≤ largest r - v) (coincide r) (λ q. omega arith) (λ q. omega arith);
}

odd_within : (r dir i : ℕ) → 0 < i → i < circle_out r i → i ≤ largest r → Within r dir i
unfolding arc_dc arc_dm coincide
odd_within r dir i p s h = record {
  low = omega arith;
  high = cases (λ (v : ℕ). i ≤ largest r - v) (coincide r)
      (λ q. at (eqb-true (circle_out r (largest r)) (largest r) q) (dec_lt i (largest r))) (λ q. omega arith);
}
  where
    at : circle_out r (largest r) ≡ largest r → Dec (i < largest r) → i ≤ largest r - dir % 2
    at q (yes k) = omega arith
    at q (no k) =
        let z : i ≡ largest r = omega arith in
        let w : circle_out r i ≡ circle_out r (largest r) = ap (circle_out r) z in
        absurd (omega arith)

pub within_beside : (r dir i : ℕ) → 0 < r → Within r dir i → Beside (dir % 2) r i (circle_out r i)
unfolding arc_dm arc_dc
within_beside r dir i pos w = record {
  low = w.low;
  high = at (ℕ_discrete i (circle_out r i));
  pos = out_positive r pos i most;
  near = out_bound r pos i most;
}
  where
    most : i ≤ largest r
    most = at_most r dir i w.high

    at : Dec (i ≡ circle_out r i) → i + dir % 2 ≤ circle_out r i
    at (no k) = let z : i ≤ circle_out r i = beside r pos i most in omega arith
    at (yes k) =
        let last : i ≡ largest r = diagonal_last r pos i most k in
        let less : i ≤ largest r - dir % 2 = rw (diagonal_coincide r i pos most k) at w.high in
        omega (arith, w.low)

-- ---- DIR and its way
abbrev pub Named : ℕ → Type 0
Named dir = dir_of (way_of dir).across (way_of dir).right (way_of dir).down ≡ dir

pub named : (dir : ℕ) → dir < 8 → Named dir
named zero h = refl
named (suc zero) h = refl
named (suc (suc zero)) h = refl
named (suc (suc (suc zero))) h = refl
named (suc (suc (suc (suc zero)))) h = refl
named (suc (suc (suc (suc (suc zero))))) h = refl
named (suc (suc (suc (suc (suc (suc zero)))))) h = refl
named (suc (suc (suc (suc (suc (suc (suc zero))))))) h = refl
named (suc (suc (suc (suc (suc (suc (suc (suc dir)))))))) h = absurd (omega arith)

-- an arc's dot, by the three
record Told (cx cy r : ℕ) (a right down : Bool) (i : ℕ) : Type 0 where
  small : dir_of a right down < 8
  across : arc_x cx r (dir_of a right down) i ≡ way_x a right cx i (circle_out r i)
  along : arc_y cy r (dir_of a right down) i ≡ way_y a down cy i (circle_out r i)

told : (cx cy r : ℕ) (a right down : Bool) (i : ℕ) → Told cx cy r a right down i
unfolding arc_x arc_y
told cx cy r true true true i = record { small = omega arith; across = refl; along = refl }
told cx cy r true true false i = record { small = omega arith; across = refl; along = refl }
told cx cy r true false true i = record { small = omega arith; across = refl; along = refl }
told cx cy r true false false i = record { small = omega arith; across = refl; along = refl }
told cx cy r false true true i = record { small = omega arith; across = refl; along = refl }
told cx cy r false true false i = record { small = omega arith; across = refl; along = refl }
told cx cy r false false true i = record { small = omega arith; across = refl; along = refl }
told cx cy r false false false i = record { small = omega arith; across = refl; along = refl }

-- dot 0 is the end of its axis
pub arc_starts : (cx cy r : ℕ) → 0 < r → (dir : ℕ) → dir < 8 → (arc_x cx r dir 0 ≡ end_x cx r dir) × (arc_y cy r dir 0 ≡ end_y cy r dir)
unfolding arc_x arc_y
arc_starts cx cy r pos zero h = (rw (out_start r pos), omega arith)
arc_starts cx cy r pos (suc zero) h = (omega arith, rw (out_start r pos))
arc_starts cx cy r pos (suc (suc zero)) h = (omega arith, rw (out_start r pos))
arc_starts cx cy r pos (suc (suc (suc zero))) h = (rw (out_start r pos), omega arith)
arc_starts cx cy r pos (suc (suc (suc (suc zero)))) h = (rw (out_start r pos), omega arith)
arc_starts cx cy r pos (suc (suc (suc (suc (suc zero))))) h = (omega arith, rw (out_start r pos))
arc_starts cx cy r pos (suc (suc (suc (suc (suc (suc zero)))))) h = (omega arith, rw (out_start r pos))
arc_starts cx cy r pos (suc (suc (suc (suc (suc (suc (suc zero))))))) h = (rw (out_start r pos), omega arith)
arc_starts cx cy r pos (suc (suc (suc (suc (suc (suc (suc (suc dir)))))))) h = absurd (omega arith)

-- ---- no dot twice
module _ (cx cy r : ℕ) (pos : 0 < r) (left : r ≤ cx) (top : r ≤ cy) where
  named_beside : (dir i : ℕ) → dir < 8 → Within r dir i
      → Beside (dir_of (way_of dir).across (way_of dir).right (way_of dir).down % 2) r i (circle_out r i)
  named_beside dir i h w = rw (named dir h) (within_beside r dir i pos w)

  pub arcs_apart : (dir dir' i j : ℕ) → dir < 8 → dir' < 8 → Within r dir i → Within r dir' j
      → arc_x cx r dir i ≡ arc_x cx r dir' j → arc_y cy r dir i ≡ arc_y cy r dir' j → (dir ≡ dir') × (i ≡ j)
  unfolding arc_x arc_y
  arcs_apart dir dir' i j h h' w w' e f =
      let v = apart cx cy r left top (way_of dir).across (way_of dir).right (way_of dir).down
      (way_of dir').across (way_of dir').right (way_of dir').down i (circle_out r i) j (circle_out r j)
      (named_beside dir i h w) (named_beside dir' j h' w') e f in
      (sym (named dir h) ∙ v.0 ∙ named dir' h', v.1)

-- ---- each dot of an arc is the circle's
offset_distance : (s : Bool) (c k : ℕ) → k ≤ c → distance (offset s c k) c ≡ k
offset_distance true c k h = omega arith
offset_distance false c k h = omega arith

module _ (cx cy r : ℕ) (pos : 0 < r) (i : ℕ) (h : i ≤ largest r) where
  lies : lies_out r i (circle_out r i) ≡ true
  lies = lies_out_law r i (circle_out r i) (within r i h) (out_of r pos i h)

  circle_across : (x y : ℕ) → distance x cx ≡ i → distance y cy ≡ circle_out r i → circle_on cx cy r x y ≡ true
  unfolding circle_on
  circle_across x y e f = rw (e, f, lies)

  circle_along : (x y : ℕ) → distance x cx ≡ circle_out r i → distance y cy ≡ i → circle_on cx cy r x y ≡ true
  unfolding circle_on
  circle_along x y e f = rw (e, f) (or_right (lies_out r (circle_out r i) i) (lies_out r i (circle_out r i)) lies)

  pub arc_circle : r ≤ cx → r ≤ cy → (dir : ℕ) → circle_on cx cy r (arc_x cx r dir i) (arc_y cy r dir i) ≡ true
  unfolding arc_x arc_y
  arc_circle left top dir = go (way_of dir).across (way_of dir).right (way_of dir).down
    where
      near : circle_out r i ≤ r
      near = out_bound r pos i h

      nearer : i ≤ circle_out r i
      nearer = beside r pos i h

      go : (a s t : Bool) → circle_on cx cy r (way_x a s cx i (circle_out r i)) (way_y a t cy i (circle_out r i)) ≡ true
      go true s t =
          circle_across _ _ (offset_distance s cx i (omega (arith, near, nearer)))
          (offset_distance (not t) cy (circle_out r i) (omega (arith, near)))
      go false s t =
          circle_along _ _ (offset_distance (not s) cx (circle_out r i) (omega (arith, near)))
          (offset_distance t cy i (omega (arith, near, nearer)))

-- ---- each dot of the circle is drawn by an arc
not_not : (s : Bool) → not (not s) ≡ s
not_not true = refl
not_not false = refl

-- a coordinate by its side and distance
away : (c x : ℕ) → x ≡ offset (leb c x) c (distance x c)
away c x = go (leb c x) refl
  where
    go : (s : Bool) → leb c x ≡ s → x ≡ offset s c (distance x c)
    go true e = omega (arith, leb-true c x e)
    go false e = omega (arith, leb-false c x e)

-- at the centre's own column or row both sides are one
offset_none : (s t : Bool) (c k : ℕ) → k ≡ 0 → offset s c k ≡ offset t c k
offset_none true true c k e = refl
offset_none true false c k e = omega arith
offset_none false true c k e = omega arith
offset_none false false c k e = refl

module _ (cx cy r : ℕ) (pos : 0 < r) where
  abbrev pub Met : ℕ → ℕ → Type 0
  Met x y = (dir : ℕ) × (dir < 8) × (i : ℕ) × Within r dir i × (x ≡ arc_x cx r dir i) × (y ≡ arc_y cy r dir i)

  -- by an arc of a way
  by : (a right down : Bool) (i x y : ℕ) → Within r (dir_of a right down) i
      → x ≡ way_x a right cx i (circle_out r i) → y ≡ way_y a down cy i (circle_out r i) → Met x y
  by a right down i x y w e f =
      let t : Told cx cy r a right down i = told cx cy r a right down i in
      (dir_of a right down, t.small, i, w, e ∙ sym t.across, f ∙ sym t.along)

  module _ (s t : Bool) (i : ℕ) (h : i ≤ largest r) where
    -- i across on the side s, and out on the side t: the arc itself, or at the end of an axis the one beside it, or on the diagonal
    drawn_across : Met (offset s cx i) (offset t cy (circle_out r i))
    drawn_across = at (ℕ_discrete (dir_of true s (not t) % 2) 0) (ℕ_discrete i 0) (ℕ_discrete i (circle_out r i))
      where
        at : Dec (dir_of true s (not t) % 2 ≡ 0) → Dec (i ≡ 0) → Dec (i ≡ circle_out r i)
            → Met (offset s cx i) (offset t cy (circle_out r i))
        at (yes e) p q = by true s (not t) i _ _ (even_within r _ i e h) refl (rw (not_not t))
        at (no e) (yes p) q =
            by true (not s) (not t) i _ _ (even_within r _ i
            (omega (arith, odd_is true s (not t), odd_is true (not s) (not t), one_not s)) h)
            (offset_none s (not s) cx i p) (rw (not_not t))
        at (no e) (no p) (yes q) =
            by false (not s) t i _ _ (even_within r _ i
            (omega (arith, odd_is true s (not t), odd_is false (not s) t, one_not s, one_not t)) h)
            (rw (not_not s) (ap (offset s cx) q)) (ap (offset t cy) (sym q))
        at (no e) (no p) (no q) =
            by true s (not t) i _ _ (odd_within r _ i (omega arith) (omega (arith, beside r pos i h)) h) refl (rw (not_not t))

    drawn_along : Met (offset s cx (circle_out r i)) (offset t cy i)
    drawn_along = at (ℕ_discrete (dir_of false (not s) t % 2) 0) (ℕ_discrete i 0) (ℕ_discrete i (circle_out r i))
      where
        at : Dec (dir_of false (not s) t % 2 ≡ 0) → Dec (i ≡ 0) → Dec (i ≡ circle_out r i)
            → Met (offset s cx (circle_out r i)) (offset t cy i)
        at (yes e) p q = by false (not s) t i _ _ (even_within r _ i e h) (rw (not_not s)) refl
        at (no e) (yes p) q =
            by false (not s) (not t) i _ _ (even_within r _ i
            (omega (arith, odd_is false (not s) t, odd_is false (not s) (not t), one_not t)) h)
            (rw (not_not s)) (offset_none t (not t) cy i p)
        at (no e) (no p) (yes q) =
            by true s (not t) i _ _ (even_within r _ i
            (omega (arith, odd_is false (not s) t, odd_is true s (not t), one_not s, one_not t)) h)
            (ap (offset s cx) (sym q)) (rw (not_not t) (ap (offset t cy) q))
        at (no e) (no p) (no q) =
            by false (not s) t i _ _ (odd_within r _ i (omega arith) (omega (arith, beside r pos i h)) h) (rw (not_not s)) refl

  pub circle_met : (x y : ℕ) → circle_on cx cy r x y ≡ true → Met x y
  unfolding circle_on
  circle_met x y e =
      or_cases (lies_out r (distance x cx) (distance y cy)) (lies_out r (distance y cy) (distance x cx)) e
      (λ q. let o = out_lies r (distance x cx) (distance y cy) q in across (to_largest r (distance x cx) o.0) (out_is o.1))
      (λ q. let o = out_lies r (distance y cy) (distance x cx) q in along (to_largest r (distance y cy) o.0) (out_is o.1))
    where
      across : distance x cx ≤ largest r → circle_out r (distance x cx) ≡ distance y cy → Met x y
      across h o =
          subst₂ Met (sym (away cx x)) (ap (offset (leb cy y) cy) o ∙ sym (away cy y))
          (drawn_across (leb cx x) (leb cy y) (distance x cx) h)

      along : distance y cy ≤ largest r → circle_out r (distance y cy) ≡ distance x cx → Met x y
      along h o =
          subst₂ Met (ap (offset (leb cx x) cx) o ∙ sym (away cx x)) (sym (away cy y)) (drawn_along (leb cx x) (leb cy y) (distance y cy) h)

-- ---- the request's sentence, octant by octant: the dot that lies out on the arc of a DIR
pub record InOctant (cx cy r x y : ℕ) : Type 0 where
  pub dir : ℕ
  pub small : dir < 8
  pub i : ℕ
  pub out : ℕ
  pub lies : lies_out r i out ≡ true
  pub across : x ≡ way_x (way_of dir).across (way_of dir).right cx i out
  pub along : y ≡ way_y (way_of dir).across (way_of dir).down cy i out

module _ (cx cy r : ℕ) (pos : 0 < r) (x y : ℕ) where
  pub circle_octant : circle_on cx cy r x y ≡ true → InOctant cx cy r x y
  unfolding arc_x arc_y
  circle_octant e =
      let m = circle_met cx cy r pos x y e in
      record {
        dir = m.0;
        small = m.1;
        i = m.2;
        out = circle_out r m.2;
        lies = lies cx cy r pos m.2 (at_most r m.0 m.2 m.3.high);
        across = m.4;
        along = m.5;
      }

  pub octant_circle : r ≤ cx → r ≤ cy → InOctant cx cy r x y → circle_on cx cy r x y ≡ true
  unfolding arc_x arc_y
  octant_circle left top o =
      let l = out_lies r o.i o.out o.lies in
      let z : circle_out r o.i ≡ o.out = out_is l.1 in
      ap₂ (circle_on cx cy r) (o.across ∙ ap (way_x (way_of o.dir).across (way_of o.dir).right cx o.i) (sym z))
      (o.along ∙ ap (way_y (way_of o.dir).across (way_of o.dir).down cy o.i) (sym z))
      ∙ arc_circle cx cy r pos o.i (to_largest r o.i l.0) left top o.dir

-- ---- the arcs as shapes
module _ (cx cy r dir x y : ℕ) where
  pub arc_at : (i : ℕ) → Within r dir i → x ≡ arc_x cx r dir i → y ≡ arc_y cy r dir i → arc_on cx cy r dir x y ≡ true
  unfolding arc_on
  arc_at i w e f =
      some_at (λ i. leb (arc_dm dir) i && (eqb x (arc_x cx r dir i) && eqb y (arc_y cy r dir i))) (arc_dc r dir) i w.high
      (ap₂ ◌&&◌ (le-leb (arc_dm dir) i w.low) (same_pair x (arc_x cx r dir i) y (arc_y cy r dir i) e f))

  pub arc_found : arc_on cx cy r dir x y ≡ true → (i : ℕ) × Within r dir i × (x ≡ arc_x cx r dir i) × (y ≡ arc_y cy r dir i)
  unfolding arc_on
  arc_found e =
      let s = some_found (λ i. leb (arc_dm dir) i && (eqb x (arc_x cx r dir i) && eqb y (arc_y cy r dir i))) (arc_dc r dir) e in
      let i : ℕ = s.0 in
      let b = and_both (leb (arc_dm dir) i) (eqb x (arc_x cx r dir i) && eqb y (arc_y cy r dir i)) s.2 in
      let p = pair_same x (arc_x cx r dir i) y (arc_y cy r dir i) b.1 in
      (i, record { low = leb-true (arc_dm dir) i b.0; high = s.1 }, p.0, p.1)

module _ (cx cy r : ℕ) (pos : 0 < r) (left : r ≤ cx) (top : r ≤ cy) where
  -- no dot is of two arcs
  pub arcs_disjoint : (dir dir' : ℕ) → dir < dir' → dir' < 8 → (x y : ℕ) → arc_on cx cy r dir x y ≡ true → arc_on cx cy r dir' x y ≡ true
      → ⊥
  arcs_disjoint dir dir' l h x y e f =
      let a = arc_found cx cy r dir x y e in
      let b = arc_found cx cy r dir' x y f in
      let s = arcs_apart cx cy r pos left top dir dir' a.0 b.0 (omega arith) h a.1 b.1 (sym a.2 ∙ b.2)
      (sym a.3 ∙ b.3) in
      omega (arith, s.0)

  -- the circle is its eight arcs
  pub circle_is : (x y : ℕ) → some_to 7 (λ dir. arc_on cx cy r dir x y) ≡ circle_on cx cy r x y
  circle_is x y = same_test _ _
      (λ e.
      let s = some_found (λ dir. arc_on cx cy r dir x y) 7 e in
      let a = arc_found cx cy r s.0 x y s.2 in
      ap₂ (circle_on cx cy r) a.2 a.3 ∙ arc_circle cx cy r pos a.0 (at_most r s.0 a.0 a.1.high) left top s.0)
      (λ e.
      let m = circle_met cx cy r pos x y e in
      some_at (λ dir. arc_on cx cy r dir x y) 7 m.0 (omega (arith, m.1)) (arc_at cx cy r m.0 x y m.2 m.3 m.4 m.5))
