-- The arc that the controller draws. Each move of an arc goes to its next dot: i goes on by one along the axis, and y stays or
-- falls as D's sign says. So the arc changes its own dots once, those below DM passed over.
use mathlib.Core.Path.{◌≡◌, refl, sym, ap, ap₂, ◌∙◌}
use mathlib.Core.Bool.{Bool, true, false, cond, not}
use mathlib.Core.List.{List}
use Prim.Native.Nat.{ℕ, suc, ◌+◌, ◌-◌, ◌*◌, ◌%◌, ◌≤◌, ◌<◌}
use native.Mathlib.Omega.{arith}
use lib.ListN.{length}
use Rattle.dots.specs.declared.Wiring.{Wiring}
use Rattle.dots.specs.declared.Operation.{Operation}
use Rattle.dots.specs.declared.Cursor.{Cursor}
use Rattle.dots.specs.Bit.{bit}
use Rattle.dots.specs.Dot.{cursor_at}
use Rattle.dots.proofs.DotLaws.{address}
use Rattle.geometry.specs.Plane.{InPlane, Shape, solid}
use Rattle.geometry.proofs.WalkLaws.{Next, Sized, walk, walks}
use Rattle.geometry.proofs.CycleLaws.{cycles, Drawn, drawn}
use Rattle.geometry.proofs.OctantLaws.{change, Ways, ways}
use Rattle.geometry.proofs.OctantLaws as octants
use Rattle.arcs.specs.declared.Moving.{Moving}
use Rattle.arcs.specs.Arc.{turns_b, arc_direction, passed}
use Rattle.circles.specs.Circle.{circle_out, largest, arc_dm, arc_dc, way_of, offset, arc_x, arc_y, end_x, end_y, arc_on}
use Rattle.circles.proofs.OutLaws.{out_bound, beside}
use Rattle.circles.proofs.WayLaws.{way_x, way_y}
use Rattle.circles.proofs.CircleLaws.{at_most, named, arc_starts, arcs_apart, arc_at, arc_found}
use Rattle.circling.specs.Midpoint.{circle_running, running_after}
use Rattle.circling.proofs.ArcLaws.{axis_stays, diagonal_falls}
use Rattle.circling.proofs.StrideLaws.{turning, passed_walk}
use Rattle.circling.proofs.AxisLaws.{same_axis, same_diagonal}

-- ---- dots passed over
-- a walk from neighbour to neighbour whose first m dots make no cycle: dot i has the pattern t i, and no dot comes twice
passed_drawn : (wiring : Wiring) (op : Operation) (p h : ℕ) → Sized p h → (mem : List ℕ) → p * h ≤ length mem
    → (m n : ℕ) (t dirs : ℕ → ℕ) (c : Cursor) → ((i k : ℕ) → i ≤ n → bit (k % 16) (t i) ≡ 1)
    → (X Y : ℕ → ℕ) → c ≡ cursor_at (address p (X 0) (Y 0))
    → ((i : ℕ) → i ≤ n → InPlane p h (X i) (Y i))
    → ((i : ℕ) → i < n → Next (dirs i) (X i) (Y i) (X (suc i)) (Y (suc i)))
    → ((i j : ℕ) → m ≤ i → i < j → j ≤ n → X i ≡ X j → Y i ≡ Y j → ⊥)
    → (on : Shape) → ((x y : ℕ) → on x y ≡ true → (i : ℕ) × (m ≤ i) × (i ≤ n) × (x ≡ X i) × (y ≡ Y i))
    → ((i : ℕ) → m ≤ i → i ≤ n → on (X i) (Y i) ≡ true)
    → Drawn p h op on solid mem (cycles wiring op (λ j. t (m + j)) (λ j. walk dirs p c (m + j)) (suc n - m) mem)
passed_drawn wiring op p h sized mem room m n t dirs c ones X Y start plane next once on reached kept =
    drawn wiring op (λ j. t (m + j)) (λ j. X (m + j)) (λ j. Y (m + j)) (λ j. walk dirs p c (m + j)) p h mem room (suc n - m)
    (λ j k. ap (λ (s : Cursor). walk dirs p s (m + j)) start
    ∙ walks p h sized dirs X Y (m + j) (λ i l. plane i (omega arith)) (λ i l. next i (omega arith)))
    (λ j k. plane (m + j) (omega arith)) (λ i j l k. once (m + i) (m + j) (omega arith) (omega arith) (omega arith))
    on solid
    (λ x y e.
    let r = reached x y e in
    let z : m + (r.0 - m) ≡ r.0 = omega (arith, r.1) in
    (r.0 - m, omega (arith, r.1, r.2), r.3 ∙ ap X (sym z), r.4 ∙ ap Y (sym z)))
    (λ j k. kept (m + j) (omega arith) (omega arith)) (λ j k l. ones (m + j) k (omega arith))

-- ---- one coordinate
goes_on : (s : Bool) (c k d : ℕ) → suc k ≤ c → d ≡ change s → offset s c (suc k) + 1 ≡ offset s c k + d
goes_on true c k d h e = omega arith
goes_on false c k d h e = omega arith

falls : (s : Bool) (c y z d : ℕ) → y ≤ c → suc z ≡ y → d ≡ change s → offset (not s) c z + 1 ≡ offset (not s) c y + d
falls true c y z d h q e = omega arith
falls false c y z d h q e = omega arith

stays : (s : Bool) (c y z d : ℕ) → z ≡ y → d ≡ 1 → offset (not s) c z + 1 ≡ offset (not s) c y + d
stays s c y z d q e = rw (q, e)

offset_lt : (s : Bool) (c k r w : ℕ) → k ≤ r → c + r < w → offset s c k < w
offset_lt true c k r w h f = omega arith
offset_lt false c k r w h f = omega arith

-- the step after dot i, by geometry's axis and diagonal
step_is : (r dir i : ℕ) → dir < 8
    → arc_direction dir (running_after (circle_running r) i)
    ≡ cond (turns_b (running_after (circle_running r) i)) (octants.diagonal_of dir) (octants.axis_of dir)
unfolding arc_direction
step_is r dir i h = ap₂ (cond (turns_b (running_after (circle_running r) i))) (same_diagonal dir h) (same_axis dir h)

module _ (cx cy r : ℕ) (pos : 0 < r) (most : r ≤ 2000) (left : r ≤ cx) (top : r ≤ cy) where
  -- each move goes to the next dot
  arc_next : (dir i : ℕ) → dir < 8 → suc i ≤ largest r
      → Next (arc_direction dir (running_after (circle_running r) i)) (arc_x cx r dir i) (arc_y cy r dir i)
      (arc_x cx r dir (suc i)) (arc_y cy r dir (suc i))
  unfolding arc_x arc_y
  arc_next dir i h k =
      rw (step_is r dir i h)
      (go (way_of dir).across (way_of dir).right (way_of dir).down
      (rw (named dir h) at (ways (way_of dir).across (way_of dir).right (way_of dir).down))
      (turns_b (running_after (circle_running r) i)) refl)
    where
      out : circle_out r i ≤ r
      out = out_bound r pos i (omega arith)

      further : suc i ≤ r
      further = let a : suc i ≤ circle_out r (suc i) = beside r pos (suc i) k in omega (arith, out_bound r pos (suc i) k)

      go : (a s d : Bool) {axis diagonal : ℕ} → Ways a s d axis diagonal
          → (t : Bool) → turns_b (running_after (circle_running r) i) ≡ t
          → Next (cond t diagonal axis) (way_x a s cx i (circle_out r i)) (way_y a d cy i (circle_out r i))
          (way_x a s cx (suc i) (circle_out r (suc i))) (way_y a d cy (suc i) (circle_out r (suc i)))
      go true s d w true e = record {
        small = w.diagonal_lt;
        across = goes_on s cx i _ (omega (arith, further)) w.diagonal_x;
        along = falls d cy (circle_out r i) (circle_out r (suc i)) _ (omega (arith, out)) (diagonal_falls r most pos i k e) w.diagonal_y;
      }
      go true s d w false e = record {
        small = w.axis_lt;
        across = goes_on s cx i _ (omega (arith, further)) w.axis_x;
        along = stays d cy (circle_out r i) (circle_out r (suc i)) _ (axis_stays r most pos i k e) w.axis_y;
      }
      go false s d w true e = record {
        small = w.diagonal_lt;
        across = falls s cx (circle_out r i) (circle_out r (suc i)) _ (omega (arith, out)) (diagonal_falls r most pos i k e) w.diagonal_x;
        along = goes_on d cy i _ (omega (arith, further)) w.diagonal_y;
      }
      go false s d w false e = record {
        small = w.axis_lt;
        across = stays s cx (circle_out r i) (circle_out r (suc i)) _ (axis_stays r most pos i k e) w.axis_x;
        along = goes_on d cy i _ (omega (arith, further)) w.axis_y;
      }

  module _ (p h : ℕ) (right : cx + r < 16 * p) (bottom : cy + r < h) where
    -- a circle whose four ends are in the plane lies in it
    arc_plane : (dir i : ℕ) → i ≤ largest r → InPlane p h (arc_x cx r dir i) (arc_y cy r dir i)
    unfolding arc_x arc_y
    arc_plane dir i k = go (way_of dir).across (way_of dir).right (way_of dir).down
      where
        out : circle_out r i ≤ r
        out = out_bound r pos i k

        along : i ≤ r
        along = omega (arith, beside r pos i k, out)

        go : (a s d : Bool) → InPlane p h (way_x a s cx i (circle_out r i)) (way_y a d cy i (circle_out r i))
        go true s d =
            record { column = offset_lt s cx i r (16 * p) along right; row = offset_lt (not d) cy (circle_out r i) r h out bottom }
        go false s d =
            record { column = offset_lt (not s) cx (circle_out r i) r (16 * p) out right; row = offset_lt d cy i r h along bottom }

    -- the arc's dot 0 with the circle's registers
    abbrev pub begins : ℕ → Moving
    begins dir = record { running = circle_running r; cursor = cursor_at (address p (end_x cx r dir) (end_y cy r dir)) }

    -- the arc's cycles change its dots
    pub arc_drawn : Sized p h → (wiring : Wiring) (op : Operation) (mem : List ℕ) → p * h ≤ length mem → (dir : ℕ) → dir < 8
        → (t : ℕ → ℕ) → ((i k : ℕ) → bit (k % 16) (t i) ≡ 1)
        → Drawn p h op (arc_on cx cy r dir) solid mem
        (cycles wiring op (λ j. t (arc_dm dir + j)) (λ j. (passed dir p (begins dir) (arc_dm dir + j)).cursor)
        (suc (arc_dc r dir) - arc_dm dir) mem)
    arc_drawn sized wiring op mem room dir b t ones =
        rw (passed_walk dir p (begins dir) (arc_dm dir))
        (passed_drawn wiring op p h sized mem room (arc_dm dir) (arc_dc r dir) t (turning dir p (begins dir)) (begins dir).cursor
        (λ i k l. ones i k) (arc_x cx r dir) (arc_y cy r dir)
        (ap₂ (λ (u v : ℕ). cursor_at (address p u v)) (sym (arc_starts cx cy r pos dir b).0) (sym (arc_starts cx cy r pos dir b).1))
        (λ i k. arc_plane dir i (at_most r dir i k))
        (λ i k. arc_next dir i b (at_most r dir (suc i) k))
        (λ i j l k m e f.
        let s = arcs_apart cx cy r pos left top dir dir i j b b (record { low = l; high = omega arith })
        (record { low = omega arith; high = m }) e f in
        omega (arith, s.1))
        (arc_on cx cy r dir)
        (λ x y e. let s = arc_found cx cy r dir x y e in (s.0, s.1.low, s.1.high, s.2, s.3))
        (λ i l k. arc_at cx cy r dir _ _ i (record { low = l; high = k }) refl refl))
