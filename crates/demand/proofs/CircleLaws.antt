-- A circle, from CURS of its first arc to its last dot. Eleven bytes of FIGS set DIR, DC, D, D2, D1 and DM of an arc, and the cycles that
-- FIGD then makes are that arc's dots (circling's `arc_drawn`); an arc with DM above DC makes none, and has none. No two of the eight arcs
-- have a dot in common, and together they are the circle (crate circles), so one after the other they change each of its dots once.
use mathlib.Core.Path.{◌≡◌, refl, sym, ap, ◌∙◌}
use mathlib.Core.Bool.{Bool, true, false, cond, ◌||◌, true≢false}
use Prim.Native.Nat.{ℕ, zero, suc, ◌+◌, ◌-◌, ◌*◌, ◌≤◌, ◌<◌}
use native.Mathlib.Omega.{arith}
use native.Mathlib.Decide.{ℕ_discrete}
use Rattle.dots.specs.declared.Operation.{Operation}
use Rattle.geometry.specs.Plane.{InPlane, Shape, solid, some_to, circle_on}
use Rattle.geometry.proofs.TestLaws.{same_test, or_right, or_cases, some_found, some_at}
use Rattle.geometry.proofs.WalkLaws.{Sized}
use Rattle.geometry.proofs.CycleLaws.{either_on}
use Rattle.records.specs.declared.Point.{Point}
use Rattle.circles.specs.Circle.{largest, coincide, arc_dm, arc_dc, arc_dots, end_x, end_y, arc_on}
use Rattle.circles.proofs.CircleLaws.{at_most, arcs_disjoint, circle_is}
use Rattle.circles.proofs.SizeLaws.{largest_le, circle_plane, circle_end, circle_dots_law}
use Rattle.entries.specs.Entries.{arc_start, arc_figs, arc_entries, arcs_from, circle_entries}
use Rattle.registers.specs.declared.Drawing.{Drawing}
use Rattle.registers.specs.Size.{arc_cycles_of}
use Rattle.registers.specs.declared.Registers.{Registers}
use Rattle.registers.specs.State.{State}
use Rattle.circling.proofs.DrawnLaws.{arc_drawn}
use Rattle.sending.proofs.WaitLaws.{Waiting}
use Rattle.sending.proofs.SendLaws.{Acts, acts_then}
use Rattle.sending.proofs.GroupLaws.{drawing_set, acts_figs, sends_dc, sends_d, sends_d2, sends_d1, sends_dm}
use Rattle.demand.proofs.DrawsLaws.{Held, Draws, draws_as, draws_nothing, draws_both, draws_held, base}
use Rattle.demand.proofs.ArcLaws.{arc_law}

-- ---- a circle's arcs
-- their registers
abbrev arc_drawing : ℕ → ℕ → Drawing
arc_drawing r dir =
    record { kind = 4; dir = dir; gd = false; dc = arc_dc r dir; d = r - 1; d2 = 2 * (r - 1); d1 = 16383; dm = arc_dm dir }

module _ (p h : ℕ) (sized : Sized p h) (op : Operation) (c : Point) (r : ℕ) (some : 0 < r) (few : r ≤ 2000) (left : r ≤ c.x)
    (top : r ≤ c.y)
    (right : c.x + r < 16 * p) (low : c.y + r < h) where
  starts : (dir : ℕ) → dir < 8 → InPlane p h (end_x c.x r dir) (end_y c.y r dir)
  starts dir b = circle_plane c.x c.y r p h right low _ _ (circle_end c.x c.y r some left top dir b)

  dc_lt : (dir : ℕ) → arc_dc r dir < 2001
  dc_lt dir = omega (arith, at_most r dir (arc_dc r dir) (omega arith), largest_le r)

  dm_lt : (dir : ℕ) → arc_dm dir < 2
  unfolding arc_dm
  dm_lt dir = omega arith

  module _ (s : State) (held : Held p h s) (is : s.regs.op ≡ op) (dir : ℕ) (b : dir < 8) where
    abbrev before : Registers
    before = base p h sized s held op is (arc_start c r dir) (starts dir b)

    sets : Waiting before → Acts before (arc_figs dir (arc_dc r dir) r (arc_dm dir)) (drawing_set before (arc_drawing r dir) 11)
    sets v =
        let one = acts_figs v (0x20 + dir) 4 dir (omega arith) (omega arith) (omega arith) in
        let dc = sends_dc one.waits (arc_dc r dir) (omega (arith, dc_lt dir)) refl in
        let d = sends_d dc.waits (r - 1) (omega arith) refl in
        let d2 = sends_d2 d.waits (2 * (r - 1)) (omega arith) refl in
        let d1 = sends_d1 d2.waits 16383 (omega arith) refl in
        acts_then one
        (acts_then dc (acts_then d (acts_then d2 (acts_then d1 (sends_dm d1.waits (arc_dm dir) (omega (arith, dm_lt dir)) refl)))))

    cycles_are : suc (arc_dc r dir) - arc_dm dir ≡ arc_cycles_of (arc_drawing r dir)
    unfolding arc_cycles_of
    cycles_are = omega arith

    one_arc : Draws p h op (arc_on c.x c.y r dir) solid s (arc_entries p c r dir) (arc_dots r dir)
    unfolding arc_entries
    one_arc =
        draws_as (λ x y. refl) (omega (arith, cycles_are))
        (arc_law p h sized s held op is (arc_start c r dir) (starts dir b) (arc_figs dir (arc_dc r dir) r (arc_dm dir))
        (arc_drawing r dir) 11
        (arc_on c.x c.y r dir) sets refl (omega (arith, cycles_are, dc_lt dir))
        (λ t ones. rw (← cycles_are) (arc_drawn c.x c.y r some few left top p h right low sized
        s.regs.board.wiring op s.mem held.room dir b t ones)))

  -- n arcs from dir on: their dots, and how many
  abbrev from_on : ℕ → ℕ → Shape
  from_on zero dir = λ x y. false
  from_on (suc n) dir = either_on (arc_on c.x c.y r dir) (from_on n (suc dir))

  abbrev dots_from : ℕ → ℕ → ℕ
  dots_from zero dir = 0
  dots_from (suc n) dir = arc_dots r dir + dots_from n (suc dir)

  from_found : (n dir x y : ℕ) → from_on n dir x y ≡ true → (k : ℕ) × (dir ≤ k) × (k < dir + n) × (arc_on c.x c.y r k x y ≡ true)
  from_found zero dir x y e = absurd (true≢false (sym e))
  from_found (suc n) dir x y e =
      or_cases (arc_on c.x c.y r dir x y) (from_on n (suc dir) x y) e
      (λ q. (dir, omega arith, omega arith, q))
      (λ q. let f = from_found n (suc dir) x y q in (f.0, omega (arith, f.1), omega (arith, f.2), f.3))

  from_at : (n dir k x y : ℕ) → dir ≤ k → k < dir + n → arc_on c.x c.y r k x y ≡ true → from_on n dir x y ≡ true
  from_at zero dir k x y l u e = absurd (omega arith)
  from_at (suc n) dir k x y l u e = go (ℕ_discrete k dir) (λ m v. from_at n (suc dir) k x y m v e)
    where
      go : Dec (k ≡ dir) → (suc dir ≤ k → k < suc dir + n → from_on n (suc dir) x y ≡ true)
          → (arc_on c.x c.y r dir x y || from_on n (suc dir) x y) ≡ true
      go (yes z) later = rw (ap (λ (j : ℕ). arc_on c.x c.y r j x y) (sym z) ∙ e)
      go (no z) later = or_right (arc_on c.x c.y r dir x y) (from_on n (suc dir) x y) (later (omega arith) (omega arith))

  -- no dot of an arc is a later one's
  apart : (n dir : ℕ) → suc dir + n ≤ 8 → (x y : ℕ) → arc_on c.x c.y r dir x y ≡ true → from_on n (suc dir) x y ≡ false
  apart n dir b x y e = go (from_on n (suc dir) x y) refl
    where
      go : (t : Bool) → from_on n (suc dir) x y ≡ t → t ≡ false
      go false q = refl
      go true q =
          let f = from_found n (suc dir) x y q in
          absurd (arcs_disjoint c.x c.y r some left top dir f.0 (omega (arith, f.1)) (omega (arith, f.2)) x y e f.3)

  arcs_law : (n dir : ℕ) → dir + n ≤ 8 → (s : State) → Held p h s → s.regs.op ≡ op
      → Draws p h op (from_on n dir) solid s (arcs_from p c r n dir) (dots_from n dir)
  unfolding arcs_from
  arcs_law zero dir b s held is = draws_nothing s held is
  arcs_law (suc n) dir b s held is =
      let one = one_arc s held is dir (omega arith) in
      draws_both (apart n dir (omega arith)) one (arcs_law n (suc dir) (omega arith) one.after (draws_held held one) one.keeps)

  -- all eight
  whole : (x y : ℕ) → from_on 8 0 x y ≡ circle_on c.x c.y r x y
  whole x y =
      same_test (from_on 8 0 x y) (some_to 7 (λ dir. arc_on c.x c.y r dir x y))
      (λ e. let f = from_found 8 0 x y e in some_at (λ dir. arc_on c.x c.y r dir x y) 7 f.0 (omega (arith, f.2)) f.3)
      (λ e. let f = some_found (λ dir. arc_on c.x c.y r dir x y) 7 e in
      from_at 8 0 f.0 x y (omega arith) (omega (arith, f.1)) f.2)
      ∙ circle_is c.x c.y r some left top x y

  counts : (t : Bool) → 8 * largest r + cond t 0 4 ≡ 8 * largest r + 4 - cond t 4 0
  counts true = omega arith
  counts false = omega arith

  pub circle_law : (s : State) → Held p h s → s.regs.op ≡ op
      → Draws p h op (circle_on c.x c.y r) solid s (circle_entries p c r) (8 * largest r + 4 - cond (coincide r) 4 0)
  unfolding circle_entries
  circle_law s held is =
      draws_as whole (omega (arith, circle_dots_law r some, counts (coincide r))) (arcs_law 8 0 (omega arith) s held is)
