-- Dots before an arc's last are as many units of it. The first unit alone makes the moves of the dots passed over; what is drawn from
-- where they lead is a walk, and a dot's pattern bit is told by its number modulo 16.
use mathlib.Core.Path.{◌≡◌, refl, sym, ap, ◌∙◌}
use mathlib.Core.Bool.{Bool, true, false, cond}
use mathlib.Core.List.{List}
use Prim.Native.Nat.{ℕ, zero, suc, ◌+◌, ◌-◌, ◌%◌, ◌≤◌, ◌<◌}
use native.Mathlib.Decide.{dec_lt}
use native.Mathlib.Omega.{arith}
use lib.Dec.{eqb, eqb-suc-zero}
use borrow.Author.Tests.{lt-ltb, le-ltb}
use Rattle.registers.specs.declared.Work.TheVariants.{Idle, Arc}
use Rattle.registers.specs.declared.Drawing.{Drawing}
use Rattle.registers.specs.Size.{arc_kind, arc_cycles_of}
use Rattle.figures.specs.Figure.{pattern_of, pattern_at}
use Rattle.arcs.specs.declared.Moving.{Moving}
use Rattle.walks.specs.declared.Brush.{Brush}
use Rattle.walks.specs.Walk.{least, dotted}
use Rattle.walks.proofs.LeastLaws.{is_least}
use Rattle.bursts.specs.Burst.{Drawn, later}
use Rattle.bursts.proofs.BurstLaws.{later_later}
use Rattle.bursts.proofs.CountLaws.{Counted, counted_none, counted_one, counted_more, count_of}
use Rattle.sweeps.specs.Sweep.{met_by, bent, on_by, arc_burst, Swept, swept, arc_walk}

-- an arc has at most 65,536 cycles
pub few_cycles : (f : Drawing) → f.dc < 65536 → arc_cycles_of f ≤ 65536
unfolding arc_cycles_of
few_cycles f h = go (eqb f.kind arc_kind)
  where
    go : (t : Bool) → cond t (f.dc + 1 - f.dm) 0 ≤ 65536
    go true = omega arith
    go false = omega arith

-- ---- the plain loop
module _ (b : Brush) (end : ℕ) (m : Moving) (l : List ℕ) where
  pub sweep_on : {v : Moving} {t : List ℕ} (i : ℕ) → i < end → t ≡ dotted b i m.cursor l → v ≡ on_by b m
      → arc_walk b (end - i) i m l ≡ arc_walk b (end - (i + 1)) (i + 1) v t
  unfolding arc_walk
  sweep_on i h et ev = let j : end - i ≡ suc (end - (i + 1)) = omega arith in rw (j, ev, et)

  pub sweep_end : (i : ℕ) → end ≤ i → swept m l ≡ arc_walk b (end - i) i m l
  unfolding arc_walk
  sweep_end i h = let j : end - i ≡ zero = omega arith in rw j

module _ (b : Brush) where
  -- dots by their number modulo 16
  dotted_mod : (i j : ℕ) (m : Moving) (l : List ℕ) → i % 16 ≡ j % 16 → dotted b i m.cursor l ≡ dotted b j m.cursor l
  unfolding pattern_at pattern_of
  dotted_mod i j m l e = rw e

  walk_mod : (n i j : ℕ) (m : Moving) (l : List ℕ) → i % 16 ≡ j % 16 → arc_walk b n i m l ≡ arc_walk b n j m l
  unfolding arc_walk
  walk_mod zero i j m l e = refl
  walk_mod (suc n) i j m l e =
      walk_mod n (i + 1) (j + 1) (on_by b m) (dotted b i m.cursor l) (omega arith)
      ∙ ap (arc_walk b n (j + 1) (on_by b m)) (dotted_mod i j m l e)

  -- the unit of a dot that is not the last, and of the last
  pub arc_goes : (n k : ℕ) (m : Moving) (l : List ℕ) → k + 1 < arc_cycles_of b.drawing
      → arc_burst b (suc n) k m l ≡ later 1 (arc_burst b n (k + 1) (on_by b (met_by b k m)) (bent b k (met_by b k m) l))
  unfolding arc_burst
  arc_goes n k m l h = rw (lt-ltb (k + 1) (arc_cycles_of b.drawing) h)

  pub arc_last : (n k : ℕ) (m : Moving) (l : List ℕ) → arc_cycles_of b.drawing ≤ k + 1
      → arc_burst b (suc n) k m l ≡ record { count = 1; cursor = (met_by b k m).cursor; work = Idle; mem = bent b k (met_by b k m) l }
  unfolding arc_burst
  arc_last n k m l h = rw (le-ltb (k + 1) (arc_cycles_of b.drawing) h)

  pub arc_counted : (n k : ℕ) (m : Moving) (l : List ℕ) → Counted n (arc_burst b n k m l).count
  unfolding arc_burst
  arc_counted zero k m l = counted_none refl
  arc_counted (suc n) k m l =
      go (dec_lt (k + 1) (arc_cycles_of b.drawing)) (arc_counted n (k + 1) (on_by b (met_by b k m)) (bent b k (met_by b k m) l))
    where
      go : Dec (k + 1 < arc_cycles_of b.drawing)
          → Counted n (arc_burst b n (k + 1) (on_by b (met_by b k m)) (bent b k (met_by b k m) l)).count
          → Counted (suc n) (arc_burst b (suc n) k m l).count
      go (yes h) t = counted_more n (count_of (arc_goes n k m l h)) t
      go (no h) t = counted_one n (count_of (arc_last n k m l (omega arith)))

  -- past the first cycle nothing is passed over
  met_later : (k : ℕ) (m : Moving) → met_by b (k + 1) m ≡ m
  met_later k m = let e : k + 1 ≡ suc k = omega arith in rw (e, eqb-suc-zero k)

  -- n + 1 dots before the last are n + 1 units, whatever comes after them
  arc_ahead : (n x k : ℕ) (m : Moving) (l : List ℕ) → suc n ≤ arc_cycles_of b.drawing - 1 - k
      → let w = arc_walk b (suc n) (b.drawing.dm + k) (met_by b k m) l in
      arc_burst b (suc n + x) k m l ≡ later (suc n) (arc_burst b x (k + suc n) w.moving w.mem)
  unfolding arc_walk
  arc_ahead zero x k m l h = let e : suc zero + x ≡ suc x = omega arith in
      ap (λ (j : ℕ). arc_burst b j k m l) e ∙ arc_goes x k m l (omega arith)
  arc_ahead (suc n) x k m l h =
      let e : suc (suc n) + x ≡ suc (suc n + x) = omega arith in
      let f : k + 1 + suc n ≡ k + suc (suc n) = omega arith in
      let o : 1 + suc n ≡ suc (suc n) = omega arith in
      let i : b.drawing.dm + (k + 1) ≡ b.drawing.dm + k + 1 = omega arith in
      let v = on_by b (met_by b k m) in
      let t = bent b k (met_by b k m) l in
      let w = arc_walk b (suc n) (b.drawing.dm + k + 1) v t in
      ap (λ (j : ℕ). arc_burst b j k m l) e
      ∙ arc_goes (suc n + x) k m l (omega arith)
      ∙ ap (later 1) (arc_ahead n x (k + 1) v t (omega arith)
      ∙ (λ j. later (suc n) (arc_burst b x (k + 1 + suc n) (arc_walk b (suc n) (i j) (met_later k v j) t).moving
      (arc_walk b (suc n) (i j) (met_later k v j) t).mem)))
      ∙ later_later 1 (suc n) _
      ∙ (λ j. later (o j) (arc_burst b x (f j) w.moving w.mem))

  -- so a burst stops after n dots, or goes on to the end
  abbrev reached : ℕ → ℕ → Moving → List ℕ → Swept
  reached n k m l = arc_walk b n (b.drawing.dm + k) (met_by b k m) l

  abbrev stops_at : ℕ → ℕ → Swept → Drawn
  stops_at n k w = record { count = n; cursor = w.moving.cursor; work = Arc (k + n) w.moving.running; mem = w.mem }

  arc_stops : (n k : ℕ) (m : Moving) (l : List ℕ) → suc n ≤ arc_cycles_of b.drawing - 1 - k
      → stops_at (suc n) k (reached (suc n) k m l) ≡ arc_burst b (suc n) k m l
  unfolding arc_burst
  arc_stops n k m l h =
      let e : suc n + 0 ≡ suc n = omega arith in
      let w = reached (suc n) k m l in
      sym ((λ i. arc_burst b (sym e i) k m l) ∙ arc_ahead n 0 k m l h
      ∙ (λ i. record { count = e i; cursor = w.moving.cursor; work = Arc (k + suc n) w.moving.running; mem = w.mem }))

  abbrev ends_at : ℕ → ℕ → Swept → Drawn
  ends_at n k w =
      record {
        count = n + 1;
        cursor = w.moving.cursor;
        work = Idle;
        mem = dotted b (b.drawing.dm + (k + n)) w.moving.cursor w.mem;
      }

  arc_ends : (x n k : ℕ) (m : Moving) (l : List ℕ) → n ≡ arc_cycles_of b.drawing - 1 - k
      → ends_at n k (reached n k m l) ≡ arc_burst b (n + suc x) k m l
  unfolding arc_walk
  arc_ends x zero k m l h =
      let e : 0 + suc x ≡ suc x = omega arith in
      let f : k + 0 ≡ k = omega arith in
      let w = met_by b k m in
      (λ i. record { count = 1; cursor = w.cursor; work = Idle; mem = bent b (f i) w l })
      ∙ sym (ap (λ (j : ℕ). arc_burst b j k m l) e ∙ arc_last x k m l (omega arith))
  arc_ends x (suc n) k m l h =
      let w = reached (suc n) k m l in
      let e : k + suc n ≡ k + n + 1 = omega arith in
      let s : met_by b (k + suc n) w.moving ≡ w.moving = ap (λ (j : ℕ). met_by b j w.moving) e ∙ met_later (k + n) w.moving in
      sym (arc_ahead n (suc x) k m l (omega arith) ∙ ap (later (suc n)) (arc_last x (k + suc n) w.moving w.mem (omega arith)
      ∙ (λ i. record { count = 1; cursor = (s i).cursor; work = Idle; mem = bent b (k + suc n) (s i) w.mem })))

  -- .. over what the calls of the code ensure
  pub arc_none : (most k : ℕ) (m : Moving) (l : List ℕ) → most ≡ 0
      → record { count = 0; cursor = m.cursor; work = Arc k m.running; mem = l } ≡ arc_burst b most k m l
  unfolding arc_burst
  arc_none most k m l e = rw e

  module _ (most k : ℕ) (m : Moving) (l : List ℕ) {n left first : ℕ} {q from : Moving} {t : List ℕ} (some : most ≡ 0 → ⊥)
      (el : left ≡ arc_cycles_of b.drawing - 1 - k) (en : n ≡ least most left) (ef : from ≡ met_by b k m)
      (ei : first ≡ b.drawing.dm + k % 16) (walks : swept q t ≡ arc_walk b (first + n - first) first from l) where
    same_dots : first % 16 ≡ (b.drawing.dm + k) % 16
    same_dots = omega arith

    walks_on : swept q t ≡ reached n k m l
    walks_on =
        let e : first + n - first ≡ n = omega arith in
        walks ∙ (λ i. arc_walk b (e i) first (ef i) l) ∙ walk_mod n first (b.drawing.dm + k) (met_by b k m) l same_dots

    pub arc_stopped : most ≤ n → record { count = n; cursor = q.cursor; work = Arc (k + n) q.running; mem = t } ≡ arc_burst b most k m l
    arc_stopped h =
        let v = is_least most left en in
        let g : n ≡ most = omega (arith, v.left) in
        let s : n ≡ suc (n - 1) = omega arith in
        ap (stops_at n k) walks_on ∙ (λ i. stops_at (s i) k (reached (s i) k m l)) ∙ arc_stops (n - 1) k m l (omega (arith, v.right))
        ∙ (λ i. arc_burst b (sym s i) k m l) ∙ ap (λ (j : ℕ). arc_burst b j k m l) g

    pub arc_ended_law : {o : List ℕ} → n < most → o ≡ dotted b (first + n) q.cursor t
        → record { count = n + 1; cursor = q.cursor; work = Idle; mem = o } ≡ arc_burst b most k m l
    arc_ended_law h a =
        let v = is_least most left en in
        let z : n ≡ arc_cycles_of b.drawing - 1 - k = v.reached h ∙ el in
        let e : n + suc (most - n - 1) ≡ most = omega arith in
        rw (a, dotted_mod (first + n) (b.drawing.dm + (k + n)) q t (omega arith))
        (ap (ends_at n k) walks_on ∙ arc_ends (most - n - 1) n k m l z ∙ ap (λ (j : ℕ). arc_burst b j k m l) e)
