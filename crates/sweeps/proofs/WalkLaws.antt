-- The dots of an arc by its place are the cursor's, since each move of the place is one of the arc (`stands_on`).
use mathlib.Core.Path.{◌≡◌, refl, ap, ◌∙◌}
use mathlib.Core.List.{List}
use Prim.Native.Nat.{ℕ, zero, suc, ◌+◌, ◌<◌}
use lib.ListN.{get_or}
use Rattle.dots.specs.declared.Wiring.{Wiring}
use Rattle.dots.specs.declared.Operation.{Operation}
use Rattle.dots.specs.declared.Cursor.{Cursor}
use Rattle.dots.specs.Cycle.{cycled}
use Rattle.dots.specs.Dot.{cursor_at}
use Rattle.figures.specs.Figure.{pattern_of, pattern_at, axis_of, diagonal_of}
use Rattle.arcs.specs.declared.Moving.{Moving}
use Rattle.walks.specs.declared.Brush.{Brush}
use Rattle.walks.specs.declared.pace.Stroke.{Stroke}
use Rattle.walks.specs.Address.{Stride}
use Rattle.walks.specs.Pace.{Paced, paced, pace_walk, stroke_of}
use Rattle.walks.proofs.BitLaws.{stride_small}
use Rattle.passes.specs.declared.Place.{Place}
use Rattle.passes.specs.Place.{place_on, place_of, standing_at, Stands}
use Rattle.passes.proofs.PlaceLaws.{Standing, stands_for, stands_at, stands_on, stands_first}
use Rattle.sweeps.specs.Sweep.{Swept, swept, on_by, arc_walk}
use Rattle.sweeps.specs.declared.bits.Curve.{Curve}
use Rattle.sweeps.specs.Place.{Placed, placed, place_walk}
use Rattle.sweeps.specs.Curve.{curve_at, curve_on}

-- a walk by a place with its axis is the walk of the place
module _ (w : Wiring) (op : Operation) (low high : ℕ) where
  abbrev pub curved : Paced Curve → Placed
  curved v = placed v.place.place v.mem

  pub curve_same : (n i : ℕ) (p : Curve) (m : List ℕ)
      → curved (pace_walk curve_at curve_on w op low high n i p m) ≡ place_walk w op low high p.axis n i p.place m
  unfolding pace_walk place_walk
  curve_same zero i p m = refl
  curve_same (suc n) i p m = curve_same n (i + 1) (curve_on p) (cycled w op (pattern_of low high i) (cursor_at (curve_at p)) m)

module _ (b : Brush) (axis diagonal : ℕ) {u v : ℕ} (eu : u ≡ axis_of b.drawing.dir) (sx : Stride u b.pitch axis)
    (ev : v ≡ diagonal_of b.drawing.dir) (sy : Stride v b.pitch diagonal) where
  abbrev low : ℕ
  low = get_or b.ram 8 0

  abbrev high : ℕ
  high = get_or b.ram 9 0

  abbrev swept_by : Placed → Swept
  swept_by w = swept (standing_at w.place) w.mem

  places_walk : (n i : ℕ) (m : Moving) (p : Place) (l : List ℕ) → Standing diagonal m p
      → swept_by (place_walk b.wiring b.op low high axis n i p l) ≡ arc_walk b n i m l
  unfolding place_walk arc_walk pattern_at
  places_walk zero i m p l s = ap (λ (w : Moving). swept w l) (stands_for diagonal m p (stride_small sy) s)
  places_walk (suc n) i m p l s =
      places_walk n (i + 1) (on_by b m) (place_on axis p) _ (stands_on b.drawing.dir b.pitch axis diagonal eu sx ev sy m p s)
      ∙ ap (λ (c : Cursor). arc_walk b n (i + 1) (on_by b m) (cycled b.wiring b.op (pattern_of low high i) c l))
      (stands_at diagonal m p s)

  -- over what the calls of the code ensure
  pub bits_walk : (n i : ℕ) (m : Moving) (a : ℕ) (l t : List ℕ) {s : Stroke} {p : Place} {q : Curve} {w : Moving} → Stands m a
      → a < 4194304 → p ≡ place_of diagonal a m.running → s ≡ stroke_of b
      → paced q t ≡ pace_walk curve_at curve_on s.wiring s.op s.low s.high n i (record { place = p; axis = axis }) l
      → w ≡ standing_at q.place → swept w t ≡ arc_walk b n i m l
  bits_walk n i m a l t {s} {p} {q} z k ep es eq ew =
      let c : Curve = record { place = p; axis = axis } in
      ap (λ (v : Moving). swept v t) ew
      ∙ ap (λ (v : Paced Curve). swept_by (curved b.wiring b.op low high v))
      (eq ∙ ap (λ (s : Stroke). pace_walk curve_at curve_on s.wiring s.op s.low s.high n i c l) es)
      ∙ ap swept_by (curve_same b.wiring b.op low high n i c l)
      ∙ places_walk n i m p l (stands_first b.drawing.dir b.pitch axis diagonal eu sx ev sy m a z k ep)
