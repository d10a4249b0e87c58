-- The loop over bit addresses: the mask that the table has is the bit address's; and a walk by a line's place, or by a place along one
-- direction, is the walk of its number.
use mathlib.Core.Path.{◌≡◌, refl, ap, ◌∙◌}
use mathlib.Core.List.{List}
use Prim.Native.Nat.{ℕ, zero, suc, ◌+◌, ◌/◌, ◌%◌, ◌<◌}
use native.Mathlib.Omega.{arith}
use lib.ListN.{get_or}
use Rattle.dots.specs.declared.Wiring.{Wiring}
use Rattle.dots.specs.declared.Operation.{Operation}
use Rattle.dots.specs.Cycle.{cycled}
use Rattle.dots.specs.Dot.{cursor_at}
use Rattle.dots.proofs.MaskLaws.{masks, mask_at}
use Rattle.figures.specs.Figure.{pattern_of}
use Rattle.walks.specs.declared.line.Line.{Line}
use Rattle.walks.specs.declared.side.Straight.{Straight}
use Rattle.walks.specs.declared.pace.Stroke.{Stroke}
use Rattle.walks.specs.Address.{kept, Walked, walked, line_walk, straight_walk}
use Rattle.walks.specs.Line.{line_at, line_on}
use Rattle.walks.specs.Straight.{straight_at, straight_on}
use Rattle.walks.specs.Pace.{Paced, paced, pace_walk}

-- what wraps at 64 bits is not kept
pub kept_wraps : (t : ℕ) → kept (t % 18446744073709551616) ≡ kept t
unfolding kept
kept_wraps t = omega arith

-- a cycle with the mask that the table has is one at the bit address
pub cycle_at : (w : Wiring) (op : Operation) (a p : ℕ) (m l : List ℕ) {o : Operation} → o ≡ op
    → l ≡ cycled w o p (record { ead = a / 16; mask = get_or masks (a % 16) 0 }) m → l ≡ cycled w op p (cursor_at a) m
cycle_at w op a p m l eo e = e ∙ (λ i. cycled w (eo i) p (record { ead = a / 16; mask = mask_at (a % 16) (omega arith) i }) m)

module _ (w : Wiring) (op : Operation) (low high : ℕ) where
  abbrev stroke : Stroke
  stroke = record { wiring = w; op = op; low = low; high = high }

  abbrev lined : Paced Line → Walked
  lined v = walked v.place.place v.mem

  line_same : (n k : ℕ) (p : Line) (m : List ℕ)
      → lined (pace_walk line_at line_on w op low high n k p m) ≡ line_walk w op low high p.axis p.diagonal n k p.place m
  unfolding pace_walk line_walk
  line_same zero k p m = refl
  line_same (suc n) k p m = line_same n (k + 1) (line_on p) (cycled w op (pattern_of low high k) (cursor_at (line_at p)) m)

  pub line_walked : (n k : ℕ) (p : Line) (m l : List ℕ) {s : Stroke} {q : Line} → s ≡ stroke
      → paced q l ≡ pace_walk line_at line_on s.wiring s.op s.low s.high n k p m
      → walked q.place l ≡ line_walk w op low high p.axis p.diagonal n k p.place m
  line_walked n k p m l es e =
      ap lined (e ∙ ap (λ (s : Stroke). pace_walk line_at line_on s.wiring s.op s.low s.high n k p m) es) ∙ line_same n k p m

  abbrev straightened : Paced Straight → Walked
  straightened v = walked v.place.at v.mem

  straight_same : (n k : ℕ) (p : Straight) (m : List ℕ)
      → straightened (pace_walk straight_at straight_on w op low high n k p m) ≡ straight_walk w op low high p.step n k p.at m
  unfolding pace_walk straight_walk
  straight_same zero k p m = refl
  straight_same (suc n) k p m = straight_same n (k + 1) (straight_on p) (cycled w op (pattern_of low high k) (cursor_at p.at) m)

  pub straight_walked : (n k : ℕ) (p : Straight) (m l : List ℕ) {s : Stroke} {q : Straight} → s ≡ stroke
      → paced q l ≡ pace_walk straight_at straight_on s.wiring s.op s.low s.high n k p m
      → walked q.at l ≡ straight_walk w op low high p.step n k p.at m
  straight_walked n k p m l es e =
      ap straightened (e ∙ ap (λ (s : Stroke). pace_walk straight_at straight_on s.wiring s.op s.low s.high n k p m) es)
      ∙ straight_same n k p m

  -- the bit address stays within 22 bits
  straight_small : (step n k a : ℕ) (m : List ℕ) → a < 4194304 → (straight_walk w op low high step n k a m).at < 4194304
  unfolding straight_walk
  straight_small step zero k a m p = p
  straight_small step (suc n) k a m p =
      straight_small step n (k + 1) ((a + step) % 4194304) (cycled w op (pattern_of low high k) (cursor_at a) m) (omega arith)

  pub straight_lt : (step n k a q : ℕ) (m l : List ℕ) → a < 4194304 → walked q l ≡ straight_walk w op low high step n k a m → q < 4194304
  straight_lt step n k a q m l p e =
      let f : q ≡ (straight_walk w op low high step n k a m).at = ap (λ (x : Walked). x.at) e in
      omega (arith, straight_small step n k a m p)
