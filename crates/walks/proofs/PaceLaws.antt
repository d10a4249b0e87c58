-- The loop over what stands for a place: what is left to do from here is what was to do from the start.
use mathlib.Core.Path.{◌≡◌}
use mathlib.Core.List.{List}
use Prim.Native.Nat.{ℕ, zero, suc, ◌+◌, ◌-◌, ◌<◌, ◌≤◌}
use native.Mathlib.Omega.{arith}
use Rattle.dots.specs.declared.Wiring.{Wiring}
use Rattle.dots.specs.declared.Operation.{Operation}
use Rattle.dots.specs.Cycle.{cycled}
use Rattle.dots.specs.Dot.{cursor_at}
use Rattle.figures.specs.Figure.{pattern_of}
use Rattle.walks.specs.Pace.{paced, pace_walk}

module _ {P : Type 0} (at : P → ℕ) (on : P → P) (w : Wiring) (op : Operation) (low high end : ℕ) where
  pub pace_on : {x : ℕ} {q : P} {l : List ℕ} (p : P) (m : List ℕ) (i : ℕ) → i < end → x ≡ pattern_of low high i
      → l ≡ cycled w op x (cursor_at (at p)) m → q ≡ on p
      → pace_walk at on w op low high (end - i) i p m ≡ pace_walk at on w op low high (end - (i + 1)) (i + 1) q l
  unfolding pace_walk
  pace_on p m i h ex el eq = let j : end - i ≡ suc (end - (i + 1)) = omega arith in rw (j, eq, el, ex)

  pub pace_end : (p : P) (m : List ℕ) (i : ℕ) → end ≤ i → paced p m ≡ pace_walk at on w op low high (end - i) i p m
  unfolding pace_walk
  pace_end p m i h = let j : end - i ≡ zero = omega arith in rw j
