-- Dots by what stands for their place, each with the step after it: what the one loop computes for a line, a side, a row and an arc.
use Rattle.std.specs.Prelude.{ℕ, zero, suc, ◌+◌, List, get_or}
use Rattle.dots.specs.declared.Wiring.{Wiring}
use Rattle.dots.specs.declared.Operation.{Operation}
use Rattle.dots.specs.Cycle.{cycled}
use Rattle.dots.specs.Dot.{cursor_at}
use Rattle.figures.specs.Figure.{pattern_of}
use Rattle.walks.specs.declared.Brush.{Brush}
use Rattle.walks.specs.declared.pace.Stroke.{Stroke}

-- what stands for a place, and the memory
pub record Paced (P : Type 0) : Type 0 where
  pub place : P
  pub mem : List ℕ

abbrev pub paced : {P : Type 0} → P → List ℕ → Paced P
paced p m = record { place = p; mem = m }

-- n dots from dot k on, each with the step after it
unfoldable pub pace_walk : {P : Type 0} → (P → ℕ) → (P → P) → Wiring → Operation → ℕ → ℕ → ℕ → ℕ → P → List ℕ → Paced P
pace_walk at on w op low high zero k p m = paced p m
pace_walk at on w op low high (suc n) k p m =
    pace_walk at on w op low high n (k + 1) (on p) (cycled w op (pattern_of low high k) (cursor_at (at p)) m)

-- what a figure's dots are drawn with: the pattern is RAM 8 and 9
abbrev pub stroke_of : Brush → Stroke
stroke_of b = record { wiring = b.wiring; op = b.op; low = get_or b.ram 8 0; high = get_or b.ram 9 0 }
