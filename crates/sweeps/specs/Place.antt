-- The dots of an arc by its place: what the fast loop computes. proofs/WalkLaws shows that these are the dots of the cursor.
use Rattle.std.specs.Prelude.{ℕ, zero, suc, ◌+◌, ◌%◌, List}
use Rattle.dots.specs.declared.Wiring.{Wiring}
use Rattle.dots.specs.declared.Operation.{Operation}
use Rattle.dots.specs.Cycle.{cycled}
use Rattle.dots.specs.Dot.{cursor_at}
use Rattle.figures.specs.Figure.{pattern_of}
use Rattle.passes.specs.declared.Place.{Place}
use Rattle.passes.specs.Place.{place_on}

-- n dots from dot i on, each with the move after it
pub record Placed : Type 0 where
  pub place : Place
  pub mem : List ℕ

abbrev pub placed : Place → List ℕ → Placed
placed p m = record { place = p; mem = m }

unfoldable pub place_walk : Wiring → Operation → ℕ → ℕ → ℕ → ℕ → ℕ → Place → List ℕ → Placed
place_walk w op low high axis zero i p m = placed p m
place_walk w op low high axis (suc n) i p m =
    place_walk w op low high axis n (i + 1) (place_on axis p) (cycled w op (pattern_of low high i) (cursor_at (p.at % 4194304)) m)
