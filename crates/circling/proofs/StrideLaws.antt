-- The moves of an arc, one after the other: D, D1 and D2 go on by themselves, and the cursor's moves are the walk whose steps they say.
use mathlib.Core.Path.{◌≡◌, refl, ap, ap₂, fun_ext}
use Prim.Native.Nat.{ℕ, zero, suc, ◌+◌}
use Rattle.dots.specs.declared.Cursor.{Cursor}
use Rattle.dots.specs.Step.{step_of}
use Rattle.geometry.proofs.WalkLaws.{walk}
use Rattle.registers.specs.declared.Running.{Running}
use Rattle.arcs.specs.declared.Moving.{Moving}
use Rattle.arcs.specs.Arc.{running_on, arc_direction, passed}
use Rattle.circling.specs.Midpoint.{running_after}

module _ (dir p : ℕ) (m : Moving) where
  pub passed_running : (n : ℕ) → (passed dir p m n).running ≡ running_after m.running n
  unfolding passed running_after
  passed_running zero = refl
  passed_running (suc n) = ap running_on (passed_running n)

  -- the step after dot i
  abbrev pub turning : ℕ → ℕ
  turning i = arc_direction dir (running_after m.running i)

  pub passed_cursor : (n : ℕ) → (passed dir p m n).cursor ≡ walk turning p m.cursor n
  unfolding passed walk
  passed_cursor zero = refl
  passed_cursor (suc n) =
      ap₂ (λ (a : Running) (c : Cursor). step_of (arc_direction dir a) p c) (passed_running n) (passed_cursor n)

  -- all of them, from dot k on
  pub passed_walk : (k : ℕ) → ◌≡◌ {A = ℕ → Cursor} (λ j. (passed dir p m (k + j)).cursor) (λ j. walk turning p m.cursor (k + j))
  passed_walk k = fun_ext (λ j. passed_cursor (k + j))
