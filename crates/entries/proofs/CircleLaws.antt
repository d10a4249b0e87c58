-- A circle's entries: its eight arcs put one after the other are `circle_entries`, and no arc starts past 131,071. True because an arc
-- has twenty entries, and an end lies at most a radius from the centre.
use mathlib.Core.Path.{◌≡◌, refl, sym, ap, ◌∙◌}
use mathlib.Core.Bool.{Bool, cond}
use mathlib.Core.List.{List}
use Prim.Native.Nat.{ℕ, zero, suc, ◌+◌, ◌-◌, ◌*◌, ◌%◌, ◌<◌, ◌≤◌}
use native.Mathlib.Omega.{arith}
use native.Mathlib.Numerals.{add-one}
use lib.ListN.{length}
use Rattle.circles.specs.Circle.{largest, coincide, arc_dc, end_y}
use Rattle.records.specs.declared.Point.{Point}
use Rattle.entries.specs.Entries.{placed, arc_entries, arcs_from, circle_entries}
use Rattle.entries.proofs.PutLaws.{placed_append}

-- ---- where an arc starts
pub end_small : (c r dir : ℕ) → c < 65536 → r < 65536 → dir < 8 → end_y c r dir < 131072
end_small c r zero h k l = omega arith
end_small c r (suc zero) h k l = omega arith
end_small c r (suc (suc zero)) h k l = omega arith
end_small c r (suc (suc (suc zero))) h k l = omega arith
end_small c r (suc (suc (suc (suc zero)))) h k l = omega arith
end_small c r (suc (suc (suc (suc (suc zero))))) h k l = omega arith
end_small c r (suc (suc (suc (suc (suc (suc zero)))))) h k l = omega arith
end_small c r (suc (suc (suc (suc (suc (suc (suc zero))))))) h k l = omega arith
end_small c r (suc (suc (suc (suc (suc (suc (suc (suc dir)))))))) h k l = absurd (omega arith)

-- ---- the loop of `put_circle`
pub dc_is : (r dir : ℕ) {n q : ℕ} {t : Bool} → n ≡ largest r → t ≡ coincide r → q ≡ n - cond t (dir % 2) 0 → q ≡ arc_dc r dir
unfolding arc_dc
dc_is r dir e f h = rw (← e, ← f) h

arc_size : (p : ℕ) (c : Point) (r dir : ℕ) → length (arc_entries p c r dir) ≡ 20
unfolding arc_entries
arc_size p c r dir = refl

module _ (at p : ℕ) (c : Point) (r : ℕ) where
  pub arcs_start : (o : List ℕ) → placed o at (circle_entries p c r) ≡ placed o (at + 20 * 0) (arcs_from p c r (8 - 0) 0)
  unfolding circle_entries
  arcs_start o = let f : at + 20 * 0 ≡ at = omega arith in rw f

  pub arcs_go_on : {o' : List ℕ} (o : List ℕ) (dir : ℕ) → dir < 8 → o' ≡ placed o (at + 20 * dir) (arc_entries p c r dir)
      → placed o (at + 20 * dir) (arcs_from p c r (8 - dir) dir)
      ≡ placed o' (at + 20 * (dir + 1)) (arcs_from p c r (8 - (dir + 1)) (dir + 1))
  unfolding arcs_from
  arcs_go_on o dir h e =
      let f : 8 - dir ≡ suc (8 - (dir + 1)) = omega arith in
      let g : at + 20 * (dir + 1) ≡ at + 20 * dir + length (arc_entries p c r dir) = omega (arith, arc_size p c r dir) in
      ap (λ (n : ℕ). placed o (at + 20 * dir) (arcs_from p c r n dir)) f
      ∙ sym (placed_append o (at + 20 * dir) (arc_entries p c r dir) (arcs_from p c r (8 - (dir + 1)) (suc dir)))
      ∙ rw (e, g, add-one dir)

  pub arcs_end : (o : List ℕ) (dir : ℕ) → 8 ≤ dir → o ≡ placed o (at + 20 * dir) (arcs_from p c r (8 - dir) dir)
  unfolding arcs_from placed
  arcs_end o dir h = let f : 8 - dir ≡ zero = omega arith in rw f
