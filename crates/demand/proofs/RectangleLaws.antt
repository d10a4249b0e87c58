-- A rectangle with both sides over 1, from its first entry to its last dot: eleven bytes of FIGS set the sides, and the controller's
-- walk round them is the border.
use mathlib.Core.Path.{◌≡◌, refl, ap, ap₂, ◌∙◌}
use mathlib.Core.Bool.{false}
use mathlib.Core.List.{List, ◌∷◌, ◌++◌}
use Prim.Native.Nat.{ℕ, ◌+◌, ◌-◌, ◌*◌, ◌%◌, ◌<◌}
use native.Mathlib.Nat.{mod-eq_of_lt}
use native.Mathlib.Omega.{arith}
use lib.Dec.{ltb}
use Rattle.dots.specs.declared.Operation.{Operation}
use Rattle.dots.specs.Dot.{cursor_at}
use Rattle.dots.proofs.DotLaws.{address}
use Rattle.geometry.specs.Plane.{InPlane, solid, border_on}
use Rattle.geometry.proofs.TestLaws.{cases}
use Rattle.geometry.proofs.WalkLaws.{Sized}
use Rattle.geometry.proofs.RectangleLaws.{side_dirs, rectangle_drawn}
use Rattle.records.specs.declared.Point.{Point}
use Rattle.entries.specs.Entries.{both, distance, rectangle_entries}
use Rattle.registers.specs.declared.Drawing.{Drawing}
use Rattle.registers.specs.Size.{dots_of}
use Rattle.registers.specs.State.{State}
use Rattle.figures.specs.Figure.{side_of, direction_at}
use Rattle.sending.proofs.WaitLaws.{Waiting}
use Rattle.sending.proofs.SendLaws.{Acts, acts_then}
use Rattle.sending.proofs.GroupLaws.{drawing_set, acts_figs, sends_dc, sends_d, sends_d2, sends_d1, sends_dm}
use Rattle.sending.proofs.DrawLaws.{step_at}
use Rattle.demand.proofs.DrawsLaws.{Held, Draws, draws_as, base, figd_law}

-- the registers of a rectangle w + 1 dots wide and g + 1 high
abbrev rectangle_drawing : ℕ → ℕ → Drawing
rectangle_drawing w g = record { kind = 8; dir = 0; gd = false; dc = 3; d = g; d2 = w; d1 = 16383; dm = g }

side_lt : (d e i : ℕ) → side_dirs d e i < 8
unfolding side_dirs
side_lt d e i =
    cases (λ (k : ℕ). k < 8) (ltb i d) (λ q. omega arith)
    (λ q. cases (λ (k : ℕ). k < 8) (ltb i (d + e)) (λ q. omega arith)
    (λ q. cases (λ (k : ℕ). k < 8) (ltb i (d + e + d)) (λ q. omega arith) (λ q. omega arith)))

side_steps : (w g i : ℕ) → step_at (rectangle_drawing w g) i ≡ side_dirs g w i
unfolding direction_at side_of side_dirs
side_steps w g i = ap (λ (k : ℕ). k % 8) (omega arith) ∙ mod-eq_of_lt (side_lt g w i)

module _ (p h : ℕ) (sized : Sized p h) (s : State) (held : Held p h s) (op : Operation) (is : s.regs.op ≡ op) (a b : Point)
    (ia : InPlane p h a.x a.y) (ib : InPlane p h b.x b.y) (wide : a.x < b.x) (tall : a.y < b.y) where
  abbrev w : ℕ
  w = distance a.x b.x

  abbrev g : ℕ
  g = distance a.y b.y

  w_lt : w < 4096
  w_lt = omega (arith, ib.column, sized.wide)

  g_lt : g < 4096
  g_lt = omega (arith, ib.row, sized.tall)

  abbrev figs : List ℕ
  figs = 0x14C ∷ 0x40 ∷ both 3 ++ both g ++ both w ++ 0xFF ∷ 0x3F ∷ both g

  sets : Waiting (base p h sized s held op is a ia) → Acts (base p h sized s held op is a ia) figs
      (drawing_set (base p h sized s held op is a ia) (rectangle_drawing w g) 11)
  sets v =
      let first = acts_figs v 0x40 8 0 (omega arith) refl refl in
      let dc = sends_dc first.waits 3 (omega arith) refl in
      let d = sends_d dc.waits g (omega (arith, g_lt)) refl in
      let d2 = sends_d2 d.waits w (omega (arith, w_lt)) refl in
      let d1 = sends_d1 d2.waits 16383 (omega arith) refl in
      acts_then first (acts_then dc (acts_then d (acts_then d2 (acts_then d1 (sends_dm d1.waits g (omega (arith, g_lt)) refl)))))

  pub rectangle_law : Draws p h op (border_on a.x a.y b.x b.y) solid s (rectangle_entries p a w g) (2 * (w + g))
  unfolding rectangle_entries dots_of
  rectangle_law =
      draws_as (λ x y. ap₂ (λ (u v : ℕ). border_on a.x a.y u v x y) (omega arith) (omega arith)) (omega arith)
      (figd_law p h sized s held op is a ia figs (rectangle_drawing w g) 11 (g + w + g + w - 1)
      (border_on a.x a.y (a.x + w) (a.y + g)) sets (omega arith) (omega (arith, w_lt, g_lt))
      (λ t ones. rectangle_drawn s.regs.board.wiring op p h sized s.mem held.room a.x a.y g w (g + w + g + w - 1)
      (omega arith) (omega arith)
      (record { column = omega (arith, ib.column); row = omega (arith, ib.row) })
      (omega arith) t _ (cursor_at (address p a.x a.y)) refl (λ i j l. ones i j)
      (λ i l. side_steps w g i)))
