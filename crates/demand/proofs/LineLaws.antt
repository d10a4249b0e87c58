-- A line, from its first entry to its last dot: nine bytes of FIGS set DIR, N, D, D2 and D1; they fit an octant, whatever the ends;
-- and the controller's walk is then the line that 01 says.
use mathlib.Core.Path.{◌≡◌, refl, subst}
use mathlib.Core.Bool.{false}
use mathlib.Core.List.{List, ◌∷◌, ◌++◌}
use Prim.Native.Nat.{ℕ, suc, ◌+◌, ◌*◌, ◌<◌}
use native.Mathlib.Omega.{arith}
use Rattle.dots.specs.declared.Operation.{Operation}
use Rattle.dots.specs.Dot.{cursor_at}
use Rattle.dots.proofs.DotLaws.{address}
use Rattle.geometry.specs.Plane.{InPlane, solid, line_on}
use Rattle.geometry.proofs.WalkLaws.{Sized}
use Rattle.geometry.proofs.LineLaws.{major_lt, line_drawn}
use Rattle.records.specs.declared.Point.{Point}
use Rattle.entries.specs.declared.Slope.{Slope}
use Rattle.entries.specs.Entries.{both, minus14, slope_of, line_entries}
use Rattle.registers.specs.declared.Drawing.{Drawing}
use Rattle.registers.specs.Size.{dots_of}
use Rattle.registers.specs.State.{State}
use Rattle.sending.proofs.WaitLaws.{Waiting}
use Rattle.sending.proofs.SendLaws.{Acts, acts_then}
use Rattle.sending.proofs.GroupLaws.{drawing_set, acts_figs, sends_dc, sends_d, sends_d2, sends_d1}
use Rattle.demand.proofs.DrawsLaws.{Held, Draws, base, figd_law}
use Rattle.demand.proofs.SlopeLaws.{Fit, fit, dir_lt, line_steps}

-- a line's registers
abbrev line_drawing : ℕ → ℕ → ℕ → Drawing
line_drawing dir n m =
    record {
      kind = 1;
      dir = dir;
      gd = false;
      dc = n;
      d = minus14 (2 * m) n;
      d2 = minus14 (2 * m) (2 * n);
      d1 = 2 * m;
      dm = 16383;
    }

module _ (p h : ℕ) (sized : Sized p h) (s : State) (held : Held p h s) (op : Operation) (is : s.regs.op ≡ op) (a b : Point)
    (ia : InPlane p h a.x a.y) (ib : InPlane p h b.x b.y) where
  abbrev k : Slope
  k = slope_of a b

  v : Fit a b k
  v = fit a b

  n_lt : k.major < 4096
  n_lt = major_lt v.octant p h sized ia ib

  small : k.dir < 8
  small = subst (λ (d : ℕ). d < 8) v.dir (dir_lt v.octant.across v.octant.right v.octant.down)

  abbrev figs : List ℕ
  figs = 0x14C ∷ (8 + k.dir) ∷ both k.major ++ both (minus14 (2 * k.minor) k.major) ++ both
      (minus14 (2 * k.minor) (2 * k.major)) ++ both (2 * k.minor)

  sets : Waiting (base p h sized s held op is a ia) → Acts (base p h sized s held op is a ia) figs
      (drawing_set (base p h sized s held op is a ia) (line_drawing k.dir k.major k.minor) 9)
  sets w =
      let first = acts_figs w (8 + k.dir) 1 k.dir (omega (arith, small)) (omega (arith, small)) (omega (arith, small)) in
      let dc = sends_dc first.waits k.major (omega (arith, n_lt)) refl in
      let d = sends_d dc.waits (minus14 (2 * k.minor) k.major) (omega arith) refl in
      let d2 = sends_d2 d.waits (minus14 (2 * k.minor) (2 * k.major)) (omega arith) refl in
      acts_then first
      (acts_then dc (acts_then d (acts_then d2 (sends_d1 d2.waits (2 * k.minor) (omega (arith, n_lt, v.octant.le)) refl))))

  pub line_law : Draws p h op (line_on a.x a.y b.x b.y) solid s (line_entries p a b) (suc k.major)
  unfolding line_entries dots_of
  line_law =
      figd_law p h sized s held op is a ia figs (line_drawing k.dir k.major k.minor) 9 k.major
      (line_on a.x a.y b.x b.y) sets (omega arith) (omega (arith, n_lt))
      (λ t ones. line_drawn v.octant s.regs.board.wiring op p h sized s.mem held.room ia ib k.dir
      v.dir t _ (cursor_at (address p a.x a.y)) refl (λ i j l. ones i j)
      (λ i l. line_steps (line_drawing k.dir k.major k.minor) k.major k.minor refl (omega (arith, n_lt)) refl
      (omega (arith, n_lt)) small i))
