-- A unit of an arc keeps the registers lawful and the memory's words: the moves keep cursor and running registers within their widths,
-- and the place goes on only where the next one is inside too.
use mathlib.Core.Path.{◌≡◌}
use Prim.Native.Nat.{ℕ, ◌+◌, ◌-◌}
use native.Mathlib.Omega.{arith}
use lib.Dec.{eqb, ltb}
use borrow.Author.Tests.{ltb-true, ltb-false}
use Rattle.registers.specs.declared.Board.{Board}
use Rattle.registers.specs.declared.Running.{Running}
use Rattle.registers.specs.declared.Registers.{Registers}
use Rattle.registers.specs.declared.Work.TheVariants.{Arc}
use Rattle.registers.specs.Size.{arc_cycles_of}
use Rattle.registers.specs.Put.{put_cursor}
use Rattle.registers.specs.State.{State}
use Rattle.figures.specs.Figure.{pattern_at}
use Rattle.arcs.specs.declared.Moving.{Moving}
use Rattle.arcs.specs.Arc.{moved_on}
use Rattle.arcs.specs.Unit.{moving, meets, arc_moved, arc_unit}
use Rattle.laws.proofs.BranchLaws.{either, cases}
use Rattle.units.specs.Unit.{fewer_left, one_fewer}
use Rattle.laws.proofs.KeptLaws.{Going, SoundSet, Whole, cursor_kept, work_kept, ends, cycle_kept}
use Rattle.laws.proofs.KeptMoveLaws.{MovingFits, moved_fits, passed_fits}

module _ {board : Board} (r : Registers) (l : SoundSet board r) (k : ℕ) (a : Running) (e : r.work ≡ Arc k a) where
  going : Going r.drawing r.video.zoom r.mode r.remaining (Arc k a)
  going = rw e at l.work

  abbrev met : Moving
  met = meets r.drawing r.pitch k (moving r a)

  met_fits : MovingFits met
  met_fits =
      let s : MovingFits (moving r a) = record { running = going.place.1; cursor = l.cursor } in
      either MovingFits (eqb k 0) (passed_fits r.drawing.dir r.pitch (moving r a) r.drawing.dm s) s

  there : SoundSet board (put_cursor r met.cursor)
  there = cursor_kept r l met.cursor met_fits.cursor

  arc_moves : SoundSet board (fewer_left (arc_moved k met r))
  unfolding arc_moved
  arc_moves =
      let next = moved_on r.drawing.dir r.pitch met in
      let s : MovingFits next = moved_fits r.drawing.dir r.pitch met met_fits in
      cases (λ (q : Registers). SoundSet board (fewer_left q)) (ltb (k + 1) (arc_cycles_of r.drawing))
      (λ t. work_kept (put_cursor r next.cursor) (cursor_kept r l next.cursor s.cursor) (r.remaining - 1)
      (Arc (k + 1) next.running)
      (record {
        place = (ltb-true (k + 1) (arc_cycles_of r.drawing) t, s.running);
        mode = going.mode;
        start = tt;
        count = omega (arith, going.count);
      }))
      (λ t. ends (put_cursor r met.cursor) there (omega (arith, going.count, ltb-false (k + 1) (arc_cycles_of r.drawing) t)))

pub arc_kept : {board : Board} (n k : ℕ) (a : Running) (s : State) → Whole board n s → s.regs.work ≡ Arc k a
    → Whole board n (one_fewer (arc_unit k a s))
unfolding arc_unit
arc_kept n k a s w e =
    let r = s.regs in
    let c = (met r w.regs k a e).cursor in
    cycle_kept n r.board.wiring r.op (pattern_at r.ram (r.drawing.dm + k)) (put_cursor r c)
    (fewer_left (arc_moved k (met r w.regs k a e) r)) s.mem
    (record { regs = there r w.regs k a e; words = w.words; long = w.long }) (arc_moves r w.regs k a e)
