-- An arc's moves keep the cursor and the running D, D1 and D2 within their widths, since each sum wraps below 16384; so FIGD, which puts
-- an arc in progress only where it has a dot to draw, keeps the registers lawful.
use mathlib.Core.Path.{◌≡◌, refl}
use mathlib.Core.Bool.{Bool, true, false}
use Prim.Native.Nat.{ℕ, zero, suc, ◌-◌}
use native.Mathlib.Omega.{arith}
use lib.Dec.{ltb}
use borrow.Author.Tests.{ltb-true}
use Rattle.dots.specs.Step.{Fits}
use Rattle.dots.proofs.StepLaws.{fits_step}
use Rattle.registers.specs.declared.Board.{Board}
use Rattle.registers.specs.declared.Mode.TheVariants.{Write}
use Rattle.registers.specs.declared.Running.{Running}
use Rattle.registers.specs.declared.Registers.{Registers}
use Rattle.registers.specs.declared.Work.TheVariants.{Arc}
use Rattle.registers.specs.Size.{arc_cycles_of}
use Rattle.registers.specs.Put.{put_cursor}
use Rattle.processor.specs.Command.{count_begun}
use Rattle.arcs.specs.declared.Moving.{Moving}
use Rattle.arcs.specs.Arc.{turns_b, running_by, running_on, arc_direction, moved_on, passed}
use Rattle.arcs.specs.Unit.{copied, moving, arc_begun}
use Rattle.laws.proofs.BranchLaws.{cases}
use Rattle.laws.proofs.SoundLaws.{RunningFits}
use Rattle.laws.proofs.KeptLaws.{SoundSet, cursor_kept, work_kept, count_kept}

pub record MovingFits (m : Moving) : Type 0 where
  pub running : RunningFits m.running
  pub cursor : Fits m.cursor

running_by_law : (t : Bool) (a : Running) → RunningFits a → RunningFits (running_by t a)
running_by_law true a s = record { d = omega arith; d1 = omega arith; d2 = omega arith }
running_by_law false a s = record { d = omega arith; d1 = omega arith; d2 = s.d2 }

pub moved_fits : (dir pitch : ℕ) (m : Moving) → MovingFits m → MovingFits (moved_on dir pitch m)
unfolding running_on
moved_fits dir pitch m s =
    record {
      running = running_by_law (turns_b m.running) m.running s.running;
      cursor = fits_step (arc_direction dir m.running) pitch m.cursor s.cursor;
    }

pub passed_fits : (dir pitch : ℕ) (m : Moving) (n : ℕ) → MovingFits m → MovingFits (passed dir pitch m n)
unfolding passed
passed_fits dir pitch m zero s = s
passed_fits dir pitch m (suc n) s = moved_fits dir pitch (passed dir pitch m n) (passed_fits dir pitch m n s)

module _ {board : Board} (r : Registers) (l : SoundSet board r) (write : r.mode ≡ Write) where
  copied_fits : RunningFits (copied r.drawing)
  copied_fits = record { d = l.drawing.d; d1 = l.drawing.d1; d2 = l.drawing.d2 }

  pub arc_begins : SoundSet board (count_begun (arc_begun r))
  unfolding arc_begun
  arc_begins =
      let m = moving r (copied r.drawing) in
      let c = (passed r.drawing.dir r.pitch m r.drawing.dc).cursor in
      let after : SoundSet board (put_cursor r c) =
      cursor_kept r l c (passed_fits r.drawing.dir r.pitch m r.drawing.dc
      (record { running = copied_fits; cursor = l.cursor })).cursor in
      cases (λ (q : Registers). SoundSet board (count_begun q)) (ltb 0 (arc_cycles_of r.drawing))
      (λ t. work_kept r l (arc_cycles_of r.drawing - 0) (Arc 0 (copied r.drawing))
      (record { place = (ltb-true 0 (arc_cycles_of r.drawing) t, copied_fits); mode = write; start = tt; count = refl }))
      (λ t. count_kept (put_cursor r c) after)
