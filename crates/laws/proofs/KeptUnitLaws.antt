-- A unit keeps a sound register set sound, with what its types say, of its board, and the memory's words and length; so do any number of
-- units,
-- and a run with any budget. A unit is one of those that were shown to keep it.
use mathlib.Core.Path.{◌≡◌, refl}
use mathlib.Core.Bool.{Bool, true, false}
use Prim.Native.Nat.{ℕ, zero, suc, ◌+◌}
use lib.Dec.{eqb}
use Rattle.registers.specs.declared.Board.{Board}
use Rattle.registers.specs.declared.Mode.{Mode}
use Rattle.registers.specs.declared.Mode.TheVariants.{Write, Read}
use Rattle.registers.specs.declared.Work.{Work}
use Rattle.registers.specs.declared.Work.TheVariants.{Idle, Figure, Arc, Character, Reading}
use Rattle.registers.specs.Sound.{sound_b}
use Rattle.registers.specs.Buffer.{oldest, popped}
use Rattle.registers.specs.Put.{put_buffer}
use Rattle.registers.specs.State.{State, state}
use Rattle.units.specs.Unit.{fetched, fetch_by, unit_by, unit_done}
use Rattle.units.specs.Run.{reason_of, units_done, Outcome, run_from, run_by, fitted_b, run_done}
use Rattle.laws.proofs.BranchLaws.{either}
use Rattle.laws.proofs.KeptLaws.{Whole, buffer_kept}
use Rattle.laws.proofs.KeptBufferLaws.{popped_queue}
use Rattle.laws.proofs.KeptProcessorLaws.{entry_kept}
use Rattle.laws.proofs.KeptArcLaws.{arc_kept}
use Rattle.laws.proofs.KeptFigureLaws.{figure_kept, character_kept, read_kept}

-- the state that a run leaves
abbrev pub left_by : Outcome → State
left_by o = state o.ran.regs o.mem

module _ {board : Board} (n : ℕ) where
  fetched_kept : (s : State) → Whole board n s → s.regs.work ≡ Idle → s.regs.mode ≡ Write → Whole board n (fetched s)
  unfolding fetched
  fetched_kept s w e write =
      let b = popped s.regs.buffer in
      entry_kept n (oldest s.regs.buffer) (state (put_buffer s.regs b) s.mem)
      (record {
        regs = buffer_kept s.regs w.regs b (popped_queue s.regs.mode s.regs.buffer w.regs.buffer);
        words = w.words;
        long = w.long;
      })
      e write

  fetch_by_law : (s : State) → Whole board n s → s.regs.work ≡ Idle → (m : Mode) → s.regs.mode ≡ m → (k : ℕ)
      → Whole board n (fetch_by m k s)
  fetch_by_law s w e Write write k = either (Whole board n) (eqb k 0) w (fetched_kept s w e write)
  fetch_by_law s w e Read read k = w

  unit_by_law : (s : State) → Whole board n s → (x : Work) → s.regs.work ≡ x → Whole board n (unit_by x s)
  unit_by_law s w Idle e = fetch_by_law s w e s.regs.mode refl s.regs.buffer.count
  unit_by_law s w (Figure k d) e = figure_kept n k d s w e
  unit_by_law s w (Arc k a) e = arc_kept n k a s w e
  unit_by_law s w (Character row column start) e = character_kept n row column start s w e
  unit_by_law s w (Reading i t) e = read_kept n i t s w e

  pub unit_kept : (s : State) → Whole board n s → Whole board n (unit_done s)
  unfolding unit_done
  unit_kept s w = unit_by_law s w s.regs.work refl

  pub units_kept : (k : ℕ) (s : State) → Whole board n s → Whole board n (units_done k s)
  unfolding units_done
  units_kept zero s w = w
  units_kept (suc k) s w = units_kept k (unit_done s) (unit_kept s w)

  pub run_from_kept : (budget k : ℕ) (s : State) → Whole board n s → Whole board n (left_by (run_from budget k s))
  unfolding run_from
  run_from_kept zero k s w = w
  run_from_kept (suc f) k s w =
      either (λ (o : Outcome). Whole board n (left_by o)) (eqb (reason_of s.regs) 0)
      (run_from_kept f (k + 1) (unit_done s) (unit_kept s w)) w

  run_by_kept : (t u : Bool) (budget : ℕ) (s : State) → Whole board n s → Whole board n (left_by (run_by t u budget s))
  run_by_kept false u budget s w = w
  run_by_kept true false budget s w = w
  run_by_kept true true budget s w = run_from_kept budget 0 s w

  pub run_kept : (budget : ℕ) (s : State) → Whole board n s → Whole board n (left_by (run_done budget s))
  unfolding run_done
  run_kept budget s w = run_by_kept (sound_b s.regs) (fitted_b s) budget s w
