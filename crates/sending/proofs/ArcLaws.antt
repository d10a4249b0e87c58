-- FIGD for an arc: one unit for the command and one for each cycle. The unit of the first cycle makes the moves of the DM dots passed
-- over, and each but the last makes one more after its cycle; so cycle k is made DM + k moves from the start. An arc that draws nothing
-- is over in FIGD's own unit, which moves the cursor alone.
use mathlib.Core.Path.{◌≡◌, refl, ap, subst, ◌∙◌}
use mathlib.Core.Bool.{true}
use mathlib.Core.List.{List, [], ◌∷◌}
use Prim.Native.Nat.{ℕ, zero, suc, ◌+◌, ◌-◌, ◌≤◌, ◌<◌}
use native.Mathlib.Nat.{add-suc, add-zero}
use native.Mathlib.Numerals.{add-one}
use native.Mathlib.Omega.{arith}
use lib.ListN.{length}
use lib.Dec.{eqb-suc-zero}
use borrow.Author.Tests.{lt-ltb, le-ltb, eq-eqb}
use Rattle.registers.specs.declared.Work.TheVariants.{Idle, Arc}
use Rattle.registers.specs.declared.Registers.{Registers}
use Rattle.registers.specs.Size.{arc_cycles_of}
use Rattle.registers.specs.Put.{put_cursor, put_work, put_remaining}
use Rattle.registers.specs.State.{State, state}
use Rattle.commands.specs.Decode.{command_of}
use Rattle.processor.specs.Command.{figd_taken, count_begun, command_taken}
use Rattle.processor.specs.Entry.{entry_taken}
use Rattle.figures.specs.Figure.{pattern_at}
use Rattle.arcs.specs.declared.Moving.{Moving}
use Rattle.arcs.specs.Arc.{passed}
use Rattle.arcs.specs.Unit.{copied, moving, arc_begun, meets, arc_moved, arc_unit}
use Rattle.units.specs.Unit.{unit_done}
use Rattle.units.specs.Run.{reason_of, units_done, length_b}
use Rattle.laws.proofs.KeptLaws.{none_left}
use Rattle.geometry.proofs.CycleLaws.{cycles}
use Rattle.sending.specs.Send.{full_budget}
use Rattle.sending.proofs.RunLaws.{units_last}
use Rattle.sending.proofs.WaitLaws.{Waiting, taken_by, units_lawful}
use Rattle.sending.proofs.SendLaws.{Leads, leads_one, Acts, acts_one}
use Rattle.sending.proofs.DrawLaws.{figd}

module _ (r : Registers) (m : List ℕ) where
  -- after i moves
  abbrev pub moved_to : ℕ → Moving
  moved_to i = passed r.drawing.dir r.pitch (moving r (copied r.drawing)) i

  abbrev pub drawn_up_to : ℕ → List ℕ
  drawn_up_to k =
      cycles r.board.wiring r.op (λ j. pattern_at r.ram (r.drawing.dm + j)) (λ j. (moved_to (r.drawing.dm + j)).cursor) k m

  -- where the unit of cycle k finds the arc: before the first cycle no move is made
  abbrev standing : ℕ → Moving
  standing zero = moving r (copied r.drawing)
  standing (suc k) = moved_to (r.drawing.dm + suc k)

  abbrev here : ℕ → State
  here k =
      state (put_remaining (put_work (put_cursor r (standing k).cursor) (Arc k (standing k).running)) (arc_cycles_of r.drawing - k))
      (drawn_up_to k)

  -- the last cycle was cycle n
  abbrev pub arc_ended : ℕ → State
  arc_ended n = state (put_work (put_cursor r (moved_to (r.drawing.dm + n)).cursor) Idle) (drawn_up_to (suc n))

  met : (k : ℕ) → meets r.drawing r.pitch k (standing k) ≡ moved_to (r.drawing.dm + k)
  met zero = rw (add-zero r.drawing.dm)
  met (suc k) = rw (eqb-suc-zero k)

  goes_on : (k : ℕ) → k + 1 < arc_cycles_of r.drawing → unit_done (here k) ≡ here (suc k)
  unfolding unit_done arc_unit arc_moved cycles passed
  goes_on k h =
      let fewer : arc_cycles_of r.drawing - k - 1 ≡ arc_cycles_of r.drawing - suc k = omega arith in
      rw (met k, lt-ltb (k + 1) (arc_cycles_of r.drawing) h, fewer, add-one k, add-suc r.drawing.dm k)

  ends : (n : ℕ) → r.remaining ≡ 0 → arc_cycles_of r.drawing ≤ n + 1 → unit_done (here n) ≡ arc_ended n
  unfolding unit_done arc_unit arc_moved cycles
  ends n none h =
      let last : arc_cycles_of r.drawing - n - 1 ≡ r.remaining = omega arith in
      rw (met n, le-ltb (n + 1) (arc_cycles_of r.drawing) h, last)

  abbrev begun : State
  begun = state (count_begun (put_work r (Arc 0 (copied r.drawing)))) m

  starts : begun ≡ here 0
  unfolding cycles
  starts = refl

  path : (k : ℕ) → k < arc_cycles_of r.drawing → units_done k begun ≡ here k
  unfolding units_done
  path zero h = starts
  path (suc k) h = units_last k _ ∙ ap unit_done (path k (omega arith)) ∙ goes_on k (omega arith)

  whole : (n : ℕ) → r.remaining ≡ 0 → suc n ≡ arc_cycles_of r.drawing → units_done (suc n) begun ≡ arc_ended n
  whole n none all = units_last n _ ∙ ap unit_done (path n (omega arith)) ∙ ends n none (omega arith)

  -- nothing is drawn: the cursor has made the DC moves
  abbrev pub arc_passed : State
  arc_passed = state (put_cursor r (moved_to r.drawing.dc).cursor) m

module _ {q : Registers} (v : Waiting q) (arc : q.drawing.kind ≡ 4) where
  taken : (m : List ℕ) → taken_by 0x16C q m ≡ state (count_begun (arc_begun (figd q))) m
  unfolding entry_taken command_taken command_of figd_taken
  taken m = rw (eq-eqb q.drawing.kind 4 arc)

  -- n + 1 cycles
  module _ (n : ℕ) (all : suc n ≡ arc_cycles_of q.drawing) where
    reaches : (m : List ℕ) (i : ℕ) → units_done i (taken_by 0x16C q m) ≡ units_done i (begun (figd q) m)
    unfolding arc_begun
    reaches m i = ap (units_done i) (taken m ∙ rw (lt-ltb 0 (arc_cycles_of q.drawing) (omega arith)) refl)

    done : (m : List ℕ) → units_done (suc n) (taken_by 0x16C q m) ≡ arc_ended (figd q) m n
    done m = reaches m (suc n) ∙ whole (figd q) m n (none_left q v.lawful v.idle) all

    pub arc_draws : (m : List ℕ) → length_b q.board.wiring (length m) ≡ true → n + 2 < full_budget
        → Leads (state q m) (0x16C ∷ []) (suc n) (arc_ended (figd q) m n)
    unfolding reason_of
    arc_draws m long few =
        subst (Leads (state q m) (0x16C ∷ []) (suc n)) (done m)
        (leads_one q m 0x16C v (omega arith) (λ z. omega arith) long (suc n)
        (λ i h. ap (λ (s : State). reason_of s.regs) (reaches m i ∙ path (figd q) m i (omega arith)))
        (ap (λ (s : State). reason_of s.regs) (done m) ∙ rw v.mode)
        (omega arith))

    pub arc_waits : (m : List ℕ) → Waiting (arc_ended (figd q) m n).regs
    arc_waits m = record { lawful = units_lawful v 0x16C (suc n) (done []); mode = v.mode; idle = refl; empty = refl }

  -- no cycle
  module _ (none : arc_cycles_of q.drawing ≡ 0) where
    at_once : (m : List ℕ) → taken_by 0x16C q m ≡ arc_passed (figd q) m
    unfolding arc_begun
    at_once m = taken m ∙ rw (le-ltb 0 (arc_cycles_of q.drawing) (omega arith), ← v.lawful.work.count) refl

    pub arc_passes : Acts q (0x16C ∷ []) (arc_passed (figd q) []).regs
    arc_passes = acts_one v (omega arith) (λ z. omega arith) at_once refl refl refl
