-- FIGD: one unit for the command and one for each dot. After i of its units the figure stands at the i-th cursor of its walk and
-- has made the cycles before it: each unit is one cycle and, but for the last, one step. The count of those left has then fallen by i,
-- and at the end by all.
use mathlib.Core.Path.{◌≡◌, refl, ap, subst, ◌∙◌}
use mathlib.Core.Bool.{true, false, cond, ◌||◌}
use mathlib.Core.List.{List, [], ◌∷◌}
use Prim.Native.Nat.{ℕ, zero, suc, ◌+◌, ◌-◌, ◌≤◌, ◌<◌}
use native.Mathlib.Omega.{arith}
use lib.Dec.{eqb}
use lib.ListN.{length}
use borrow.Author.Tests.{lt-ltb, le-ltb, ne_eqb}
use Rattle.dots.specs.declared.Cursor.{Cursor}
use Rattle.registers.specs.declared.Command.TheVariants.{Figd}
use Rattle.registers.specs.declared.Work.TheVariants.{Idle, Figure}
use Rattle.registers.specs.declared.Drawing.{Drawing}
use Rattle.registers.specs.declared.Registers.{Registers}
use Rattle.registers.specs.Size.{plain_kind, line_kind, arc_kind, rectangle_kind, dots_of}
use Rattle.registers.specs.Put.{put_cursor, put_progress, put_work, put_remaining}
use Rattle.registers.specs.State.{State, state}
use Rattle.commands.specs.Decode.{command_of}
use Rattle.processor.specs.Command.{figure_begun, figd_taken, count_begun, command_taken}
use Rattle.processor.specs.Entry.{entry_taken}
use Rattle.figures.specs.Figure.{pattern_at, direction_at, running_d, figure_moved, figure_unit}
use Rattle.units.specs.Unit.{unit_done}
use Rattle.units.specs.Run.{reason_of, units_done, length_b}
use Rattle.laws.proofs.KeptLaws.{none_left}
use Rattle.geometry.proofs.WalkLaws.{walk}
use Rattle.geometry.proofs.CycleLaws.{cycles}
use Rattle.sending.specs.Send.{full_budget}
use Rattle.sending.proofs.RunLaws.{units_last}
use Rattle.sending.proofs.WaitLaws.{Waiting, drained, taken_by, units_lawful}
use Rattle.sending.proofs.SendLaws.{Leads, leads_one}
use Rattle.sending.proofs.EntryLaws.{progress}

-- the running D at dot i, and the step after it
unfoldable pub running_at : Drawing → ℕ → ℕ
running_at f zero = f.d
running_at f (suc i) = running_d f (running_at f i)

abbrev pub step_at : Drawing → ℕ → ℕ
step_at f i = direction_at f i (running_at f i)

module _ (r : Registers) (m : List ℕ) where
  abbrev pub cursor_of : ℕ → Cursor
  cursor_of i = walk (step_at r.drawing) r.pitch r.cursor i

  abbrev pub drawn_up_to : ℕ → List ℕ
  drawn_up_to i = cycles r.board.wiring r.op (pattern_at r.ram) cursor_of i m

  abbrev here : ℕ → State
  here i =
      state (put_remaining (put_work (put_cursor r (cursor_of i)) (Figure i (running_at r.drawing i))) (dots_of r.drawing - i))
      (drawn_up_to i)

  abbrev pub ended : ℕ → State
  ended n = state (put_work (put_cursor r (cursor_of n)) Idle) (drawn_up_to (suc n))

  goes_on : (i : ℕ) → i + 1 < dots_of r.drawing → unit_done (here i) ≡ here (suc i)
  unfolding unit_done figure_unit figure_moved walk cycles running_at
  goes_on i h =
      let e : i + 1 ≡ suc i = omega arith in
      let fewer : dots_of r.drawing - i - 1 ≡ dots_of r.drawing - suc i = omega arith in
      rw (lt-ltb (i + 1) (dots_of r.drawing) h, fewer, e)

  ends : (n : ℕ) → r.remaining ≡ 0 → dots_of r.drawing ≤ n + 1 → unit_done (here n) ≡ ended n
  unfolding unit_done figure_unit figure_moved cycles
  ends n none h =
      let last : dots_of r.drawing - n - 1 ≡ r.remaining = omega arith in
      rw (le-ltb (n + 1) (dots_of r.drawing) h, last)

  abbrev pub begun : State
  begun = state (count_begun (put_work r (Figure 0 r.drawing.d))) m

  starts : begun ≡ here 0
  unfolding walk cycles running_at
  starts = refl

  path : (i : ℕ) → i < dots_of r.drawing → units_done i begun ≡ here i
  unfolding units_done
  path zero h = starts
  path (suc i) h = units_last i _ ∙ ap unit_done (path i (omega arith)) ∙ goes_on i (omega arith)

  whole : (n : ℕ) → r.remaining ≡ 0 → suc n ≡ dots_of r.drawing → units_done (suc n) begun ≡ ended n
  whole n none all = units_last n _ ∙ ap unit_done (path n (omega arith)) ∙ ends n none (omega arith)

-- the registers when FIGD is taken
abbrev pub figd : Registers → Registers
figd q = put_progress (drained q) (progress Figd 0)

-- an arc has no dots of this kind
no_arc : (f : Drawing) → 0 < dots_of f → eqb f.kind arc_kind ≡ false
unfolding dots_of
no_arc f h = ne_eqb f.kind arc_kind (λ e. go f.kind e h)
  where
    go : (k : ℕ) → k ≡ arc_kind
        → 0 < cond (eqb k plain_kind || eqb k line_kind) (f.dc + 1) (cond (eqb k rectangle_kind) (f.d + f.d2 + f.d + f.d2) 0) → ⊥
    go k e p = let z = rw e at p in omega (arith, z)

begins : (q : Registers) (m : List ℕ) → 0 < dots_of q.drawing → taken_by 0x16C q m ≡ begun (figd q) m
unfolding entry_taken command_taken command_of figd_taken figure_begun
begins q m h = rw (no_arc q.drawing h, lt-ltb 0 (dots_of q.drawing) h)

module _ {q : Registers} (v : Waiting q) (n : ℕ) (all : suc n ≡ dots_of q.drawing) where
  reaches : (m : List ℕ) (i : ℕ) → units_done i (taken_by 0x16C q m) ≡ units_done i (begun (figd q) m)
  reaches m i = ap (units_done i) (begins q m (omega arith))

  done : (m : List ℕ) → units_done (suc n) (taken_by 0x16C q m) ≡ ended (figd q) m n
  done m = reaches m (suc n) ∙ whole (figd q) m n (none_left q v.lawful v.idle) all

  pub figd_draws : (m : List ℕ) → length_b q.board.wiring (length m) ≡ true → n + 2 < full_budget
      → Leads (state q m) (0x16C ∷ []) (suc n) (ended (figd q) m n)
  unfolding reason_of
  figd_draws m long few =
      subst (Leads (state q m) (0x16C ∷ []) (suc n)) (done m)
      (leads_one q m 0x16C v (omega arith) (λ z. omega arith) long (suc n)
      (λ i h. ap (λ (s : State). reason_of s.regs) (reaches m i ∙ path (figd q) m i (omega arith)))
      (ap (λ (s : State). reason_of s.regs) (done m) ∙ rw v.mode)
      (omega arith))

  pub figd_waits : (m : List ℕ) → Waiting (ended (figd q) m n).regs
  figd_waits m = record { lawful = units_lawful v 0x16C (suc n) (done []); mode = v.mode; idle = refl; empty = refl }
