-- The cycles left are units. A figure in progress has its place inside it, so at least one is left; its unit takes one off the count and
-- leaves the figure or nothing in progress; and the count stays true, since a unit keeps a sound set sound. By induction on the units.
use mathlib.Core.Path.{◌≡◌, refl, sym, ap, ◌∙◌}
use mathlib.Core.Bool.{Bool, true, false}
use mathlib.Core.List.{List}
use Prim.Native.Nat.{ℕ, zero, suc, ◌+◌, ◌-◌, ◌*◌, ◌≤◌, ◌<◌}
use native.Mathlib.Nat.{suc-mul, mul-le-mul_right}
use native.Mathlib.Omega.{arith}
use lib.Dec.{ltb}
use lib.ListN.{length}
use Rattle.dots.specs.declared.Cursor.{Cursor}
use Rattle.registers.specs.declared.Board.{Board}
use Rattle.registers.specs.declared.Drawing.{Drawing}
use Rattle.registers.specs.declared.Mode.{Mode}
use Rattle.registers.specs.declared.Registers.{Registers}
use Rattle.registers.specs.declared.Work.{Work}
use Rattle.registers.specs.declared.Work.TheVariants.{Idle, Figure, Arc, Character, Reading}
use Rattle.registers.specs.Size.{dots_of, arc_cycles_of, rows_of, columns_of}
use Rattle.registers.specs.Left.{character_left, cycles_left}
use Rattle.registers.specs.Sound.{sound_b}
use Rattle.registers.specs.State.{State, state}
use Rattle.registers.specs.Typed.{Typed, Words}
use Rattle.registers.proofs.BoolLaws.{false_true}
use Rattle.status.specs.Status.{figure_in_progress_b}
use Rattle.figures.specs.Figure.{figure_moved, figure_unit}
use Rattle.figures.specs.Character.{character_moved, character_unit}
use Rattle.arcs.specs.declared.Moving.{Moving}
use Rattle.arcs.specs.Unit.{moving, meets, arc_moved, arc_unit}
use Rattle.units.specs.Unit.{unit_by, unit_done}
use Rattle.units.specs.Run.{units_done}
use Rattle.laws.specs.Left.{left_in, CyclesLeftAreUnits}
use Rattle.laws.proofs.BranchLaws.{either}
use Rattle.laws.proofs.SoundLaws.{sound_parts}
use Rattle.laws.proofs.KeptLaws.{Going, SoundSet, Whole, lawful}
use Rattle.laws.proofs.KeptUnitLaws.{unit_kept}

-- ---- a figure in progress has a cycle left, and nothing else has
place_inside : (rows columns row column : ℕ) → row < rows → column < columns → 0 < rows * columns - (row * columns + column)
place_inside rows columns row column h k =
    let most : suc row * columns ≤ rows * columns = mul-le-mul_right columns h in
    omega (arith, suc-mul row columns)

some_left : (f : Drawing) (zoom : ℕ) (m : Mode) (n : ℕ) (w : Work) → Going f zoom m n w → figure_in_progress_b w ≡ true
    → 0 < cycles_left f zoom w
unfolding character_left
some_left f zoom m n Idle g e = absurd (false_true e)
some_left f zoom m n (Figure k d) g e = omega (arith, g.place.0)
some_left f zoom m n (Arc k a) g e = omega (arith, g.place.0)
some_left f zoom m n (Character row column start) g e =
    place_inside (rows_of f zoom) (columns_of f zoom) row column g.place.0 g.place.1
some_left f zoom m n (Reading i t) g e = absurd (false_true e)

left_busy : (f : Drawing) (zoom : ℕ) (w : Work) → 0 < cycles_left f zoom w → figure_in_progress_b w ≡ true
left_busy f zoom Idle h = absurd (omega arith)
left_busy f zoom (Figure k d) h = refl
left_busy f zoom (Arc k a) h = refl
left_busy f zoom (Character row column start) h = refl
left_busy f zoom (Reading i t) h = absurd (omega arith)

-- of a register set
busy : (r : Registers) → 0 < left_in r → figure_in_progress_b r.work ≡ true
busy r h = left_busy r.drawing r.video.zoom r.work h

some : {board : Board} (r : Registers) → SoundSet board r → figure_in_progress_b r.work ≡ true → 0 < left_in r
some r l e = some_left r.drawing r.video.zoom r.mode r.remaining r.work l.work e

-- ---- its move leaves the count to the unit, and a figure or nothing in progress
record Moved (r q : Registers) : Type 0 where
  kept : q.remaining ≡ r.remaining
  ends : figure_in_progress_b q.work ≡ false → q.work ≡ Idle

on : {x : Bool} {A : Type 0} → x ≡ true → x ≡ false → A
on e f = absurd (false_true (sym f ∙ e))

module _ (r : Registers) where
  figure_moved_law : (k d : ℕ) → Moved r (figure_moved k d r)
  unfolding figure_moved
  figure_moved_law k d =
      either (Moved r) (ltb (k + 1) (dots_of r.drawing)) (record { kept = refl; ends = on refl })
      (record { kept = refl; ends = λ e. refl })

  arc_moved_law : (k : ℕ) (met : Moving) → Moved r (arc_moved k met r)
  unfolding arc_moved
  arc_moved_law k met =
      either (Moved r) (ltb (k + 1) (arc_cycles_of r.drawing)) (record { kept = refl; ends = on refl })
      (record { kept = refl; ends = λ e. refl })

  character_moved_law : (row column : ℕ) (start : Cursor) → Moved r (character_moved row column start r)
  unfolding character_moved
  character_moved_law row column start =
      either (Moved r) (ltb (column + 1) (columns_of r.drawing r.video.zoom)) (record { kept = refl; ends = on refl })
      (either (Moved r) (ltb (row + 1) (rows_of r.drawing r.video.zoom)) (record { kept = refl; ends = on refl })
      (record { kept = refl; ends = λ e. refl }))

-- ---- so does its unit, which takes one off
record Counted (r q : Registers) : Type 0 where
  fewer : q.remaining ≡ r.remaining - 1
  ends : figure_in_progress_b q.work ≡ false → q.work ≡ Idle

counted_by : (x : Work) (s : State) → figure_in_progress_b x ≡ true → Counted s.regs (unit_by x s).regs
unfolding figure_unit arc_unit character_unit
counted_by Idle s e = absurd (false_true e)
counted_by (Figure k d) s e = let v = figure_moved_law s.regs k d in record { fewer = omega (arith, v.kept); ends = v.ends }
counted_by (Arc k a) s e =
    let v = arc_moved_law s.regs k (meets s.regs.drawing s.regs.pitch k (moving s.regs a)) in
    record { fewer = omega (arith, v.kept); ends = v.ends }
counted_by (Character row column start) s e =
    let v = character_moved_law s.regs row column start in record { fewer = omega (arith, v.kept); ends = v.ends }
counted_by (Reading i t) s e = absurd (false_true e)

unit_counted : (s : State) → figure_in_progress_b s.regs.work ≡ true → Counted s.regs (unit_done s).regs
unfolding unit_done
unit_counted s e = counted_by s.regs.work s e

module _ {board : Board} (n : ℕ) where
  one_falls : (s : State) → Whole board n s → figure_in_progress_b s.regs.work ≡ true
      → left_in s.regs ≡ suc (left_in (unit_done s).regs)
  one_falls s w e =
      omega (
        arith,
        some s.regs w.regs e,
        w.regs.work.count,
        (unit_kept n s w).regs.work.count,
        (unit_counted s e).fewer,
      )

  still_going : (i : ℕ) (s : State) → Whole board n s → i < left_in s.regs → figure_in_progress_b (units_done i s).regs.work ≡ true
  unfolding units_done
  still_going zero s w h = busy s.regs h
  still_going (suc i) s w h =
      still_going i (unit_done s) (unit_kept n s w) (omega (arith, one_falls s w (busy s.regs (omega arith))))

  all_done : (k : ℕ) (s : State) → Whole board n s → left_in s.regs ≡ suc k → (units_done (suc k) s).regs.work ≡ Idle
  unfolding units_done
  all_done zero s w h = (unit_counted s going).ends (none (figure_in_progress_b (unit_done s).regs.work) refl)
    where
      going : figure_in_progress_b s.regs.work ≡ true
      going = busy s.regs (omega arith)

      none : (t : Bool) → figure_in_progress_b (unit_done s).regs.work ≡ t → figure_in_progress_b (unit_done s).regs.work ≡ false
      none true e = absurd (omega (arith, one_falls s w going, some (unit_done s).regs (unit_kept n s w).regs e))
      none false e = e
  all_done (suc k) s w h =
      all_done k (unit_done s) (unit_kept n s w) (omega (arith, one_falls s w (busy s.regs (omega arith))))

whole_of : (r : Registers) (m : List ℕ) → sound_b r ≡ true → Typed r → Words m → Whole r.board (length m) (state r m)
whole_of r m s t w = record { regs = lawful r s t; words = w; long = refl }

pub cycles_left_are_units : CyclesLeftAreUnits
cycles_left_are_units =
    record {
      count = λ r s. (sound_parts r s).count;
      falls = λ r m s t w e. one_falls (length m) (state r m) (whole_of r m s t w) e;
      before = λ r m s t w i h. still_going (length m) i (state r m) (whole_of r m s t w) h;
      ends = ended;
    }
  where
    ended : (r : Registers) (m : List ℕ) → sound_b r ≡ true → Typed r → Words m → figure_in_progress_b r.work ≡ true
        → (units_done (left_in r) (state r m)).regs.work ≡ Idle
    ended r m s t w e =
        let l = whole_of r m s t w in
        let fall = one_falls (length m) (state r m) l e in
        ap (λ (k : ℕ). (units_done k (state r m)).regs.work) fall ∙ all_done (length m) _ (state r m) l fall
