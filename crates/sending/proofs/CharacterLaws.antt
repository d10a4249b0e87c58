-- GCHRD: one unit for the command and one for each dot. With rows of w dots, dot i is dot i mod w of row i div w; after i units
-- the character stands there, and its row's start is i div w steps up from the character's.
use mathlib.Core.Path.{◌≡◌, refl, ap, subst, ◌∙◌}
use mathlib.Core.Bool.{true}
use mathlib.Core.List.{List, [], ◌∷◌}
use Prim.Native.Nat.{ℕ, zero, suc, ◌+◌, ◌-◌, ◌*◌, ◌/◌, ◌%◌, ◌≤◌, ◌<◌}
use native.Mathlib.Nat.{zero-div, mod-lt, mod-eq_of_lt, div-lt_iff_lt-mul}
use native.Mathlib.Omega.{arith}
use native.Mathlib.Numerals.{add-one}
use native.Mathlib.Decide.{ℕ_discrete}
use lib.Arith.{digits_div, digits_mod}
use lib.ListN.{length}
use borrow.Author.Tests.{lt-ltb, le-ltb}
use Rattle.dots.specs.declared.Cursor.{Cursor}
use Rattle.registers.specs.declared.Command.TheVariants.{Gchrd}
use Rattle.registers.specs.declared.Work.TheVariants.{Idle, Character}
use Rattle.registers.specs.declared.Registers.{Registers}
use Rattle.registers.specs.Size.{factor_of, rows_of, columns_of}
use Rattle.registers.specs.Left.{character_left}
use Rattle.registers.specs.Put.{put_cursor, put_progress, put_work, put_remaining}
use Rattle.registers.specs.State.{State, state}
use Rattle.commands.specs.Decode.{command_of}
use Rattle.processor.specs.Command.{character_begun, count_begun, command_taken}
use Rattle.processor.specs.Entry.{entry_taken}
use Rattle.figures.specs.Character.{character_pattern, next_start, character_moved, character_unit}
use Rattle.units.specs.Unit.{unit_done}
use Rattle.units.specs.Run.{reason_of, units_done, length_b}
use Rattle.laws.proofs.KeptLaws.{none_left}
use Rattle.geometry.proofs.WalkLaws.{walk}
use Rattle.geometry.proofs.CycleLaws.{cycles}
use Rattle.geometry.proofs.GlyphLaws.{spot, in_row_mod, in_row_div, row_end_mod, row_end_div}
use Rattle.sending.specs.Send.{full_budget}
use Rattle.sending.proofs.RunLaws.{units_last}
use Rattle.sending.proofs.WaitLaws.{Waiting, drained, taken_by, units_lawful}
use Rattle.sending.proofs.SendLaws.{Leads, leads_one}
use Rattle.sending.proofs.EntryLaws.{progress}

module _ (r : Registers) (m : List ℕ) (some : 0 < columns_of r.drawing r.video.zoom) where
  abbrev w : ℕ
  w = columns_of r.drawing r.video.zoom

  abbrev rows : ℕ
  rows = rows_of r.drawing r.video.zoom

  abbrev up : ℕ
  up = (r.drawing.dir + 2) % 8

  abbrev spot_at : ℕ → Cursor
  spot_at i = spot r.drawing.dir up r.pitch r.cursor (i / w) (i % w)

  abbrev row_at : ℕ → Cursor
  row_at i = walk (λ k. up) r.pitch r.cursor (i / w)

  abbrev inked : ℕ → List ℕ
  inked i = cycles r.board.wiring r.op (λ j. character_pattern r.ram (factor_of r.video.zoom) (j / w) (j % w)) spot_at i m

  abbrev here : ℕ → State
  here i = state (put_remaining (put_work (put_cursor r (spot_at i)) (Character (i / w) (i % w) (row_at i))) (rows * w - i)) (inked i)

  abbrev pub finished : ℕ → State
  finished n = state (put_work (put_cursor r (spot_at n)) Idle) (inked (suc n))

  fewer : (i : ℕ) → rows * w - i - 1 ≡ rows * w - suc i
  fewer i = omega arith

  -- the next dot in the row, the next row, the end
  along : (i : ℕ) → i % w + 1 < w → unit_done (here i) ≡ here (suc i)
  unfolding unit_done character_unit character_moved cycles spot walk
  along i h = rw (lt-ltb (i % w + 1) w h, in_row_mod w i h, in_row_div w i h, add-one (i % w), fewer i)

  upward : (i : ℕ) → i % w + 1 ≡ w → i / w + 1 < rows → unit_done (here i) ≡ here (suc i)
  unfolding unit_done character_unit character_moved next_start cycles spot walk
  upward i h k =
      rw (
        le-ltb (i % w + 1) w (omega arith),
        lt-ltb (i / w + 1) rows k,
        row_end_mod w i some h,
        row_end_div w i some h,
        add-one (i / w),
        fewer i,
      )

  ends : (i : ℕ) → rows * w - i - 1 ≡ r.remaining → i % w + 1 ≡ w → rows ≤ i / w + 1 → unit_done (here i) ≡ finished i
  unfolding unit_done character_unit character_moved cycles
  ends i last h k = rw (le-ltb (i % w + 1) w (omega arith), le-ltb (i / w + 1) rows k, last)

  goes_on : (i : ℕ) → suc i < rows * w → unit_done (here i) ≡ here (suc i)
  goes_on i h = go (ℕ_discrete (i % w + 1) w)
    where
      go : Dec (i % w + 1 ≡ w) → unit_done (here i) ≡ here (suc i)
      go (yes e) = upward i e (let k : suc i / w < rows = (div-lt_iff_lt-mul some).1 h in omega (arith, row_end_div w i some e))
      go (no e) = along i (omega (arith, mod-lt i some))

  abbrev begun : State
  begun = state (count_begun (put_work r (Character 0 0 r.cursor))) m

  starts : begun ≡ here 0
  unfolding cycles spot walk character_left
  starts = let all : rows * w - (0 * w + 0) ≡ rows * w - 0 = omega arith in rw (zero-div w, mod-eq_of_lt some, all)

  path : (i : ℕ) → i < rows * w → units_done i begun ≡ here i
  unfolding units_done
  path zero h = starts
  path (suc i) h = units_last i begun ∙ ap unit_done (path i (omega arith)) ∙ goes_on i h

  module _ (n : ℕ) (all : suc n ≡ rows * w) where
    row_ends : n % w + 1 ≡ w
    row_ends = go (ℕ_discrete (n % w + 1) w)
      where
        go : Dec (n % w + 1 ≡ w) → n % w + 1 ≡ w
        go (yes e) = e
        go (no e) =
            let z : suc n % w ≡ 0 = ap (λ (k : ℕ). k % w) (all ∙ omega arith) ∙ digits_mod rows some in
            omega (arith, in_row_mod w n (omega (arith, mod-lt n some)))

    rows_end : n / w + 1 ≡ rows
    rows_end =
        let z : suc n / w ≡ rows = ap (λ (k : ℕ). k / w) (all ∙ omega arith) ∙ digits_div rows some in
        omega (arith, row_end_div w n some row_ends)

    whole : r.remaining ≡ 0 → units_done (suc n) begun ≡ finished n
    whole none = units_last n begun ∙ ap unit_done (path n (omega arith)) ∙ ends n (omega arith) row_ends (omega (arith, rows_end))

-- the registers when GCHRD is taken
abbrev pub gchrd : Registers → Registers
gchrd q = put_progress (drained q) (progress Gchrd 0)

module _ {q : Registers} (v : Waiting q) (some : 0 < columns_of q.drawing q.video.zoom) (n : ℕ)
    (all : suc n ≡ rows_of q.drawing q.video.zoom * columns_of q.drawing q.video.zoom) where
  taken : (m : List ℕ) → 0 < rows_of q.drawing q.video.zoom → taken_by 0x168 q m ≡ begun (gchrd q) m some
  unfolding entry_taken command_taken command_of character_begun
  taken m h = rw (lt-ltb 0 (rows_of q.drawing q.video.zoom) h, lt-ltb 0 (columns_of q.drawing q.video.zoom) some)

  reaches : (m : List ℕ) (i : ℕ) → units_done i (taken_by 0x168 q m) ≡ units_done i (begun (gchrd q) m some)
  reaches m i = ap (units_done i) (taken m (omega (arith, rows_end (gchrd q) m some n all)))

  done : (m : List ℕ) → units_done (suc n) (taken_by 0x168 q m) ≡ finished (gchrd q) m some n
  done m = reaches m (suc n) ∙ whole (gchrd q) m some n all (none_left q v.lawful v.idle)

  pub gchrd_draws : (m : List ℕ) → length_b q.board.wiring (length m) ≡ true → n + 2 < full_budget
      → Leads (state q m) (0x168 ∷ []) (suc n) (finished (gchrd q) m some n)
  unfolding reason_of
  gchrd_draws m long few =
      subst (Leads (state q m) (0x168 ∷ []) (suc n)) (done m)
      (leads_one q m 0x168 v (omega arith) (λ z. omega arith) long (suc n)
      (λ i h. ap (λ (s : State). reason_of s.regs) (reaches m i ∙ path (gchrd q) m some i (omega arith)))
      (ap (λ (s : State). reason_of s.regs) (done m) ∙ rw v.mode)
      (omega arith))

  pub gchrd_waits : (m : List ℕ) → Waiting (finished (gchrd q) m some n).regs
  gchrd_waits m = record { lawful = units_lawful v 0x168 (suc n) (done []); mode = v.mode; idle = refl; empty = refl }
