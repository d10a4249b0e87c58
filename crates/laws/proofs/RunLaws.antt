-- A run does what it says. It leaves what as many steps of the definition make as it counts, never more than its budget; it stops
-- with its budget spent, or where no further unit applies; and two runs are one run of the sum. By induction on the budget.
use mathlib.Core.Path.{◌≡◌, refl, sym, ap, ap₂, subst, ◌∙◌}
use mathlib.Core.Bool.{Bool, true, false, cond}
use Prim.Native.Nat.{ℕ, zero, suc, ◌+◌, ◌≤◌, ◌<◌}
use native.Mathlib.Omega.{arith}
use lib.Dec.{eqb}
use borrow.Author.Tests.{eqb-true, eqb-false, ne_eqb}
use Rattle.registers.specs.declared.Board.{Board}
use Rattle.registers.specs.declared.Mode.{Mode}
use Rattle.registers.specs.declared.Mode.TheVariants.{Write, Read}
use Rattle.registers.specs.declared.Work.{Work}
use Rattle.registers.specs.declared.Work.TheVariants.{Idle, Figure, Arc, Character, Reading}
use Rattle.registers.specs.declared.Buffer.{Buffer}
use Rattle.registers.specs.declared.Registers.{Registers}
use Rattle.registers.specs.Sound.{sound_b}
use Rattle.registers.specs.State.{State}
use Rattle.figures.specs.Reading.{room_b, read_unit}
use Rattle.units.specs.Unit.{fetch_by, unit_by, unit_done}
use Rattle.units.specs.Run.{waiting, reason_by, reason_of, units_done, Outcome, outcome, stopped, run_from, length_b, fitted_b, run_refused}
use Rattle.units.specs.Run.{run_by}
use Rattle.units.specs.Run.{run_done}
use Rattle.laws.proofs.BranchLaws.{either, cases}
use Rattle.laws.proofs.KeptLaws.{Whole, lawful_sound}
use Rattle.laws.proofs.KeptUnitLaws.{left_by, run_from_kept}

-- ---- the reason

-- none, or 2 or 3
pub record Reason (y : ℕ) : Type 0 where
  pub few : y ≤ 3
  pub not_1 : y ≡ 1 → ⊥

reason_by_law : (w : Work) (m : Mode) (b : Buffer) → Reason (reason_by w m b)
reason_by_law Idle Write b = either Reason (eqb b.count 0) (omega arith) (omega arith)
reason_by_law Idle Read b = omega arith
reason_by_law (Figure k d) m b = omega arith
reason_by_law (Arc k a) m b = omega arith
reason_by_law (Character row column start) m b = omega arith
reason_by_law (Reading i t) m b = either Reason (room_b t b) (omega arith) (omega arith)

pub reason_kinds : (r : Registers) → Reason (reason_of r)
unfolding reason_of
reason_kinds r = reason_by_law r.work r.mode r.buffer

-- ---- units

pub units_add : (a b : ℕ) (s : State) → units_done (a + b) s ≡ units_done b (units_done a s)
unfolding units_done
units_add zero b s = let e : 0 + b ≡ b = omega arith in ap (λ (n : ℕ). units_done n s) e
units_add (suc a) b s =
    let e : suc a + b ≡ suc (a + b) = omega arith in
    ap (λ (n : ℕ). units_done n s) e ∙ units_add a b (unit_done s)

-- where none applies, a unit changes nothing
fetch_idle : (m : Mode) (s : State) → (waiting m s.regs.buffer ≡ 0 → ⊥) → fetch_by m s.regs.buffer.count s ≡ s
fetch_idle Write s n =
    cases (λ (x : State). x ≡ s) (eqb s.regs.buffer.count 0) (λ t. refl) (λ t. absurd (n (rw t)))
fetch_idle Read s n = refl

idle_by : (w : Work) (s : State) → (reason_by w s.regs.mode s.regs.buffer ≡ 0 → ⊥) → unit_by w s ≡ s
unfolding read_unit
idle_by Idle s n = fetch_idle s.regs.mode s n
idle_by (Figure k d) s n = absurd (n refl)
idle_by (Arc k a) s n = absurd (n refl)
idle_by (Character row column start) s n = absurd (n refl)
idle_by (Reading i t) s n = cases (λ (x : State). x ≡ s) (room_b t s.regs.buffer) (λ u. absurd (n (rw u))) (λ u. refl)

pub unit_idle : (s : State) → (reason_of s.regs ≡ 0 → ⊥) → unit_done s ≡ s
unfolding reason_of unit_done
unit_idle s n = idle_by s.regs.work s n

units_idle : (k : ℕ) (s : State) → (reason_of s.regs ≡ 0 → ⊥) → units_done k s ≡ s
unfolding units_done
units_idle zero s n = refl
units_idle (suc k) s n = ap (units_done k) (unit_idle s n) ∙ units_idle k s n

-- ---- one run

-- what a run of a budget says that counted k units before
record Told (budget k : ℕ) (s : State) (o : Outcome) : Type 0 where
  done : ℕ
  count : o.ran.count ≡ k + done
  within : done ≤ budget
  left : left_by o ≡ units_done done s
  busy : (i : ℕ) → i < done → reason_of (units_done i s).regs ≡ 0
  spent : done ≡ budget → o.ran.why ≡ 1
  short : done < budget → (o.ran.why ≡ reason_of o.ran.regs) × (reason_of o.ran.regs ≡ 0 → ⊥)

told : (budget k : ℕ) (s : State) → Told budget k s (run_from budget k s)
unfolding run_from units_done
told zero k s =
    record {
      done = 0;
      count = omega arith;
      within = omega arith;
      left = refl;
      busy = λ i h. absurd (omega arith);
      spent = λ e. refl;
      short = λ h. absurd (omega arith);
    }
told (suc f) k s =
    cases (Told (suc f) k s) (eqb (reason_of s.regs) 0)
    (λ t. let later = told f (k + 1) (unit_done s) in
    record {
      done = suc later.done;
      count = later.count ∙ omega arith;
      within = omega (arith, later.within);
      left = later.left;
      busy = first later.done (eqb-true (reason_of s.regs) 0 t) later.busy;
      spent = λ e. later.spent (omega arith);
      short = λ h. later.short (omega arith);
    })
    (λ t. record {
      done = 0;
      count = omega arith;
      within = omega arith;
      left = refl;
      busy = λ i h. absurd (omega arith);
      spent = λ e. absurd (omega arith);
      short = λ h. (refl, eqb-false (reason_of s.regs) 0 t);
    })
  where
    first : (n : ℕ) → reason_of s.regs ≡ 0 → ((i : ℕ) → i < n → reason_of (units_done i (unit_done s)).regs ≡ 0)
        → (i : ℕ) → i < suc n → reason_of (units_done i s).regs ≡ 0
    first n e h zero q = e
    first n e h (suc i) q = h i (omega arith)

-- "until its 32-bit budget is spent": at most so many units
pub run_from_within : (budget : ℕ) (s : State) → (run_from budget 0 s).ran.count ≤ budget
run_from_within budget s = let t = told budget 0 s in omega (arith, t.count, t.within)

-- "reports the number of units done": n units are n steps of the definition
pub run_from_counts : (budget : ℕ) (s : State) → left_by (run_from budget 0 s) ≡ units_done (run_from budget 0 s).ran.count s
run_from_counts budget s =
    let t = told budget 0 s in
    let e : t.done ≡ (run_from budget 0 s).ran.count = omega (arith, t.count) in
    t.left ∙ ap (λ (n : ℕ). units_done n s) e

-- the registers left say why no further unit applies: 2 or 3
pub record Stopped (o : Outcome) : Type 0 where
  pub why : o.ran.why ≡ reason_of o.ran.regs
  pub two : 2 ≤ o.ran.why
  pub three : o.ran.why ≤ 3

-- "it says which, the first in this order": each unit done was one that applied; then the budget was spent, or no further unit applied
pub record Reasoned (budget : ℕ) (s : State) (o : Outcome) : Type 0 where
  pub before : (i : ℕ) → i < o.ran.count → reason_of (units_done i s).regs ≡ 0
  pub spent : o.ran.count ≡ budget → o.ran.why ≡ 1
  pub short : o.ran.count < budget → Stopped o

pub run_from_reason : (budget : ℕ) (s : State) → Reasoned budget s (run_from budget 0 s)
run_from_reason budget s =
    let t = told budget 0 s in
    record {
      before = λ i h. t.busy i (omega (arith, t.count));
      spent = λ e. t.spent (omega (arith, t.count));
      short = λ h. stops (run_from budget 0 s) (t.short (omega (arith, t.count)));
    }
  where
    two_of_law : (y : ℕ) → (y ≡ 0 → ⊥) → Reason y → 2 ≤ y
    two_of_law y n k = omega (arith, k.not_1)

    stops : (o : Outcome) → (o.ran.why ≡ reason_of o.ran.regs) × (reason_of o.ran.regs ≡ 0 → ⊥) → Stopped o
    stops o q =
        let k = reason_kinds o.ran.regs in
        record { why = q.0; two = rw q.0 (two_of_law (reason_of o.ran.regs) q.1 k); three = rw q.0 k.few }

-- where no unit applies, a run does nothing and says why: "nothing is in progress or, in write mode, queued, or a read awaits room"
pub run_from_idle : (budget k : ℕ) (s : State) → 0 < budget → (reason_of s.regs ≡ 0 → ⊥)
    → run_from budget k s ≡ stopped s k (reason_of s.regs)
unfolding run_from
run_from_idle zero k s h n = absurd (omega arith)
run_from_idle (suc f) k s h n = rw (ne_eqb (reason_of s.regs) 0 n)

-- .. so that it leaves what all the units of its budget make
pub run_from_all : (budget k : ℕ) (s : State) → left_by (run_from budget k s) ≡ units_done budget s
unfolding run_from units_done
run_from_all zero k s = refl
run_from_all (suc f) k s =
    cases (λ (o : Outcome). left_by o ≡ units_done f (unit_done s)) (eqb (reason_of s.regs) 0)
    (λ t. run_from_all f (k + 1) (unit_done s))
    (λ t. sym (units_idle (suc f) s (eqb-false (reason_of s.regs) 0 t)))

-- ---- two runs

-- the outcome with k units more
abbrev pub further : ℕ → Outcome → Outcome
further k o = outcome (record { number = o.ran.number; count = k + o.ran.count; why = o.ran.why; regs = o.ran.regs }) o.mem

pub counted_on : (f k j : ℕ) (s : State) → run_from f (k + j) s ≡ further k (run_from f j s)
unfolding run_from
counted_on zero k j s = refl
counted_on (suc f) k j s = go (eqb (reason_of s.regs) 0) (counted_on f k (j + 1) (unit_done s))
  where
    go : (t : Bool) → run_from f (k + (j + 1)) (unit_done s) ≡ further k (run_from f (j + 1) (unit_done s))
        → cond t (run_from f (k + j + 1) (unit_done s)) (stopped s (k + j) (reason_of s.regs))
        ≡ further k (cond t (run_from f (j + 1) (unit_done s)) (stopped s j (reason_of s.regs)))
    go true ih = let e : k + j + 1 ≡ k + (j + 1) = omega arith in ap (λ (n : ℕ). run_from f n (unit_done s)) e ∙ ih
    go false ih = refl

went_on : (a b k : ℕ) (s : State) → (run_from a k s).ran.why ≡ 1 → run_from (a + b) k s ≡ run_from b (k + a) (left_by (run_from a k s))
unfolding run_from
went_on zero b k s y =
    let e : 0 + b ≡ b = omega arith in
    let h : k ≡ k + 0 = omega arith in
    ap₂ (λ (f n : ℕ). run_from f n s) e h
went_on (suc a) b k s y =
    let e : suc a + b ≡ suc (a + b) = omega arith in
    ap (λ (n : ℕ). run_from n k s) e
    ∙ go (eqb (reason_of s.regs) 0) (λ h. went_on a b (k + 1) (unit_done s) h) y
  where
    go : (t : Bool)
        → ((run_from a (k + 1) (unit_done s)).ran.why ≡ 1
        → run_from (a + b) (k + 1) (unit_done s) ≡ run_from b (k + 1 + a) (left_by (run_from a (k + 1) (unit_done s))))
        → (cond t (run_from a (k + 1) (unit_done s)) (stopped s k (reason_of s.regs))).ran.why ≡ 1
        → cond t (run_from (a + b) (k + 1) (unit_done s)) (stopped s k (reason_of s.regs))
        ≡ run_from b (k + suc a) (left_by (cond t (run_from a (k + 1) (unit_done s)) (stopped s k (reason_of s.regs))))
    go true ih h =
        let e : k + 1 + a ≡ k + suc a = omega arith in
        ih h ∙ ap (λ (n : ℕ). run_from b n (left_by (run_from a (k + 1) (unit_done s)))) e
    go false ih h = absurd ((reason_kinds s.regs).not_1 h)

-- a run whose budget a was spent, and one of b units more, are one run of the sum
pub run_from_joined : (a b : ℕ) (s : State) → (run_from a 0 s).ran.why ≡ 1
    → run_from (a + b) 0 s ≡ further a (run_from b 0 (left_by (run_from a 0 s)))
run_from_joined a b s y =
    let t = left_by (run_from a 0 s) in
    let e : 0 + a ≡ a + 0 = omega arith in
    went_on a b 0 s y ∙ ap (λ (n : ℕ). run_from b n t) e ∙ counted_on b a 0 t

-- ---- the entry, with its refusals

module _ (budget : ℕ) (s : State) where
  pub run_granted : sound_b s.regs ≡ true → fitted_b s ≡ true → run_done budget s ≡ run_from budget 0 s
  unfolding run_done
  run_granted e h = rw (e, h)

  pub run_unsound : sound_b s.regs ≡ false → run_done budget s ≡ run_refused 1 s
  unfolding run_done
  run_unsound e = rw e

  pub run_wrong_length : sound_b s.regs ≡ true → fitted_b s ≡ false → run_done budget s ≡ run_refused 2 s
  unfolding run_done
  run_wrong_length e h = rw (e, h)

  pub run_reason : sound_b s.regs ≡ true → fitted_b s ≡ true → Reasoned budget s (run_done budget s)
  run_reason e h = subst (Reasoned budget s) (sym (run_granted e h)) (run_from_reason budget s)

  pub run_idle : sound_b s.regs ≡ true → fitted_b s ≡ true → 0 < budget → (reason_of s.regs ≡ 0 → ⊥)
      → run_done budget s ≡ stopped s 0 (reason_of s.regs)
  run_idle e h some n = run_granted e h ∙ run_from_idle budget 0 s some n

  run_by_counts : (t u : Bool) → left_by (run_by t u budget s) ≡ units_done (run_by t u budget s).ran.count s
  unfolding units_done
  run_by_counts false u = refl
  run_by_counts true false = refl
  run_by_counts true true = run_from_counts budget s

  -- a run leaves what as many steps of the definition make as it counts; a refused one counts none
  pub run_counts : left_by (run_done budget s) ≡ units_done (run_done budget s).ran.count s
  unfolding run_done
  run_counts = run_by_counts (sound_b s.regs) (fitted_b s)

  run_by_within : (t u : Bool) → (run_by t u budget s).ran.count ≤ budget
  run_by_within false u = omega arith
  run_by_within true false = omega arith
  run_by_within true true = run_from_within budget s

  pub run_within_law : (run_done budget s).ran.count ≤ budget
  unfolding run_done
  run_within_law = run_by_within (sound_b s.regs) (fitted_b s)

-- two runs are one also through the entry: the first leaves a sound set of the same board and a memory of the same length
module _ {board : Board} (n : ℕ) (right : length_b board.wiring n ≡ true) (s : State) (w : Whole board n s) where
  pub still_right : fitted_b s ≡ true
  still_right = (λ i. length_b (w.regs.same i).wiring (w.long i)) ∙ right

  pub run_whole : (budget : ℕ) → run_done budget s ≡ run_from budget 0 s
  run_whole budget = run_granted budget s (lawful_sound s.regs w.regs) still_right

pub run_joined : {board : Board} (n : ℕ) → length_b board.wiring n ≡ true → (s : State) → Whole board n s → (a b : ℕ)
    → (run_done a s).ran.why ≡ 1 → run_done (a + b) s ≡ further a (run_done b (left_by (run_done a s)))
run_joined n right s w a b y =
    let first : run_done a s ≡ run_from a 0 s = run_whole n right s w a in
    run_whole n right s w (a + b)
    ∙ run_from_joined a b s (ap (λ (o : Outcome). o.ran.why) (sym first) ∙ y)
    ∙ ap (further a) (sym (run_whole n right (left_by (run_from a 0 s)) (run_from_kept n a 0 s w) b))
    ∙ ap (λ (o : Outcome). further a (run_done b (left_by o))) (sym first)
