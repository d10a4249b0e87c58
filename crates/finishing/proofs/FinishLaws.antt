-- Runs with the whole budget, one after the other, come to one that does not say that its budget is spent: a run that says so did
-- as many units, and 272 of them would be more than lie before any sound register set. Then the controller waits for entries, or it
-- is in read mode. Where it waited before, nothing is done.
use mathlib.Core.Path.{◌≡◌, refl, sym, ap, ◌∙◌}
use mathlib.Core.Bool.{Bool, true, false, cond, not}
use denote.Enum.Bare.{sameb}
use mathlib.Core.List.{List}
use Prim.Native.Nat.{ℕ, zero, suc, ◌+◌, ◌-◌, ◌*◌, ◌≤◌, ◌<◌}
use native.Mathlib.Omega.{arith}
use lib.Dec.{eqb}
use lib.ListN.{length}
use borrow.Author.Tests.{eqb-true, eqb-false, eq-eqb, ne_eqb}
use Rattle.registers.specs.declared.Mode.{Mode}
use Rattle.registers.specs.declared.Mode.TheVariants.{Write, Read}
use Rattle.registers.specs.declared.Work.{Work}
use Rattle.registers.specs.declared.Work.TheVariants.{Idle, Figure, Arc, Character, Reading}
use Rattle.registers.specs.declared.Board.{Board}
use Rattle.registers.specs.declared.Registers.{Registers}
use Rattle.registers.specs.State.{State, state}
use Rattle.units.specs.contracts.Stop.{the_type}
use Rattle.units.specs.declared.Stop.{Stop}
use Rattle.units.specs.declared.Stop.TheVariants.{Spent, Idle as Nothing, Full}
use Rattle.units.specs.Stop.{stop_number}
use Rattle.units.specs.Run.{reason_by, reason_of, units_done, stopped, length_b, run_done}
use Rattle.units.specs.Run.{Outcome as RunOutcome, outcome as run_outcome}
use Rattle.laws.proofs.BranchLaws.{either, cases}
use Rattle.laws.proofs.KeptLaws.{Going, SoundSet, Whole, own, lawful_sound}
use Rattle.laws.proofs.KeptUnitLaws.{left_by, run_kept}
use Rattle.laws.proofs.RunLaws.{Reasoned, run_reason, run_idle, run_counts, run_within_law, still_right}
use Rattle.sending.specs.Send.{full_budget}
use Rattle.sending.proofs.WaitLaws.{Waiting, waiting_sound, waiting_reason}
use Rattle.finishing.specs.Finish.{Outcome, outcome, left_at, unmoved, more, runs_done, finished}
use Rattle.finishing.proofs.EndLaws.{to_do, to_do_few, units_less}

-- a state from which no unit applies
pub record Settled (board : Board) (n : ℕ) (s : State) : Type 0 where
  pub whole : Whole board n s
  pub still : reason_of s.regs ≡ 0 → ⊥

module _ {board : Board} (n : ℕ) (right : length_b board.wiring n ≡ true) where
  settles : (f : ℕ) (s : State) → Whole board n s → to_do s.regs < f * 4294967295 → Settled board n (left_at (runs_done f s))
  unfolding runs_done
  settles zero s w h = absurd (omega arith)
  settles (suc f) s w h =
      cases (λ (x : Outcome). Settled board n (left_at (more o.ran.count x))) (eqb o.ran.why 1)
      (λ t. settles f (left_by o) kept (fewer (eqb-true o.ran.why 1 t)))
      (λ t. record { whole = kept; still = stays (eqb-false o.ran.why 1 t) })
    where
      o : RunOutcome
      o = run_done full_budget s

      kept : Whole board n (left_by o)
      kept = run_kept n full_budget s w

      told : Reasoned full_budget s o
      told = run_reason full_budget s (lawful_sound s.regs w.regs) (still_right n right s w)

      within : o.ran.count ≤ full_budget
      within = run_within_law full_budget s

      less : to_do o.ran.regs + o.ran.count ≤ to_do s.regs
      less =
          let e : to_do o.ran.regs ≡ to_do (units_done o.ran.count s).regs =
          ap (λ (x : State). to_do x.regs) (run_counts full_budget s) in
          omega (arith, units_less n o.ran.count s w told.before)

      fewer : o.ran.why ≡ 1 → to_do o.ran.regs < f * 4294967295
      fewer y =
          let all : o.ran.count < full_budget → ⊥ = λ k. omega (arith, (told.short k).two) in
          omega (arith, less)

      stays : (o.ran.why ≡ 1 → ⊥) → reason_of o.ran.regs ≡ 0 → ⊥
      stays y z =
          let short : o.ran.count ≡ full_budget → ⊥ = λ k. y (told.spent k) in
          let stop = told.short (omega (arith, within)) in
          omega (arith, stop.why, stop.two)

  -- whatever was waiting or in progress, no unit applies then, and the set is as sound as before
  pub finishes : (s : State) → Whole board n s → Settled board n (left_at (finished s))
  unfolding finished
  finishes s w = settles 272 s w (omega (arith, to_do_few s.regs w.regs))

-- the controller waits for entries, or it is in read mode
module _ {P : Type 0} {board : Board} (r : Registers) (l : SoundSet board r) (waits : Waiting r → P) (reads : r.mode ≡ Read → P) where
  idle_by : r.work ≡ Idle → (m : Mode) → r.mode ≡ m → (reason_by Idle m r.buffer ≡ 0 → ⊥) → P
  idle_by e Write write still =
      cases (λ (x : ℕ). (x ≡ 0 → ⊥) → P) (eqb r.buffer.count 0)
      (λ t k. waits (record { lawful = own r l; mode = write; idle = e; empty = eqb-true r.buffer.count 0 t }))
      (λ t k. absurd (k refl)) still
  idle_by e Read read still = reads read

  stands_by : (x : Work) → r.work ≡ x → (reason_by x r.mode r.buffer ≡ 0 → ⊥) → P
  stands_by Idle e still = idle_by e r.mode refl still
  stands_by (Figure k d) e still = absurd (still refl)
  stands_by (Arc k a) e still = absurd (still refl)
  stands_by (Character row column start) e still = absurd (still refl)
  stands_by (Reading i t) e still =
      let g : Going r.drawing r.video.zoom r.mode r.remaining (Reading i t) = rw e at l.work in
      reads g.mode

  pub stands : (reason_of r ≡ 0 → ⊥) → P
  unfolding reason_of
  stands still = stands_by r.work refl still

-- where the controller waits already
nothing_run : (f : ℕ) (s : State) → run_done full_budget s ≡ stopped s 0 2 → runs_done (suc f) s ≡ unmoved s
unfolding runs_done
nothing_run f s e = rw e

pub waits_already : (r : Registers) (m : List ℕ) → Waiting r → length_b r.board.wiring (length m) ≡ true
    → finished (state r m) ≡ unmoved (state r m)
unfolding finished
waits_already r m v long =
    let z = waiting_reason r v in
    let busy : reason_of r ≡ 0 → ⊥ = λ e. omega arith in
    nothing_run 271 (state r m)
    (run_idle full_budget (state r m) (waiting_sound v 0) long (omega arith) busy ∙ ap (stopped (state r m) 0) z)

-- ---- a run counts no more than its budget, so 272 of them count no more than 272 budgets
runs_few : (n : ℕ) (s : State) → (runs_done n s).sent.units ≤ n * 4294967295
unfolding runs_done
runs_few zero s = omega arith
runs_few (suc n) s =
    let h = run_within_law full_budget s in
    let next : State = state (run_done full_budget s).ran.regs (run_done full_budget s).mem in
    either (λ (x : Outcome). (more (run_done full_budget s).ran.count x).sent.units ≤ suc n * 4294967295)
    (eqb (run_done full_budget s).ran.why 1) (omega (arith, runs_few n next)) (omega arith)

pub finished_few : (s : State) {o : Outcome} → o ≡ finished s → o.sent.units ≤ 1168231104240
unfolding finished
finished_few s e = rw e (runs_few 272 s)

pub run_few : (s : State) {o : RunOutcome} → o ≡ run_done full_budget s → o.ran.count ≤ full_budget
run_few s e = rw e (run_within_law full_budget s)

-- ---- the loop of `finish`
pub more_more : (u v : ℕ) (o : Outcome) → more u (more v o) ≡ more (u + v) o
more_more u v o =
    let e : u + (v + o.sent.units) ≡ u + v + o.sent.units = omega arith in
    ap (λ (k : ℕ). outcome (record { regs = o.sent.regs; units = k }) o.mem) e

pub none_more : (o : Outcome) → o ≡ more 0 o
none_more o =
    let e : o.sent.units ≡ 0 + o.sent.units = omega arith in
    ap (λ (k : ℕ). outcome (record { regs = o.sent.regs; units = k }) o.mem) e

pub no_run : (u : ℕ) (s : State) → outcome (record { regs = s.regs; units = u }) s.mem ≡ more u (runs_done 0 s)
unfolding runs_done
no_run u s =
    let e : u ≡ u + 0 = omega arith in
    ap (λ (k : ℕ). outcome (record { regs = s.regs; units = k }) s.mem) e

-- one run of those that are left: what follows it
module _ (u f : ℕ) (s : State) (some : 0 < f) {o : RunOutcome} (ran : o ≡ run_done 4294967295 s) where
  one_run : (t : Bool) → eqb o.ran.why 1 ≡ t
      → more u (runs_done f s) ≡ more (u + o.ran.count) (cond t (runs_done (f - 1) (left_by o)) (runs_done 0 (left_by o)))
  unfolding runs_done
  one_run t e =
      let g : f ≡ suc (f - 1) = omega arith in
      ap (λ (k : ℕ). more u (runs_done k s)) g
      ∙ rw (← ran, e) (more_more u o.ran.count (cond t (runs_done (f - 1) (left_by o)) (unmoved (left_by o))))

  pub goes_on : o.ran.why ≡ 1 → more u (runs_done f s) ≡ more (u + o.ran.count) (runs_done (f - 1) (left_by o))
  goes_on y = one_run true (eq-eqb o.ran.why 1 y)

  pub ends : (o.ran.why ≡ 1 → ⊥) → more u (runs_done f s) ≡ more (u + o.ran.count) (runs_done 0 (left_by o))
  ends y = one_run false (ne_eqb o.ran.why 1 y)

-- a run that is refused does no unit and leaves all as it was: it is the last one too
pub refused_ends : (u f : ℕ) (s : State) → 0 < f → {n : ℕ} {m : List ℕ}
    → run_outcome (record { number = n; count = 0; why = 0; regs = s.regs }) m ≡ run_done 4294967295 s
    → outcome (record { regs = s.regs; units = u }) m ≡ more u (runs_done f s)
refused_ends u f s some {n} {m} ran =
    let e : u ≡ u + 0 = omega arith in
    no_run u (state s.regs m) ∙ ap (λ (k : ℕ). more k (runs_done 0 (state s.regs m))) e
    ∙ sym (ends u f s some ran (λ y. absurd (omega arith)))

-- the code's test whether the budget is spent is that of the number
pub is_spent : (w : Stop) → false ≡ not (sameb the_type w Spent) → stop_number w ≡ 1
is_spent Spent h = refl
is_spent Nothing h = let k : ◌≡◌ {A = ℕ} 0 1 = ap (λ (b : Bool). cond b 1 0) h in absurd (omega arith)
is_spent Full h = let k : ◌≡◌ {A = ℕ} 0 1 = ap (λ (b : Bool). cond b 1 0) h in absurd (omega arith)

pub not_spent : (w : Stop) → true ≡ not (sameb the_type w Spent) → stop_number w ≡ 1 → ⊥
not_spent Spent h e = let k : ◌≡◌ {A = ℕ} 1 0 = ap (λ (b : Bool). cond b 1 0) h in absurd (omega arith)
not_spent Nothing h e = absurd (omega arith)
not_spent Full h e = absurd (omega arith)
