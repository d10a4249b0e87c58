-- A record that is lent piece by piece does what the whole record does, up to the first refused event. True because `all_done` takes the
-- first event of a list first, and each event keeps a lawful register set lawful and the memory as long as it was, so that the second
-- call refuses nothing with 1 or 2.
use mathlib.Core.Path.{◌≡◌, refl, sym, ap, ◌∙◌}
use mathlib.Core.Bool.{Bool, true, false}
use mathlib.Core.List.{List, [], ◌∷◌, ◌++◌}
use Prim.Native.Nat.{ℕ, ◌%◌, ◌≤◌}
use native.Mathlib.Omega.{arith}
use lib.Dec.{eqb, ltb}
use lib.ListN.{length, take, length-append}
use lib.Seq.{take_all}
use borrow.Author.Tests.{eqb-true, eqb-false}
use Rattle.registers.specs.declared.Board.{Board}
use Rattle.registers.specs.Sound.{sound_b}
use Rattle.registers.specs.State.{State}
use Rattle.units.specs.Run.{length_b, fitted_b}
use Rattle.laws.proofs.BranchLaws.{either}
use Rattle.laws.proofs.KeptLaws.{Whole, lawful, lawful_sound}
use Rattle.laws.proofs.KeptUnitLaws.{run_kept}
use Rattle.laws.proofs.RunLaws.{still_right}
use Rattle.sending.proofs.PortLaws.{written_kept}
use Rattle.finishing.specs.Finish.{Outcome as Runs, left_at as left_by}
use Rattle.finishing.proofs.FinishLaws.{finishes}
use Rattle.replaying.specs.Replay.{Effect, units_mark, idle_mark, runs_of, event_done, Outcome, left_at, behind, all_done, replayed_by}
use Rattle.replaying.specs.Replay.{most_replayed, replayed}
use Rattle.replaying.specs.Record.{RecordGoesOn, PartsAreTheWhole}
use Rattle.replaying.proofs.ListLaws.{behind_behind, behind_none, one_refused, one_taken}

-- ---- one part behind the other
abbrev Joined : List ℕ → List ℕ → State → Type 0
Joined a b s =
    (all_done s a).list.number ≡ 0
    → all_done s (a ++ b) ≡ behind (all_done s a).list.taken (all_done s a).list.units (all_done (left_at (all_done s a)) b)

module _ (e : ℕ) (a b : List ℕ) (s : State) (rest : Joined a b (event_done s e).left) where
  one_more : (t : Bool) → eqb (event_done s e).number 0 ≡ t → Joined (e ∷ a) b s
  one_more true t z =
      let u = (event_done s e).units in
      let next = (event_done s e).left in
      let y = eqb-true (event_done s e).number 0 t in
      let first : all_done s (e ∷ a) ≡ behind 1 u (all_done next a) = one_taken s e a y in
      let none : (all_done next a).list.number ≡ 0 = ap (λ (o : Outcome). o.list.number) (sym first) ∙ z in
      one_taken s e (a ++ b) y ∙ ap (behind 1 u) (rest none)
      ∙ behind_behind 1 u (all_done next a).list.taken (all_done next a).list.units (all_done (left_at (all_done next a)) b)
      ∙ ap (λ (o : Outcome). behind o.list.taken o.list.units (all_done (left_at o) b)) (sym first)
  one_more false t z =
      let y = eqb-false (event_done s e).number 0 t in
      absurd (y (ap (λ (o : Outcome). o.list.number) (sym (one_refused s e a y)) ∙ z))

parts_done : (a b : List ℕ) (s : State) → Joined a b s
unfolding all_done
parts_done [] b s z = behind_none (all_done s b)
parts_done (e ∷ a) b s z = one_more e a b s (parts_done a b (event_done s e).left) (eqb (event_done s e).number 0) refl z

-- ---- lawful sets stay lawful
module _ {board : Board} (n : ℕ) (right : length_b board.wiring n ≡ true) where
  event_kept : (s : State) → Whole board n s → (e : ℕ) → Whole board n (event_done s e).left
  unfolding event_done runs_of
  event_kept s w e =
      either (λ (f : Effect). Whole board n f.left) (ltb e units_mark)
      (record { regs = written_kept s.regs w.regs e; words = w.words; long = w.long })
      (either (λ (o : Runs). Whole board n (left_by o)) (ltb e idle_mark) (run_kept n (e % units_mark) s w) (finishes n right s w).whole)

  pub all_kept : (l : List ℕ) (s : State) → Whole board n s → Whole board n (left_at (all_done s l))
  unfolding all_done
  all_kept [] s w = w
  all_kept (e ∷ l) s w =
      either (λ (o : Outcome). Whole board n (left_at o)) (eqb (event_done s e).number 0)
      (all_kept l (event_done s e).left (event_kept s w e)) w

-- ---- a list that is granted: neither 1 nor 2
module _ (s : State) (l : List ℕ) where
  pub granted_all : sound_b s.regs ≡ true → fitted_b s ≡ true → replayed s l ≡ all_done s (take most_replayed l)
  unfolding replayed
  granted_all e f = rw (e, f)

  pub granted_is : sound_b s.regs ≡ true → fitted_b s ≡ true → length l ≤ most_replayed → replayed s l ≡ all_done s l
  granted_is e f h = granted_all e f ∙ ap (all_done s) (take_all most_replayed l h)

  granted_by : (x y : Bool) (k : List ℕ) → sound_b s.regs ≡ x → fitted_b s ≡ y → (replayed_by x y s k).list.number ≡ 0
      → (sound_b s.regs ≡ true) × (fitted_b s ≡ true)
  granted_by false y k e f z = let w : ◌≡◌ {A = ℕ} 1 0 = z in absurd (omega arith)
  granted_by true false k e f z = let w : ◌≡◌ {A = ℕ} 2 0 = z in absurd (omega arith)
  granted_by true true k e f z = (e, f)

  granted : (replayed s l).list.number ≡ 0 → (sound_b s.regs ≡ true) × (fitted_b s ≡ true)
  unfolding replayed
  granted z = granted_by (sound_b s.regs) (fitted_b s) _ refl refl z

pub record_goes_on : RecordGoesOn
record_goes_on s a b sound typed words long few none =
    let t = left_at (all_done s a) in
    let kept = all_kept (length s.mem) long a s (record { regs = lawful s.regs sound typed; words = words; long = refl }) in
    parts_done a b s none
    ∙ ap (behind (all_done s a).list.taken (all_done s a).list.units)
    (sym (granted_is t b (lawful_sound t.regs kept.regs) (still_right (length s.mem) long t kept) few))

pub parts_are_the_whole : PartsAreTheWhole
parts_are_the_whole s a b typed words short z =
    let g = granted s a z in
    let first : replayed s a ≡ all_done s a = granted_is s a g.0 g.1 (omega (arith, length-append a b)) in
    granted_is s (a ++ b) g.0 g.1 short
    ∙ record_goes_on s a b g.0 typed words g.1 (omega (arith, length-append a b))
    (ap (λ (o : Outcome). o.list.number) (sym first) ∙ z)
    ∙ ap (λ (o : Outcome). behind o.list.taken o.list.units (replayed (left_at o) b)) (sym first)
