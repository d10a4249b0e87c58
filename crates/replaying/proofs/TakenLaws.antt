-- What was done is what the events that were taken do. True because a refused event leaves all as it was, and `all_done` looks at none
-- behind it.
use mathlib.Core.Path.{◌≡◌, refl, sym, ap, ◌∙◌}
use mathlib.Core.Bool.{Bool, true, false}
use mathlib.Core.List.{List, [], ◌∷◌}
use Prim.Native.Nat.{ℕ, suc, ◌+◌, ◌≤◌}
use native.Mathlib.Omega.{arith}
use lib.Dec.{eqb}
use lib.ListN.{length, take, drop, length-take, take-append-drop}
use lib.Seq.{take-append-le}
use borrow.Author.Tests.{eqb-true}
use Rattle.registers.specs.Sound.{sound_b}
use Rattle.registers.specs.State.{State}
use Rattle.units.specs.Run.{fitted_b}
use Rattle.laws.proofs.BranchLaws.{either}
use Rattle.replaying.specs.Replay.{event_done, Outcome, outcome, left_at, behind, all_done, most_replayed, replayed}
use Rattle.replaying.specs.Record.{TakenIsAllDone}
use Rattle.replaying.proofs.ListLaws.{one_taken, way_unsound, way_mislong}
use Rattle.replaying.proofs.PartLaws.{granted_all, granted_is}

-- ---- the events that were taken, alone
abbrev unrefused : Outcome → Outcome
unrefused o = outcome (record { number = 0; taken = o.list.taken; units = o.list.units; regs = o.list.regs }) o.mem

abbrev Alone : List ℕ → State → Type 0
Alone l s = all_done s (take (all_done s l).list.taken l) ≡ unrefused (all_done s l)

module _ (e : ℕ) (l : List ℕ) (s : State) (rest : Alone l (event_done s e).left) where
  one_alone : (t : Bool) → eqb (event_done s e).number 0 ≡ t → Alone (e ∷ l) s
  unfolding all_done
  one_alone true t =
      let y = eqb-true (event_done s e).number 0 t in
      let n = (all_done (event_done s e).left l).list.taken in
      let k : 1 + n ≡ suc n = omega arith in
      rw t
      (ap (λ (j : ℕ). all_done s (take j (e ∷ l))) k ∙ one_taken s e (take n l) y ∙ ap (behind 1 (event_done s e).units) rest)
  one_alone false t = rw t

alone : (l : List ℕ) (s : State) → Alone l s
unfolding all_done
alone [] s = refl
alone (e ∷ l) s = one_alone e l s (alone l (event_done s e).left) (eqb (event_done s e).number 0) refl

taken_within : (l : List ℕ) (s : State) → (all_done s l).list.taken ≤ length l
unfolding all_done
taken_within [] s = omega arith
taken_within (e ∷ l) s =
    either (λ (o : Outcome). o.list.taken ≤ suc (length l)) (eqb (event_done s e).number 0)
    (omega (arith, taken_within l (event_done s e).left)) (omega arith)

-- ---- of the list that is looked at
module _ (s : State) (l : List ℕ) where
  abbrev seen : List ℕ
  seen = take most_replayed l

  abbrev taken : ℕ
  taken = (replayed s l).list.taken

  abbrev Same : Outcome → Outcome → Type 0
  Same o p = (left_at o ≡ left_at p) × (o.list.units ≡ p.list.units)

  refused_same : {o : Outcome} → ((k : List ℕ) → o ≡ replayed s k) → Same (replayed s (take taken l)) (replayed s l)
  refused_same {o} is =
      let same : replayed s (take taken l) ≡ replayed s l = sym (is (take taken l)) ∙ is l in
      (ap left_at same, ap (λ (x : Outcome). x.list.units) same)

  granted_same : sound_b s.regs ≡ true → fitted_b s ≡ true → Same (replayed s (take taken l)) (replayed s l)
  granted_same sound long =
      let all : replayed s l ≡ all_done s seen = granted_all s l sound long in
      let n = (all_done s seen).list.taken in
      let first : taken ≡ n = ap (λ (o : Outcome). o.list.taken) all in
      let within : n ≤ length seen = taken_within seen s in
      let few : length (take taken l) ≤ most_replayed = omega (arith, length-take taken l, length-take most_replayed l) in
      let part : take taken l ≡ take n seen =
      ap (λ (k : ℕ). take k l) first ∙ ap (take n) (sym (take-append-drop most_replayed l))
      ∙ take-append-le n seen (drop most_replayed l) within in
      let same : replayed s (take taken l) ≡ unrefused (all_done s seen) =
      granted_is s (take taken l) sound long few ∙ ap (all_done s) part ∙ alone seen s in
      (ap left_at same ∙ sym (ap left_at all), ap (λ (o : Outcome). o.list.units) same ∙ sym (ap (λ (o : Outcome). o.list.units) all))

  same_by : (x y : Bool) → sound_b s.regs ≡ x → fitted_b s ≡ y → Same (replayed s (take taken l)) (replayed s l)
  same_by false y e f = refused_same (λ k. way_unsound s k e)
  same_by true false e f = refused_same (λ k. way_mislong s k e f)
  same_by true true e f = granted_same e f

pub taken_is_all_done : TakenIsAllDone
taken_is_all_done s l = same_by s l (sound_b s.regs) (fitted_b s) refl refl
