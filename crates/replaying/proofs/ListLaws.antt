-- The list: what is left to do from here, behind the events that were taken and their units, is what was to do from the start. True
-- because `all_done` takes the first event of a list first.
use mathlib.Core.Path.{◌≡◌, refl, sym, ap, ◌∙◌}
use Rattle.std.specs.Prelude.{Bool, true, false, Ok, Err}
use mathlib.Core.List.{List, ◌∷◌}
use Prim.Native.Nat.{ℕ, suc, ◌+◌, ◌*◌, min, ◌≤◌, ◌<◌}
use native.Mathlib.Omega.{arith}
use lib.ListN.{length, get_or, take, drop, length-take, take-append-drop, drop_of_length-le}
use lib.Seq.{drop-cons, take-append_seam}
use borrow.Author.Tests.{eq-eqb, ne_eqb}
use Rattle.registers.specs.Sound.{sound_b}
use Rattle.registers.specs.State.{State}
use Rattle.units.specs.declared.Refusal.{Refusal}
use Rattle.units.specs.Answered.{refusal_number, accepted_by}
use Rattle.units.specs.Run.{fitted_b}
use Rattle.units.proofs.RunLaws.{refused_by, accepted_right}
use Rattle.replaying.specs.Replay.{Effect, event_done, Outcome, outcome, none_taken, behind, all_done, replayed_by, most_replayed, replayed}
use Rattle.replaying.proofs.EventLaws.{event_few}

-- it ended: with this number, k events taken, u units
abbrev pub ended : ℕ → ℕ → ℕ → State → Outcome
ended n k u s = outcome (record { number = n; taken = k; units = u; regs = s.regs }) s.mem

pub behind_behind : (k u j v : ℕ) (o : Outcome) → behind k u (behind j v o) ≡ behind (k + j) (u + v) o
behind_behind k u j v o =
    let e : k + (j + o.list.taken) ≡ k + j + o.list.taken = omega arith in
    let f : u + (v + o.list.units) ≡ u + v + o.list.units = omega arith in
    rw (e, f)

pub behind_none : (o : Outcome) → o ≡ behind 0 0 o
behind_none o =
    let e : 0 + o.list.taken ≡ o.list.taken = omega arith in
    let f : 0 + o.list.units ≡ o.list.units = omega arith in
    rw (e, f)

pub ends_behind : (k u n : ℕ) (s : State) → behind k u (none_taken n s) ≡ ended n k u s
ends_behind k u n s = let e : k + 0 ≡ k = omega arith in let f : u + 0 ≡ u = omega arith in rw (e, f)

module _ (s : State) (e : ℕ) (l : List ℕ) where
  pub one_refused : ((event_done s e).number ≡ 0 → ⊥) → all_done s (e ∷ l) ≡ none_taken (event_done s e).number s
  unfolding all_done
  one_refused z = rw (ne_eqb (event_done s e).number 0 z)

  pub one_taken : (event_done s e).number ≡ 0 → all_done s (e ∷ l) ≡ behind 1 (event_done s e).units (all_done (event_done s e).left l)
  unfolding all_done
  one_taken z = rw (eq-eqb (event_done s e).number 0 z)

-- ---- the loop: k events were taken with u units
pub record Going (n : ℕ) (events : List ℕ) (s₀ s : State) (u k : ℕ) : Type 0 where
  pub short : length events ≤ most_replayed
  pub within : k ≤ length events
  pub few : u ≤ 1168231104240 * k
  pub long : length s.mem ≡ n
  pub rest : all_done s₀ events ≡ behind k u (all_done s (drop k events))

module _ {n : ℕ} {events : List ℕ} {s₀ s : State} {u k : ℕ} (g : Going n events s₀ s u k) where
  pub goes_out : length events ≤ k → ended 0 k u s ≡ all_done s₀ events
  unfolding all_done
  goes_out h =
      sym (g.rest ∙ ap (λ (l : List ℕ). behind k u (all_done s l)) (drop_of_length-le events h) ∙ ends_behind k u 0 s)

  module _ (some : k < length events) {f : Effect} (is : f ≡ event_done s (get_or events k 0)) where
    abbrev later : List ℕ
    later = drop (k + 1) events

    first : drop k events ≡ get_or events k 0 ∷ later
    first = let e : suc k ≡ k + 1 = omega arith in drop-cons events k 0 some ∙ rw e

    number_is : f.number ≡ (event_done s (get_or events k 0)).number
    number_is = ap (λ (x : Effect). x.number) is

    units_fit : u + f.units ≤ 1168231104240 * (k + 1)
    units_fit =
        let h : f.units ≤ 1168231104240 = rw is (event_few s (get_or events k 0)) in
        omega (arith, g.few)

    pub units_most : u + f.units ≤ 1168231104240 * 4194304
    units_most = omega (arith, units_fit, g.short)

    pub goes_no_further : (f.number ≡ 0 → ⊥) → ended f.number k u s ≡ all_done s₀ events
    goes_no_further z =
        let y : (event_done s (get_or events k 0)).number ≡ 0 → ⊥ = λ x. z (number_is ∙ x) in
        ap (λ (x : ℕ). ended x k u s) number_is
        ∙ sym (g.rest ∙ ap (λ (l : List ℕ). behind k u (all_done s l)) first
        ∙ ap (behind k u) (one_refused s (get_or events k 0) later y)
        ∙ ends_behind k u (event_done s (get_or events k 0)).number s)

    pub goes_on : {v : ℕ} → f.number ≡ 0 → length f.left.mem ≡ length s.mem → v ≡ u + f.units
        → Going n events s₀ f.left v (k + 1)
    goes_on z kept v = record {
      short = g.short;
      within = omega arith;
      few = omega (arith, units_fit);
      long = kept ∙ g.long;
      rest = g.rest ∙ ap (λ (l : List ℕ). behind k u (all_done s l)) first
          ∙ ap (behind k u) (one_taken s (get_or events k 0) later (sym number_is ∙ z))
          ∙ behind_behind k u 1 (event_done s (get_or events k 0)).units (all_done (event_done s (get_or events k 0)).left later)
          ∙ ap (λ (x : Effect). behind (k + 1) (u + x.units) (all_done x.left later)) (sym is)
          ∙ ap (λ (x : ℕ). behind (k + 1) x (all_done f.left later)) (sym v);
    }

-- ---- so many are looked at
module _ (l : List ℕ) {n : ℕ} (is : n ≡ min most_replayed (length l)) where
  all_of : n ≡ length (take most_replayed l)
  all_of = is ∙ sym (length-take most_replayed l)

  pub looked_at : take n l ≡ take most_replayed l
  looked_at =
      ap (λ (k : ℕ). take k l) all_of
      ∙ ap (take (length (take most_replayed l))) (sym (take-append-drop most_replayed l))
      ∙ take-append_seam (take most_replayed l) (drop most_replayed l)

  pub looked_long : n ≡ length (take n l)
  looked_long = all_of ∙ ap length (sym looked_at)

  pub looked_few : length (take n l) ≤ most_replayed
  looked_few = omega (arith, looked_long)

-- `replay`, each way out
module _ (s : State) (l : List ℕ) where
  pub way_unsound : sound_b s.regs ≡ false → none_taken 1 s ≡ replayed s l
  unfolding replayed
  way_unsound e = rw e

  pub way_mislong : sound_b s.regs ≡ true → fitted_b s ≡ false → none_taken 2 s ≡ replayed s l
  unfolding replayed
  way_mislong e f = rw (e, f)

  pub way_refused : {why : Refusal} → Err why ≡ accepted_by (sound_b s.regs) (fitted_b s)
      → none_taken (refusal_number why) s ≡ replayed s l
  unfolding replayed
  way_refused e =
      refused_by (λ (k j : Bool). replayed_by k j s (take most_replayed l)) (λ (n : ℕ). none_taken n s) (λ j. refl) refl
      (sound_b s.regs) (fitted_b s) e

  pub way_done : {x : Unit {0}} {o : Outcome} {n : ℕ} → Ok x ≡ accepted_by (sound_b s.regs) (fitted_b s)
      → n ≡ min most_replayed (length l) → o ≡ all_done s (take n l) → o ≡ replayed s l
  unfolding replayed
  way_done e h o =
      let t = accepted_right (sound_b s.regs) (fitted_b s) e in
      o ∙ rw (t.0, t.1) (ap (all_done s) (looked_at l h))
