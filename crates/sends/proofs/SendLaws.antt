-- Entries sent one at a time: one, and the list. What is left to send from here, with what was taken and the units so far, is what was
-- to send from the start. True because `taken_of`, `number_at`, `sent_all` and `units_of` take the first entry of a list first.
use mathlib.Core.Path.{◌≡◌, refl, sym, ap, ap₂, ◌∙◌}
use Rattle.std.specs.Prelude.{Bool, true, false, Ok, Err}
use mathlib.Core.List.{List, [], ◌∷◌}
use Prim.Native.Nat.{ℕ, suc, ◌+◌, min, ◌≤◌, ◌<◌}
use native.Mathlib.Omega.{arith}
use lib.Dec.{eqb, leb}
use lib.ListN.{length, get_or, take, drop, length-take, drop_of_length-le}
use lib.Seq.{drop-cons, take_all, take-length}
use borrow.Author.Tests.{eqb-true, eq-eqb, ne_eqb, leb-true, leb-false}
use Rattle.registers.specs.Sound.{sound_b}
use Rattle.registers.specs.State.{State, state}
use Rattle.ports.specs.declared.Answer.{Answer}
use Rattle.units.specs.declared.Refusal.{Refusal}
use Rattle.units.specs.Answered.{refusal_number, accepted_by}
use Rattle.units.specs.Run.{Outcome, fitted_b, run_done}
use Rattle.units.proofs.RunLaws.{refused_by, accepted_right}
use Rattle.laws.proofs.BranchLaws.{cases}
use Rattle.sending.specs.Send.{written, sent, left, sent_all, units_of, AllAccepted}
use Rattle.sends.specs.Sends.{ListOutcome, listed, taken_of, number_at, taken_from, list_taken}
use Rattle.sends.specs.Sends.{list_refused, list_by, most_listed, list_sent}

-- ---- a list, behind k entries that were taken with u units
abbrev pub went_on : ℕ → ℕ → State → List ℕ → ListOutcome
went_on k u s l =
    listed
    (record {
      number = number_at s l;
      taken = k + taken_of s l;
      units = u + units_of s (taken_from s l);
      regs = (sent_all s (taken_from s l)).regs;
    })
    (sent_all s (taken_from s l)).mem

-- it ended: with this number, k entries taken, u units
abbrev pub ended : ℕ → ℕ → ℕ → State → ListOutcome
ended n k u s = listed (record { number = n; taken = k; units = u; regs = s.regs }) s.mem

pub starts : (s : State) (l : List ℕ) → list_taken s l ≡ went_on 0 0 s l
starts s l =
    let e : taken_of s l ≡ 0 + taken_of s l = omega arith in
    let f : units_of s (taken_from s l) ≡ 0 + units_of s (taken_from s l) = omega arith in
    rw (← e, ← f)

pub none_left : (k u : ℕ) (s : State) → went_on k u s [] ≡ ended 0 k u s
unfolding taken_of number_at sent_all units_of
none_left k u s = let e : k + 0 ≡ k = omega arith in let f : u + 0 ≡ u = omega arith in rw (e, f)

module _ (k u : ℕ) (s : State) (e : ℕ) (l : List ℕ) where
  pub one_refused : ((sent s e).port.number ≡ 0 → ⊥) → went_on k u s (e ∷ l) ≡ ended (sent s e).port.number k u s
  unfolding taken_of number_at sent_all units_of
  one_refused z =
      let f : k + 0 ≡ k = omega arith in let g : u + 0 ≡ u = omega arith in
      rw (ne_eqb (sent s e).port.number 0 z, f, g)

  pub one_taken : (sent s e).port.number ≡ 0
      → went_on k u s (e ∷ l) ≡ went_on (k + 1) (u + (sent s e).run.ran.count) (left (sent s e)) l
  unfolding taken_of number_at sent_all units_of
  one_taken z =
      let t = left (sent s e) in
      let f : k + suc (taken_of t l) ≡ k + 1 + taken_of t l = omega arith in
      let g : u + ((sent s e).run.ran.count + units_of t (taken_from t l)) ≡ u + (sent s e).run.ran.count + units_of t (taken_from t l) =
      omega arith in
      rw (eq-eqb (sent s e).port.number 0 z, f, g)

-- ---- one entry: the list of it alone
module _ (s : State) (e : ℕ) where
  abbrev port : ℕ
  port = (sent s e).port.number

  abbrev count : ℕ
  count = (sent s e).run.ran.count

  pub alone_number : number_at s (e ∷ []) ≡ port
  unfolding number_at
  alone_number = cases (λ (n : ℕ). n ≡ port) (eqb port 0) (λ t. sym (eqb-true port 0 t)) (λ t. refl)

  pub alone_refused : (port ≡ 0 → ⊥) → list_taken s (e ∷ []) ≡ ended port 0 0 s
  alone_refused z = starts s (e ∷ []) ∙ one_refused 0 0 s e [] z

  pub alone_taken : port ≡ 0 → list_taken s (e ∷ []) ≡ ended 0 1 count (left (sent s e))
  alone_taken z =
      let f : 0 + count ≡ count = omega arith in
      starts s (e ∷ []) ∙ one_taken 0 0 s e [] z ∙ none_left 1 (0 + count) (left (sent s e))
      ∙ ap (λ (u : ℕ). ended 0 1 u (left (sent s e))) f

  -- `send_one`, from what the port answers and the run leaves
  module _ {a : Answer} (at : a ≡ written s.regs e) where
    pub sent_not : (a.number ≡ 0 → ⊥) → ended a.number 0 0 s ≡ list_taken s (e ∷ [])
    unfolding sent
    sent_not z = sym (alone_refused (λ y. z (ap (λ (x : Answer). x.number) at ∙ y)) ∙ rw at)

    pub sent_one : {o : Outcome} → a.number ≡ 0 → o ≡ run_done 4294967295 (state a.regs s.mem)
        → ended 0 1 o.ran.count (state o.ran.regs o.mem) ≡ list_taken s (e ∷ [])
    unfolding sent
    sent_one {o} z ran =
        ap (λ (x : Outcome). ended 0 1 x.ran.count (state x.ran.regs x.mem))
        (ran ∙ ap (λ (x : Answer). run_done 4294967295 (state x.regs s.mem)) at)
        ∙ sym (alone_taken (sym (ap (λ (x : Answer). x.number) at) ∙ z))

  -- a list that goes no further, as its first entry is refused
  pub goes_no_further : (k u : ℕ) (l : List ℕ) → (number_at s (e ∷ []) ≡ 0 → ⊥)
      → ended (number_at s (e ∷ [])) k u (state s.regs (list_taken s (e ∷ [])).mem) ≡ went_on k u s (e ∷ l)
  goes_no_further k u l z =
      let y : port ≡ 0 → ⊥ = λ x. z (alone_number ∙ x) in
      ap₂ (λ (n : ℕ) (m : List ℕ). ended n k u (state s.regs m)) alone_number (ap (λ (o : ListOutcome). o.mem) (alone_refused y))
      ∙ sym (one_refused k u s e l y)

-- ---- the loop over all entries
module _ (entries : List ℕ) where
  pub next_entry : (k : ℕ) → k < length entries → drop k entries ≡ get_or entries k 0 ∷ drop (k + 1) entries
  next_entry k h = let e : suc k ≡ k + 1 = omega arith in drop-cons entries k 0 h ∙ rw e

  pub all_taken : (k u : ℕ) (s : State) → length entries ≤ k → went_on k u s (drop k entries) ≡ ended 0 k u s
  all_taken k u s h = ap (went_on k u s) (drop_of_length-le entries h) ∙ none_left k u s

-- so many are looked at
pub looked_at : (n : ℕ) (l : List ℕ) → take (min n (length l)) l ≡ take n l
looked_at n l = go (leb (length l) n) refl
  where
    go : (t : Bool) → leb (length l) n ≡ t → take (min n (length l)) l ≡ take n l
    go true h =
        let short : length l ≤ n = leb-true (length l) n h in
        let e : min n (length l) ≡ length l = omega arith in
        ap (λ (k : ℕ). take k l) e ∙ take-length l ∙ sym (take_all n l short)
    go false h =
        let long : n < length l = leb-false (length l) n h in
        let e : min n (length l) ≡ n = omega arith in
        ap (λ (k : ℕ). take k l) e

module _ (l : List ℕ) {n : ℕ} (is : n ≡ min most_listed (length l)) where
  pub looked_long : n ≡ length (take n l)
  looked_long = sym (length-take n l ∙ omega arith)

  pub looked_few : length (take n l) ≤ most_listed
  looked_few = omega (arith, looked_long)

-- `send_all`, each way out
module _ (s : State) (l : List ℕ) where
  pub way_refused : {why : Refusal} → Err why ≡ accepted_by (sound_b s.regs) (fitted_b s)
      → list_refused (refusal_number why) s ≡ list_sent s l
  unfolding list_sent
  way_refused e =
      refused_by (λ (k j : Bool). list_by k j s (take most_listed l)) (λ (n : ℕ). list_refused n s) (λ j. refl) refl
      (sound_b s.regs) (fitted_b s) e

  pub way_sent : {x : Unit {0}} {o : ListOutcome} {n : ℕ} → Ok x ≡ accepted_by (sound_b s.regs) (fitted_b s)
      → n ≡ min most_listed (length l) → o ≡ list_taken s (take n l) → o ≡ list_sent s l
  unfolding list_sent
  way_sent e h o =
      let t = accepted_right (sound_b s.regs) (fitted_b s) e in
      o ∙ rw (t.0, t.1) (ap (list_taken s) (ap (λ (k : ℕ). take k l) h ∙ looked_at most_listed l))

-- ---- entries that are all accepted are all taken, and none is refused
pub all_accepted : (s : State) (l : List ℕ) → AllAccepted s l → (taken_of s l ≡ length l) × (number_at s l ≡ 0)
unfolding taken_of number_at
all_accepted s [] a = (refl, refl)
all_accepted s (e ∷ l) a =
    let rest = all_accepted (left (sent s e)) l a.1 in
    rw (eq-eqb (sent s e).port.number 0 a.0.port) (ap suc rest.0, rest.1)

pub accepted_listed : (s : State) (l : List ℕ) → sound_b s.regs ≡ true → fitted_b s ≡ true → length l ≤ most_listed
    → AllAccepted s l → list_sent s l ≡ ended 0 (length l) (units_of s l) (sent_all s l)
unfolding list_sent
accepted_listed s l sound long few a =
    let all = all_accepted s l a in
    let whole : taken_from s l ≡ l = ap (λ (n : ℕ). take n l) all.0 ∙ take-length l in
    rw (sound, long)
    (ap (list_taken s) (take_all most_listed l few)
    ∙ ap₂ (λ (n k : ℕ). listed
    (record { number = n; taken = k; units = units_of s (taken_from s l); regs = (sent_all s (taken_from s l)).regs })
    (sent_all s (taken_from s l)).mem) all.1 all.0
    ∙ ap (λ (x : List ℕ). ended 0 (length l) (units_of s x) (sent_all s x)) whole)
