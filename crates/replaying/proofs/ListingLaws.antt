-- Entries that are all accepted do, as the record of their listing, what they do sent one at a time. True because a line tells an entry's
-- port and its byte, which is all that `written` looks at, and because the run after an accepted entry says 2: so "until idle" is that
-- one run.
use mathlib.Core.Path.{◌≡◌, refl, sym, ap, ◌∙◌}
use mathlib.Core.List.{List, [], ◌∷◌}
use Prim.Native.Nat.{ℕ, suc, ◌+◌, ◌*◌, ◌%◌, ◌<◌}
use native.Mathlib.Omega.{arith}
use lib.Dec.{ltb}
use lib.ListN.{length}
use borrow.Author.Tests.{ltb-true, le-ltb}
use Rattle.registers.specs.declared.Registers.{Registers}
use Rattle.registers.specs.State.{State}
use Rattle.units.specs.Run.{run_done}
use Rattle.units.specs.Run.{Outcome as Ran}
use Rattle.laws.proofs.BranchLaws.{cases}
use Rattle.laws.proofs.KeptUnitLaws.{left_by}
use Rattle.sending.specs.Send.{written, full_budget, sent, left, Accepted, sent_all, AllAccepted, units_of}
use Rattle.finishing.specs.Finish.{finished}
use Rattle.finishing.specs.Finish.{outcome as finishedWith}
use Rattle.finishing.proofs.FinishLaws.{none_more, no_run, ends}
use Rattle.replaying.specs.Replay.{Effect, entered, ran, units_mark, idle_mark, event_done, behind, all_done}
use Rattle.replaying.specs.Record.{line_event, listing_events, ListingIsSent}
use Rattle.replaying.proofs.EventLaws.{entry_done, idle_run, run_done_law}
use Rattle.replaying.proofs.ListLaws.{ended, behind_behind, one_taken}
use Rattle.replaying.proofs.PartLaws.{granted_is}

-- ---- a line and its entry
line_few : (e : ℕ) → line_event e < units_mark
line_few e =
    cases (λ (x : ℕ). x < units_mark) (ltb e 256) (λ t. let h : e < 256 = ltb-true e 256 t in omega arith) (λ t. omega arith)

line_written : (r : Registers) (e : ℕ) → written r (line_event e) ≡ written r e
line_written r e =
    cases (λ (x : ℕ). written r x ≡ written r e) (ltb e 256) (λ t. refl)
    (λ t.
    let f : (e % 256 + 256) % 256 ≡ e % 256 = omega arith in
    rw (le-ltb (e % 256 + 256) 256 (omega arith), f, t))

line_done : (s : State) (e : ℕ) → event_done s (line_event e) ≡ entered s e
line_done s e = sym (entry_done s (line_event e) {a = written s.regs e} (line_few e) (sym (line_written s.regs e)))

-- ---- "until idle", where one run is enough
one_run : (s : State) → (run_done full_budget s).ran.why ≡ 2
    → finished s ≡ finishedWith (record { regs = (run_done full_budget s).ran.regs; units = (run_done full_budget s).ran.count })
    (run_done full_budget s).mem
unfolding finished
one_run s y =
    let o : Ran = run_done full_budget s in
    let not_1 : o.ran.why ≡ 1 → ⊥ = λ e. omega arith in
    let k : 0 + o.ran.count ≡ o.ran.count = omega arith in
    none_more (finished s) ∙ ends 0 272 s (omega arith) refl not_1
    ∙ sym (no_run (0 + o.ran.count) (left_by o))
    ∙ ap (λ (n : ℕ). finishedWith (record { regs = o.ran.regs; units = n }) o.mem) k

until_idle : (s : State) → (run_done full_budget s).ran.why ≡ 2
    → event_done s idle_mark ≡ record { number = 0; units = (run_done full_budget s).ran.count; left = left_by (run_done full_budget s) }
until_idle s y =
    sym (run_done_law s idle_mark (omega arith) (idle_run s idle_mark (omega arith) refl)) ∙ ap ran (one_run s y)

-- ---- an entry and its run, and the list
module _ (s : State) (e : ℕ) (l : List ℕ) (ok : Accepted (sent s e)) where
  abbrev count : ℕ
  count = (sent s e).run.ran.count

  entry_and_run : all_done s (line_event e ∷ idle_mark ∷ l) ≡ behind 2 count (all_done (left (sent s e)) l)
  unfolding sent
  entry_and_run =
      let t = (entered s e).left in
      let ran = until_idle t ok.idle in
      let k : 0 + count ≡ count = omega arith in
      one_taken s (line_event e) (idle_mark ∷ l) (ap (λ (f : Effect). f.number) (line_done s e) ∙ ok.port)
      ∙ ap (λ (f : Effect). behind 1 f.units (all_done f.left (idle_mark ∷ l))) (line_done s e)
      ∙ ap (behind 1 0) (one_taken t idle_mark l (ap (λ (f : Effect). f.number) ran)
      ∙ ap (λ (f : Effect). behind 1 f.units (all_done f.left l)) ran)
      ∙ behind_behind 1 0 1 count (all_done (left (sent s e)) l)
      ∙ ap (λ (u : ℕ). behind 2 u (all_done (left (sent s e)) l)) k

listing_done : (l : List ℕ) (s : State) → AllAccepted s l
    → all_done s (listing_events l) ≡ ended 0 (2 * length l) (units_of s l) (sent_all s l)
unfolding listing_events sent_all units_of all_done
listing_done [] s a = refl
listing_done (e ∷ l) s a =
    let q = sent s e in
    let k : 2 + 2 * length l ≡ 2 * suc (length l) = omega arith in
    entry_and_run s e (listing_events l) a.0
    ∙ ap (behind 2 q.run.ran.count) (listing_done l (left q) a.1)
    ∙ ap (λ (n : ℕ). ended 0 n (q.run.ran.count + units_of (left q) l) (sent_all (left q) l)) k

listing_length : (l : List ℕ) → length (listing_events l) ≡ 2 * length l
unfolding listing_events
listing_length [] = refl
listing_length (e ∷ l) = omega (arith, listing_length l)

pub listing_is_sent : ListingIsSent
listing_is_sent s l sound long few a =
    granted_is s (listing_events l) sound long (omega (arith, listing_length l)) ∙ listing_done l s a
