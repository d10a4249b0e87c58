-- The first entries of a list, taken at once, are what sending them one at a time makes. True because a controller that waits has an
-- empty buffer: the port puts the entry into it, the run's first unit takes it out, and where the entry only sets registers nothing is
-- left to do then. So each such entry is accepted with one unit, and the controller waits as before.
use mathlib.Core.Path.{◌≡◌, refl, sym, ap, ap₂, subst, ◌∙◌}
use mathlib.Core.Bool.{Bool, true, false, not, ◌&&◌}
use mathlib.Core.List.{List, [], ◌∷◌}
use Prim.Native.Nat.{ℕ, suc, ◌+◌, ◌*◌, ◌≤◌, ◌<◌}
use native.Mathlib.Omega.{arith}
use lib.Dec.{eqb, ltb}
use lib.ListN.{length, get_or, drop, length-drop}
use lib.Seq.{drop-drop}
use borrow.Author.Tests.{eqb-true, eqb-false, ltb-true, not-true}
use Rattle.registers.specs.declared.Mode.{Mode}
use Rattle.registers.specs.declared.Mode.TheVariants.{Write, Read}
use Rattle.registers.specs.declared.Work.{Work}
use Rattle.registers.specs.declared.Work.TheVariants.{Idle, Figure, Arc, Character, Reading}
use Rattle.registers.specs.declared.Buffer.{Buffer}
use Rattle.registers.specs.declared.Board.{Board}
use Rattle.registers.specs.declared.Registers.{Registers}
use Rattle.registers.specs.Fresh.{empty_buffer}
use Rattle.registers.specs.Sound.{write_b}
use Rattle.registers.specs.Put.{put_buffer}
use Rattle.registers.specs.State.{State, state}
use Rattle.registers.proofs.BoolLaws.{false_true, and_left, and_right}
use Rattle.processor.specs.Entry.{entry_taken}
use Rattle.settings.specs.declared.Settings.{Settings}
use Rattle.settings.specs.declared.Settled.{Settled}
use Rattle.wdat.specs.Wdat.{first_sync}
use Rattle.settings.specs.Settings.{Taken, Settlement, settable_b, put_settings, settings_of, setting_taken, settled, one_more, settle_all}
use Rattle.settings.proofs.SettingsLaws.{settable_below, settable_no_reset, entry_setting}
use Rattle.units.specs.declared.Ran.{Ran}
use Rattle.units.specs.Run.{outcome, reason_of, stopped, length_b, fitted_b, run_from}
use Rattle.laws.proofs.BranchLaws.{either, cases}
use Rattle.laws.proofs.KeptLaws.{Whole, own, buffer_kept}
use Rattle.laws.proofs.KeptBufferLaws.{empty_queue}
use Rattle.laws.proofs.RunLaws.{run_within_law, run_from_idle, still_right}
use Rattle.sending.specs.Send.{written, full_budget, Reply, sent, left}
use Rattle.sending.proofs.KeptLaws.{sent_kept}
use Rattle.sending.proofs.WaitLaws.{Waiting, drained, taken_by}
use Rattle.sending.proofs.SendLaws.{taken_at_once}
use Rattle.sends.specs.Once.{idle_b, at_once_b}
use Rattle.sends.specs.Sends.{ListOutcome, list_taken, most_listed}
use Rattle.lists.specs.Quick.{with_one, begun_by, set_by, set_at, first_sent}
use Rattle.sends.proofs.SendLaws.{went_on, ended, one_taken, alone_number, alone_taken, goes_no_further, next_entry}

-- the first entries of a list, all taken: what is left to send then is what was to send before
pub record Part (board : Board) (n : ℕ) (s : State) (l : List ℕ) (o : ListOutcome) : Type 0 where
  pub some : 0 < o.list.taken
  pub within : o.list.taken ≤ length l
  pub few : o.list.units ≤ most_listed * o.list.taken
  pub whole : Whole board n (state o.list.regs o.mem)
  pub on : (k u : ℕ)
      → went_on k u s l ≡ went_on (k + o.list.taken) (u + o.list.units) (state o.list.regs o.mem) (drop o.list.taken l)

-- ---- a controller that takes the entry at once waits
module _ (r : Registers) (e : ℕ) (now : at_once_b r.mode r.work r.buffer.count e ≡ true) where
  abbrev waits_b : Bool
  waits_b = write_b r.mode && idle_b r.work

  abbrev empty_b : Bool
  empty_b = waits_b && eqb r.buffer.count 0

  abbrev other_b : Bool
  other_b = empty_b && not (eqb e 256)

  other : other_b ≡ true
  other = and_left other_b (ltb e 512) now

  waits : waits_b ≡ true
  waits = and_left waits_b _ (and_left empty_b _ other)

  at_once_below : e < 512
  at_once_below = ltb-true e 512 (and_right other_b _ now)

  at_once_no_reset : e ≡ 256 → ⊥
  at_once_no_reset = eqb-false e 256 (not-true _ (and_right empty_b _ other))

  writes : (m : Mode) → write_b m ≡ true → m ≡ Write
  writes Write h = refl
  writes Read h = absurd (false_true h)

  idles : (w : Work) → idle_b w ≡ true → w ≡ Idle
  idles Idle h = refl
  idles (Figure k d) h = absurd (false_true h)
  idles (Arc k a) h = absurd (false_true h)
  idles (Character y x start) h = absurd (false_true h)
  idles (Reading i t) h = absurd (false_true h)

  at_once_waits : {board : Board} (n : ℕ) (m : List ℕ) → Whole board n (state r m) → Waiting r
  at_once_waits n m w = record {
    lawful = own r w.regs;
    mode = writes r.mode (and_left (write_b r.mode) _ waits);
    idle = idles r.work (and_right (write_b r.mode) _ waits);
    empty = eqb-true r.buffer.count 0 (and_right waits_b _ (and_left empty_b _ other));
  }

-- ---- one entry, through its port or at once
module _ (board : Board) (n : ℕ) (right : length_b board.wiring n ≡ true) where
  one_part : (s : State) → Whole board n s → (e : ℕ) (l : List ℕ) → (sent s e).port.number ≡ 0
      → Part board n s (e ∷ l) (list_taken s (e ∷ []))
  unfolding sent
  one_part s w e l z =
      subst (Part board n s (e ∷ l)) (sym (alone_taken s e z))
      (record {
        some = omega arith;
        within = omega arith;
        few = omega (arith, run_within_law full_budget (state (written s.regs e).regs s.mem));
        whole = sent_kept n s w e;
        on = λ k u. one_taken k u s e l z;
      })

  module _ (r : Registers) (m : List ℕ) (w : Whole board n (state r m)) (e : ℕ) (l : List ℕ)
      (v : Waiting r) (small : e < 512) (other : e ≡ 256 → ⊥) where
    long : fitted_b (state r m) ≡ true
    long = still_right n right (state r m) w

    accepted : (sent (state r m) e).port.number ≡ 0
    accepted = ap (λ (q : Reply). q.port.number) (taken_at_once r m e v small other long)

    begun_is : list_taken (state r m) (e ∷ []) ≡ begun_by e (state r m)
    unfolding begun_by
    begun_is =
        let q = run_from 4294967294 0 (taken_by e r m) in
        let f : 1 + q.ran.count ≡ q.ran.count + 1 = omega arith in
        alone_taken (state r m) e accepted
        ∙ ap (λ (x : Reply). ended 0 1 x.run.ran.count (left x)) (taken_at_once r m e v small other long)
        ∙ ap (λ (k : ℕ). ended 0 1 k (state q.ran.regs q.mem)) f

    pub begun_part : Part board n (state r m) (e ∷ l) (begun_by e (state r m))
    begun_part = subst (Part board n (state r m) (e ∷ l)) begun_is (one_part (state r m) w e l accepted)

  -- ---- a controller that waits, with its buffer empty, whatever its settings
  module _ (r : Registers) (write : r.mode ≡ Write) (idle : r.work ≡ Idle) where
    abbrev with : Settings → List ℕ → State
    with p m = state (put_settings (drained r) p) m

    waits_with : (p : Settings) (m : List ℕ) → Whole board n (with p m) → Waiting (put_settings (drained r) p)
    waits_with p m w = record { lawful = own (put_settings (drained r) p) w.regs; mode = write; idle = idle; empty = refl }

    still : (p : Settings) → reason_of (put_settings (drained r) p) ≡ 0 → ⊥
    unfolding reason_of
    still p z = let e : ◌≡◌ {A = ℕ} 2 0 = rw (idle, write) at z in omega arith

    -- so many entries were set: a unit each
    record Sets (s : State) (l : List ℕ) (q : Settlement) : Type 0 where
      within : q.count ≤ length l
      whole : Whole board n (with q.settings q.mem)
      on : (k u : ℕ) → went_on k u s l ≡ went_on (k + q.count) (u + q.count) (with q.settings q.mem) (drop q.count l)

    sets_none : (p : Settings) (m l : List ℕ) → Whole board n (with p m) → Sets (with p m) l (record { settings = p; count = 0; mem = m })
    sets_none p m l w = record {
      within = omega arith;
      whole = w;
      on = λ k u. let f : k ≡ k + 0 = omega arith in let g : u ≡ u + 0 = omega arith in
          ap₂ (λ (a b : ℕ). went_on a b (with p m) l) f g;
    }

    module _ (p : Settings) (m : List ℕ) (w : Whole board n (with p m)) (e : ℕ) (l : List ℕ)
        (t : settable_b p.progress.command e ≡ true) where
      abbrev next : Taken
      next = setting_taken (first_sync r) e p m

      abbrev after : State
      after = with next.settings next.mem

      set_is : begun_by e (with p m) ≡ with_one (stopped after 0 (reason_of after.regs))
      unfolding begun_by
      set_is =
          ap (λ (x : State). with_one (run_from 4294967294 0 x)) (entry_setting (drained r) e p m t)
          ∙ ap with_one (run_from_idle 4294967294 0 after (omega arith) (still next.settings))

      set_part : Part board n (with p m) (e ∷ l) (with_one (stopped after 0 (reason_of after.regs)))
      set_part =
          subst (Part board n (with p m) (e ∷ l)) set_is
          (begun_part (put_settings (drained r) p) m w e l (waits_with p m w) (settable_below _ e t) (settable_no_reset _ e t))

      sets_one : (q : Settlement) → Sets after l q → Sets (with p m) (e ∷ l) (one_more q)
      sets_one q later = record {
        within = omega (arith, later.within);
        whole = later.whole;
        on = λ k u. let f : k + 1 + q.count ≡ k + suc q.count = omega arith in
            let g : u + (0 + 1) + q.count ≡ u + suc q.count = omega arith in
            set_part.on k u ∙ later.on (k + 1) (u + (0 + 1))
            ∙ ap₂ (λ (a b : ℕ). went_on a b (with q.settings q.mem) (drop q.count l)) f g;
      }

    sets : (l : List ℕ) (p : Settings) (m : List ℕ) → Whole board n (with p m) → Sets (with p m) l (settle_all (first_sync r) p l m)
    unfolding settle_all
    sets [] p m w = sets_none p m [] w
    sets (e ∷ l) p m w =
        cases (Sets (with p m) (e ∷ l)) (settable_b p.progress.command e)
        (λ t. sets_one p m w e l t _ (sets l (next p m w e l t).settings (next p m w e l t).mem (set_part p m w e l t).whole))
        (λ t. sets_none p m (e ∷ l) w)

  -- ---- the first entries of a list
  -- where none was set, the memory is as it was
  unset : (sync : ℕ) (l : List ℕ) (p : Settings) (m : List ℕ) → (settle_all sync p l m).count ≡ 0 → (settle_all sync p l m).mem ≡ m
  unfolding settle_all
  unset sync [] p m z = refl
  unset sync (e ∷ l) p m z =
      cases (λ (q : Settlement). q.count ≡ 0 → q.mem ≡ m) (settable_b p.progress.command e) (λ t y. absurd (omega arith))
      (λ t y. refl) z

  module _ (s : State) (w : Whole board n s) (e : ℕ) (l : List ℕ) where
    abbrev r : Registers
    r = s.regs

    abbrev now_b : Bool
    now_b = at_once_b r.mode r.work r.buffer.count e

    empties : Whole board n (state (drained r) s.mem)
    empties = record { regs = buffer_kept r w.regs empty_buffer (empty_queue r.mode); words = w.words; long = w.long }

    module _ (now : now_b ≡ true) where
      v : Waiting r
      v = at_once_waits r e now n s.mem w

      first_part : (q : Registers) → Whole board n (state q s.mem) → Waiting q
          → Part board n (state q s.mem) (e ∷ l) (begun_by e (state q s.mem))
      first_part q h x = begun_part q s.mem h e l x (at_once_below r e now) (at_once_no_reset r e now)

      -- what stood in the empty buffer has no part in it
      drained_on : (k u : ℕ) → went_on k u s (e ∷ l) ≡ went_on k u (state (drained r) s.mem) (e ∷ l)
      unfolding begun_by
      drained_on k u =
          (first_part r w v).on k u
          ∙ sym ((first_part (drained r) empties (waits_with r v.mode v.idle (settings_of r) s.mem empties)).on k u)

      settled_part : (0 < (settle_all (first_sync r) (settings_of r) (e ∷ l) s.mem).count)
          → Part board n s (e ∷ l) (set_by r (settle_all (first_sync r) (settings_of r) (e ∷ l) s.mem))
      settled_part some =
          let all = sets r v.mode v.idle (e ∷ l) (settings_of r) s.mem empties in
          record {
            some = some;
            within = all.within;
            few = omega arith;
            whole = all.whole;
            on = λ k u. drained_on k u ∙ all.on k u;
          }

    pub set_some : 0 < (set_at e (e ∷ l) s).count → Part board n s (e ∷ l) (set_by r (set_at e (e ∷ l) s))
    unfolding set_at
    set_some =
        cases (λ (q : Settlement). 0 < q.count → Part board n s (e ∷ l) (set_by r q)) now_b (λ t. settled_part t)
        (λ t h. absurd (omega arith))

    pub set_none : (set_at e (e ∷ l) s).count ≡ 0 → (set_at e (e ∷ l) s).mem ≡ s.mem
    unfolding set_at
    set_none =
        either (λ (q : Settlement). q.count ≡ 0 → q.mem ≡ s.mem) now_b (unset (first_sync r) (e ∷ l) (settings_of r) s.mem) (λ z. refl)

    -- one entry that is taken, and one that is refused
    pub first_taken : (first_sent e s).list.number ≡ 0 → Part board n s (e ∷ l) (first_sent e s)
    unfolding first_sent
    first_taken =
        cases (λ (o : ListOutcome). o.list.number ≡ 0 → Part board n s (e ∷ l) o) now_b (λ t z. first_part t r w (v t))
        (λ t z. one_part s w e l (sym (alone_number s e) ∙ z))

    pub first_refused : (k u : ℕ) → ((first_sent e s).list.number ≡ 0 → ⊥)
        → ended (first_sent e s).list.number k u (state r (first_sent e s).mem) ≡ went_on k u s (e ∷ l)
    unfolding first_sent begun_by
    first_refused k u =
        cases (λ (o : ListOutcome). (o.list.number ≡ 0 → ⊥) → ended o.list.number k u (state r o.mem) ≡ went_on k u s (e ∷ l)) now_b
        (λ t z. absurd (z refl)) (λ t z. goes_no_further s e k u l z)

-- ---- each way out of the code
pub begins : (e : ℕ) (r : Registers) (m : List ℕ) {b : Buffer} {t : Registers} {m₁ m₂ : List ℕ} {q : Ran} → b ≡ empty_buffer
    → state t m₁ ≡ entry_taken e (state (put_buffer r b) m) → outcome q m₂ ≡ run_from 4294967294 0 (state t m₁)
    → with_one (outcome q m₂) ≡ begun_by e (state r m)
unfolding begun_by
begins e r m none taken ran =
    ap with_one
    (ran ∙ ap (run_from 4294967294 0) (taken ∙ ap (λ (x : Buffer). entry_taken e (state (put_buffer r x) m)) none))

-- the test decides each
module _ (e : ℕ) (l : List ℕ) (s : State) {t : Bool} (is : t ≡ at_once_b s.regs.mode s.regs.work s.regs.buffer.count e) where
  pub sets_at_once : {p : Settings} {q : Settlement} → t ≡ true → p ≡ settings_of s.regs
      → q ≡ settle_all (first_sync s.regs) p l s.mem
      → q ≡ set_at e l s
  unfolding set_at
  sets_at_once y h a = a ∙ ap (λ (x : Settings). settle_all (first_sync s.regs) x l s.mem) h ∙ rw (sym is ∙ y)

  pub sets_nothing : {p : Settings} → t ≡ false → p ≡ settings_of s.regs → record { settings = p; count = 0; mem = s.mem } ≡ set_at e l s
  unfolding set_at
  sets_nothing y h = rw (sym is ∙ y, h)

  pub begins_at_once : {o : ListOutcome} → t ≡ true → o ≡ begun_by e s → o ≡ first_sent e s
  unfolding first_sent
  begins_at_once y a = a ∙ rw (sym is ∙ y)

  pub goes_by_port : {o : ListOutcome} → t ≡ false → o ≡ list_taken s (e ∷ []) → o ≡ first_sent e s
  unfolding first_sent
  goes_by_port y a = a ∙ rw (sym is ∙ y)

-- ---- the loop: k entries of a list were taken with u units, and what is left to send is what was to send from the start
pub record Going (board : Board) (n : ℕ) (entries : List ℕ) (s₀ s : State) (u k : ℕ) : Type 0 where
  pub right : length_b board.wiring n ≡ true
  pub short : length entries ≤ most_listed
  pub within : k ≤ length entries
  pub few : u ≤ most_listed * k
  pub whole : Whole board n s
  pub rest : list_taken s₀ entries ≡ went_on k u s (drop k entries)

pub units_fit : {board : Board} {n : ℕ} {entries : List ℕ} {s₀ s : State} {u k : ℕ} → Going board n entries s₀ s u k
    → u ≤ 4294967295 * 4294967295
units_fit g = omega (arith, g.few, g.within, g.short)

module _ {board : Board} {n : ℕ} {entries : List ℕ} {s₀ s : State} {u k : ℕ} (g : Going board n entries s₀ s u k)
    (more : k < length entries) where
  abbrev e : ℕ
  e = get_or entries k 0

  abbrev later : List ℕ
  later = drop (k + 1) entries

  rest_is : drop k entries ≡ e ∷ later
  rest_is = next_entry entries k more

  part_on : {o : ListOutcome} → Part board n s (e ∷ later) o
      → Going board n entries s₀ (state o.list.regs o.mem) (u + o.list.units) (k + o.list.taken)
  part_on {o} first =
      let part : Part board n s (drop k entries) o = subst (λ (l : List ℕ). Part board n s l o) (sym rest_is) first in
      record {
        right = g.right;
        short = g.short;
        within = omega (arith, part.within, length-drop k entries, more);
        few = omega (arith, g.few, part.few);
        whole = part.whole;
        rest = g.rest ∙ part.on k u
            ∙ ap (went_on (k + o.list.taken) (u + o.list.units) (state o.list.regs o.mem)) (drop-drop o.list.taken k entries);
      }

  module _ {q : Settled} {m : List ℕ} (is : settled q m ≡ set_at e (drop k entries) s) where
    all_is : settled q m ≡ set_at e (e ∷ later) s
    all_is = is ∙ ap (λ (l : List ℕ). set_at e l s) rest_is

    pub sets_on : {a : Registers} → 0 < q.count → a ≡ put_settings (put_buffer s.regs empty_buffer) q.settings
        → Going board n entries s₀ (state a m) (u + q.count) (k + q.count)
    sets_on some h =
        rw h
        (part_on (subst (λ (x : Settlement). Part board n s (e ∷ later) (set_by s.regs x)) (sym all_is)
        (set_some board n g.right s g.whole e later (rw (← all_is) some))))

    module _ {o : ListOutcome} (none : q.count ≤ 0) (one : o ≡ first_sent e (state s.regs m)) where
      first_is : o ≡ first_sent e s
      first_is =
          let z : q.count ≡ 0 = omega arith in
          let same : m ≡ s.mem =
          ap (λ (x : Settlement). x.mem) all_is
          ∙ set_none board n g.right s g.whole e later (ap (λ (x : Settlement). x.count) (sym all_is) ∙ z) in
          one ∙ ap (λ (x : List ℕ). first_sent e (state s.regs x)) same

      taken_part : o.list.number ≡ 0 → Part board n s (e ∷ later) o
      taken_part z =
          subst (Part board n s (e ∷ later)) (sym first_is)
          (first_taken board n g.right s g.whole e later (ap (λ (x : ListOutcome). x.list.number) (sym first_is) ∙ z))

      pub sends_some : o.list.number ≡ 0 → 0 < o.list.taken
      sends_some z = (taken_part z).some

      pub sends_on : o.list.number ≡ 0
          → Going board n entries s₀ (state o.list.regs o.mem) (u + o.list.units) (k + o.list.taken)
      sends_on z = part_on (taken_part z)

      pub sends_no_more : (o.list.number ≡ 0 → ⊥) → ended o.list.number k u (state s.regs o.mem) ≡ list_taken s₀ entries
      sends_no_more z =
          ap (λ (x : ListOutcome). ended x.list.number k u (state s.regs x.mem)) first_is
          ∙ first_refused board n g.right s g.whole e later k u (λ y. z (ap (λ (x : ListOutcome). x.list.number) first_is ∙ y))
          ∙ ap (went_on k u s) (sym rest_is)
          ∙ sym g.rest
