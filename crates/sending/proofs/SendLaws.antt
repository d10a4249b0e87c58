-- One entry sent to a controller that waits: its port takes it, the run's first unit takes it from the buffer, and the run goes
-- on until nothing is left to do. Told here once; the laws after this one speak of registers and memory alone.
use mathlib.Core.Path.{◌≡◌, refl, sym, ap, ap₂, subst, ◌∙◌}
use mathlib.Core.Bool.{Bool, true, false, cond}
use mathlib.Core.List.{List, [], ◌∷◌, ◌++◌}
use Prim.Native.Nat.{ℕ, zero, suc, ◌+◌, ◌%◌, ◌≤◌, ◌<◌}
use native.Mathlib.Omega.{arith}
use lib.Dec.{eqb, ltb}
use lib.ListN.{length, length-append}
use lib.Seq.{get_or-set_same}
use borrow.Author.Tests.{ltb-false, ne_eqb}
use Rattle.registers.specs.declared.Mode.{Mode}
use Rattle.registers.specs.declared.Work.{Work}
use Rattle.registers.specs.declared.Buffer.{Buffer}
use Rattle.registers.specs.declared.Board.{Board}
use Rattle.registers.specs.declared.Registers.{Registers}
use Rattle.registers.specs.Fresh.{empty_buffer}
use Rattle.registers.specs.Buffer.{pushed, oldest, popped}
use Rattle.registers.specs.Put.{put_buffer}
use Rattle.registers.specs.State.{State, state}
use Rattle.processor.specs.Entry.{entry_taken}
use Rattle.units.specs.Unit.{fetched, fetch_by, unit_by, unit_done}
use Rattle.units.specs.Run.{Outcome, reason_of, units_done, stopped, run_from, length_b, run_done}
use Rattle.ports.specs.Port.{granted, queued, queued_or3, command_in, parameter_in, command_written, parameter_written}
use Rattle.sending.specs.Send.{written, full_budget, Reply, sent, left, sent_all, AllAccepted, units_of}
use Rattle.laws.proofs.RunLaws.{further, counted_on, run_granted}
use Rattle.sending.proofs.RunLaws.{goes_on, runs}
use Rattle.sending.proofs.WaitLaws.{Waiting, waiting_reason, taken_by, waiting_sound, queued_sound, units_lawful, units_board}

-- ---- lists of entries
-- entries that are all accepted, the state that they lead to, and how many units their runs make beside one for each entry
pub record Leads (s : State) (l : List ℕ) (more : ℕ) (s' : State) : Type 0 where
  pub accepted : AllAccepted s l
  pub ends : sent_all s l ≡ s'
  pub units : units_of s l ≡ length l + more

sent_append : (a b : List ℕ) (s : State) → sent_all s (a ++ b) ≡ sent_all (sent_all s a) b
unfolding sent_all
sent_append [] b s = refl
sent_append (e ∷ a) b s = sent_append a b (left (sent s e))

accepted_append : (a b : List ℕ) (s : State) → AllAccepted s a → AllAccepted (sent_all s a) b → AllAccepted s (a ++ b)
unfolding sent_all
accepted_append [] b s u v = v
accepted_append (e ∷ a) b s u v = (u.0, accepted_append a b (left (sent s e)) u.1 v)

units_append : (a b : List ℕ) (s : State) → units_of s (a ++ b) ≡ units_of s a + units_of (sent_all s a) b
unfolding units_of sent_all
units_append [] b s = omega arith
units_append (e ∷ a) b s = omega (arith, units_append a b (left (sent s e)))

pub leads_then : {s s' s'' : State} {a b : List ℕ} {m n : ℕ} → Leads s a m s' → Leads s' b n s'' → Leads s (a ++ b) (m + n) s''
leads_then {s} {s'} {s''} {a} {b} u v = record {
  accepted = accepted_append a b s u.accepted (subst (λ (x : State). AllAccepted x b) (sym u.ends) v.accepted);
  ends = sent_append a b s ∙ ap (λ (x : State). sent_all x b) u.ends ∙ v.ends;
  units = let k : units_of (sent_all s a) b ≡ units_of s' b = ap (λ (x : State). units_of x b) u.ends in
      omega (arith, units_append a b s, u.units, v.units, length-append a b);
}

pub leads_nothing : (s : State) → Leads s [] 0 s
unfolding sent_all units_of
leads_nothing s = record { accepted = tt; ends = refl; units = refl }

-- ---- one entry
module _ (b : Buffer) (e : ℕ) (z : b.count ≡ 0) where
  oldest_pushed : 0 < length b.entries → oldest (pushed b e) ≡ e
  unfolding oldest pushed
  oldest_pushed h = rw z (get_or-set_same b.entries 0 e 0 h)

  popped_pushed : popped (pushed b e) ≡ empty_buffer
  unfolding popped pushed
  popped_pushed = rw z

  pushed_one : (pushed b e).count ≡ 1
  unfolding pushed
  pushed_one = rw z

module _ (r : Registers) (m : List ℕ) (e : ℕ) (v : Waiting r) (small : e < 512) (other : e ≡ 256 → ⊥) where
  room : queued_or3 r e ≡ granted 0 (queued r e)
  unfolding queued_or3
  room = rw v.empty

  by_parameter : parameter_written r e ≡ granted 0 (queued r e)
  unfolding parameter_written
  by_parameter = rw (waiting_sound v e) (ap (λ (x : Mode). parameter_in x r e) v.mode ∙ room)

  by_command : 256 ≤ e → command_written r (e % 256) ≡ granted 0 (queued r e)
  unfolding command_written
  by_command h =
      let z : eqb (e % 256) 0 ≡ false = ne_eqb (e % 256) 0 (λ q. other (omega arith)) in
      let same : e % 256 + 256 ≡ e = omega arith in
      rw (waiting_sound v e, z) (ap (λ (x : Mode). command_in x r (e % 256)) v.mode ∙ ap (queued_or3 r) same ∙ room)

  -- the port takes it
  is_written : written r e ≡ granted 0 (queued r e)
  is_written = go (ltb e 256) refl
    where
      go : (t : Bool) → ltb e 256 ≡ t → cond t (parameter_written r e) (command_written r (e % 256)) ≡ granted 0 (queued r e)
      go true h = by_parameter
      go false h = by_command (ltb-false e 256 h)

  abbrev loaded : State
  loaded = state (queued r e) m

  -- the first unit takes it from the buffer
  loaded_busy : reason_of (queued r e) ≡ 0
  unfolding reason_of
  loaded_busy = rw (v.idle, v.mode, pushed_one r.buffer e v.empty)

  loaded_unit : unit_done loaded ≡ taken_by e r m
  unfolding unit_done fetched
  loaded_unit =
      ap (λ (w : Work). unit_by w loaded) v.idle
      ∙ ap₂ (λ (x : Mode) (k : ℕ). fetch_by x k loaded) v.mode (pushed_one r.buffer e v.empty)
      ∙ ap₂ (λ (x : ℕ) (b : Buffer). entry_taken x (state (put_buffer r b) m))
      (oldest_pushed r.buffer e v.empty (omega (arith, v.lawful.buffer.long))) (popped_pushed r.buffer e v.empty)

  -- one unit takes it, and the rest of the run is that of what it began
  pub taken_at_once : length_b r.board.wiring (length m) ≡ true
      → sent (state r m) e ≡ record { port = granted 0 (queued r e); run = further 1 (run_from 4294967294 0 (taken_by e r m)) }
  unfolding sent
  taken_at_once long =
      rw is_written
      (ap (λ (o : Outcome). record { port = granted 0 (queued r e); run = o })
      (run_granted full_budget loaded (queued_sound v e small) long
      ∙ goes_on 4294967294 0 loaded loaded_busy
      ∙ ap (run_from 4294967294 1) loaded_unit
      ∙ counted_on 4294967294 1 0 (taken_by e r m)))

  abbrev reached : ℕ → State
  reached n = units_done n (taken_by e r m)

  module _ (long : length_b r.board.wiring (length m) ≡ true) (n : ℕ) (busy : (i : ℕ) → i < n → reason_of (reached i).regs ≡ 0)
      (idle : reason_of (reached n).regs ≡ 2)
      (few : n + 1 < full_budget) where
    run_is : run_done full_budget loaded ≡ stopped (reached n) (suc n) 2
    unfolding run_done units_done
    run_is =
        rw (queued_sound v e small, long)
        (runs (suc n) full_budget 0 loaded each (ap (λ (s : State). reason_of (units_done n s).regs) loaded_unit ∙ idle) (omega arith)
        ∙ ap₂ (λ (s : State) (k : ℕ). stopped (units_done n s) k 2) loaded_unit (omega arith))
      where
        each : (i : ℕ) → i < suc n → reason_of (units_done i loaded).regs ≡ 0
        each zero h = loaded_busy
        each (suc i) h = ap (λ (s : State). reason_of (units_done i s).regs) loaded_unit ∙ busy i (omega arith)

    is_sent : sent (state r m) e ≡ record { port = granted 0 (queued r e); run = stopped (reached n) (suc n) 2 }
    unfolding sent
    is_sent = rw (is_written, run_is)

    pub leads_one : Leads (state r m) (e ∷ []) n (reached n)
    unfolding sent_all units_of
    leads_one = record {
      accepted = (
        record {
          port = ap (λ (q : Reply). q.port.number) is_sent;
          run = ap (λ (q : Reply). q.run.ran.number) is_sent;
          idle = ap (λ (q : Reply). q.run.ran.why) is_sent;
        },
        tt,
      );
      ends = ap left is_sent;
      units = let k : (sent (state r m) e).run.ran.count ≡ suc n = ap (λ (q : Reply). q.run.ran.count) is_sent in omega arith;
    }

-- ---- entries that start nothing: only the registers change, whatever the memory holds
pub record Acts (r : Registers) (l : List ℕ) (q : Registers) : Type 0 where
  pub leads : (m : List ℕ) → length_b r.board.wiring (length m) ≡ true → Leads (state r m) l 0 (state q m)
  pub waits : Waiting q
  pub same : q.board ≡ r.board

pub acts_one : {r q : Registers} {e : ℕ} → Waiting r → e < 512 → (e ≡ 256 → ⊥) → ((m : List ℕ) → taken_by e r m ≡ state q m)
    → q.mode ≡ r.mode → q.work ≡ r.work → q.buffer ≡ empty_buffer → Acts r (e ∷ []) q
unfolding units_done
acts_one {r} {q} {e} v small other is mode work buffer = record {
  leads = λ m long. subst (Leads (state r m) (e ∷ []) 0) (is m)
      (leads_one r m e v small other long 0 (λ i h. absurd (omega arith))
      (ap (λ (s : State). reason_of s.regs) (is m) ∙ waiting_reason q waits) (omega arith));
  waits = waits;
  same = units_board v e 0 (is []);
}
  where
    waits : Waiting q
    waits = record {
      lawful = units_lawful v e 0 (is []);
      mode = mode ∙ v.mode;
      idle = work ∙ v.idle;
      empty = ap (λ (b : Buffer). b.count) buffer;
    }

pub acts_then : {r q s : Registers} {a b : List ℕ} → Acts r a q → Acts q b s → Acts r (a ++ b) s
acts_then u v = record {
  leads = λ m long. leads_then (u.leads m long) (v.leads m (ap (λ (b : Board). length_b b.wiring (length m)) u.same ∙ long));
  waits = v.waits;
  same = v.same ∙ u.same;
}
