-- Entries in a loop: an entry that only sets registers, or a stretch of WDAT's bytes, leaves a rest that makes what all of them make
-- from the start, but for their number. True because `settle_all` takes the first entry of a list first, and because WDAT's bytes are
-- such entries, one after the other (`stretch`).
use mathlib.Core.Path.{◌≡◌, refl, sym, ap, ◌∙◌}
use mathlib.Core.Bool.{Bool, true, false, cond}
use mathlib.Core.List.{List, [], ◌∷◌}
use Prim.Native.Nat.{ℕ, suc, ◌+◌, ◌-◌, ◌%◌, ◌≤◌, ◌<◌}
use native.Mathlib.Nat.{mod-eq_of_lt}
use native.Mathlib.Omega.{arith}
use lib.Dec.{ltb}
use lib.ListN.{length, get_or, set, take, drop, length-drop, drop_of_length-le}
use lib.Seq.{drop-drop, take_all}
use borrow.Author.Tests.{lt-ltb, le-ltb, ltb-true}
use Rattle.registers.specs.declared.Transfer.{Transfer}
use Rattle.registers.specs.declared.Command.{Command}
use Rattle.registers.specs.declared.Command.TheVariants.{Wdat}
use Rattle.wdat.specs.Wdat.{half_b}
use Rattle.processor.specs.Entry.{next_of, counted}
use Rattle.settings.specs.declared.Settings.{Settings}
use Rattle.settings.specs.declared.Settled.{Settled}
use Rattle.settings.specs.Put.{set_progress}
use Rattle.settings.specs.Settings.{Taken, taken, Settlement, settled, one_more, settable_b, command_settled, data_set, parameter_set}
use Rattle.settings.specs.Settings.{setting_taken, settle_all, data_all, ram_set}
use Rattle.parameters.specs.Parameter.{put_at}
use Rattle.settings.proofs.DataLaws.{numbered, beyond, unmoved, none_before, here}

-- ---- one entry at the head of a list
module _ (sync e : ℕ) (l : List ℕ) (p : Settings) (m : List ℕ) where
  pub settle_one : {s : Taken} → settable_b p.progress.command e ≡ true → s ≡ setting_taken sync e p m
      → settle_all sync p (e ∷ l) m ≡ one_more (settle_all sync s.settings l s.mem)
  unfolding settle_all
  settle_one ok q = rw (ok, q)

  pub settle_none : settable_b p.progress.command e ≡ false → settle_all sync p (e ∷ l) m ≡ unmoved p m
  unfolding settle_all
  settle_none h = rw h

-- ---- WDAT's bytes
module _ (sync : ℕ) (t : Transfer) where
  kept_by : (b : Bool) (x y : Taken) → x.settings.progress.command ≡ Wdat t → y.settings.progress.command ≡ Wdat t
      → (cond b x y).settings.progress.command ≡ Wdat t
  kept_by true x y f g = f
  kept_by false x y f g = g

  data_kept : (i v : ℕ) (p : Settings) (m : List ℕ) → (data_set sync t i v p m).settings.progress.command ≡ Wdat t
  unfolding data_set
  data_kept i v p m = kept_by (half_b t i) _ _ refl refl

  module _ (e : ℕ) (p : Settings) (m : List ℕ) (wdat : p.progress.command ≡ Wdat t) (byte : e < 256) where
    byte_settable : settable_b p.progress.command e ≡ true
    unfolding settable_b
    byte_settable = rw (lt-ltb e 256 byte, wdat)

    byte_taken : data_set sync t p.progress.next e p m ≡ setting_taken sync e p m
    unfolding setting_taken data_set
    byte_taken =
        rw (lt-ltb e 256 byte)
        (ap (λ (c : Command). parameter_set sync c p.progress.next e (set_progress p (counted p.progress)) m) (sym wdat))

  -- what they come to, and the entries behind them
  abbrev after : Settlement → List ℕ → Settlement
  after d l = beyond d.count (settle_all sync d.settings (drop d.count l) d.mem)

  one_after : (d : Settlement) (e : ℕ) (l : List ℕ) → one_more (after d l) ≡ after (one_more d) (e ∷ l)
  one_after d e l =
      let s = settle_all sync d.settings (drop d.count l) d.mem in
      let z : suc (d.count + s.count) ≡ suc d.count + s.count = omega arith in
      ap (numbered s) z

  -- they are settled one after the other, and then the entries behind them
  abbrev Stretched : List ℕ → Type 0
  Stretched l = (p : Settings) (m : List ℕ) → p.progress.command ≡ Wdat t → settle_all sync p l m ≡ after (data_all sync t p l m) l

  stretch_on : (e : ℕ) (l : List ℕ) → Stretched l → (p : Settings) (m : List ℕ) → p.progress.command ≡ Wdat t → (b : Bool)
      → ltb e 256 ≡ b → settle_all sync p (e ∷ l) m ≡ after (data_all sync t p (e ∷ l) m) (e ∷ l)
  unfolding data_all
  stretch_on e l rest p m wdat true h =
      let byte = ltb-true e 256 h in
      let d = data_set sync t p.progress.next e p m in
      rw h
      (settle_one sync e l p m (byte_settable e p m wdat byte) (byte_taken e p m wdat byte)
      ∙ ap one_more (rest d.settings d.mem (data_kept p.progress.next e p m))
      ∙ one_after (data_all sync t d.settings l d.mem) e l)
  stretch_on e l rest p m wdat false h = rw h (none_before 0 (settle_all sync p (e ∷ l) m))

  stretch : (l : List ℕ) → Stretched l
  unfolding data_all
  stretch [] p m wdat = none_before 0 (settle_all sync p [] m)
  stretch (e ∷ l) p m wdat = stretch_on e l (stretch l) p m wdat (ltb e 256) refl

  -- they are no more than the list has, and with a byte at its head there is one
  few_on : (e : ℕ) (l : List ℕ) → ((p : Settings) (m : List ℕ) → (data_all sync t p l m).count ≤ length l)
      → (p : Settings) (m : List ℕ) (b : Bool)
      → ltb e 256 ≡ b → (data_all sync t p (e ∷ l) m).count ≤ length (e ∷ l)
  unfolding data_all
  few_on e l rest p m true h =
      let d = data_set sync t p.progress.next e p m in
      rw h (omega (arith, rest d.settings d.mem))
  few_on e l rest p m false h = rw h (omega arith)

  few : (l : List ℕ) (p : Settings) (m : List ℕ) → (data_all sync t p l m).count ≤ length l
  unfolding data_all
  few [] p m = omega arith
  few (e ∷ l) p m = few_on e l (few l) p m (ltb e 256) refl

  some : (e : ℕ) (l : List ℕ) (p : Settings) (m : List ℕ) → e < 256 → 0 < (data_all sync t p (e ∷ l) m).count
  unfolding data_all
  some e l p m byte = rw (lt-ltb e 256 byte) (omega arith)

-- ---- a turn of the loop: from the place `at` to behind `at'`
pub record Onward (sync : ℕ) (entries : List ℕ) (at : ℕ) (p : Settings) (m : List ℕ) (at' : ℕ) (p' : Settings) (m' : List ℕ) : Type 0 where
  pub past : at ≤ at'
  pub inside : at' < length entries
  pub long : length m' ≡ length m
  pub rest : settle_all sync p (drop at entries) m ≡ beyond (at' + 1 - at) (settle_all sync p' (drop (at' + 1) entries) m')

-- PRAM's sixteen bytes
pub ram_by_length : (i v : ℕ) (l : List ℕ) → length l ≡ 16 → put_at i v l ≡ ram_set i v l
ram_by_length i v l h = ap (λ (n : ℕ). cond (ltb i n) (set l i v) l) h

-- the settings with one parameter more counted
abbrev pub counting : Settings → ℕ → Settings
counting p next = set_progress p (record { command = p.progress.command; next = next; low = p.progress.low })

module _ (sync : ℕ) (entries : List ℕ) (at : ℕ) (p : Settings) (m : List ℕ) (more : at < length entries) where
  abbrev e : ℕ
  e = get_or entries at 0

  -- it stops here
  pub settle_ended : settable_b p.progress.command e ≡ false → settle_all sync p (drop at entries) m ≡ unmoved p m
  settle_ended h = rw (here entries at more) (settle_none sync e (drop (at + 1) entries) p m h)

  -- the entries from here on, as a part of all
  from_here : (t : Transfer) {d : Settlement} → d ≡ data_all sync t p (take (length entries - at) (drop at entries)) m
      → d ≡ data_all sync t p (drop at entries) m
  from_here t h =
      let n : length (drop at entries) ≤ length entries - at = omega (arith, length-drop at entries) in
      h ∙ ap (λ (l : List ℕ). data_all sync t p l m) (take_all (length entries - at) (drop at entries) n)

  -- how many of WDAT's bytes there were: at least this one, at most the entries that are left
  pub data_counted : (t : Transfer) {q : Settled} {n : List ℕ} → e < 256
      → settled q n ≡ data_all sync t p (take (length entries - at) (drop at entries)) m
      → (0 < q.count) × (at + q.count ≤ length entries)
  data_counted t {q} h d =
      let c : q.count ≡ (data_all sync t p (drop at entries) m).count = ap (λ (s : Settlement). s.count) (from_here t d) in
      let l : length (drop at entries) ≡ length entries - at = length-drop at entries in
      let s : 0 < (data_all sync t p (drop at entries) m).count = rw (here entries at more) (some sync t e (drop (at + 1) entries) p m h) in
      (omega arith, omega (arith, few sync t (drop at entries) p m))

  module _ {at' : ℕ} {p' : Settings} {m' : List ℕ} where
    module _ (ok : settable_b p.progress.command e ≡ true) (same : at' ≡ at) where
      one_on : m' ≡ m → taken p' m' ≡ setting_taken sync e p m → Onward sync entries at p m at' p' m'
      one_on f q =
          let s = settle_all sync p' (drop (at' + 1) entries) m' in
          let z : suc s.count ≡ at' + 1 - at + s.count = omega arith in
          record {
            past = omega arith;
            inside = omega arith;
            long = ap length f;
            rest = ap (λ (l : List ℕ). settle_all sync p l m) (here entries at more) ∙ settle_one sync e (drop (at + 1) entries) p m ok q
                ∙ ap (λ (k : ℕ). one_more (settle_all sync p' (drop (k + 1) entries) m')) (sym same)
                ∙ ap (numbered s) z;
          }

      pub by_command : {q : Settings} → 256 ≤ e → q ≡ command_settled (e % 256) p → m' ≡ m → p' ≡ q → Onward sync entries at p m at' p' m'
      unfolding setting_taken
      by_command h q f g = one_on f (rw (le-ltb e 256 h, f, g, q))

      -- c is the command in progress
      pub by_parameter : {c : Command} {next : ℕ} {q : Settings} → e < 256 → p.progress.command ≡ c → next ≡ next_of p.progress.next
          → m' ≡ m → p' ≡ q → taken q m ≡ parameter_set sync c p.progress.next (e % 256) (counting p next) m
          → Onward sync entries at p m at' p' m'
      unfolding setting_taken
      by_parameter h c n f g s =
          one_on f
          ((λ i. taken (g i) (f i)) ∙ s
          ∙ rw (lt-ltb e 256 h, mod-eq_of_lt h, n)
          (ap (λ (k : Command). parameter_set sync k p.progress.next e (counting p (next_of p.progress.next)) m) (sym c)))

    pub by_data : (t : Transfer) {q : Settled} {n : List ℕ} → e < 256 → p.progress.command ≡ Wdat t
        → settled q n ≡ data_all sync t p (take (length entries - at) (drop at entries)) m → length n ≡ length m → m' ≡ n → p' ≡ q.settings
        → at' ≡ at + (q.count - 1)
        → Onward sync entries at p m at' p' m'
    by_data t {q} {n} h wdat d k f g a =
        let c = data_counted t h d in
        let there : at + q.count ≡ at' + 1 = omega (arith, c.0) in
        let far : q.count ≡ at' + 1 - at = omega (arith, c.0) in
        record {
          past = omega arith;
          inside = omega (arith, c.0, c.1);
          long = ap length f ∙ k;
          rest = stretch sync t (drop at entries) p m wdat ∙ ap (λ (x : Settlement). after sync t x (drop at entries)) (sym (from_here t d))
              ∙ ap (λ (l : List ℕ). beyond q.count (settle_all sync q.settings l n)) (drop-drop q.count at entries)
              ∙ (λ i. beyond (far i) (settle_all sync (sym g i) (drop (there i) entries) (sym f i)));
        }

-- ---- a turn after those before it, and the end
module _ (sync : ℕ) (entries : List ℕ) (k at at' : ℕ) (p p' : Settings) (m m' : List ℕ) where
  pub turned : k ≤ at → Onward sync entries at p m at' p' m' → beyond (at - k) (settle_all sync p (drop at entries) m)
      ≡ beyond (at' + 1 - k) (settle_all sync p' (drop (at' + 1) entries) m')
  turned h o =
      let s = settle_all sync p' (drop (at' + 1) entries) m' in
      let z : at - k + (at' + 1 - at + s.count) ≡ at' + 1 - k + s.count = omega (arith, o.past) in
      ap (beyond (at - k)) o.rest ∙ ap (numbered s) z

-- behind the last entry
pub settle_past : (sync : ℕ) (entries : List ℕ) (at : ℕ) (p : Settings) (m : List ℕ) → length entries ≤ at
    → settle_all sync p (drop at entries) m ≡ unmoved p m
unfolding settle_all
settle_past sync entries at p m h = rw (drop_of_length-le entries h)
