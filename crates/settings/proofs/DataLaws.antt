-- WDAT's bytes in a loop: after some of them the rest makes what all of them make from the start, but for their number. True because
-- `data_all` takes the first entry of a list first, and a byte changes the cursor, the place within the set and its first byte alone.
use mathlib.Core.Path.{◌≡◌, sym, ap, ◌∙◌}
use mathlib.Core.Bool.{Bool, true, false}
use mathlib.Core.List.{List, ◌∷◌}
use Prim.Native.Nat.{ℕ, suc, ◌+◌, ◌-◌, ◌%◌, ◌≤◌, ◌<◌}
use native.Mathlib.Nat.{mod-eq_of_lt}
use native.Mathlib.Omega.{arith}
use lib.ListN.{length, get_or, drop, drop_of_length-le}
use lib.Seq.{drop-cons}
use borrow.Author.Tests.{lt-ltb, le-ltb}
use Rattle.dots.specs.declared.Cursor.{Cursor}
use Rattle.dots.specs.Step.{word_move_of}
use Rattle.dots.specs.Cycle.{cycled}
use Rattle.registers.specs.declared.Transfer.{Transfer}
use Rattle.registers.specs.declared.Command.{Command}
use Rattle.registers.specs.declared.Command.TheVariants.{Wdat}
use Rattle.wdat.specs.Wdat.{half_b, bit_mapped_b, set_pattern, wdat_progress}
use Rattle.settings.specs.declared.Settings.{Settings}
use Rattle.settings.specs.Put.{set_cursor, set_progress}
use Rattle.settings.specs.Settings.{Settlement, settled, one_more, data_set, data_all}

-- with another number of entries; with so many more that were taken before
abbrev pub numbered : Settlement → ℕ → Settlement
numbered s n = record { settings = s.settings; count = n; mem = s.mem }

abbrev pub beyond : ℕ → Settlement → Settlement
beyond n s = numbered s (n + s.count)

abbrev pub unmoved : Settings → List ℕ → Settlement
unmoved p m = record { settings = p; count = 0; mem = m }

pub none_before : (k : ℕ) (s : Settlement) → s ≡ beyond (k - k) s
none_before k s =
    let e : s.count ≡ k - k + s.count = omega arith in
    ap (numbered s) e

pub one_before : (n : ℕ) (s : Settlement) → beyond n (one_more s) ≡ beyond (n + 1) s
one_before n s =
    let e : n + suc s.count ≡ n + 1 + s.count = omega arith in
    ap (numbered s) e

pub all_before : (n : ℕ) (p : Settings) (m : List ℕ) {s : Settlement} → s ≡ unmoved p m
    → settled (record { settings = p; count = n }) m ≡ beyond n s
all_before n p m e =
    let z : n ≡ n + 0 = omega arith in
    ap (numbered (unmoved p m)) z ∙ ap (beyond n) (sym e)

-- the entry at a place, and those behind it
pub here : (entries : List ℕ) (at : ℕ) → at < length entries → drop at entries ≡ get_or entries at 0 ∷ drop (at + 1) entries
here entries at h =
    let e : suc at ≡ at + 1 = omega arith in
    drop-cons entries at 0 h ∙ ap (λ (n : ℕ). get_or entries at 0 ∷ drop n entries) e

-- the settings with WDAT in progress, at some place
abbrev pub within : Transfer → Settings → Cursor → ℕ → ℕ → Settings
within t p c next low = set_progress (set_cursor p c) (wdat_progress t next low)

module _ (t : Transfer) (p : Settings) where
  -- the code leaves the command as it was
  pub in_progress : p.progress.command ≡ Wdat t → (c : Cursor) (next low : ℕ)
      → set_progress (set_cursor p c) (record { command = p.progress.command; next = next; low = low }) ≡ within t p c next low
  in_progress h c next low = ap (λ (k : Command). set_progress (set_cursor p c) (record { command = k; next = next; low = low })) h

  module _ (sync : ℕ) (entries : List ℕ) (at : ℕ) (c : Cursor) (next low : ℕ) (m : List ℕ) where
    abbrev e : ℕ
    e = get_or entries at 0

    abbrev now : Settlement
    now = data_all sync t (within t p c next low) (drop at entries) m

    -- what the byte leaves: the joined values of the code
    module _ (more : at < length entries) (byte : e < 256) {c' : Cursor} {next' low' : ℕ} {m' : List ℕ} where
      pub half_sent : half_b t next ≡ true → m' ≡ m → c' ≡ c → next' ≡ 1 → low' ≡ e % 256
          → now ≡ one_more (data_all sync t (within t p c' next' low') (drop (at + 1) entries) m')
      unfolding data_all data_set
      half_sent h f g k l = rw (here entries at more, lt-ltb e 256 byte, h, f, g, k, l, mod-eq_of_lt byte)

      pub completed : (x : ℕ) {b : Bool} → half_b t next ≡ false → b ≡ bit_mapped_b sync p.drawing.gd → x ≡ set_pattern b t low (e % 256)
          → m' ≡ cycled p.board.wiring p.op x c m
          → c' ≡ word_move_of p.drawing.dir p.pitch c → next' ≡ 0 → low' ≡ 0
          → now ≡ one_more (data_all sync t (within t p c' next' low') (drop (at + 1) entries) m')
      unfolding data_all data_set
      completed x h b y f g k l = rw (here entries at more, lt-ltb e 256 byte, h, f, g, k, l, y, b, mod-eq_of_lt byte)

    pub data_ended : length entries ≤ at → now ≡ unmoved (within t p c next low) m
    unfolding data_all
    data_ended h = rw (drop_of_length-le entries h)

    pub data_broken : at < length entries → 256 ≤ e → now ≡ unmoved (within t p c next low) m
    unfolding data_all
    data_broken more h = rw (here entries at more, le-ltb e 256 h)
