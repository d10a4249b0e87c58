-- The buffer is a queue of the entries that it holds: a push puts one behind them, a pop takes the first away, and after the last one
-- it is the empty buffer. So what stands in the places that are free decides nothing.
use mathlib.Core.Path.{◌≡◌, refl, sym, ap, ◌∙◌}
use mathlib.Core.Bool.{Bool, true, false}
use mathlib.Core.List.{List, [], ◌∷◌, ◌++◌}
use Prim.Native.Nat.{ℕ, zero, suc, ◌-◌, ◌≤◌, ◌<◌}
use native.Mathlib.Omega.{arith}
use native.Mathlib.Numerals.{add-one}
use lib.Dec.{leb}
use lib.ListN.{length, get_or, take, drop}
use lib.Seq.{length-take-le, take-append-le, take-suc-set, get_or-take}
use borrow.Author.Tests.{leb-true, leb-false, lt-ltb, le-leb, lt-leb}
use Rattle.registers.specs.declared.Buffer.{Buffer}
use Rattle.registers.specs.Fresh.{empty_buffer}
use Rattle.registers.specs.Buffer.{pushed, oldest, popped}

-- the entries held, the oldest first
abbrev pub held_of : Buffer → List ℕ
held_of b = take b.count b.entries

pub last_taken_empty : (b : Buffer) → b.count ≤ 1 → popped b ≡ empty_buffer
unfolding popped
last_taken_empty b h = rw (le-leb b.count 1 h)

-- the first of n elements away: of one or none nothing is left, of more the rest
taken_one : (l : List ℕ) (n : ℕ) → n ≤ 1 → [] ≡ drop 1 (take n l)
taken_one l zero h = refl
taken_one [] (suc n) h = refl
taken_one (x ∷ l) (suc zero) h = refl
taken_one (x ∷ l) (suc (suc n)) h = absurd (omega arith)

taken_more : (l : List ℕ) (n : ℕ) → n < length l → take n (drop 1 l ++ 0 ∷ []) ≡ drop 1 (take (suc n) l)
taken_more [] n h = absurd (omega arith)
taken_more (x ∷ l) n h = take-append-le n l (0 ∷ []) (omega arith)

module _ (b : Buffer) (few : b.count ≤ 16) (long : length b.entries ≡ 16) where
  pub held_count : length (held_of b) ≡ b.count
  held_count = length-take-le b.count b.entries (omega arith)

  pub oldest_held : 0 < b.count → oldest b ≡ get_or (held_of b) 0 0
  unfolding oldest
  oldest_held h = rw (get_or-take b.count b.entries 0 0 h)

  pub held_pushed : (e : ℕ) → b.count < 16 → held_of (pushed b e) ≡ held_of b ++ e ∷ []
  unfolding pushed
  held_pushed e h = rw (lt-ltb b.count 16 h, add-one) (take-suc-set b.entries b.count e (omega arith))

  popped_few : b.count ≤ 1 → held_of (popped b) ≡ drop 1 (held_of b)
  popped_few h = ap held_of (last_taken_empty b h) ∙ taken_one b.entries b.count h

  popped_many : 1 < b.count → held_of (popped b) ≡ drop 1 (held_of b)
  unfolding popped
  popped_many h =
      let n = b.count - 1 in
      let e : b.count ≡ suc n = omega arith in
      rw (lt-leb b.count 1 h) (taken_more b.entries n (omega arith) ∙ ap (λ (k : ℕ). drop 1 (take k b.entries)) (sym e))

  pub held_popped : held_of (popped b) ≡ drop 1 (held_of b)
  held_popped = go (leb b.count 1) refl
    where
      go : (t : Bool) → leb b.count 1 ≡ t → held_of (popped b) ≡ drop 1 (held_of b)
      go true e = popped_few (leb-true b.count 1 e)
      go false e = popped_many (leb-false b.count 1 e)
