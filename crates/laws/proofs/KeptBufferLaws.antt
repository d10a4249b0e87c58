-- The buffer stays one of sixteen places, of which at most sixteen are held: an entry more goes to the first free place, and one less
-- moves the others up with a 0 behind them.
use mathlib.Core.Path.{◌≡◌, refl, ◌∙◌}
use mathlib.Core.Bool.{Bool, true, false}
use mathlib.Core.List.{List, [], ◌∷◌, ◌++◌}
use Prim.Native.Nat.{ℕ, zero, suc, ◌≤◌, ◌<◌}
use native.Mathlib.Decide.{ℕ_discrete}
use native.Mathlib.Omega.{arith}
use lib.Dec.{ltb, leb}
use lib.ListN.{length, get_or, set, take, drop, replicate, length-set, length-append, length-drop, get_or-eq_default}
use lib.Seq.{get_or-set_same, get_or-set_other}
use borrow.Author.Tests.{ltb-true, ltb-false, leb-false}
use Rattle.registers.specs.declared.Mode.{Mode}
use Rattle.registers.specs.declared.Mode.TheVariants.{Write, Read}
use Rattle.registers.specs.declared.Buffer.{Buffer}
use Rattle.registers.specs.Fresh.{empty_buffer}
use Rattle.registers.specs.Sound.{all_below, mark_b}
use Rattle.registers.specs.Buffer.{pushed, oldest, popped}
use Rattle.laws.proofs.BranchLaws.{cases}
use Rattle.laws.proofs.SoundLaws.{below_each}
use Rattle.laws.proofs.KeptLaws.{Queue}

pub byte_mark : (m : Mode) → 256 ≤ mark_b m
byte_mark Write = omega arith
byte_mark Read = omega arith

mark_512 : (m : Mode) → mark_b m ≤ 512
mark_512 Write = omega arith
mark_512 Read = omega arith

-- bytes suit either mode
pub bytes_queue : (m : Mode) (l : List ℕ) (n : ℕ) → n ≤ 16 → length l ≡ 16 → all_below 256 (take 16 l) ≡ true
    → Queue m (record { entries = l; count = n })
bytes_queue m l n few long e =
    let each : (i : ℕ) → i < 16 → get_or l i 0 < 256 = below_each 256 16 l (omega arith) e in
    record {
      fits =
          record {
            count = few;
            each = λ i q. omega (arith, each i q);
            held = λ i q. omega (arith, byte_mark m, each i (omega arith));
          };
      long = long;
    }

pub empty_queue : (m : Mode) → Queue m empty_buffer
unfolding all_below
empty_queue m = bytes_queue m (replicate 16 0) 0 (omega arith) refl refl

module _ (m : Mode) (b : Buffer) (q : Queue m b) where
  -- every entry, also past the last place
  each_entry : (i : ℕ) → get_or b.entries i 0 < 512
  each_entry i = go (ltb i 16) refl
    where
      go : (t : Bool) → ltb i 16 ≡ t → get_or b.entries i 0 < 512
      go true e = q.fits.each i (ltb-true i 16 e)
      go false e =
          let past : length b.entries ≤ i = omega (arith, q.long, ltb-false i 16 e) in
          rw (get_or-eq_default b.entries 0 past) (omega arith)

  pub oldest_below : oldest b < 512
  unfolding oldest
  oldest_below = each_entry 0

  -- ---- an entry more

  module _ (e : ℕ) where
    placed_below : b.count < 16 → (n : ℕ) → e < n → (i : ℕ) → ((i ≡ b.count → ⊥) → get_or b.entries i 0 < n)
        → get_or (set b.entries b.count e) i 0 < n
    placed_below room n small i other = go (ℕ_discrete i b.count)
      where
        go : Dec (i ≡ b.count) → get_or (set b.entries b.count e) i 0 < n
        go (yes p) = rw (p, get_or-set_same b.entries b.count e 0 (omega (arith, q.long))) small
        go (no p) = rw (get_or-set_other b.entries b.count i e 0 p) (other p)

    pub pushed_queue : e < mark_b m → Queue m (pushed b e)
    unfolding pushed
    pushed_queue h =
        cases (Queue m) (ltb b.count 16)
        (λ t. let room : b.count < 16 = ltb-true b.count 16 t in
        record {
          fits =
              record {
                count = omega arith;
                each = λ i p. placed_below room 512 (omega (arith, mark_512 m)) i (λ o. each_entry i);
                held = λ i p. placed_below room (mark_b m) h i (λ o. q.fits.held i (omega arith));
              };
          long = length-set b.entries b.count e ∙ q.long;
        })
        (λ t. q)

-- ---- an entry less

snoc_below : (n : ℕ) → 0 < n → (l : List ℕ) (i : ℕ) → get_or l i 0 < n → get_or (l ++ 0 ∷ []) i 0 < n
snoc_below n some [] zero h = some
snoc_below n some [] (suc i) h = some
snoc_below n some (x ∷ l) zero h = h
snoc_below n some (x ∷ l) (suc i) h = snoc_below n some l i h

moved_below : (n : ℕ) → 0 < n → (l : List ℕ) (i : ℕ) → get_or l (suc i) 0 < n → get_or (drop 1 l ++ 0 ∷ []) i 0 < n
moved_below n some [] i h = snoc_below n some [] i some
moved_below n some (x ∷ l) i h = snoc_below n some l i h

pub popped_queue : (m : Mode) (b : Buffer) → Queue m b → Queue m (popped b)
unfolding popped
popped_queue m b q =
    cases (Queue m) (leb b.count 1) (λ t. empty_queue m)
    (λ t. let more : 1 < b.count = leb-false b.count 1 t in
    record {
      fits =
          record {
            count = omega (arith, q.fits.count);
            each = λ i p. moved_below 512 (omega arith) b.entries i (each_entry m b q (suc i));
            held = λ i p. moved_below (mark_b m) (omega (arith, byte_mark m)) b.entries i (q.fits.held (suc i) (omega arith));
          };
      long = length-append (drop 1 b.entries) (0 ∷ []) ∙ omega (arith, length-drop 1 b.entries, q.long);
    })
