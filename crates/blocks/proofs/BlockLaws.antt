-- The turns of the loops over a block's words and bytes and over the blocks: what is left to do, with what is done, is the whole. True
-- because each
-- definition takes one step where the loop takes one turn.
use Rattle.std.proofs.Common.{◌≡◌, ℕ, zero, suc, ◌+◌, ◌-◌, ◌*◌, ◌%◌, ◌<◌, ◌≤◌, Bool, true, false, cond, ◌&&◌, eqb, List, refl}
use Rattle.std.proofs.Common.{arith, eq-eqb, ne_eqb, eqb-true}
use mir.Val.{bool_byte}
use borrow.Author.Tests.{lt-leb}
use Rattle.records.specs.Raw.{byte_at, word_at}
use Rattle.records.proofs.TestLaws.{and_both}
use Rattle.blocks.specs.Answer.{answer, first_from}
use Rattle.blocks.specs.Block.{sum_words, check_of, count_of, number_b, count_b, last_b, zeros_b, spare_b, unused_b, head_b}
use Rattle.blocks.specs.Block.{block_answer, blocks_checked}
use Rattle.blocks.proofs.AnswerLaws.{first_start, first_end}

-- ---- the check
module _ (s : List ℕ) (b : ℕ) where
  abbrev pub left : ℕ → ℕ → ℕ
  left i x = (sum_words (255 - i) s (512 * b + 2 * i) + x) % 65536

  pub sum_starts : check_of s b ≡ left 0 7220
  unfolding check_of
  sum_starts = let e : 512 * b + 2 * 0 ≡ 512 * b = omega arith in rw e

  pub sum_goes_on : (i x : ℕ) {y w : ℕ} → i < 255 → w ≡ word_at s (512 * b + 2 * i) → y ≡ (x + w) % 65536 → left i x ≡ left (i + 1) y
  unfolding sum_words
  sum_goes_on i x h p q =
      let e : 255 - i ≡ suc (255 - (i + 1)) = omega arith in
      let f : 512 * b + 2 * i + 2 ≡ 512 * b + 2 * (i + 1) = omega arith in
      rw (e, f) (omega arith)

  pub sum_ends : (i x : ℕ) → 255 ≤ i → x < 65536 → x ≡ left i x
  unfolding sum_words
  sum_ends i x h l = let e : 255 - i ≡ zero = omega arith in rw e (omega arith)

-- ---- bytes that are zero
module _ (s : List ℕ) (at n i : ℕ) where
  pub zeros_start : zeros_b n s at ≡ zeros_b (n - 0) s (at + 0)
  zeros_start = let e : n - 0 ≡ n = omega arith in let f : at + 0 ≡ at = omega arith in rw (e, f)

  pub zeros_fail : {x : ℕ} → i < n → x ≡ byte_at s (at + i) → (x ≡ 0 → ⊥) → false ≡ zeros_b (n - i) s (at + i)
  unfolding zeros_b
  zeros_fail h p z = let e : n - i ≡ suc (n - (i + 1)) = omega arith in rw (e, ← p, ne_eqb _ 0 z)

  pub zeros_go_on : {x : ℕ} → i < n → x ≡ byte_at s (at + i) → x ≡ 0 → zeros_b (n - i) s (at + i) ≡ zeros_b (n - (i + 1)) s (at + (i + 1))
  unfolding zeros_b
  zeros_go_on h p z =
      let e : n - i ≡ suc (n - (i + 1)) = omega arith in
      let f : at + i + 1 ≡ at + (i + 1) = omega arith in
      rw (e, ← p, eq-eqb _ 0 z, f)

  pub zeros_end : n ≤ i → true ≡ zeros_b (n - i) s (at + i)
  unfolding zeros_b
  zeros_end h = let e : n - i ≡ zero = omega arith in rw e

-- ---- a heading
pub byte_bit : (b : Bool) → bool_byte b ≡ cond b 1 0
byte_bit true = refl
byte_bit false = refl

none_after : (a b c d e : Bool) → b ≡ false → false ≡ (a && b && c && d && e)
none_after true b c d e f = rw f
none_after false b c d e f = refl

-- a count over 50
pub head_over : (s : List ℕ) (n b : ℕ) {x : ℕ} → x ≡ count_of s b → 50 < x → false ≡ head_b s n b
unfolding head_b
head_over s n b p h = none_after (number_b s b) (count_b s b) (last_b s n b) (spare_b s b) (unused_b s b) (rw (← p, lt-leb _ 50 h))

pub true_after : (a : Bool) → (a && true) ≡ a
true_after true = refl
true_after false = refl

-- ---- the blocks
module _ (s : List ℕ) (n b : ℕ) where
  pub blocks_start : blocks_checked s n ≡ first_from (block_answer s n) (n - 0) 0
  unfolding blocks_checked
  blocks_start = first_start (block_answer s n) n

  pub blocks_end : n ≤ b → answer 0 0 0 ≡ first_from (block_answer s n) (n - b) b
  blocks_end h = first_end (block_answer s n) n b h

-- ---- what the tests of a block say, place by place
pub zeros_all : (n : ℕ) (s : List ℕ) (at : ℕ) → zeros_b n s at ≡ true → (j : ℕ) → j < n → byte_at s (at + j) ≡ 0
unfolding zeros_b
zeros_all zero s at e j h = absurd (omega arith)
zeros_all (suc n) s at e zero h = let z : at + 0 ≡ at = omega arith in rw z (eqb-true _ 0 (and_both (eqb (byte_at s at) 0) _ e).0)
zeros_all (suc n) s at e (suc j) h =
    let z : at + 1 + j ≡ at + suc j = omega arith in
    rw (← z) (zeros_all n s (at + 1) (and_both (eqb (byte_at s at) 0) _ e).1 j (omega arith))

pub all_zeros : (n : ℕ) (s : List ℕ) (at : ℕ) → ((j : ℕ) → j < n → byte_at s (at + j) ≡ 0) → zeros_b n s at ≡ true
unfolding zeros_b
all_zeros zero s at h = refl
all_zeros (suc n) s at h =
    let z : at + 0 ≡ at = omega arith in
    let first : byte_at s at ≡ 0 = rw z at (h 0 (omega arith)) in
    rw (eq-eqb _ 0 first)
    (all_zeros n s (at + 1) (λ j k. let y : at + 1 + j ≡ at + suc j = omega arith in rw y (h (suc j) (omega arith))))
