-- 01, Drawing sheets and Numbers of refusal: a block of 512 bytes, and 14 and 15 "block by block".
use Rattle.std.specs.Prelude.{ℕ, zero, suc, ◌+◌, ◌-◌, ◌*◌, ◌%◌, Bool, true, cond, ◌&&◌, List, ◌==◌, nat_le}
use Rattle.records.specs.Raw.{byte_at, word_at}
use Rattle.blocks.specs.declared.Answer.{Answer}
use Rattle.blocks.specs.Answer.{answer, first_from}

-- the sum of n words
unfoldable pub sum_words : ℕ → List ℕ → ℕ → ℕ
sum_words zero s at = 0
sum_words (suc n) s at = word_at s at + sum_words n s (at + 2)

-- "the check: the sum of the 255 words before it plus 7220, modulo 65,536"
unfoldable pub check_of : List ℕ → ℕ → ℕ
check_of s b = (sum_words 255 s (512 * b) + 7220) % 65536

-- "510-511 the check"
abbrev pub check_b : List ℕ → ℕ → Bool
check_b s b = check_of s b == word_at s (512 * b + 510)

-- "Bytes 0-1 block number from 0"
abbrev pub number_b : List ℕ → ℕ → Bool
number_b s b = word_at s (512 * b) == b

-- "2 figure count"
abbrev pub count_of : List ℕ → ℕ → ℕ
count_of s b = byte_at s (512 * b + 2)

-- "figure count 0 to 50"
abbrev pub count_b : List ℕ → ℕ → Bool
count_b s b = nat_le (count_of s b) 50

-- "3 is 1 in the last block, else 0"; block b of n
abbrev pub last_b : List ℕ → ℕ → ℕ → Bool
last_b s n b = byte_at s (512 * b + 3) == cond (b + 1 == n) 1 0

-- n bytes are zero
unfoldable pub zeros_b : ℕ → List ℕ → ℕ → Bool
zeros_b zero s at = true
zeros_b (suc n) s at = byte_at s at == 0 && zeros_b n s (at + 1)

-- "504-509 zero"
abbrev pub spare_b : List ℕ → ℕ → Bool
spare_b s b = zeros_b 6 s (512 * b + 504)

-- "4-503 fifty records of ten bytes, unused ones zero"
abbrev pub unused_b : List ℕ → ℕ → Bool
unused_b s b = zeros_b (500 - 10 * count_of s b) s (512 * b + 4 + 10 * count_of s b)

-- a block's "heading, spare bytes or unused records"
unfoldable pub head_b : List ℕ → ℕ → ℕ → Bool
head_b s n b = number_b s b && count_b s b && last_b s n b && spare_b s b && unused_b s b

-- "14, 15 | a block's check; its heading, spare bytes or unused records"
unfoldable pub block_refusal : List ℕ → ℕ → ℕ → ℕ
block_refusal s n b = cond (check_b s b) (cond (head_b s n b) 0 15) 14

-- "14, 15 | .. | block, 0"
abbrev pub block_answer : List ℕ → ℕ → ℕ → Answer
block_answer s n b = answer (block_refusal s n b) b 0

-- "14 and 15 block by block"
unfoldable pub blocks_checked : List ℕ → ℕ → Answer
blocks_checked s n = first_from (block_answer s n) n 0
