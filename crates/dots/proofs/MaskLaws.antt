-- The table of masks: word n is 2 to the n. One test, computed over the whole table, and what it says of each word. Assumes nothing.
use mathlib.Core.Path.{◌≡◌}
use mathlib.Core.List.{List, [], ◌∷◌}
use Prim.Native.Nat.{ℕ, ◌^◌, ◌<◌}
use lib.Dec.{eqb, eqb→eq}
use lib.ListN.{get_or}
use Rattle.dots.proofs.Below.{below}

-- the words of the code's table
abbrev pub masks : List ℕ
masks = 1 ∷ 2 ∷ 4 ∷ 8 ∷ 16 ∷ 32 ∷ 64 ∷ 128 ∷ 256 ∷ 512 ∷ 1024 ∷ 2048 ∷ 4096 ∷ 8192 ∷ 16384 ∷ 32768 ∷ []

pub mask_at : (n : ℕ) → n < 16 → get_or masks n 0 ≡ 2 ^ n
mask_at n h = eqb→eq _ _ (below (λ k. eqb (get_or masks k 0) (2 ^ k)) 16 tt n h)
