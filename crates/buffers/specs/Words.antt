-- Words of a memory: zero words, a word put, and the digest of all.
use Rattle.std.specs.Prelude.{ℕ, ◌*◌, ◌/◌, ◌%◌, List, [], ◌∷◌, cond, ltb, length, set}
use Rattle.std.specs.Int.Bits.{bit_xor}

-- "a memory of n words, all zero"
unfoldable pub cleared : List ℕ → List ℕ
cleared [] = []
cleared (w ∷ l) = 0 ∷ cleared l

-- "the word a of the memory becomes v"; past its end there is none
unfoldable pub stored : List ℕ → ℕ → ℕ → List ℕ
stored mem a v = cond (ltb a (length mem)) (set mem a v) mem

-- FNV-1a, 32 bits: the byte goes in by exclusive or, then the number is multiplied by the prime
unfoldable pub mixed : ℕ → ℕ → ℕ
mixed h b = bit_xor h b * 16777619 % 4294967296

-- "a digest of the memory: FNV-1a, 32 bits, over every word, low byte first"
unfoldable pub digest_from : ℕ → List ℕ → ℕ
digest_from h [] = h
digest_from h (w ∷ l) = digest_from (mixed (mixed h (w % 256)) (w / 256)) l

unfoldable pub digest_of : List ℕ → ℕ
digest_of mem = digest_from 0x811C9DC5 mem
