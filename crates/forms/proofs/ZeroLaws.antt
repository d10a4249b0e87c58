-- Two numbers are 0 where their `or` is: several fields that must be 0 need one test. True since the `or` is no less than either.
use mathlib.Core.Path.{◌≡◌, sym, ◌∙◌}
use mathlib.Core.Bool.{◌&&◌}
use Prim.Native.Nat.{ℕ, ◌≤◌}
use native.Mathlib.Omega.{arith}
use native.Mathlib.Decide.{ℕ_discrete}
use borrow.Author.Tests.{eq-eqb, ne_eqb}
use lib.Dec.{eqb}
use lib.Bits.{bit_or, or_add_and, and_le_l, and_le_r}

or_left : (a b : ℕ) → a ≤ bit_or a b
or_left a b = let e = or_add_and a b in let h = and_le_r a b in omega arith

or_right : (a b : ℕ) → b ≤ bit_or a b
or_right a b = let e = or_add_and a b in let h = and_le_l a b in omega arith

pub both_zero : (a b : ℕ) → eqb (bit_or a b) 0 ≡ (eqb a 0 && eqb b 0)
both_zero a b = go (ℕ_discrete a 0) (ℕ_discrete b 0)
  where
    go : Dec (a ≡ 0) → Dec (b ≡ 0) → eqb (bit_or a b) 0 ≡ (eqb a 0 && eqb b 0)
    go (yes p) (yes q) = rw (p, q)
    go (yes p) (no q) =
        ne_eqb (bit_or a b) 0 (λ z. q (let h = or_right a b in omega arith)) ∙ sym (rw (eq-eqb a 0 p, ne_eqb b 0 q))
    go (no p) q = ne_eqb (bit_or a b) 0 (λ z. p (let h = or_left a b in omega arith)) ∙ sym (rw (ne_eqb a 0 p))

pub all_zero : (a b c d : ℕ) → eqb (bit_or (bit_or (bit_or a b) c) d) 0 ≡ (eqb a 0 && eqb b 0 && eqb c 0 && eqb d 0)
all_zero a b c d = rw (both_zero (bit_or (bit_or a b) c) d, both_zero (bit_or a b) c, both_zero a b)
