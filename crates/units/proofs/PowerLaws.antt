-- The lengths of a folded memory are the powers of two from 16 to 262,144: a number with one bit set is a power of two, and each length has
-- one bit set.
use Rattle.std.proofs.Common.{◌≡◌, ℕ, zero, suc, ◌*◌, ◌/◌, ◌%◌, ◌^◌, ◌<◌, ◌≤◌, Bool, true, false, cond, ◌&&◌, ◌||◌, refl, sym, subst, arith}
use Rattle.std.proofs.Common.{count_ones}
use Rattle.std.specs.Int.{is_power_of_two}
use Rattle.std.proofs.lemmas.Nat.{ones_le_self, zero_from_ones}
use native.Mathlib.Decide.{ℕ_discrete}
use borrow.Author.Tests.{le-leb}
use lib.Count.{ones_step}
use Rattle.std.proofs.Math.Nat.{pow-succ'}
use lib.Dec.{T, leb, eqb, eqb→eq, leb→le}
use Rattle.dots.specs.declared.Wiring.TheVariants.{Folded}
use Rattle.dots.proofs.Below.{below}
use Rattle.registers.proofs.BoolLaws.{and_left, and_right}
use Rattle.units.specs.Run.{length_b}

two-pow-suc : (k : ℕ) → 2 ^ suc k ≡ 2 * 2 ^ k
two-pow-suc k = pow-succ' 2 k

one_bit : (d n : ℕ) → count_ones n ≡ 1 → n < 2 ^ d → (j : ℕ) × (j < d) × (n ≡ 2 ^ j)
one_bit zero n e h = absurd (omega (arith, ones_le_self n))
one_bit (suc d) n e h = go (ℕ_discrete (n % 2) 1) (one_bit d (n / 2))
  where
    go : Dec (n % 2 ≡ 1) → (count_ones (n / 2) ≡ 1 → n / 2 < 2 ^ d → (j : ℕ) × (j < d) × (n / 2 ≡ 2 ^ j))
        → (j : ℕ) × (j < suc d) × (n ≡ 2 ^ j)
    go (yes p) half = let s = ones_step n in let z = zero_from_ones (n / 2) (omega arith) in (0, omega arith, omega arith)
    go (no p) half =
        let s = ones_step n in
        let w = two-pow-suc d in
        let r = half (omega arith) (omega arith) in
        (suc r.0, omega (arith, r.1), omega (arith, r.2, two-pow-suc r.0))

both_ways : (a b : Bool) → (a ≡ true → b ≡ true) → (b ≡ true → a ≡ true) → a ≡ b
both_ways true b f g = sym (f refl)
both_ways false true f g = g refl
both_ways false false f g = refl

or_else : {P : Type 0} (a b : Bool) → (a || b) ≡ true → (a ≡ true → P) → (b ≡ true → P) → P
or_else true b e f g = f refl
or_else false b e f g = g e

is_true : (b : Bool) → T b → b ≡ true
is_true true t = refl
is_true false t = absurd t

holds : {b : Bool} → b ≡ true → T b
holds e = subst T (sym e) tt

abbrev fits : ℕ → Bool
fits n = leb 16 n && leb n 262144 && is_power_of_two n

fits_at : (n k : ℕ) → T (fits k) → eqb n k ≡ true → fits n ≡ true
fits_at n k t e = rw (eqb→eq n k (holds e)) (is_true (fits k) t)

folded_at : (j : ℕ) → j < 19 → 16 ≤ 2 ^ j → length_b Folded (2 ^ j) ≡ true
unfolding length_b
folded_at j h l =
    let t : T (cond (leb 16 (2 ^ j)) (length_b Folded (2 ^ j)) true) =
    below (λ (i : ℕ). cond (leb 16 (2 ^ i)) (length_b Folded (2 ^ i)) true) 19 tt j h in
    is_true (length_b Folded (2 ^ j)) (rw (le-leb 16 (2 ^ j) l) at t)

pub folded_fits : (n : ℕ) → fits n ≡ length_b Folded n
unfolding length_b lib.Count.ones
folded_fits n = both_ways (fits n) (length_b Folded n) to from
  where
    to : fits n ≡ true → length_b Folded n ≡ true
    to e =
        let within = and_left (leb 16 n && leb n 262144) (is_power_of_two n) e in
        let low = leb→le 16 n (holds (and_left (leb 16 n) (leb n 262144) within)) in
        let high = leb→le n 262144 (holds (and_right (leb 16 n) (leb n 262144) within)) in
        let one = eqb→eq (count_ones n) 1 (holds (and_right (leb 16 n && leb n 262144) (is_power_of_two n) e)) in
        let p = one_bit 19 n one (omega arith) in
        rw p.2 (folded_at p.0 p.1 (rw (← p.2) low))

    from : length_b Folded n ≡ true → fits n ≡ true
    from e =
        or_else _ _ e
        (λ e. or_else _ _ e (λ e. or_else _ _ e (λ e. or_else _ _ e (λ e. or_else _ _ e (λ e. or_else _ _ e (λ e. or_else _ _ e
        (λ e. or_else _ _ e
        (λ e. or_else _ _ e (λ e. or_else _ _ e (λ e. or_else _ _ e (λ e. or_else _ _ e (λ e. or_else _ _ e (λ e. or_else _ _ e
        (fits_at n 16 tt) (fits_at n 32 tt)) (fits_at n 64 tt)) (fits_at n 128 tt)) (fits_at n 256 tt)) (fits_at n 512 tt))
        (fits_at n 1024 tt))
        (fits_at n 2048 tt)) (fits_at n 4096 tt)) (fits_at n 8192 tt)) (fits_at n 16384 tt)) (fits_at n 32768 tt)) (fits_at n 65536 tt))
        (fits_at n 131072 tt)) (fits_at n 262144 tt)
