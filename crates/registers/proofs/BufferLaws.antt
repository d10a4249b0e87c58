-- The test of the first n entries, one entry on: those passed and what is left decide; and where all sixteen are below a bound, those held
-- are.
use mathlib.Core.Path.{◌≡◌, refl, sym}
use mathlib.Core.Bool.{Bool, true, false, ◌&&◌, ◌||◌, and-true}
use mathlib.Core.List.{List, [], ◌∷◌}
use Prim.Native.Nat.{ℕ, zero, suc, ◌+◌, ◌-◌, ◌≤◌, ◌<◌}
use native.Mathlib.Omega.{arith}
use native.Mathlib.Numerals.{add-one}
use lib.Dec.{ltb, leb}
use lib.ListN.{length, get_or, take, drop, drop_of_length-le}
use lib.Seq.{drop-cons, take-nil}
use borrow.Author.Tests.{leb-true, leb-false, ltb-true, lt-ltb}
use Rattle.registers.proofs.BoolLaws.{and_left, and_right}
use Rattle.registers.specs.Sound.{all_below}

module _ (b n : ℕ) (e : List ℕ) where
  -- what the entries from the i-th on decide
  abbrev rest : ℕ → Bool
  rest i = all_below b (take (n - i) (drop i e))

  pub fit_starts : all_below b (take n e) ≡ (true && rest 0)
  fit_starts = let z : n - 0 ≡ n = omega arith in rw z

  pub fit_ends : (t : Bool) (i : ℕ) → length e ≤ i → (t && rest i) ≡ t
  unfolding all_below
  fit_ends t i h = rw (drop_of_length-le e h, take-nil (n - i)) (and-true t)

  -- the i-th decides where it is held; where it is not, what is behind it does
  one_on : (i : ℕ) → i < length e → rest i ≡ ((leb n i || ltb (get_or e i 0) b) && rest (i + 1))
  unfolding all_below
  one_on i h = go (leb n i) refl
    where
      go : (t : Bool) → leb n i ≡ t → rest i ≡ ((t || ltb (get_or e i 0) b) && rest (i + 1))
      go true p =
          let past : n ≤ i = leb-true n i p in
          let m : n - i ≡ 0 = omega arith in
          let m' : n - (i + 1) ≡ 0 = omega arith in
          rw (m, m')
      go false p =
          let l : i < n = leb-false n i p in
          let held : n - i ≡ suc (n - (i + 1)) = omega arith in
          rw (held, add-one, drop-cons e i 0 h)

  pub fit_goes_on : (t : Bool) (i : ℕ) → i < length e → (t && rest i) ≡ ((t && (leb n i || ltb (get_or e i 0) b)) && rest (i + 1))
  fit_goes_on true i h = one_on i h
  fit_goes_on false i h = refl

-- what is below for the first n is below for fewer
below_fewer : (b m n : ℕ) (e : List ℕ) → m ≤ n → all_below b (take n e) ≡ true → all_below b (take m e) ≡ true
unfolding all_below
below_fewer b zero n e h p = refl
below_fewer b (suc m) zero e h p = absurd (omega arith)
below_fewer b (suc m) (suc n) [] h p = refl
below_fewer b (suc m) (suc n) (x ∷ e) h p =
    rw (
      and_left (ltb x b) (all_below b (take n e)) p,
      below_fewer b m n e (omega arith) (and_right (ltb x b) (all_below b (take n e)) p),
    )

-- so at most sixteen that are held need no test of their own where all sixteen are below
pub whole_enough : (b n : ℕ) (e : List ℕ)
    → (leb n 16 && all_below b (take 16 e)) ≡ ((leb n 16 && all_below b (take 16 e)) && all_below b (take n e))
whole_enough b n e = go (leb n 16) (all_below b (take 16 e)) refl refl
  where
    go : (t u : Bool) → leb n 16 ≡ t → all_below b (take 16 e) ≡ u → (t && u) ≡ ((t && u) && all_below b (take n e))
    go true true p q = sym (below_fewer b n 16 e (leb-true n 16 p) q)
    go true false p q = refl
    go false u p q = refl

-- .. and where all sixteen are bytes, nothing else needs one
below_wider : (a b : ℕ) (e : List ℕ) → a ≤ b → all_below a e ≡ true → all_below b e ≡ true
unfolding all_below
below_wider a b [] h p = refl
below_wider a b (x ∷ e) h p =
    let l : x < a = ltb-true x a (and_left (ltb x a) (all_below a e) p) in
    rw (lt-ltb x b (omega arith), below_wider a b e h (and_right (ltb x a) (all_below a e) p))

pub bytes_enough : (n : ℕ) (e : List ℕ) → all_below 256 (take 16 e) ≡ true
    → leb n 16 ≡ (leb n 16 && all_below 512 (take 16 e) && all_below 256 (take n e))
bytes_enough n e p = go (leb n 16) refl
  where
    go : (t : Bool) → leb n 16 ≡ t → t ≡ (t && all_below 512 (take 16 e) && all_below 256 (take n e))
    go true q = rw (below_wider 256 512 (take 16 e) (omega arith) p, below_fewer 256 n 16 e (leb-true n 16 q) p)
    go false q = refl
