-- A byte of the image is half a word with its bits in reverse: dots 8·b to 8·b + 7 of a line lie in one word, at its bits 0 to 7 where b is
-- even and at its bits 8 to 15 where b is odd.
use mathlib.Core.Path.{◌≡◌, refl, sym, ap, ◌∙◌}
use mathlib.Core.List.{List}
use Prim.Native.Nat.{ℕ, zero, suc, ◌+◌, ◌*◌, ◌/◌, ◌%◌, ◌<◌}
use native.Mathlib.Omega.{arith}
use lib.ListN.{get_or}
use borrow.Author.Tests.{eq-eqb, ne_eqb}
use Rattle.dots.specs.Bit.{bit}
use Rattle.dots.specs.Dot.{dot}
use Rattle.bitmap.specs.Image.{byte_at, reversed_of, half_of}

module _ (p y b : ℕ) (mem : List ℕ) where
  abbrev word : ℕ
  word = get_or mem (y * p + b / 2) 0

  -- dot x of the line is bit i of the word
  seen : (x i : ℕ) → x / 16 ≡ b / 2 → x % 16 ≡ i → dot p x y mem ≡ bit i word
  unfolding dot
  seen x i f g = rw (f, g)

  byte_even : b % 2 ≡ 0 → byte_at p y b mem ≡ reversed_of (word % 256)
  unfolding byte_at reversed_of bit
  byte_even e =
      let d0 : dot p (8 * b) y mem ≡ word % 256 % 2 = seen (8 * b) 0 (omega arith) (omega arith) ∙ omega arith in
      let d1 : dot p (8 * b + 1) y mem ≡ word % 256 / 2 % 2 = seen (8 * b + 1) 1 (omega arith) (omega arith) ∙ omega arith in
      let d2 : dot p (8 * b + 2) y mem ≡ word % 256 / 4 % 2 = seen (8 * b + 2) 2 (omega arith) (omega arith) ∙ omega arith in
      let d3 : dot p (8 * b + 3) y mem ≡ word % 256 / 8 % 2 = seen (8 * b + 3) 3 (omega arith) (omega arith) ∙ omega arith in
      let d4 : dot p (8 * b + 4) y mem ≡ word % 256 / 16 % 2 = seen (8 * b + 4) 4 (omega arith) (omega arith) ∙ omega arith in
      let d5 : dot p (8 * b + 5) y mem ≡ word % 256 / 32 % 2 = seen (8 * b + 5) 5 (omega arith) (omega arith) ∙ omega arith in
      let d6 : dot p (8 * b + 6) y mem ≡ word % 256 / 64 % 2 = seen (8 * b + 6) 6 (omega arith) (omega arith) ∙ omega arith in
      let d7 : dot p (8 * b + 7) y mem ≡ word % 256 / 128 % 2 = seen (8 * b + 7) 7 (omega arith) (omega arith) ∙ omega arith in
      rw (d0, d1, d2, d3, d4, d5, d6, d7)

  byte_odd : b % 2 ≡ 1 → byte_at p y b mem ≡ reversed_of (word / 256)
  unfolding byte_at reversed_of bit
  byte_odd e =
      let d0 : dot p (8 * b) y mem ≡ word / 256 % 2 = seen (8 * b) 8 (omega arith) (omega arith) ∙ omega arith in
      let d1 : dot p (8 * b + 1) y mem ≡ word / 256 / 2 % 2 = seen (8 * b + 1) 9 (omega arith) (omega arith) ∙ omega arith in
      let d2 : dot p (8 * b + 2) y mem ≡ word / 256 / 4 % 2 = seen (8 * b + 2) 10 (omega arith) (omega arith) ∙ omega arith in
      let d3 : dot p (8 * b + 3) y mem ≡ word / 256 / 8 % 2 = seen (8 * b + 3) 11 (omega arith) (omega arith) ∙ omega arith in
      let d4 : dot p (8 * b + 4) y mem ≡ word / 256 / 16 % 2 = seen (8 * b + 4) 12 (omega arith) (omega arith) ∙ omega arith in
      let d5 : dot p (8 * b + 5) y mem ≡ word / 256 / 32 % 2 = seen (8 * b + 5) 13 (omega arith) (omega arith) ∙ omega arith in
      let d6 : dot p (8 * b + 6) y mem ≡ word / 256 / 64 % 2 = seen (8 * b + 6) 14 (omega arith) (omega arith) ∙ omega arith in
      let d7 : dot p (8 * b + 7) y mem ≡ word / 256 / 128 % 2 = seen (8 * b + 7) 15 (omega arith) (omega arith) ∙ omega arith in
      rw (d0, d1, d2, d3, d4, d5, d6, d7)

  -- what the code holds: the word, its half, and the half in reverse
  pub byte_is : {w h q : ℕ} → w ≡ word → h ≡ half_of w b → q ≡ reversed_of h → q ≡ byte_at p y b mem
  unfolding half_of
  byte_is {w} {h} {q} d e f = f ∙ ap reversed_of e ∙ go (b % 2) refl (omega arith)
    where
      go : (k : ℕ) → b % 2 ≡ k → k < 2 → reversed_of (half_of w b) ≡ byte_at p y b mem
      go zero z s = rw (eq-eqb (b % 2) 0 z, d) (sym (byte_even z))
      go (suc k) z s = rw (ne_eqb (b % 2) 0 (λ n. omega arith), d) (sym (byte_odd (omega arith)))

pub half_low : (word place : ℕ) → place % 2 ≡ 0 → word % 256 ≡ half_of word place
unfolding half_of
half_low word place e = rw (eq-eqb (place % 2) 0 e)

pub half_high : (word place : ℕ) → (place % 2 ≡ 0 → ⊥) → word / 256 ≡ half_of word place
unfolding half_of
half_high word place e = rw (ne_eqb (place % 2) 0 e)
