-- The loop of `fill_image`: what is still to be filled from here makes, at each turn, the image that was to be filled from the start.
use mathlib.Core.Path.{◌≡◌, refl, ap, ◌∙◌}
use mathlib.Core.List.{List, ◌++◌, append-nil}
use Prim.Native.Nat.{ℕ, zero, suc, ◌+◌, ◌-◌, ◌*◌, ◌/◌, ◌%◌, ◌<◌, ◌≤◌}
use native.Mathlib.Nat.{div-add-mod', mul-le-mul_left}
use native.Mathlib.Numerals.{add-one}
use native.Mathlib.Omega.{arith}
use lib.ListN.{length, set, drop_of_length-le}
use lib.Seq.{sets, sets-eq}
use borrow.Author.Tests.{eq-eqb, ne_eqb}
use Rattle.bitmap.specs.Image.{byte_at, bytes_from, image_of}

-- the image with the bytes l from place j on
unfoldable pub filled : List ℕ → ℕ → List ℕ → List ℕ
filled image j l = sets image j l

-- the word's place fits where the byte's does: a line is no longer in words than in bytes
pub place_fits : (p j w n : ℕ) → w ≡ 2 * p → j < n → j / w * p + j % w < n
place_fits p j w n e h =
    let k : p ≤ w = omega arith in
    omega (arith, div-add-mod' j w, mul-le-mul_left (j / w) k)

pub bytes_length : (p : ℕ) (mem : List ℕ) (n j : ℕ) → length (bytes_from p mem n j) ≡ n
unfolding bytes_from
bytes_length p mem zero j = refl
bytes_length p mem (suc n) j = ap suc (bytes_length p mem n (j + 1))

module _ (p : ℕ) (mem : List ℕ) (n : ℕ) where
  abbrev rest : ℕ → List ℕ
  rest j = bytes_from p mem (n - j) j

  pub fill_starts : (image : List ℕ) → filled image 0 (bytes_from p mem n 0) ≡ filled image 0 (rest 0)
  fill_starts image = let e : n - 0 ≡ n = omega arith in rw e

  pub fill_goes_on : (image : List ℕ) (j : ℕ) {x : ℕ} → j < n → x ≡ byte_at p (j / (2 * p)) (j % (2 * p)) mem
      → filled image j (rest j) ≡ filled (set image j x) (j + 1) (rest (j + 1))
  unfolding filled bytes_from
  fill_goes_on image j h q =
      let e : n - j ≡ suc (n - (j + 1)) = omega arith in
      rw (e, q, add-one)

  pub fill_ends : (image : List ℕ) (j : ℕ) → n ≤ j → image ≡ filled image j (rest j)
  unfolding filled bytes_from
  fill_ends image j h = let e : n - j ≡ zero = omega arith in rw e

-- the whole image is filled
pub fill_whole : (p : ℕ) (mem image : List ℕ) → (p ≡ 0 → ⊥) → filled image 0 (bytes_from p mem (length image) 0) ≡ image_of p mem image
unfolding filled image_of
fill_whole p mem image z =
    let l = bytes_from p mem (length image) 0 in
    let n : length l ≡ length image = bytes_length p mem (length image) 0 in
    let h : length image ≤ 0 + length l = omega arith in
    rw (ne_eqb p 0 z)
    (sets-eq l image 0 (omega arith) ∙ ap (λ (x : List ℕ). l ++ x) (drop_of_length-le image h) ∙ append-nil l)

pub fill_none : (p : ℕ) (mem image : List ℕ) → p ≡ 0 → image ≡ image_of p mem image
unfolding image_of
fill_none p mem image z = rw (eq-eqb p 0 z)
