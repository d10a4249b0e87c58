-- Every pixel of the image is the dot of the picture: pixel x of line y is bit 7 - x mod 8 of byte x div 8 of that line, and a line has 2·p
-- bytes.
use mathlib.Core.Path.{◌≡◌, ap, ◌∙◌}
use mathlib.Core.List.{List}
use Prim.Native.Nat.{ℕ, zero, suc, ◌+◌, ◌-◌, ◌*◌, ◌/◌, ◌%◌, ◌<◌}
use native.Mathlib.Omega.{arith}
use lib.Arith.{digits_div, digits_mod}
use lib.ListN.{length, get_or}
use borrow.Author.Tests.{ne_eqb}
use Rattle.dots.specs.Bit.{bit}
use Rattle.dots.specs.Dot.{dot}
use Rattle.bitmap.specs.Image.{byte_at, bytes_from, image_of}

-- byte k of the bytes from j on
bytes_at : (p : ℕ) (mem : List ℕ) (n j k : ℕ) → k < n
    → get_or (bytes_from p mem n j) k 0 ≡ byte_at p ((j + k) / (2 * p)) ((j + k) % (2 * p)) mem
unfolding bytes_from
bytes_at p mem zero j k h = absurd (omega arith)
bytes_at p mem (suc n) j zero h = let e : j + 0 ≡ j = omega arith in rw e
bytes_at p mem (suc n) j (suc k) h = let e : j + suc k ≡ j + 1 + k = omega arith in rw e (bytes_at p mem n (j + 1) k (omega arith))

-- a dot is 0 or 1
dot_bit : (p x y : ℕ) (mem : List ℕ) → dot p x y mem < 2
unfolding dot bit
dot_bit p x y mem = omega arith

-- eight of them in a line, from x on
record Eight (p x y : ℕ) (mem : List ℕ) : Type 0 where
  d0 : dot p x y mem < 2
  d1 : dot p (x + 1) y mem < 2
  d2 : dot p (x + 2) y mem < 2
  d3 : dot p (x + 3) y mem < 2
  d4 : dot p (x + 4) y mem < 2
  d5 : dot p (x + 5) y mem < 2
  d6 : dot p (x + 6) y mem < 2
  d7 : dot p (x + 7) y mem < 2

eight : (p x y : ℕ) (mem : List ℕ) → Eight p x y mem
eight p x y mem =
    let d : (n : ℕ) → dot p n y mem < 2 = λ n. dot_bit p n y mem in
    record { d0 = d x; d1 = d (x + 1); d2 = d (x + 2); d3 = d (x + 3); d4 = d (x + 4); d5 = d (x + 5); d6 = d (x + 6); d7 = d (x + 7) }

-- the dots of a byte are its bits, the leftmost the most significant
module _ (p y b : ℕ) (mem : List ℕ) where
  pub byte_bit : (i : ℕ) → i < 8 → bit (7 - i) (byte_at p y b mem) ≡ dot p (8 * b + i) y mem
  unfolding bit byte_at
  byte_bit zero h = let e : 8 * b + 0 ≡ 8 * b = omega arith in rw e (omega (arith, eight p (8 * b) y mem))
  byte_bit (suc zero) h = omega (arith, eight p (8 * b) y mem)
  byte_bit (suc (suc zero)) h = omega (arith, eight p (8 * b) y mem)
  byte_bit (suc (suc (suc zero))) h = omega (arith, eight p (8 * b) y mem)
  byte_bit (suc (suc (suc (suc zero)))) h = omega (arith, eight p (8 * b) y mem)
  byte_bit (suc (suc (suc (suc (suc zero))))) h = omega (arith, eight p (8 * b) y mem)
  byte_bit (suc (suc (suc (suc (suc (suc zero)))))) h = omega (arith, eight p (8 * b) y mem)
  byte_bit (suc (suc (suc (suc (suc (suc (suc zero))))))) h = omega (arith, eight p (8 * b) y mem)
  byte_bit (suc (suc (suc (suc (suc (suc (suc (suc i)))))))) h = absurd (omega arith)

-- pixel (x, y) of an image that reaches so far
pub pixel_right : (p : ℕ) (mem image : List ℕ) (x y : ℕ) → x < 16 * p → y * (2 * p) + x / 8 < length image
    → bit (7 - x % 8) (get_or (image_of p mem image) (y * (2 * p) + x / 8) 0) ≡ dot p x y mem
unfolding image_of
pixel_right p mem image x y h k =
    let w : x / 8 < 2 * p = omega arith in
    let z : p ≡ 0 → ⊥ = λ e. omega arith in
    let s : 0 + (y * (2 * p) + x / 8) ≡ y * (2 * p) + x / 8 = omega arith in
    let d : (0 + (y * (2 * p) + x / 8)) / (2 * p) ≡ y = ap (λ (n : ℕ). n / (2 * p)) s ∙ digits_div y w in
    let m : (0 + (y * (2 * p) + x / 8)) % (2 * p) ≡ x / 8 = ap (λ (n : ℕ). n % (2 * p)) s ∙ digits_mod y w in
    let e : 8 * (x / 8) + x % 8 ≡ x = omega arith in
    rw (ne_eqb p 0 z, bytes_at p mem (length image) 0 (y * (2 * p) + x / 8) k, d, m)
    (byte_bit p y (x / 8) mem (x % 8) (omega arith) ∙ ap (λ (n : ℕ). dot p n y mem) e)
