-- The DIR of a line fits, and no smaller one does. True because of two opposite ways one always holds (so one of eight octants is met:
-- `octant`), and
-- because `dir_of` tries the eight in order. `slope_by_law` gives the slope over the six ways, its distances named.
use mathlib.Core.Path.{◌≡◌, refl, sym, subst, ◌∙◌}
use mathlib.Core.Bool.{Bool, true, false, cond, ◌&&◌, true≢false}
use mathlib.Core.List.{List, [], ◌∷◌}
use Prim.Native.Nat.{ℕ, zero, suc, ◌<◌, ◌≤◌, min, max}
use native.Mathlib.Omega.{arith}
use lib.Dec.{leb}
use lib.ListN.{length, get_or}
use borrow.Author.Tests.{leb-true, leb-false, le-leb}
use Rattle.records.specs.declared.Point.{Point}
use Rattle.entries.specs.declared.Slope.{Slope}
use Rattle.entries.specs.Entries.{distance, right_b, left_b, down_b, up_b, tall_b, wide_b, dir_fits, dir_of, slope_of}

-- ---- the eight octants
-- one of two opposite ways holds
pub other : (m n : ℕ) → leb m n ≡ false → leb n m ≡ true
other m n e = let h : n < m = leb-false m n e in le-leb n m (omega arith)

clash : {P : Type 0} {b : Bool} → b ≡ true → b ≡ false → P
clash s e = absurd (true≢false (sym s ∙ e))

module _ {P : Type 0} {r l d u t w : Bool} (rl : r ≡ false → l ≡ true) (du : d ≡ false → u ≡ true) (tw : t ≡ false → w ≡ true) where
  pub octant : (r ≡ true → d ≡ true → t ≡ true → P) → (r ≡ true → d ≡ true → t ≡ false → w ≡ true → P)
      → (r ≡ true → d ≡ false → u ≡ true → w ≡ true → P) → (r ≡ true → d ≡ false → u ≡ true → w ≡ false → t ≡ true → P)
      → (r ≡ false → l ≡ true → u ≡ true → t ≡ true → P) → (r ≡ false → l ≡ true → u ≡ true → t ≡ false → w ≡ true → P)
      → (r ≡ false → l ≡ true → u ≡ false → d ≡ true → w ≡ true → P)
      → (r ≡ false → l ≡ true → u ≡ false → d ≡ true → w ≡ false → t ≡ true → P) → P
  octant a b c e f g h k = go r d u t w refl refl refl refl refl
    where
      go : (r' d' u' t' w' : Bool) → r ≡ r' → d ≡ d' → u ≡ u' → t ≡ t' → w ≡ w' → P
      go true true u' true w' er ed eu et ew = a er ed et
      go true true u' false w' er ed eu et ew = b er ed et (tw et)
      go true false u' t' true er ed eu et ew = c er ed (du ed) ew
      go true false u' true false er ed eu et ew = e er ed (du ed) ew et
      go true false u' false false er ed eu et ew = clash (tw et) ew
      go false d' true true w' er ed eu et ew = f er (rl er) eu et
      go false d' true false w' er ed eu et ew = g er (rl er) eu et (tw et)
      go false true false t' true er ed eu et ew = h er (rl er) eu ed ew
      go false true false true false er ed eu et ew = k er (rl er) eu ed ew et
      go false true false false false er ed eu et ew = clash (tw et) ew
      go false false false t' w' er ed eu et ew = clash (du ed) eu

-- ---- the slope over the six ways
-- x and y are the distances; where `tall` holds y is the larger, else x
abbrev pub slope_by : Bool → Bool → Bool → Bool → Bool → Bool → ℕ → ℕ → Slope
slope_by right left down up tall wide x y =
    cond (right && down && tall) (record { dir = 0; major = y; minor = x })
    (cond (right && down) (record { dir = 1; major = x; minor = y })
    (cond (right && up && wide) (record { dir = 2; major = x; minor = y })
    (cond (right && up) (record { dir = 3; major = y; minor = x })
    (cond (left && up && tall) (record { dir = 4; major = y; minor = x })
    (cond (left && up) (record { dir = 5; major = x; minor = y })
    (cond (left && down && wide) (record { dir = 6; major = x; minor = y }) (record { dir = 7; major = y; minor = x })))))))

module _ (a b : Point) where
  abbrev x : ℕ
  x = distance a.x b.x

  abbrev y : ℕ
  y = distance a.y b.y

  tall_is : tall_b a b ≡ true → (max x y ≡ y) × (min x y ≡ x)
  tall_is e = let h : x ≤ y = leb-true x y e in (omega arith, omega arith)

  wide_is : wide_b a b ≡ true → (max x y ≡ x) × (min x y ≡ y)
  wide_is e = let h : y ≤ x = leb-true y x e in (omega arith, omega arith)

  pub slope_by_law : slope_of a b ≡ slope_by (right_b a b) (left_b a b) (down_b a b) (up_b a b) (tall_b a b) (wide_b a b) x y
  unfolding slope_of dir_of
  slope_by_law =
      octant (other a.x b.x) (other a.y b.y) (other x y)
      (λ r d t. rw (r, d, t, (tall_is t).0, (tall_is t).1))
      (λ r d t w. rw (r, d, t, w, (wide_is w).0, (wide_is w).1))
      (λ r d u w. rw (r, d, u, w, (wide_is w).0, (wide_is w).1))
      (λ r d u w t. rw (r, d, u, w, t, (tall_is t).0, (tall_is t).1))
      (λ r l u t. rw (r, l, u, t, (tall_is t).0, (tall_is t).1))
      (λ r l u t w. rw (r, l, u, t, w, (wide_is w).0, (wide_is w).1))
      (λ r l u d w. rw (r, l, u, d, w, (wide_is w).0, (wide_is w).1))
      (λ r l u d w t. rw (r, l, u, d, w, (tall_is t).0, (tall_is t).1))

  -- ---- "the smallest fitting DIR"
  pub dir_fits_law : dir_fits (dir_of a b) a b ≡ true
  unfolding dir_of
  dir_fits_law =
      octant (other a.x b.x) (other a.y b.y) (other x y)
      (λ r d t. rw (r, d, t)) (λ r d t w. rw (r, d, t, w)) (λ r d u w. rw (r, d, u, w)) (λ r d u w t. rw (r, d, u, w, t))
      (λ r l u t. rw (r, l, u, t)) (λ r l u t w. rw (r, l, u, t, w)) (λ r l u d w. rw (r, l, u, d, w))
      (λ r l u d w t. rw (r, l, u, d, w, t))

-- the first test of `direction`, by the distances that it holds
pub dir_first : {x y : ℕ} (a b : Point) → x ≡ distance a.x b.x → y ≡ distance a.y b.y
    → (right_b a b && down_b a b && leb x y) ≡ true → 0 ≡ dir_of a b
unfolding dir_of
dir_first a b p q e = rw (← p, ← q, e)

-- the place of the first `true`
abbrev first_in : List Bool → ℕ
first_in [] = 0
first_in (true ∷ l) = 0
first_in (false ∷ l) = suc (first_in l)

none_before : (l : List Bool) (e : ℕ) → e < first_in l → get_or l e false ≡ false
none_before [] e h = absurd (omega arith)
none_before (true ∷ l) e h = absurd (omega arith)
none_before (false ∷ l) zero h = refl
none_before (false ∷ l) (suc e) h = none_before l e (omega arith)

short : (l : List Bool) → first_in l ≤ length l
short [] = omega arith
short (true ∷ l) = omega arith
short (false ∷ l) = omega (arith, short l)

-- trying in order gives the first
in_order : (a b c d e f g : Bool) → cond a 0 (cond b 1 (cond c 2 (cond d 3 (cond e 4 (cond f 5 (cond g 6 7))))))
    ≡ first_in (a ∷ b ∷ c ∷ d ∷ e ∷ f ∷ g ∷ [])
in_order true b c d e f g = refl
in_order false true c d e f g = refl
in_order false false true d e f g = refl
in_order false false false true e f g = refl
in_order false false false false true f g = refl
in_order false false false false false true g = refl
in_order false false false false false false true = refl
in_order false false false false false false false = refl

module _ (a b : Point) where
  abbrev seven : List Bool
  seven = dir_fits 0 a b ∷ dir_fits 1 a b ∷ dir_fits 2 a b ∷ dir_fits 3 a b ∷ dir_fits 4 a b ∷ dir_fits 5 a b ∷ dir_fits 6 a b ∷ []

  tried : (e : ℕ) → e < 7 → get_or seven e false ≡ dir_fits e a b
  tried zero h = refl
  tried (suc zero) h = refl
  tried (suc (suc zero)) h = refl
  tried (suc (suc (suc zero))) h = refl
  tried (suc (suc (suc (suc zero)))) h = refl
  tried (suc (suc (suc (suc (suc zero))))) h = refl
  tried (suc (suc (suc (suc (suc (suc zero)))))) h = refl
  tried (suc (suc (suc (suc (suc (suc (suc e))))))) h = absurd (omega arith)

  pub dir_smallest : (e : ℕ) → e < dir_of a b → dir_fits e a b ≡ false
  unfolding dir_of
  dir_smallest e h =
      let q = in_order (dir_fits 0 a b) (dir_fits 1 a b) (dir_fits 2 a b) (dir_fits 3 a b) (dir_fits 4 a b) (dir_fits 5 a b)
      (dir_fits 6 a b) in
      let k : e < first_in seven = subst (λ (n : ℕ). e < n) q h in
      sym (tried e (omega (arith, k, short seven))) ∙ none_before seven e k
