-- One law for each way out of a slot, and for each turn of the passes that count and write the slots' entries: what is left to do, with
-- what is done, is the whole. True because each definition takes one slot where a loop takes one turn.
use mathlib.Core.Path.{◌≡◌, refl}
use mathlib.Core.Bool.{Bool, true, false, cond}
use mathlib.Core.List.{List, [], ◌∷◌, ◌++◌, append_assoc, append-nil}
use Rattle.std.specs.Prelude.{Ok, Err}
use Prim.Native.Nat.{ℕ, zero, suc, ◌+◌, ◌-◌, ◌*◌, ◌<◌, ◌≤◌}
use native.Mathlib.Omega.{arith}
use lib.ListN.{length, length-append}
use Rattle.records.specs.declared.Record.{Record}
use Rattle.records.specs.declared.Room.{Room}
use Rattle.records.specs.declared.Refusal.{Refusal}
use Rattle.records.specs.declared.Figure.{Figure}
use Rattle.records.specs.Decode.{Decoded}
use Rattle.records.specs.declared.Figure.TheVariants.{Dot, Line, Rectangle, Glyph, Circle}
use Rattle.entries.specs.Entries.{placed, plain, figure_size, size_of, entries_of}
use Rattle.entries.proofs.PutLaws.{entries_size, placed_append}
use Rattle.refusals.specs.Refusals.{used_b, slot_decoded}
use Rattle.sheets.specs.Slots.{figures_in, slot_figures, figures_from, figures}
use Rattle.sheets.specs.Slots.{translated, translation, sized}

-- ---- one slot
module _ (s : List ℕ) (m : Room) (k : ℕ) where
  pub none : used_b s k ≡ false → slot_figures s m k ≡ []
  unfolding slot_figures
  none u = rw u

  pub bad : {d : Decoded} {w : Refusal} → used_b s k ≡ true → d ≡ slot_decoded s m k → d ≡ Err w → slot_figures s m k ≡ []
  unfolding slot_figures
  bad u e g = rw (u, ← e, g)

  pub good : {d : Decoded} {r : Record} → used_b s k ≡ true → d ≡ slot_decoded s m k → d ≡ Ok r → slot_figures s m k ≡ r ∷ []
  unfolding slot_figures
  good u e g = rw (u, ← e, g)

-- a slot's size
pub size_none : {f : List Record} → f ≡ [] → 0 ≡ sized f
unfolding sized
size_none e = rw e

pub size_one : {f : List Record} {r : Record} {q : ℕ} → f ≡ r ∷ [] → q ≡ size_of r → q ≡ sized f
unfolding sized
size_one {r = r} e z = rw e (omega (arith, z))

size_small : (f : Figure) → figure_size f ≤ 160
size_small (Dot a) = omega arith
size_small (Line a b) = omega arith
size_small (Rectangle a b) = omega arith
size_small (Glyph a n g) = omega arith
size_small (Circle c r) = omega arith

small : (b : Bool) (d : Decoded) → sized (cond b (figures_in d) []) ≤ 161
unfolding sized size_of
small true (Ok r) = omega (arith, size_small (plain r.figure))
small true (Err w) = omega arith
small false d = omega arith

-- a slot takes at most 161 entries
pub slot_small : (s : List ℕ) (m : Room) (k : ℕ) {x : ℕ} → x ≡ sized (slot_figures s m k) → x ≤ 161
unfolding slot_figures
slot_small s m k e = rw e (small (used_b s k) (slot_decoded s m k))

-- .. and has at most one figure
one : (b : Bool) (d : Decoded) → length (cond b (figures_in d) []) ≤ 1
one true (Ok r) = omega arith
one true (Err w) = omega arith
one false d = omega arith

pub slot_one : (s : List ℕ) (m : Room) (k : ℕ) {x : ℕ} → x ≡ length (slot_figures s m k) → x ≤ 1
unfolding slot_figures
slot_one s m k e = rw e (one (used_b s k) (slot_decoded s m k))

-- ---- lists of figures
pub sized_append : (a b : List Record) → sized (a ++ b) ≡ sized a + sized b
unfolding sized
sized_append [] b = omega arith
sized_append (r ∷ a) b = omega (arith, sized_append a b)

-- so many slots take at most 161 times as many entries: 800 of them at most 128,800
pub figures_few : (s : List ℕ) (m : Room) (n k : ℕ) → sized (figures_from s m n k) ≤ 161 * n
unfolding figures_from sized
figures_few s m zero k = omega arith
figures_few s m (suc n) k =
    rw (sized_append (slot_figures s m k) (figures_from s m n (k + 1)))
    (omega (arith, slot_small s m k refl, figures_few s m n (k + 1)))

-- .. and have at most as many figures
pub figures_most : (s : List ℕ) (m : Room) (n k : ℕ) → length (figures_from s m n k) ≤ n
unfolding figures_from
figures_most s m zero k = omega arith
figures_most s m (suc n) k =
    rw (length-append (slot_figures s m k) (figures_from s m n (k + 1)))
    (omega (arith, slot_one s m k refl, figures_most s m n (k + 1)))

pub translated_append : (t : List ℕ) (p : ℕ) (a b : List Record) → translated t p (a ++ b) ≡ translated t p a ++ translated t p b
unfolding translated
translated_append t p [] b = refl
translated_append t p (r ∷ a) b = rw (translated_append t p a b, append_assoc)

pub translated_length : (t : List ℕ) (p : ℕ) (a : List Record) → length (translated t p a) ≡ sized a
unfolding translated sized
translated_length t p [] = refl
translated_length t p (r ∷ a) = rw (length-append, entries_size, translated_length t p a)

pub translation_length : (t : List ℕ) (p : ℕ) (a : List Record) → length (translation t p a) ≡ 2 + sized a
unfolding translation
translation_length t p a = omega (arith, translated_length t p a)

-- ---- figures are counted: any number that adds up over them
abbrev pub AddsUp : (List Record → ℕ) → Type 0
AddsUp f = (a b : List Record) → f (a ++ b) ≡ f a + f b

module _ (s : List ℕ) (m : Room) (n k : ℕ) where
  figures_turn : k < 50 * n → figures_from s m (50 * n - k) k ≡ slot_figures s m k ++ figures_from s m (50 * n - (k + 1)) (k + 1)
  unfolding figures_from
  figures_turn h = let e : 50 * n - k ≡ suc (50 * n - (k + 1)) = omega arith in rw e

  pub figures_start : figures s m n ≡ figures_from s m (50 * n - 0) 0
  unfolding figures
  figures_start = let e : 50 * n - 0 ≡ 50 * n = omega arith in rw e

  pub count_starts : (f : List Record → ℕ) → f (figures s m n) ≡ 0 + f (figures_from s m (50 * n - 0) 0)
  count_starts f = rw figures_start (omega arith)

  module _ (f : List Record → ℕ) (adds : AddsUp f) (c : ℕ) where
    pub count_goes_on : {x : ℕ} → k < 50 * n → x ≡ f (slot_figures s m k)
        → c + f (figures_from s m (50 * n - k) k) ≡ c + x + f (figures_from s m (50 * n - (k + 1)) (k + 1))
    count_goes_on h q = rw (figures_turn h, adds, q) (omega arith)

    pub count_ends : 50 * n ≤ k → c + f (figures_from s m (50 * n - k) k) ≡ c
    unfolding figures_from
    count_ends h = let e : 50 * n - k ≡ zero = omega arith in rw e (omega (arith, adds [] []))

  -- .. and of the entries needed
  pub need_goes_on : {x : ℕ} (need : ℕ) → k < 50 * n → x ≡ sized (slot_figures s m k)
      → need + sized (figures_from s m (50 * n - k) k) ≡ need + x + sized (figures_from s m (50 * n - (k + 1)) (k + 1))
  need_goes_on need h q = count_goes_on sized sized_append need h q

  pub need_ends : (need : ℕ) → 50 * n ≤ k → need + sized (figures_from s m (50 * n - k) k) ≡ need
  need_ends need h = count_ends sized sized_append need h

-- ---- a slot is put
module _ (t : List ℕ) (p : ℕ) (o : List ℕ) (at : ℕ) where
  pub put_none : {f : List Record} → f ≡ [] → (0 ≡ sized f) × (o ≡ placed o at (translated t p f))
  unfolding translated placed
  put_none e = (size_none e, rw e)

  pub put_one : {f : List Record} {r : Record} {q : ℕ} {o' : List ℕ} → f ≡ r ∷ [] → q ≡ size_of r → o' ≡ placed o at (entries_of t p r)
      → (q ≡ sized f) × (o' ≡ placed o at (translated t p f))
  unfolding translated
  put_one {r = r} e z w = (size_one e z, rw (e, append-nil (entries_of t p r)) w)

-- ---- the entries are written
module _ (s : List ℕ) (m : Room) (n k : ℕ) (t : List ℕ) (p : ℕ) where
  abbrev left : List Record
  left = figures_from s m (50 * n - k) k

  pub write_goes_on : {o' : List ℕ} {q : ℕ} (o : List ℕ) (at : ℕ) → k < 50 * n
      → (q ≡ sized (slot_figures s m k)) × (o' ≡ placed o at (translated t p (slot_figures s m k)))
      → placed o at (translated t p left) ≡ placed o' (at + q) (translated t p (figures_from s m (50 * n - (k + 1)) (k + 1)))
  write_goes_on o at h w =
      rw (figures_turn s m n k h, translated_append, ← placed_append, translated_length t p (slot_figures s m k), w.0, w.1)

  pub write_starts : (o : List ℕ) → placed o 2 (translated t p (figures s m n))
      ≡ placed o 2 (translated t p (figures_from s m (50 * n - 0) 0))
  write_starts o = rw (figures_start s m n k)

  pub write_ends : (o : List ℕ) (at : ℕ) → 50 * n ≤ k → o ≡ placed o at (translated t p left)
  unfolding figures_from translated placed
  write_ends o at h = let e : 50 * n - k ≡ zero = omega arith in rw e

-- PITCH P is put first
pub pitch_first : (o t : List ℕ) (p : ℕ) (l : List Record) {o' : List ℕ} → o' ≡ placed o 0 (0x147 ∷ p ∷ [])
    → placed o' 2 (translated t p l) ≡ placed o 0 (translation t p l)
unfolding translation
pitch_first o t p l e = rw e (placed_append o 0 (0x147 ∷ p ∷ []) (translated t p l))
