-- Entries put one after the other make one run of entries, whatever their number; what stands before and behind them stays; and a record's
-- entries are as many
-- as `size_of` says. True because `placed` sets one place at a time, and each figure's entries are a list of known length.
use mathlib.Core.Path.{◌≡◌, refl, ap, ◌∙◌}
use mathlib.Core.List.{List, [], ◌∷◌, ◌++◌}
use Prim.Native.Nat.{ℕ, suc, ◌+◌, ◌<◌, ◌≤◌}
use native.Mathlib.Omega.{arith}
use native.Mathlib.Numerals.{add-one}
use lib.ListN.{length, get_or, set, take, drop, drop_of_length-le}
use lib.Seq.{drop-cons, length-sets, sets-eq}
use Rattle.records.specs.declared.Record.{Record}
use Rattle.records.specs.declared.Figure.{Figure}
use Rattle.records.specs.declared.Figure.TheVariants.{Dot, Line, Rectangle, Glyph, Circle}
use Rattle.dots.specs.Operation.{operation_number}
use Rattle.entries.specs.Entries.{placed, plain, figure_size, size_of, figure_entries, entries_of, dot_entries, line_entries}
use Rattle.entries.specs.Entries.{rectangle_entries, glyph_entries, arc_entries, arcs_from, circle_entries}

-- ---- the loop of `put`
module _ (o : List ℕ) (at : ℕ) (e : List ℕ) where
  pub put_starts : placed o at e ≡ placed o (at + 0) (drop 0 e)
  unfolding placed
  put_starts = let f : at + 0 ≡ at = omega arith in rw f

  pub put_goes_on : {o' : List ℕ} (i : ℕ) → i < length e → o' ≡ set o (at + i) (get_or e i 0)
      → placed o (at + i) (drop i e) ≡ placed o' (at + (i + 1)) (drop (i + 1) e)
  unfolding placed
  put_goes_on i h q = let f : at + (i + 1) ≡ suc (at + i) = omega arith in rw (q, f, drop-cons e i 0 h, add-one)

  pub put_ends : (i : ℕ) → length e ≤ i → o ≡ placed o (at + i) (drop i e)
  unfolding placed
  put_ends i h = rw (drop_of_length-le e h)

-- ---- runs of entries
-- two runs are one
pub placed_append : (o : List ℕ) (at : ℕ) (a b : List ℕ) → placed (placed o at a) (at + length a) b ≡ placed o at (a ++ b)
unfolding placed
placed_append o at [] b = let f : at + 0 ≡ at = omega arith in rw f
placed_append o at (x ∷ a) b =
    let f : at + suc (length a) ≡ suc at + length a = omega arith in rw f (placed_append (set o at x) (suc at) a b)

pub placed_length : (o : List ℕ) (at : ℕ) (e : List ℕ) → length (placed o at e) ≡ length o
unfolding placed
placed_length o at e = length-sets o at e

-- what is before and behind stays
pub placed_is : (o : List ℕ) (at : ℕ) (e : List ℕ) → at + length e ≤ length o → placed o at e ≡ take at o ++ e ++ drop (at + length e) o
unfolding placed
placed_is o at e h = sets-eq e o at h

-- ---- a record's entries
sizes : (t : List ℕ) (p : ℕ) (f : Figure) → length (figure_entries t p f) ≡ figure_size f
unfolding dot_entries line_entries rectangle_entries glyph_entries arc_entries arcs_from circle_entries
sizes t p (Dot a) = refl
sizes t p (Line a b) = refl
sizes t p (Rectangle a b) = refl
sizes t p (Glyph a n g) = refl
sizes t p (Circle c r) = refl

pub entries_size : (t : List ℕ) (p : ℕ) (r : Record) → length (entries_of t p r) ≡ size_of r
unfolding entries_of size_of
entries_size t p r = ap suc (sizes t p (plain r.figure))

pub size_by : (r : Record) {f g : Figure} → g ≡ plain r.figure → g ≡ f → suc (figure_size f) ≡ size_of r
unfolding size_of
size_by r e q = rw (← e, q)

-- one array of entries for each case of a figure
pub put_by : (at : ℕ) (t : List ℕ) (p : ℕ) {f g : Figure} {e o' : List ℕ} (o : List ℕ) → g ≡ f → e ≡ figure_entries t p f
    → o' ≡ placed o at e → o' ≡ placed o at (figure_entries t p g)
put_by at t p o v w h = rw (v, ← w) h

-- WDAT, and the figure behind it, are the record's
pub record_put : (at : ℕ) (t : List ℕ) (p : ℕ) (r : Record) {n : ℕ} {f : Figure} {o' o'' : List ℕ} (o : List ℕ)
    → n ≡ 0x120 + operation_number r.op
    → f ≡ plain r.figure → o' ≡ set o at n → o'' ≡ placed o' (at + 1) (figure_entries t p f)
    → o'' ≡ placed o at (entries_of t p r)
unfolding entries_of placed
record_put at t p r o u v w h = let e : at + 1 ≡ suc at = omega arith in h ∙ rw (w, u, v, e)
