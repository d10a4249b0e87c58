-- A burst counts at least one unit where there may be one, and no more than there may be.
use mathlib.Core.Path.{◌≡◌, refl, ap}
use mathlib.Core.List.{List}
use Prim.Native.Nat.{ℕ, zero, suc, ◌+◌, ◌-◌, ◌*◌, ◌≤◌, ◌<◌}
use native.Mathlib.Decide.{dec_lt}
use native.Mathlib.Omega.{arith}
use borrow.Author.Tests.{lt-ltb, le-ltb}
use Rattle.dots.specs.declared.Cursor.{Cursor}
use Rattle.dots.specs.Step.{step_of}
use Rattle.registers.specs.Size.{dots_of}
use Rattle.figures.specs.Figure.{direction_at, running_d}
use Rattle.walks.specs.declared.Brush.{Brush}
use Rattle.walks.specs.Walk.{least, dotted, rows_in, columns_in, lettered, next_row}
use Rattle.walks.proofs.LeastLaws.{is_least}
use Rattle.bursts.specs.Burst.{Drawn, figure_burst, character_burst, whole_rows, rows_ahead}
use Rattle.bursts.proofs.BurstLaws.{is_whole, figure_goes, figure_last, character_goes, character_turns, character_last}

pub record Counted (n i : ℕ) : Type 0 where
  pub some : 0 < n → 0 < i
  pub within : i ≤ n

-- none, one, and one with those after it
pub counted_none : {i : ℕ} → i ≡ 0 → Counted 0 i
counted_none e = record { some = λ h. absurd (omega arith); within = omega arith }

pub counted_one : (n : ℕ) {i : ℕ} → i ≡ 1 → Counted (suc n) i
counted_one n e = record { some = λ h. omega arith; within = omega arith }

pub counted_more : (n : ℕ) {i j : ℕ} → i ≡ 1 + j → Counted n j → Counted (suc n) i
counted_more n e t = record { some = λ h. omega arith; within = omega (arith, t.within) }

pub count_of : {q v : Drawn} → q ≡ v → q.count ≡ v.count
count_of e = ap (λ (q : Drawn). q.count) e

module _ (b : Brush) where
  pub figure_counted : (n k d : ℕ) (c : Cursor) (m : List ℕ) → Counted n (figure_burst b n k d c m).count
  unfolding figure_burst
  figure_counted zero k d c m = counted_none refl
  figure_counted (suc n) k d c m =
      go (dec_lt (k + 1) (dots_of b.drawing))
      (figure_counted n (k + 1) (running_d b.drawing d) (step_of (direction_at b.drawing k d) b.pitch c) (dotted b k c m))
    where
      go : Dec (k + 1 < dots_of b.drawing)
          → Counted n (figure_burst b n (k + 1) (running_d b.drawing d) (step_of (direction_at b.drawing k d) b.pitch c)
          (dotted b k c m)).count → Counted (suc n) (figure_burst b (suc n) k d c m).count
      go (yes h) t = counted_more n (count_of (figure_goes b n k d c m h)) t
      go (no h) t = counted_one n (count_of (figure_last b n k d c m (omega arith)))

  pub character_counted : (n y x : ℕ) (s c : Cursor) (m : List ℕ) → Counted n (character_burst b n y x s c m).count
  unfolding character_burst
  character_counted zero y x s c m = counted_none refl
  character_counted (suc n) y x s c m =
      go (dec_lt (x + 1) (columns_in b)) (dec_lt (y + 1) (rows_in b))
      (character_counted n y (x + 1) s (step_of b.drawing.dir b.pitch c) (lettered b y x c m))
      (character_counted n (y + 1) 0 (next_row b s) (next_row b s) (lettered b y x c m))
    where
      go : Dec (x + 1 < columns_in b) → Dec (y + 1 < rows_in b)
          → Counted n (character_burst b n y (x + 1) s (step_of b.drawing.dir b.pitch c) (lettered b y x c m)).count
          → Counted n (character_burst b n (y + 1) 0 (next_row b s) (next_row b s) (lettered b y x c m)).count
          → Counted (suc n) (character_burst b (suc n) y x s c m).count
      go (yes g) h t u = counted_more n (count_of (character_goes b n y x s c m g)) t
      go (no g) (yes h) t u = counted_more n (count_of (character_turns b n y x s c m (omega arith) h)) u
      go (no g) (no h) t u = counted_one n (count_of (character_last b n y x s c m (omega arith) (omega arith)))

-- how many units of a character are done at once
pub ahead_counted : (most y x rows columns : ℕ) → Counted most (rows_ahead most y x rows columns)
unfolding rows_ahead
ahead_counted most y x rows columns = go (dec_lt n most)
  where
    n : ℕ
    n = least most (columns - 1 - x)

    w : ℕ
    w = whole_rows (most - n - 1) columns (rows - y - 2)

    go : Dec (n < most) → Counted most (rows_ahead most y x rows columns)
    go (yes h) =
        let e : rows_ahead most y x rows columns ≡ n + 1 + w * columns = rw (lt-ltb n most h) refl in
        let f = (is_whole (most - n - 1) columns (rows - y - 2) {w = w} refl).fits in
        rw e (record { some = λ g. omega arith; within = omega arith })
    go (no h) =
        let e : rows_ahead most y x rows columns ≡ n = rw (le-ltb n most (omega arith)) refl in
        rw e (record { some = λ g. omega arith; within = (is_least most (columns - 1 - x) {n = n} refl).left })
