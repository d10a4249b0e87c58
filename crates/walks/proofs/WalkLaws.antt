-- The plain loops: what is left to do from here is what was to do from the start. Each loop has a law for a turn, over what the calls of
-- the turn ensure, and one for its end.
use mathlib.Core.Path.{◌≡◌, sym, ap, ◌∙◌}
use mathlib.Core.List.{List}
use Prim.Native.Nat.{ℕ, zero, suc, ◌+◌, ◌-◌, ◌≤◌, ◌<◌}
use native.Mathlib.Omega.{arith}
use Rattle.dots.specs.declared.Cursor.{Cursor}
use Rattle.dots.specs.Step.{step_of}
use Rattle.figures.specs.Figure.{direction_at, running_d}
use Rattle.walks.specs.declared.Brush.{Brush}
use Rattle.walks.specs.Walk.{dotted, lettered, columns_in, next_row, Stood, stood, figure_walk, row_walk, rows_walk}

-- dots of a figure
module _ (b : Brush) (end d : ℕ) (c : Cursor) (m : List ℕ) where
  pub dots_on : {dir v : ℕ} {t : Cursor} {l : List ℕ} (i : ℕ) → i < end → l ≡ dotted b i c m
      → dir ≡ direction_at b.drawing i d → t ≡ step_of dir b.pitch c → v ≡ running_d b.drawing d
      → figure_walk b (end - i) i d c m ≡ figure_walk b (end - (i + 1)) (i + 1) v t l
  unfolding figure_walk
  dots_on i h el ed et ev = let j : end - i ≡ suc (end - (i + 1)) = omega arith in rw (j, ev, et, ed, el)

  pub dots_end : (i : ℕ) → end ≤ i → record { cursor = c; d = d; mem = m } ≡ figure_walk b (end - i) i d c m
  unfolding figure_walk
  dots_end i h = let j : end - i ≡ zero = omega arith in rw j

-- dots of a row
module _ (b : Brush) (end y : ℕ) (c : Cursor) (m : List ℕ) where
  pub row_on : {t : Cursor} {l : List ℕ} (i : ℕ) → i < end → l ≡ lettered b y i c m → t ≡ step_of b.drawing.dir b.pitch c
      → row_walk b (end - i) y i c m ≡ row_walk b (end - (i + 1)) y (i + 1) t l
  unfolding row_walk
  row_on i h el et = let j : end - i ≡ suc (end - (i + 1)) = omega arith in rw (j, et, el)

  pub row_end : (i : ℕ) → end ≤ i → stood c m ≡ row_walk b (end - i) y i c m
  unfolding row_walk
  row_end i h = let j : end - i ≡ zero = omega arith in rw j

-- whole rows
module _ (b : Brush) (end : ℕ) (s : Cursor) (m : List ℕ) where
  pub rows_on : {w : ℕ} {q t : Cursor} {l : List ℕ} (i : ℕ) → i < end → w ≡ columns_in b → stood q l ≡ row_walk b (w - 0) i 0 s m
      → t ≡ next_row b s → rows_walk b (end - i) i s m ≡ rows_walk b (end - (i + 1)) (i + 1) t l
  unfolding rows_walk
  rows_on {w} {q} {t} {l} i h ew el et =
      let j : end - i ≡ suc (end - (i + 1)) = omega arith in
      let f : columns_in b ≡ w - 0 = omega arith in
      let g : (row_walk b (columns_in b) i 0 s m).mem ≡ l =
      ap (λ (v : ℕ). (row_walk b v i 0 s m).mem) f ∙ ap (λ (v : Stood). v.mem) (sym el) in
      ap (λ (v : ℕ). rows_walk b v i s m) j ∙ (λ o. rows_walk b (end - (i + 1)) (i + 1) (sym et o) (g o))

  pub rows_end : (i : ℕ) → end ≤ i → stood s m ≡ rows_walk b (end - i) i s m
  unfolding rows_walk
  rows_end i h = let j : end - i ≡ zero = omega arith in rw j
