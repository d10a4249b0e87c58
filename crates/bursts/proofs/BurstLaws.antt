-- Dots before a figure's last are as many units of it; so are dots before a row's last, and whole rows before a character's last.
use mathlib.Core.Path.{◌≡◌, refl, sym, ap, ◌∙◌}
use mathlib.Core.List.{List}
use Prim.Native.Nat.{ℕ, zero, suc, ◌+◌, ◌-◌, ◌*◌, ◌/◌, ◌≤◌, ◌<◌}
use native.Mathlib.Nat.{suc-mul, mul-le-mul_right, div-mul-le_self}
use native.Mathlib.Decide.{dec_lt, ℕ_discrete}
use native.Mathlib.Omega.{arith}
use borrow.Author.Tests.{eq-eqb, ne_eqb, lt-ltb, le-ltb}
use Rattle.dots.specs.declared.Cursor.{Cursor}
use Rattle.dots.specs.Step.{step_of}
use Rattle.registers.specs.declared.Work.TheVariants.{Idle, Figure, Character}
use Rattle.registers.specs.Size.{dots_of}
use Rattle.figures.specs.Figure.{direction_at, running_d}
use Rattle.walks.specs.declared.Brush.{Brush}
use Rattle.walks.specs.declared.Reached.{Reached}
use Rattle.walks.specs.Walk.{least, dotted, Led, led, figure_walk, lettered, next_row, rows_in, columns_in, Stood, stood, row_walk}
use Rattle.walks.specs.Walk.{rows_walk}
use Rattle.walks.proofs.LeastLaws.{is_least}
use Rattle.bursts.specs.Burst.{Drawn, later, figure_burst, character_burst, whole_rows, rows_ahead, after_row}

pub later_later : (n j : ℕ) (q : Drawn) → later n (later j q) ≡ later (n + j) q
later_later n j q =
    let e : n + (j + q.count) ≡ n + j + q.count = omega arith in
    λ i. record { count = e i; cursor = q.cursor; work = q.work; mem = q.mem }

pub later_none : (q : Drawn) → q ≡ later 0 q
later_none q =
    let e : q.count ≡ 0 + q.count = omega arith in λ i. record { count = e i; cursor = q.cursor; work = q.work; mem = q.mem }

-- what whole rows of so many dots within so many units are
pub record Whole (most columns left w : ℕ) : Type 0 where
  pub within : w ≤ left
  pub some : 0 < w → 0 < columns
  pub fits : w * columns ≤ most

pub is_whole : (most columns left : ℕ) {w : ℕ} → w ≡ whole_rows most columns left → Whole most columns left w
unfolding whole_rows
is_whole most columns left {w} e = go (ℕ_discrete columns 0)
  where
    go : Dec (columns ≡ 0) → Whole most columns left w
    go (yes h) =
        let g : w ≡ 0 = e ∙ (rw (eq-eqb columns 0 h) refl) in
        let z : 0 * columns ≡ 0 = omega arith in
        record { within = omega arith; some = λ p. absurd (omega arith); fits = rw (g, z) (omega arith) }
    go (no h) =
        let g : w ≡ least (most / columns) left = e ∙ (rw (ne_eqb columns 0 h) refl) in
        let l = is_least (most / columns) left g in
        record {
          within = l.right;
          some = λ p. omega arith;
          fits = omega (arith, mul-le-mul_right columns l.left, div-mul-le_self most columns);
        }

-- ---- a figure
module _ (b : Brush) where
  -- the unit of a dot that is not the last, and of the last
  pub figure_goes : (n k d : ℕ) (c : Cursor) (m : List ℕ) → k + 1 < dots_of b.drawing → figure_burst b (suc n) k d c m
      ≡ later 1 (figure_burst b n (k + 1) (running_d b.drawing d) (step_of (direction_at b.drawing k d) b.pitch c) (dotted b k c m))
  unfolding figure_burst
  figure_goes n k d c m h = rw (lt-ltb (k + 1) (dots_of b.drawing) h)

  pub figure_last : (n k d : ℕ) (c : Cursor) (m : List ℕ) → dots_of b.drawing ≤ k + 1
      → figure_burst b (suc n) k d c m ≡ record { count = 1; cursor = c; work = Idle; mem = dotted b k c m }
  unfolding figure_burst
  figure_last n k d c m h = rw (le-ltb (k + 1) (dots_of b.drawing) h)

  -- n dots before the last are n units, whatever comes after them
  figure_ahead : (n x k d : ℕ) (c : Cursor) (m : List ℕ) → n ≤ dots_of b.drawing - 1 - k → let w = figure_walk b n k d c m in
      figure_burst b (n + x) k d c m ≡ later n (figure_burst b x (k + n) w.d w.cursor w.mem)
  unfolding figure_walk
  figure_ahead zero x k d c m h =
      let e : 0 + x ≡ x = omega arith in
      let f : k ≡ k + 0 = omega arith in
      (λ i. figure_burst b (e i) (f i) d c m) ∙ later_none _
  figure_ahead (suc n) x k d c m h =
      let e : suc n + x ≡ suc (n + x) = omega arith in
      let f : k + 1 + n ≡ k + suc n = omega arith in
      let o : 1 + n ≡ suc n = omega arith in
      let v = running_d b.drawing d in
      let t = step_of (direction_at b.drawing k d) b.pitch c in
      let l = dotted b k c m in
      let w = figure_walk b n (k + 1) v t l in
      ap (λ (j : ℕ). figure_burst b j k d c m) e
      ∙ figure_goes (n + x) k d c m (omega arith)
      ∙ ap (later 1) (figure_ahead n x (k + 1) v t l (omega arith))
      ∙ later_later 1 n _
      ∙ (λ i. later (o i) (figure_burst b x (f i) w.d w.cursor w.mem))

  -- so a burst stops after n dots, or goes on to the end
  abbrev stops_at : ℕ → ℕ → Led → Drawn
  stops_at n k w = record { count = n; cursor = w.cursor; work = Figure (k + n) w.d; mem = w.mem }

  pub figure_stops : (n k d : ℕ) (c : Cursor) (m : List ℕ) → n ≤ dots_of b.drawing - 1 - k
      → stops_at n k (figure_walk b n k d c m) ≡ figure_burst b n k d c m
  unfolding figure_burst
  figure_stops n k d c m h =
      let e : n + 0 ≡ n = omega arith in
      let w = figure_walk b n k d c m in
      sym ((λ i. figure_burst b (sym e i) k d c m) ∙ figure_ahead n 0 k d c m h
      ∙ (λ i. record { count = e i; cursor = w.cursor; work = Figure (k + n) w.d; mem = w.mem }))

  abbrev ends_at : ℕ → ℕ → Led → Drawn
  ends_at n k w = record { count = n + 1; cursor = w.cursor; work = Idle; mem = dotted b (k + n) w.cursor w.mem }

  pub figure_ends : (most n k d : ℕ) (c : Cursor) (m : List ℕ) → n < most → n ≡ dots_of b.drawing - 1 - k
      → ends_at n k (figure_walk b n k d c m) ≡ figure_burst b most k d c m
  figure_ends most n k d c m h g =
      let e : n + suc (most - n - 1) ≡ most = omega arith in
      let w = figure_walk b n k d c m in
      sym ((λ i. figure_burst b (sym e i) k d c m) ∙ figure_ahead n (suc (most - n - 1)) k d c m (omega arith)
      ∙ ap (later n) (figure_last (most - n - 1) (k + n) w.d w.cursor w.mem (omega arith)))

  -- .. over what the calls of the code ensure
  figure_count : (n k d : ℕ) (c : Cursor) (m : List ℕ) → figure_walk b (k + n - k) k d c m ≡ figure_walk b n k d c m
  figure_count n k d c m = let e : k + n - k ≡ n = omega arith in rw e

  pub figure_stopped : (most k d : ℕ) (c : Cursor) (m : List ℕ) {n : ℕ} {q : Reached} {l : List ℕ}
      → n ≡ least most (dots_of b.drawing - 1 - k) → led q l ≡ figure_walk b (k + n - k) k d c m → most ≤ n
      → stops_at n k (led q l) ≡ figure_burst b most k d c m
  figure_stopped most k d c m {n} e f h =
      let v = is_least most (dots_of b.drawing - 1 - k) e in
      let g : n ≡ most = omega (arith, v.left) in
      ap (stops_at n k) (f ∙ figure_count n k d c m) ∙ figure_stops n k d c m v.right ∙ ap (λ (j : ℕ). figure_burst b j k d c m) g

  pub figure_ended : (most k d : ℕ) (c : Cursor) (m : List ℕ) {n : ℕ} {q : Reached} {l o : List ℕ}
      → n ≡ least most (dots_of b.drawing - 1 - k) → led q l ≡ figure_walk b (k + n - k) k d c m → n < most
      → o ≡ dotted b (k + n) q.cursor l
      → record { count = n + 1; cursor = q.cursor; work = Idle; mem = o } ≡ figure_burst b most k d c m
  figure_ended most k d c m {n} e f h a =
      let v = is_least most (dots_of b.drawing - 1 - k) e in
      rw a (ap (ends_at n k) (f ∙ figure_count n k d c m) ∙ figure_ends most n k d c m h (v.reached h))

-- ---- a character
module _ (b : Brush) where
  abbrev C : ℕ
  C = columns_in b

  abbrev R : ℕ
  R = rows_in b

  -- the unit of a dot that is not the row's last, of a row's last, and of the last of all
  pub character_goes : (n y x : ℕ) (s c : Cursor) (m : List ℕ) → x + 1 < columns_in b → character_burst b (suc n) y x s c m
      ≡ later 1 (character_burst b n y (x + 1) s (step_of b.drawing.dir b.pitch c) (lettered b y x c m))
  unfolding character_burst
  character_goes n y x s c m h = rw (lt-ltb (x + 1) C h)

  pub character_turns : (n y x : ℕ) (s c : Cursor) (m : List ℕ) → columns_in b ≤ x + 1 → y + 1 < rows_in b
      → character_burst b (suc n) y x s c m
      ≡ later 1 (character_burst b n (y + 1) 0 (next_row b s) (next_row b s) (lettered b y x c m))
  unfolding character_burst
  character_turns n y x s c m h g = rw (le-ltb (x + 1) C h, lt-ltb (y + 1) R g)

  pub character_last : (n y x : ℕ) (s c : Cursor) (m : List ℕ) → columns_in b ≤ x + 1 → rows_in b ≤ y + 1
      → character_burst b (suc n) y x s c m ≡ record { count = 1; cursor = c; work = Idle; mem = lettered b y x c m }
  unfolding character_burst
  character_last n y x s c m h g = rw (le-ltb (x + 1) C h, le-ltb (y + 1) R g)

  -- n dots before the row's last are n units
  row_ahead : (n j y x : ℕ) (s c : Cursor) (m : List ℕ) → n ≤ C - 1 - x → let w = row_walk b n y x c m in
      character_burst b (n + j) y x s c m ≡ later n (character_burst b j y (x + n) s w.cursor w.mem)
  unfolding row_walk
  row_ahead zero j y x s c m h =
      let e : 0 + j ≡ j = omega arith in
      let f : x ≡ x + 0 = omega arith in
      (λ i. character_burst b (e i) y (f i) s c m) ∙ later_none _
  row_ahead (suc n) j y x s c m h =
      let e : suc n + j ≡ suc (n + j) = omega arith in
      let f : x + 1 + n ≡ x + suc n = omega arith in
      let o : 1 + n ≡ suc n = omega arith in
      let t = step_of b.drawing.dir b.pitch c in
      let l = lettered b y x c m in
      let w = row_walk b n y (x + 1) t l in
      ap (λ (i : ℕ). character_burst b i y x s c m) e
      ∙ character_goes (n + j) y x s c m (omega arith)
      ∙ ap (later 1) (row_ahead n j y (x + 1) s t l (omega arith))
      ∙ later_later 1 n _
      ∙ (λ i. later (o i) (character_burst b j y (f i) s w.cursor w.mem))

  -- the last dot of a walk along a row
  row_last : (n y x : ℕ) (c : Cursor) (m : List ℕ) → let w = row_walk b n y x c m in
      (row_walk b (suc n) y x c m).mem ≡ lettered b y (x + n) w.cursor w.mem
  unfolding row_walk
  row_last zero y x c m = let e : x ≡ x + 0 = omega arith in λ i. lettered b y (e i) c m
  row_last (suc n) y x c m =
      let e : x + 1 + n ≡ x + suc n = omega arith in
      let w = row_walk b n y (x + 1) (step_of b.drawing.dir b.pitch c) (lettered b y x c m) in
      row_last n y (x + 1) (step_of b.drawing.dir b.pitch c) (lettered b y x c m) ∙ (λ i. lettered b y (e i) w.cursor w.mem)

  -- a whole row, and n of them
  whole_row : (j y : ℕ) (s : Cursor) (m : List ℕ) → 0 < C → y + 1 < R
      → character_burst b (C + j) y 0 s s m ≡ later C
      (character_burst b j (y + 1) 0 (next_row b s) (next_row b s) (row_walk b C y 0 s m).mem)
  whole_row j y s m p g =
      let n = C - 1 in
      let e : C + j ≡ n + suc j = omega arith in
      let z : n + 1 ≡ C = omega arith in
      let o : suc n ≡ C = omega arith in
      let w = row_walk b n y 0 s m in
      let t = next_row b s in
      ap (λ (i : ℕ). character_burst b i y 0 s s m) e
      ∙ row_ahead n (suc j) y 0 s s m (omega arith)
      ∙ ap (later n) (character_turns j y (0 + n) s w.cursor w.mem (omega arith) g)
      ∙ later_later n 1 _
      ∙ (λ i. later (z i) (character_burst b j (y + 1) 0 t t
      ((sym (row_last n y 0 s m) ∙ ap (λ (v : ℕ). (row_walk b v y 0 s m).mem) o) i)))

  rows_ahead_law : (n y : ℕ) (s : Cursor) (m : List ℕ) → (0 < n → 0 < C) → y + n < R → let w = rows_walk b n y s m in
      character_burst b (n * C) y 0 s s m ≡ record {
        count = n * C;
        cursor = w.cursor;
        work = Character (y + n) 0 w.cursor;
        mem = w.mem;
      }
  unfolding rows_walk character_burst
  rows_ahead_law zero y s m p h =
      let e : 0 * C ≡ 0 = omega arith in
      let f : y ≡ y + 0 = omega arith in
      (λ i. character_burst b (e i) y 0 s s m) ∙ (λ i. record { count = sym e i; cursor = s; work = Character (f i) 0 s; mem = m })
  rows_ahead_law (suc n) y s m p h =
      let k : suc n * C ≡ n * C + C = suc-mul n C in
      let e : suc n * C ≡ C + n * C = omega arith in
      let f : y + 1 + n ≡ y + suc n = omega arith in
      let t = next_row b s in
      let l = (row_walk b C y 0 s m).mem in
      let w = rows_walk b n (y + 1) t l in
      ap (λ (i : ℕ). character_burst b i y 0 s s m) e
      ∙ whole_row (n * C) y s m (p (omega arith)) (omega arith)
      ∙ ap (later C) (rows_ahead_law n (y + 1) t l (λ h. p (omega arith)) (omega arith))
      ∙ (λ i. record { count = sym e i; cursor = w.cursor; work = Character (f i) 0 w.cursor; mem = w.mem })

  -- ---- whole rows after a row's last dot
  rows_none : (most y : ℕ) (s c : Cursor) (m : List ℕ) → rows_in b ≤ y + 1
      → record { count = 0; cursor = c; work = Idle; mem = m } ≡ after_row b most y s c m
  unfolding after_row
  rows_none most y s c m h = rw (le-ltb (y + 1) R h)

  abbrev rows_at : ℕ → ℕ → Stood → Drawn
  rows_at w y v = record { count = w * C; cursor = v.cursor; work = Character (y + 1 + w) 0 v.cursor; mem = v.mem }

  pub rows_some : (most y : ℕ) (s c : Cursor) (m : List ℕ) → y + 1 < rows_in b
      → let w = whole_rows most (columns_in b) (rows_in b - y - 2) in
      rows_at w y (rows_walk b w (y + 1) (next_row b s) m) ≡ after_row b most y s c m
  unfolding after_row
  rows_some most y s c m h =
      let w = whole_rows most C (R - y - 2) in
      let f = is_whole most C (R - y - 2) {w = w} refl in
      rw (lt-ltb (y + 1) R h) (sym (rows_ahead_law w (y + 1) (next_row b s) m f.some (omega (arith, f.within))))

  -- the unit of a row's last dot, and what comes after it
  after_last : (most y x : ℕ) (s c : Cursor) (m : List ℕ) → columns_in b ≤ x + 1
      → character_burst b (suc (whole_rows most C (R - y - 2) * C)) y x s c m ≡ later 1 (after_row b most y s c (lettered b y x c m))
  unfolding after_row
  after_last most y x s c m h = go (dec_lt (y + 1) R)
    where
      go : Dec (y + 1 < R)
          → character_burst b (suc (whole_rows most C (R - y - 2) * C)) y x s c m ≡ later 1 (after_row b most y s c (lettered b y x c m))
      go (yes g) = character_turns _ y x s c m h g ∙ rw (lt-ltb (y + 1) R g) refl
      go (no g) = character_last _ y x s c m h (omega arith) ∙ rw (le-ltb (y + 1) R (omega arith)) refl

  -- ---- so a burst stops within a row, or goes on to whole rows
  abbrev stands_at : ℕ → ℕ → ℕ → Cursor → Stood → Drawn
  stands_at n y x s w = record { count = n; cursor = w.cursor; work = Character y (x + n) s; mem = w.mem }

  pub character_stops : (most n y x : ℕ) (s c : Cursor) (m : List ℕ) → n ≡ least most (columns_in b - 1 - x) → most ≤ n
      → stands_at n y x s (row_walk b n y x c m) ≡ character_burst b (rows_ahead most y x (rows_in b) (columns_in b)) y x s c m
  unfolding rows_ahead character_burst
  character_stops most n y x s c m g h =
      let e : n + 0 ≡ n = omega arith in
      let w = row_walk b n y x c m in
      rw (← g, le-ltb n most h)
      (sym ((λ i. character_burst b (sym e i) y x s c m) ∙ row_ahead n 0 y x s c m (is_least most (C - 1 - x) g).right
      ∙ (λ i. record { count = e i; cursor = w.cursor; work = Character y (x + n) s; mem = w.mem })))

  abbrev ends_row : ℕ → ℕ → ℕ → ℕ → Cursor → Stood → Drawn
  ends_row most n y x s w = later (n + 1) (after_row b (most - n - 1) y s w.cursor (lettered b y (x + n) w.cursor w.mem))

  pub character_rows : (most n y x : ℕ) (s c : Cursor) (m : List ℕ) → n ≡ least most (columns_in b - 1 - x) → n < most
      → ends_row most n y x s (row_walk b n y x c m) ≡ character_burst b (rows_ahead most y x (rows_in b) (columns_in b)) y x s c m
  unfolding rows_ahead
  character_rows most n y x s c m g h =
      let l = is_least most (C - 1 - x) g in
      let j = whole_rows (most - n - 1) C (R - y - 2) * C in
      let e : n + 1 + j ≡ n + suc j = omega arith in
      let w = row_walk b n y x c m in
      rw (← g, lt-ltb n most h)
      (sym ((λ i. character_burst b (e i) y x s c m) ∙ row_ahead n (suc j) y x s c m l.right
      ∙ ap (later n) (after_last (most - n - 1) y (x + n) s w.cursor w.mem (omega (arith, l.reached h))) ∙ later_later n 1 _))

  -- .. over what the calls of the code ensure
  pub rows_over : (most y done : ℕ) (s c : Cursor) (m : List ℕ) {rows : ℕ} → rows ≡ rows_in b → rows ≤ y + 1
      → record { count = done; cursor = c; work = Idle; mem = m } ≡ later done (after_row b most y s c m)
  rows_over most y done s c m er h =
      let e : done ≡ done + 0 = omega arith in
      (λ i. record { count = e i; cursor = c; work = Idle; mem = m }) ∙ ap (later done) (rows_none most y s c m (rw (← er) h))

  pub rows_done : (most y done : ℕ) (s c : Cursor) (m : List ℕ) {columns rows w : ℕ} {t v : Cursor} {l : List ℕ}
      → rows ≡ rows_in b → columns ≡ columns_in b → y + 1 < rows
      → w ≡ whole_rows most columns (rows - y - 2) → t ≡ next_row b s → stood v l ≡ rows_walk b (y + 1 + w - (y + 1)) (y + 1) t m
      → record { count = done + w * columns; cursor = v; work = Character (y + 1 + w) 0 v; mem = l } ≡ later done (after_row b most y s c m)
  rows_done most y done s c m {columns} {rows} {w} {t} {v} {l} er ec h ew et e =
      let o : y + 1 + w - (y + 1) ≡ w = omega arith in
      let g : w ≡ whole_rows most C (R - y - 2) = ew ∙ (λ i. whole_rows most (ec i) (er i - y - 2)) in
      ap (later done) ((λ i. record { count = w * ec i; cursor = v; work = Character (y + 1 + w) 0 v; mem = l })
      ∙ ap (rows_at w y) (e ∙ (λ i. rows_walk b (o i) (y + 1) (et i) m))
      ∙ ap (λ (j : ℕ). rows_at j y (rows_walk b j (y + 1) (next_row b s) m)) g ∙ rows_some most y s c m (rw (← er) h))

  row_count : (n y x : ℕ) (c : Cursor) (m : List ℕ) → row_walk b (x + n - x) y x c m ≡ row_walk b n y x c m
  row_count n y x c m = let e : x + n - x ≡ n = omega arith in rw e

  pub character_stopped : (most y x : ℕ) (s c : Cursor) (m : List ℕ) {n : ℕ} {v : Cursor} {l : List ℕ}
      → n ≡ least most (columns_in b - 1 - x) → stood v l ≡ row_walk b (x + n - x) y x c m → most ≤ n
      → stands_at n y x s (stood v l) ≡ character_burst b (rows_ahead most y x (rows_in b) (columns_in b)) y x s c m
  character_stopped most y x s c m {n} e f h = ap (stands_at n y x s) (f ∙ row_count n y x c m) ∙ character_stops most n y x s c m e h

  pub character_went : (most y x : ℕ) (s c : Cursor) (m : List ℕ) {n : ℕ} {v : Cursor} {l o : List ℕ} {q : Drawn}
      → n ≡ least most (columns_in b - 1 - x) → stood v l ≡ row_walk b (x + n - x) y x c m → n < most
      → o ≡ lettered b y (x + n) v l → q ≡ later (n + 1) (after_row b (most - n - 1) y s v o)
      → q ≡ character_burst b (rows_ahead most y x (rows_in b) (columns_in b)) y x s c m
  character_went most y x s c m {n} e f h a i =
      rw (i, a) (ap (ends_row most n y x s) (f ∙ row_count n y x c m) ∙ character_rows most n y x s c m e h)
