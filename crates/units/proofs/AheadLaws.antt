-- Units of a figure, an arc or a character done at once are as many units of the run: a dot is one unit, with one cycle fewer left, and
-- the run goes on after it.
use mathlib.Core.Path.{◌≡◌, refl, sym, ap, ◌∙◌}
use mathlib.Core.List.{List}
use Prim.Native.Nat.{ℕ, zero, suc, ◌+◌, ◌-◌, ◌≤◌, ◌<◌}
use native.Mathlib.Decide.{dec_lt}
use native.Mathlib.Omega.{arith}
use borrow.Author.Tests.{lt-ltb, le-ltb}
use Rattle.dots.specs.declared.Cursor.{Cursor}
use Rattle.dots.specs.Step.{step_of}
use Rattle.registers.specs.declared.Work.{Work}
use Rattle.registers.specs.declared.Running.{Running}
use Rattle.registers.specs.declared.Work.TheVariants.{Idle, Figure, Arc, Character}
use Rattle.registers.specs.declared.Registers.{Registers}
use Rattle.registers.specs.Size.{dots_of, arc_cycles_of}
use Rattle.registers.specs.Put.{put_cursor, put_work, put_remaining}
use Rattle.registers.specs.State.{State, state}
use Rattle.figures.specs.Figure.{direction_at, running_d, figure_moved, figure_unit}
use Rattle.figures.specs.Character.{next_start, character_moved, character_unit}
use Rattle.arcs.specs.declared.Moving.{Moving}
use Rattle.arcs.specs.Unit.{arc_moved, arc_unit}
use Rattle.walks.specs.declared.Brush.{Brush}
use Rattle.walks.specs.Walk.{dotted, rows_in, columns_in, lettered, next_row}
use Rattle.bursts.specs.declared.Burst.{Burst}
use Rattle.bursts.specs.Burst.{Drawn, burst, later, figure_burst, character_burst, rows_ahead}
use Rattle.bursts.proofs.BurstLaws.{figure_goes, figure_last, character_goes, character_turns, character_last}
use Rattle.bursts.proofs.CountLaws.{Counted, figure_counted, character_counted, ahead_counted}
use Rattle.sweeps.specs.Sweep.{met_by, bent, on_by, arc_burst}
use Rattle.sweeps.proofs.SweepLaws.{arc_goes, arc_last, arc_counted}
use Rattle.units.specs.Unit.{unit_done}
use Rattle.units.specs.Run.{Outcome, reason_of, run_from}

-- one unit where there is no reason to stop
run_suc : (f j : ℕ) (s : State) → reason_of s.regs ≡ 0 → run_from (suc f) j s ≡ run_from f (j + 1) (unit_done s)
unfolding run_from
run_suc f j s e = rw e

run_one : (b j : ℕ) (s : State) → 1 ≤ b → reason_of s.regs ≡ 0 → run_from b j s ≡ run_from (b - 1) (j + 1) (unit_done s)
run_one b j s h e = let g : b ≡ suc (b - 1) = omega arith in ap (λ (n : ℕ). run_from n j s) g ∙ run_suc (b - 1) j s e

figure_busy : (r : Registers) {k d : ℕ} → r.work ≡ Figure k d → reason_of r ≡ 0
unfolding reason_of
figure_busy r e = rw e

arc_busy : (r : Registers) {k : ℕ} {a : Running} → r.work ≡ Arc k a → reason_of r ≡ 0
unfolding reason_of
arc_busy r e = rw e

character_busy : (r : Registers) {y x : ℕ} {s : Cursor} → r.work ≡ Character y x s → reason_of r ≡ 0
unfolding reason_of
character_busy r e = rw e

-- the registers r but for the cursor, what is in progress and the cycles left of it
module _ (r : Registers) where
  abbrev brush : Brush
  brush =
      record { wiring = r.board.wiring; op = r.op; ram = r.ram; drawing = r.drawing; zoom = r.video.zoom; pitch = r.pitch }

  abbrev placed : ℕ → Cursor → Work → List ℕ → State
  placed t c w m = state (put_remaining (put_work (put_cursor r c) w) t) m

  -- the run after a burst, before which t cycles were left
  abbrev onward : ℕ → ℕ → ℕ → Drawn → Outcome
  onward b j t q = run_from (b - q.count) (j + q.count) (placed (t - q.count) q.cursor q.work q.mem)

  no_units : (b j t : ℕ) (c : Cursor) (w : Work) (m : List ℕ)
      → run_from b j (placed t c w m) ≡ onward b j t (record { count = 0; cursor = c; work = w; mem = m })
  no_units b j t c w m =
      let e : b ≡ b - 0 = omega arith in
      let f : j ≡ j + 0 = omega arith in
      let g : t ≡ t - 0 = omega arith in
      λ i. run_from (e i) (f i) (placed (g i) c w m)

  onward_later : (b j t : ℕ) (q : Drawn) → onward (b - 1) (j + 1) (t - 1) q ≡ onward b j t (later 1 q)
  onward_later b j t q =
      let e : b - 1 - q.count ≡ b - (1 + q.count) = omega arith in
      let f : j + 1 + q.count ≡ j + (1 + q.count) = omega arith in
      let g : t - 1 - q.count ≡ t - (1 + q.count) = omega arith in
      λ i. run_from (e i) (f i) (placed (g i) q.cursor q.work q.mem)

  -- ---- a figure
  figure_on_law : (t k d : ℕ) (c : Cursor) (m : List ℕ) → k + 1 < dots_of r.drawing → unit_done (placed t c (Figure k d) m)
      ≡ placed (t - 1) (step_of (direction_at r.drawing k d) r.pitch c) (Figure (k + 1) (running_d r.drawing d)) (dotted brush k c m)
  unfolding unit_done figure_unit figure_moved
  figure_on_law t k d c m h = rw (lt-ltb (k + 1) (dots_of r.drawing) h)

  figure_end : (t k d : ℕ) (c : Cursor) (m : List ℕ) → dots_of r.drawing ≤ k + 1
      → unit_done (placed t c (Figure k d) m) ≡ placed (t - 1) c Idle (dotted brush k c m)
  unfolding unit_done figure_unit figure_moved
  figure_end t k d c m h = rw (le-ltb (k + 1) (dots_of r.drawing) h)

  figure_runs : (n k d : ℕ) (c : Cursor) (m : List ℕ) (b j t : ℕ) → n ≤ b
      → run_from b j (placed t c (Figure k d) m) ≡ onward b j t (figure_burst brush n k d c m)
  unfolding figure_burst
  figure_runs zero k d c m b j t l = no_units b j t c (Figure k d) m
  figure_runs (suc n) k d c m b j t l =
      run_one b j (placed t c (Figure k d) m) (omega arith) (figure_busy (placed t c (Figure k d) m).regs refl)
      ∙ go (dec_lt (k + 1) (dots_of r.drawing))
      (figure_runs n (k + 1) (running_d r.drawing d) (step_of (direction_at r.drawing k d) r.pitch c) (dotted brush k c m)
      (b - 1) (j + 1) (t - 1) (omega arith))
    where
      s : Cursor
      s = step_of (direction_at r.drawing k d) r.pitch c

      v : ℕ
      v = running_d r.drawing d

      go : Dec (k + 1 < dots_of r.drawing)
          → run_from (b - 1) (j + 1) (placed (t - 1) s (Figure (k + 1) v) (dotted brush k c m))
          ≡ onward (b - 1) (j + 1) (t - 1) (figure_burst brush n (k + 1) v s (dotted brush k c m))
          → run_from (b - 1) (j + 1) (unit_done (placed t c (Figure k d) m)) ≡ onward b j t (figure_burst brush (suc n) k d c m)
      go (yes h) e =
          ap (run_from (b - 1) (j + 1)) (figure_on_law t k d c m h) ∙ e
          ∙ onward_later b j t _ ∙ ap (onward b j t) (sym (figure_goes brush n k d c m h))
      go (no h) e =
          ap (run_from (b - 1) (j + 1)) (figure_end t k d c m (omega arith))
          ∙ ap (onward b j t) (sym (figure_last brush n k d c m (omega arith)))

  -- ---- an arc
  abbrev standing : Cursor → Running → Moving
  standing c a = record { running = a; cursor = c }

  abbrev placed_at : ℕ → Moving → ℕ → List ℕ → State
  placed_at t v k m = placed t v.cursor (Arc k v.running) m

  arc_on_law : (t k : ℕ) (v : Moving) (m : List ℕ) → k + 1 < arc_cycles_of r.drawing
      → unit_done (placed_at t v k m) ≡ placed_at (t - 1) (on_by brush (met_by brush k v)) (k + 1) (bent brush k (met_by brush k v) m)
  unfolding unit_done arc_unit arc_moved
  arc_on_law t k v m h = rw (lt-ltb (k + 1) (arc_cycles_of r.drawing) h)

  arc_end : (t k : ℕ) (v : Moving) (m : List ℕ) → arc_cycles_of r.drawing ≤ k + 1
      → unit_done (placed_at t v k m) ≡ placed (t - 1) (met_by brush k v).cursor Idle (bent brush k (met_by brush k v) m)
  unfolding unit_done arc_unit arc_moved
  arc_end t k v m h = rw (le-ltb (k + 1) (arc_cycles_of r.drawing) h)

  arc_runs : (n k : ℕ) (v : Moving) (m : List ℕ) (b j t : ℕ) → n ≤ b
      → run_from b j (placed_at t v k m) ≡ onward b j t (arc_burst brush n k v m)
  unfolding arc_burst
  arc_runs zero k v m b j t l = no_units b j t v.cursor (Arc k v.running) m
  arc_runs (suc n) k v m b j t l =
      run_one b j (placed_at t v k m) (omega arith) (arc_busy (placed_at t v k m).regs refl)
      ∙ go (dec_lt (k + 1) (arc_cycles_of r.drawing))
      (arc_runs n (k + 1) (on_by brush (met_by brush k v)) (bent brush k (met_by brush k v) m) (b - 1) (j + 1) (t - 1) (omega arith))
    where
      w : Moving
      w = on_by brush (met_by brush k v)

      l' : List ℕ
      l' = bent brush k (met_by brush k v) m

      go : Dec (k + 1 < arc_cycles_of r.drawing)
          → run_from (b - 1) (j + 1) (placed_at (t - 1) w (k + 1) l') ≡ onward (b - 1) (j + 1) (t - 1) (arc_burst brush n (k + 1) w l')
          → run_from (b - 1) (j + 1) (unit_done (placed_at t v k m)) ≡ onward b j t (arc_burst brush (suc n) k v m)
      go (yes h) e =
          ap (run_from (b - 1) (j + 1)) (arc_on_law t k v m h) ∙ e
          ∙ onward_later b j t _ ∙ ap (onward b j t) (sym (arc_goes brush n k v m h))
      go (no h) e =
          ap (run_from (b - 1) (j + 1)) (arc_end t k v m (omega arith)) ∙ ap (onward b j t) (sym (arc_last brush n k v m (omega arith)))

  -- ---- a character
  character_on : (t y x : ℕ) (s c : Cursor) (m : List ℕ) → x + 1 < columns_in brush
      → unit_done (placed t c (Character y x s) m)
      ≡ placed (t - 1) (step_of r.drawing.dir r.pitch c) (Character y (x + 1) s) (lettered brush y x c m)
  unfolding unit_done character_unit character_moved
  character_on t y x s c m h = rw (lt-ltb (x + 1) (columns_in brush) h)

  character_turn : (t y x : ℕ) (s c : Cursor) (m : List ℕ) → columns_in brush ≤ x + 1 → y + 1 < rows_in brush
      → unit_done (placed t c (Character y x s) m)
      ≡ placed (t - 1) (next_row brush s) (Character (y + 1) 0 (next_row brush s)) (lettered brush y x c m)
  unfolding unit_done character_unit character_moved next_start
  character_turn t y x s c m h g = rw (le-ltb (x + 1) (columns_in brush) h, lt-ltb (y + 1) (rows_in brush) g)

  character_end : (t y x : ℕ) (s c : Cursor) (m : List ℕ) → columns_in brush ≤ x + 1 → rows_in brush ≤ y + 1
      → unit_done (placed t c (Character y x s) m) ≡ placed (t - 1) c Idle (lettered brush y x c m)
  unfolding unit_done character_unit character_moved
  character_end t y x s c m h g = rw (le-ltb (x + 1) (columns_in brush) h, le-ltb (y + 1) (rows_in brush) g)

  character_runs : (n y x : ℕ) (s c : Cursor) (m : List ℕ) (b j t : ℕ) → n ≤ b
      → run_from b j (placed t c (Character y x s) m) ≡ onward b j t (character_burst brush n y x s c m)
  unfolding character_burst
  character_runs zero y x s c m b j t l = no_units b j t c (Character y x s) m
  character_runs (suc n) y x s c m b j t l =
      run_one b j (placed t c (Character y x s) m) (omega arith) (character_busy (placed t c (Character y x s) m).regs refl)
      ∙ go (dec_lt (x + 1) (columns_in brush)) (dec_lt (y + 1) (rows_in brush))
      (character_runs n y (x + 1) s (step_of r.drawing.dir r.pitch c) (lettered brush y x c m) (b - 1) (j + 1) (t - 1) (omega arith))
      (character_runs n (y + 1) 0 (next_row brush s) (next_row brush s) (lettered brush y x c m) (b - 1) (j + 1) (t - 1) (omega arith))
    where
      v : Cursor
      v = step_of r.drawing.dir r.pitch c

      u : Cursor
      u = next_row brush s

      l' : List ℕ
      l' = lettered brush y x c m

      go : Dec (x + 1 < columns_in brush) → Dec (y + 1 < rows_in brush)
          → run_from (b - 1) (j + 1) (placed (t - 1) v (Character y (x + 1) s) l')
          ≡ onward (b - 1) (j + 1) (t - 1) (character_burst brush n y (x + 1) s v l')
          → run_from (b - 1) (j + 1) (placed (t - 1) u (Character (y + 1) 0 u) l')
          ≡ onward (b - 1) (j + 1) (t - 1) (character_burst brush n (y + 1) 0 u u l')
          → run_from (b - 1) (j + 1) (unit_done (placed t c (Character y x s) m)) ≡ onward b j t (character_burst brush (suc n) y x s c m)
      go (yes g) h e f =
          ap (run_from (b - 1) (j + 1)) (character_on t y x s c m g) ∙ e ∙ onward_later b j t _
          ∙ ap (onward b j t) (sym (character_goes brush n y x s c m g))
      go (no g) (yes h) e f =
          ap (run_from (b - 1) (j + 1)) (character_turn t y x s c m (omega arith) h) ∙ f ∙ onward_later b j t _
          ∙ ap (onward b j t) (sym (character_turns brush n y x s c m (omega arith) h))
      go (no g) (no h) e f =
          ap (run_from (b - 1) (j + 1)) (character_end t y x s c m (omega arith) (omega arith))
          ∙ ap (onward b j t) (sym (character_last brush n y x s c m (omega arith) (omega arith)))

  -- ---- over what the calls of the code ensure: the run goes on after them, and they are some units within the budget
  pub record Ahead (b n : ℕ) (m l : List ℕ) (q : Burst) : Type 0 where
    pub some : 0 < q.count
    pub within : n + q.count ≤ b
    pub runs : run_from (b - n) n (state r m) ≡ run_from (b - (n + q.count)) (n + q.count)
        (placed (r.remaining - q.count) q.cursor q.work l)

  ahead_by : (b n j : ℕ) (m l : List ℕ) {q : Burst} (t : Drawn) → n < b → Counted j t.count → 0 < j → j ≤ b - n → burst q l ≡ t
      → run_from (b - n) n (state r m) ≡ onward (b - n) n r.remaining t → Ahead b n m l q
  ahead_by b n j m l {q} t h v p o e g =
      let c : q.count ≡ t.count = ap (λ (w : Drawn). w.count) e in
      let f : b - n - q.count ≡ b - (n + q.count) = omega arith in
      record {
        some = omega (arith, v.some p);
        within = omega (arith, v.within);
        runs = g ∙ ap (onward (b - n) n r.remaining) (sym e)
            ∙ ap (λ (i : ℕ). run_from i (n + q.count) (placed (r.remaining - q.count) q.cursor q.work l)) f;
      }

  same_work : (m : List ℕ) {w : Work} → r.work ≡ w → state r m ≡ placed r.remaining r.cursor w m
  same_work m e = λ i. state (put_work r (e i)) m

  pub figure_ahead : (b n k d : ℕ) (m l : List ℕ) {q : Burst} {u : Brush} → n < b → r.work ≡ Figure k d → u ≡ brush
      → burst q l ≡ figure_burst u (b - n) k d r.cursor m → Ahead b n m l q
  figure_ahead b n k d m l h w g e =
      ahead_by b n (b - n) m l (figure_burst brush (b - n) k d r.cursor m) h (figure_counted brush (b - n) k d r.cursor m)
      (omega arith) (omega arith) (e ∙ ap (λ (v : Brush). figure_burst v (b - n) k d r.cursor m) g)
      (ap (run_from (b - n) n) (same_work m w) ∙ figure_runs (b - n) k d r.cursor m (b - n) n r.remaining (omega arith))

  pub arc_ahead : (b n k : ℕ) (a : Running) (m l : List ℕ) {q : Burst} {u : Brush} → n < b → r.work ≡ Arc k a → u ≡ brush
      → burst q l ≡ arc_burst u (b - n) k (record { running = a; cursor = r.cursor }) m → Ahead b n m l q
  arc_ahead b n k a m l h w g e =
      let v = standing r.cursor a in
      ahead_by b n (b - n) m l (arc_burst brush (b - n) k v m) h (arc_counted brush (b - n) k v m)
      (omega arith) (omega arith) (e ∙ ap (λ (z : Brush). arc_burst z (b - n) k v m) g)
      (ap (run_from (b - n) n) (same_work m w) ∙ arc_runs (b - n) k v m (b - n) n r.remaining (omega arith))

  abbrev letters : Brush → ℕ → ℕ → ℕ → Cursor → List ℕ → Drawn
  letters u most y x s m = character_burst u (rows_ahead most y x (rows_in u) (columns_in u)) y x s r.cursor m

  pub character_ahead : (b n y x : ℕ) (s : Cursor) (m l : List ℕ) {q : Burst} {u : Brush} → n < b → r.work ≡ Character y x s → u ≡ brush
      → burst q l ≡ character_burst u (rows_ahead (b - n) y x (rows_in u) (columns_in u)) y x s r.cursor m → Ahead b n m l q
  character_ahead b n y x s m l h w g e =
      let j = rows_ahead (b - n) y x (rows_in brush) (columns_in brush) in
      let v = ahead_counted (b - n) y x (rows_in brush) (columns_in brush) in
      ahead_by b n j m l (letters brush (b - n) y x s m) h (character_counted brush j y x s r.cursor m)
      (v.some (omega arith)) v.within (e ∙ ap (λ (z : Brush). letters z (b - n) y x s m) g)
      (ap (run_from (b - n) n) (same_work m w) ∙ character_runs j y x s r.cursor m (b - n) n r.remaining v.within)

  pub goes_ahead : (b n : ℕ) (m l : List ℕ) {q : Burst} {t : Registers} → Ahead b n m l q
      → t ≡ put_remaining (put_work (put_cursor r q.cursor) q.work) (r.remaining - q.count)
      → run_from (b - n) n (state r m) ≡ run_from (b - (n + q.count)) (n + q.count) (state t l)
  goes_ahead b n m l {q} v e = v.runs ∙ ap (λ (t : Registers). run_from (b - (n + q.count)) (n + q.count) (state t l)) (sym e)
