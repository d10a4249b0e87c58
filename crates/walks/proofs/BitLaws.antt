-- A step along a direction is a sum on the bit address (`stride_steps`); so dots of a line by the packed number, and dots along one
-- direction by bit addresses, are those of the cursor.
use mathlib.Core.Path.{◌≡◌, sym, ap, ◌∙◌}
use mathlib.Core.Bool.{Bool, true, false, cond}
use mathlib.Core.List.{List}
use Prim.Native.Nat.{ℕ, zero, suc, ◌+◌, ◌-◌, ◌*◌, ◌/◌, ◌%◌, ◌<◌, ◌≤◌}
use native.Mathlib.Decide.{dec_le}
use native.Mathlib.Omega.{arith}
use lib.Dec.{leb}
use lib.ListN.{get_or}
use borrow.Author.Tests.{eq-eqb, ne_eqb, le-leb, lt-leb}
use Rattle.dots.specs.declared.Cursor.{Cursor}
use Rattle.dots.specs.Step.{right_of, left_of, step_of}
use Rattle.dots.specs.Cycle.{cycled}
use Rattle.dots.specs.Dot.{cursor_at}
use Rattle.dots.proofs.StepLaws.{right_at, left_at, down_at, up_at}
use Rattle.registers.specs.declared.Drawing.{Drawing}
use Rattle.registers.specs.Size.{line_kind}
use Rattle.figures.specs.Figure.{pattern_of, pattern_at, axis_of, diagonal_of, line_direction, error_after, direction_at, running_d}
use Rattle.walks.specs.declared.Brush.{Brush}
use Rattle.walks.specs.Walk.{least, Led, Stood, stood, figure_walk}
use Rattle.walks.specs.Address.{stride_of, Stride, pack, Packed, kept, line_stepped}
use Rattle.walks.specs.Address.{Walked, walked, line_walk, straight_walk, Side, Address}
use Rattle.walks.proofs.LeastLaws.{is_least}

module _ (h a : ℕ) (p : h < 256) (b : a < 4194304) where
  pub stride_steps : (dir : ℕ) → step_of dir h (cursor_at a) ≡ cursor_at ((a + stride_of dir h) % 4194304)
  stride_steps zero = down_at h a b
  stride_steps (suc zero) = ap right_of (down_at h a b) ∙ right_at _ (omega arith) ∙ ap cursor_at (omega arith)
  stride_steps (suc (suc zero)) = right_at a b
  stride_steps (suc (suc (suc zero))) = ap right_of (up_at h a b (omega arith)) ∙ right_at _ (omega arith) ∙ ap cursor_at (omega arith)
  stride_steps (suc (suc (suc (suc zero)))) = up_at h a b (omega arith) ∙ ap cursor_at (omega arith)
  stride_steps (suc (suc (suc (suc (suc zero))))) =
      ap left_of (up_at h a b (omega arith)) ∙ left_at _ (omega arith) ∙ ap cursor_at (omega arith)
  stride_steps (suc (suc (suc (suc (suc (suc zero)))))) = left_at a b
  stride_steps (suc (suc (suc (suc (suc (suc (suc d))))))) =
      ap left_of (down_at h a b) ∙ left_at _ (omega arith) ∙ ap cursor_at (omega arith)

-- a stride is below 2^23
stride_lt : (dir h : ℕ) → h < 256 → stride_of dir h < 8388608
stride_lt zero h p = omega arith
stride_lt (suc zero) h p = omega arith
stride_lt (suc (suc zero)) h p = omega arith
stride_lt (suc (suc (suc zero))) h p = omega arith
stride_lt (suc (suc (suc (suc zero)))) h p = omega arith
stride_lt (suc (suc (suc (suc (suc zero))))) h p = omega arith
stride_lt (suc (suc (suc (suc (suc (suc zero)))))) h p = omega arith
stride_lt (suc (suc (suc (suc (suc (suc (suc d))))))) h p = omega arith

pub stride_small : {dir h n : ℕ} → Stride dir h n → n < 8388608
stride_small {dir} {h} s = rw s.is (stride_lt dir h s.narrow)

-- a mask that is the one bit of its bit address has that address
pub address_stands : (c : Cursor) (n : ℕ) {there : Cursor} → n < 16 → there ≡ cursor_at (c.ead * 16 + n) → there.mask ≡ c.mask
    → cursor_at (c.ead * 16 + n) ≡ c
address_stands c n h p q =
    let e : (c.ead * 16 + n) / 16 ≡ c.ead = omega arith in
    λ i. record { ead = e i; mask = (sym (ap (λ (d : Cursor). d.mask) p) ∙ q) i }

-- ---- a line
kept_packed : (d a e x : ℕ) → a < 4194304 → x < 8388608 → kept (pack d a + pack e x) ≡ pack ((d + e) % 16384) ((a + x) % 4194304)
unfolding kept
kept_packed d a e x p q = omega arith

pack_at : (d a : ℕ) → a < 4194304 → pack d a % 4194304 ≡ a
pack_at d a p = omega arith

pack_d : (d a : ℕ) → a < 4194304 → d < 65536 → pack d a / 4294967296 % 65536 ≡ d
pack_d d a p q = let e : pack d a / 4294967296 ≡ d = omega arith in omega arith

module _ (b : Brush) (narrow : b.pitch < 256) where
  abbrev axis_in : ℕ
  axis_in = pack b.drawing.d1 (stride_of (axis_of b.drawing.dir) b.pitch)

  abbrev diagonal_in : ℕ
  diagonal_in = pack b.drawing.d2 (stride_of (diagonal_of b.drawing.dir) b.pitch)

  abbrev low_of : ℕ
  low_of = get_or b.ram 8 0

  abbrev high_of : ℕ
  high_of = get_or b.ram 9 0

  -- the place after one dot: D may be any number here
  next_at : Bool → ℕ → ℕ
  next_at t a = (a + stride_of (cond t (axis_of b.drawing.dir) (diagonal_of b.drawing.dir)) b.pitch) % 4194304

  next_d : Bool → ℕ → ℕ
  next_d t d = cond t ((d + b.drawing.d1) % 16384) ((d + b.drawing.d2) % 16384)

  next_lt : (t : Bool) (a : ℕ) → next_at t a < 4194304
  unfolding next_at
  next_lt t a = omega arith

  next_d_lt : (t : Bool) (d : ℕ) → next_d t d < 65536
  unfolding next_d
  next_d_lt true d = omega arith
  next_d_lt false d = omega arith

  line_place : (a d : ℕ) → a < 4194304 → line_stepped axis_in diagonal_in (pack d a) ≡ pack (next_d (leb 8192 d) d) (next_at (leb 8192 d) a)
  unfolding line_stepped next_at next_d
  line_place a d p = go (dec_le 8192 d)
    where
      go : Dec (8192 ≤ d) → cond (leb 35184372088832 (pack d a)) (kept (pack d a + axis_in)) (kept (pack d a + diagonal_in))
          ≡ pack (next_d (leb 8192 d) d) (next_at (leb 8192 d) a)
      go (yes q) =
          rw (le-leb 35184372088832 (pack d a) (omega arith), le-leb 8192 d q)
          (kept_packed d a b.drawing.d1 (stride_of (axis_of b.drawing.dir) b.pitch) p
          (stride_lt (axis_of b.drawing.dir) b.pitch narrow))
      go (no q) =
          rw (lt-leb 35184372088832 (pack d a) (omega arith), lt-leb 8192 d (omega arith))
          (kept_packed d a b.drawing.d2 (stride_of (diagonal_of b.drawing.dir) b.pitch) p
          (stride_lt (diagonal_of b.drawing.dir) b.pitch narrow))

  module _ (line : b.drawing.kind ≡ line_kind) where
    line_moves : (k d a : ℕ) → a < 4194304 → step_of (direction_at b.drawing k d) b.pitch (cursor_at a)
        ≡ cursor_at (next_at (leb 8192 d) a)
    unfolding direction_at line_direction next_at
    line_moves k d a p =
        rw (eq-eqb b.drawing.kind line_kind line)
        (stride_steps b.pitch a narrow p (cond (leb 8192 d) (axis_of b.drawing.dir) (diagonal_of b.drawing.dir)))

    line_runs : (d : ℕ) → running_d b.drawing d ≡ next_d (leb 8192 d) d
    unfolding running_d error_after next_d
    line_runs d = rw (eq-eqb b.drawing.kind line_kind line)

    -- where the packed number leads
    abbrev unpacked : Walked → Led
    unpacked w = record { cursor = cursor_at (w.at % 4194304); d = w.at / 4294967296 % 65536; mem = w.mem }

    line_walks : (n k d a : ℕ) (m : List ℕ) → a < 4194304 → d < 65536
        → unpacked (line_walk b.wiring b.op low_of high_of axis_in diagonal_in n k (pack d a) m) ≡ figure_walk b n k d (cursor_at a) m
    unfolding line_walk figure_walk pattern_at
    line_walks zero k d a m p q = λ i. record { cursor = cursor_at (pack_at d a p i); d = pack_d d a p q i; mem = m }
    line_walks (suc n) k d a m p q =
        let t = leb 8192 d in
        let l = cycled b.wiring b.op (pattern_of low_of high_of k) (cursor_at a) m in
        (λ i. unpacked (line_walk b.wiring b.op low_of high_of axis_in diagonal_in n (k + 1) (line_place a d p i)
        (cycled b.wiring b.op (pattern_of low_of high_of k) (cursor_at (pack_at d a p i)) m)))
        ∙ line_walks n (k + 1) (next_d t d) (next_at t a) l (next_lt t a) (next_d_lt t d)
        ∙ (λ i. figure_walk b n (k + 1) (sym (line_runs d) i) (sym (line_moves k d a p) i) l)

  -- ---- n dots along one direction, whatever comes after them
  module _ (other : b.drawing.kind ≡ line_kind → ⊥) (d dir : ℕ) where
    side_step : (j k a : ℕ) (m : List ℕ) → a < 4194304 → direction_at b.drawing k d ≡ dir
        → figure_walk b (suc j) k d (cursor_at a) m
        ≡ figure_walk b j (k + 1) d (cursor_at ((a + stride_of dir b.pitch) % 4194304))
        (cycled b.wiring b.op (pattern_of low_of high_of k) (cursor_at a) m)
    unfolding figure_walk running_d pattern_at
    side_step j k a m p e =
        rw (e, ne_eqb b.drawing.kind line_kind other)
        (λ i. figure_walk b j (k + 1) d (stride_steps b.pitch a narrow p dir i)
        (cycled b.wiring b.op (pattern_of low_of high_of k) (cursor_at a) m))

    side_walks : (n x k a : ℕ) (m : List ℕ) → a < 4194304 → ((i : ℕ) → k ≤ i → i < k + n → direction_at b.drawing i d ≡ dir)
        → let w = straight_walk b.wiring b.op low_of high_of (stride_of dir b.pitch) n k a m in
        figure_walk b (n + x) k d (cursor_at a) m ≡ figure_walk b x (k + n) d (cursor_at w.at) w.mem
    unfolding straight_walk
    side_walks zero x k a m p t =
        let e : 0 + x ≡ x = omega arith in
        let f : k ≡ k + 0 = omega arith in
        λ i. figure_walk b (e i) (f i) d (cursor_at a) m
    side_walks (suc n) x k a m p t =
        let e : suc n + x ≡ suc (n + x) = omega arith in
        let f : k + 1 + n ≡ k + suc n = omega arith in
        let s = stride_of dir b.pitch in
        let l = cycled b.wiring b.op (pattern_of low_of high_of k) (cursor_at a) m in
        let w = straight_walk b.wiring b.op low_of high_of s n (k + 1) ((a + s) % 4194304) l in
        ap (λ (j : ℕ). figure_walk b j k d (cursor_at a) m) e
        ∙ side_step (n + x) k a m p (t k (omega arith) (omega arith))
        ∙ side_walks n x (k + 1) ((a + s) % 4194304) l (omega arith) (λ i g h. t i (omega arith) (omega arith))
        ∙ (λ i. figure_walk b x (f i) d (cursor_at w.at) w.mem)

-- ---- over what the calls of the code ensure
pub line_done : (b : Brush) (n k d at s : ℕ) (m l : List ℕ) {u v x y axis diagonal from : ℕ} {c : Cursor}
    → b.drawing.kind ≡ line_kind → at < 4194304
    → u ≡ axis_of b.drawing.dir → Stride u b.pitch x → Packed x b.drawing.d1 axis
    → v ≡ diagonal_of b.drawing.dir → Stride v b.pitch y → Packed y b.drawing.d2 diagonal → Packed at d from
    → walked s l ≡ line_walk b.wiring b.op (get_or b.ram 8 0) (get_or b.ram 9 0) axis diagonal n k from m
    → c ≡ cursor_at (s % 4194304) → record { cursor = c; d = s / 4294967296 % 65536; mem = l } ≡ figure_walk b n k d (cursor_at at) m
line_done b n k d at s m l {u} {v} {x} {y} {axis} {diagonal} {from} line p eu sx ax ev sy dy f w ec =
    let g : axis ≡ axis_in b narrow = ax.is ∙ (λ i. pack b.drawing.d1 (xs i)) in
    let h : diagonal ≡ diagonal_in b narrow = dy.is ∙ (λ i. pack b.drawing.d2 (ys i)) in
    (λ i. record { cursor = ec i; d = s / 4294967296 % 65536; mem = l })
    ∙ ap (unpacked b narrow line)
    (w ∙ (λ i. line_walk b.wiring b.op (get_or b.ram 8 0) (get_or b.ram 9 0) (g i) (h i) n k (f.is i) m))
    ∙ line_walks b narrow line n k d at m p f.narrow
  where
    narrow : b.pitch < 256
    narrow = sx.narrow

    xs : x ≡ stride_of (axis_of b.drawing.dir) b.pitch
    xs = sx.is ∙ ap (λ (j : ℕ). stride_of j b.pitch) eu

    ys : y ≡ stride_of (diagonal_of b.drawing.dir) b.pitch
    ys = sy.is ∙ ap (λ (j : ℕ). stride_of j b.pitch) ev

-- a side ends after the dot that it is told for
pub side_past : (i e end u : ℕ) {f : Drawing} → i < end → Side f i u → e ≡ least end u → i < e
side_past i e end u h side ee = (is_least end u ee).above i h side.from

pub side_on : (b : Brush) (d i e end a q : ℕ) (m l : List ℕ) {u dir step : ℕ} → (b.drawing.kind ≡ line_kind → ⊥) → a < 4194304 → i < end
    → Side b.drawing i u → e ≡ least end u → dir ≡ direction_at b.drawing i d → Stride dir b.pitch step
    → walked q l ≡ straight_walk b.wiring b.op (get_or b.ram 8 0) (get_or b.ram 9 0) step (e - i) i a m
    → figure_walk b (end - i) i d (cursor_at a) m ≡ figure_walk b (end - e) e d (cursor_at q) l
side_on b d i e end a q m l {u} {dir} {step} other p h side ee ed st w =
    let v = is_least end u ee in
    let z = side_past i e end u h side ee in
    let f : end - i ≡ e - i + (end - e) = omega (arith, v.left) in
    let g : i + (e - i) ≡ e = omega arith in
    let r : walked q l ≡ straight_walk b.wiring b.op (get_or b.ram 8 0) (get_or b.ram 9 0) (stride_of dir b.pitch) (e - i) i a m =
    w ∙ ap (λ (j : ℕ). straight_walk b.wiring b.op (get_or b.ram 8 0) (get_or b.ram 9 0) j (e - i) i a m) st.is in
    ap (λ (j : ℕ). figure_walk b j i d (cursor_at a) m) f
    ∙ side_walks b st.narrow other d dir (e - i) (end - e) i a m p
    (λ j x y. side.same j d x (omega (arith, v.right)) ∙ sym ed)
    ∙ (λ t. figure_walk b (end - e) (g t) d (cursor_at (sym r t).at) (sym r t).mem)

-- the loop over the sides ends with no dot left
pub sides_end : (b : Brush) (end d i a : ℕ) (m : List ℕ) {c : Cursor} → c ≡ cursor_at a → end ≤ i
    → record { cursor = c; d = d; mem = m } ≡ figure_walk b (end - i) i d (cursor_at a) m
unfolding figure_walk
sides_end b end d i a m e h = let j : end - i ≡ zero = omega arith in rw (j, e)

-- a walk from where a bit address stands is one from the cursor
pub dots_by_bits : (b : Brush) (n k d : ℕ) (m : List ℕ) {at : ℕ} {from : Cursor} {q : Led} → Address from at → at < 4194304
    → q ≡ figure_walk b n k d (cursor_at at) m → q ≡ figure_walk b n k d from m
dots_by_bits b n k d m a p e = e ∙ ap (λ (c : Cursor). figure_walk b n k d c m) (a.stands p)

pub row_by_bits : (walk : Cursor → Stood) (q : ℕ) {c from : Cursor} {at : ℕ} {l : List ℕ} → Address from at → at < 4194304 → c ≡ cursor_at q
    → stood (cursor_at q) l ≡ walk (cursor_at at) → stood c l ≡ walk from
row_by_bits walk q a p e w = rw e (w ∙ ap walk (a.stands p))
