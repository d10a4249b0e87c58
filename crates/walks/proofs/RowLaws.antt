-- A row of a character that is not enlarged goes by bit addresses: its byte, twice, is a pattern of sixteen bits.
use mathlib.Core.Path.{◌≡◌, refl, sym, ap, ◌∙◌}
use mathlib.Core.List.{List}
use Prim.Native.Nat.{ℕ, zero, suc, ◌+◌, ◌-◌, ◌*◌, ◌/◌, ◌%◌, ◌^◌, ◌<◌}
use native.Mathlib.Omega.{arith}
use lib.Dec.{eqb, eqb→eq}
use lib.ListN.{get_or}
use Rattle.dots.specs.Bit.{bit}
use Rattle.dots.specs.Cycle.{cycled}
use Rattle.dots.specs.Dot.{cursor_at}
use Rattle.dots.proofs.Below.{all_below, below}
use Rattle.registers.specs.Size.{factor_of}
use Rattle.figures.specs.Figure.{pattern_of}
use Rattle.figures.specs.Character.{character_pattern}
use Rattle.walks.specs.declared.Brush.{Brush}
use Rattle.walks.specs.Walk.{next_row, Stood, stood, row_walk}
use Rattle.walks.specs.Address.{stride_of, Stride, Walked, walked, straight_walk, row_byte}
use Rattle.walks.proofs.BitLaws.{stride_steps}

-- the byte twice is a pattern of sixteen: computed
twice_bits : (v : ℕ) → v < 256 → (k : ℕ) → k < 16 → bit k (v + 256 * v) ≡ bit (k % 8) v
unfolding bit
twice_bits v p k q =
    eqb→eq _ _ (below (λ j. eqb ((v + 256 * v) / 2 ^ j % 2) (v / 2 ^ (j % 8) % 2)) 16
    (below (λ w. all_below (λ j. eqb ((w + 256 * w) / 2 ^ j % 2) (w / 2 ^ (j % 8) % 2)) 16) 256 tt v p) k q)

low_bit : (j b : ℕ) → j < 8 → bit j (b % 256) ≡ bit j b
unfolding bit
low_bit zero b h = omega arith
low_bit (suc zero) b h = omega arith
low_bit (suc (suc zero)) b h = omega arith
low_bit (suc (suc (suc zero))) b h = omega arith
low_bit (suc (suc (suc (suc zero)))) b h = omega arith
low_bit (suc (suc (suc (suc (suc zero))))) b h = omega arith
low_bit (suc (suc (suc (suc (suc (suc zero)))))) b h = omega arith
low_bit (suc (suc (suc (suc (suc (suc (suc zero))))))) b h = omega arith
low_bit (suc (suc (suc (suc (suc (suc (suc (suc j)))))))) b h = absurd (omega arith)

twice_bit : (b x : ℕ) → bit (x / 1 % 8) b ≡ bit (x % 16) (b % 256 + 256 * (b % 256))
twice_bit b x =
    let e : x / 1 % 8 ≡ x % 16 % 8 = omega arith in
    ap (λ (j : ℕ). bit j b) e ∙ sym (low_bit (x % 16 % 8) b (omega arith)) ∙ sym (twice_bits (b % 256) (omega arith) (x % 16) (omega arith))

module _ (b : Brush) (narrow : b.pitch < 256) (plain : factor_of b.zoom ≡ 1) where
  row_pattern : (y x : ℕ) → character_pattern b.ram (factor_of b.zoom) y x ≡ pattern_of (row_byte b.ram y) (row_byte b.ram y) x
  unfolding character_pattern pattern_of
  row_pattern y x =
      let e : y / 1 ≡ y = omega arith in
      rw (plain, e) (ap (λ (v : ℕ). v * 65535) (twice_bit (get_or b.ram (15 - y % 8) 0) x))

  abbrev along : ℕ
  along = stride_of b.drawing.dir b.pitch

  abbrev standing : Walked → Stood
  standing w = stood (cursor_at w.at) w.mem

  row_walks : (n y x a : ℕ) (m : List ℕ) → a < 4194304
      → standing (straight_walk b.wiring b.op (row_byte b.ram y) (row_byte b.ram y) along n x a m) ≡ row_walk b n y x (cursor_at a) m
  unfolding straight_walk row_walk
  row_walks zero y x a m p = refl
  row_walks (suc n) y x a m p =
      let l = cycled b.wiring b.op (pattern_of (row_byte b.ram y) (row_byte b.ram y) x) (cursor_at a) m in
      row_walks n y (x + 1) ((a + along) % 4194304) l (omega arith)
      ∙ (λ i. row_walk b n y (x + 1) (sym (stride_steps b.pitch a narrow p b.drawing.dir) i)
      (cycled b.wiring b.op (sym (row_pattern y x) i) (cursor_at a) m))

-- ---- over what the calls of the code ensure
pub row_done : (b : Brush) (n y x a q : ℕ) (m l : List ℕ) {v step : ℕ} → factor_of b.zoom ≡ 1 → a < 4194304 → v ≡ row_byte b.ram y
    → Stride b.drawing.dir b.pitch step → walked q l ≡ straight_walk b.wiring b.op v v step n x a m
    → stood (cursor_at q) l ≡ row_walk b n y x (cursor_at a) m
row_done b n y x a q m l plain p ev st w =
    ap (standing b st.narrow plain) (w ∙ (λ i. straight_walk b.wiring b.op (ev i) (ev i) (st.is i) n x a m))
    ∙ row_walks b st.narrow plain n y x a m p

-- the next row's start
pub next_bits : (b : Brush) (a : ℕ) {dir step : ℕ} → a < 4194304 → dir ≡ (b.drawing.dir + 2) % 8 → Stride dir b.pitch step
    → cursor_at ((a + step) % 4194304) ≡ next_row b (cursor_at a)
next_bits b a {dir} p e st =
    ap (λ (j : ℕ). cursor_at ((a + j) % 4194304)) (st.is ∙ ap (λ (j : ℕ). stride_of j b.pitch) e)
    ∙ sym (stride_steps b.pitch a st.narrow p ((b.drawing.dir + 2) % 8))
