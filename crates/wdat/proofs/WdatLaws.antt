-- Bit-mapped work, by the values of C and G, which are 0 or 1. And the byte of a WDAT set that completes it.
use mathlib.Core.Path.{◌≡◌, refl}
use mathlib.Core.Bool.{Bool, false, ◌&&◌, ◌||◌}
use mathlib.Core.List.{List}
use Prim.Native.Nat.{ℕ, zero, suc, ◌/◌, ◌%◌, ◌<◌}
use native.Mathlib.Omega.{arith}
use lib.Dec.{eqb}
use Rattle.dots.specs.Bit.{bit}
use Rattle.dots.specs.Cycle.{cycled}
use Rattle.registers.specs.declared.Transfer.{Transfer}
use Rattle.registers.specs.declared.Registers.{Registers}
use Rattle.registers.specs.State.{state}
use Rattle.wdat.specs.Wdat.{half_b, mapped_by, bit_mapped_b, set_pattern, first_sync, set_done, wdat_taken}

by_bits : (c g : ℕ) (gd : Bool) → c < 2 → g < 2 → (eqb c 0 && (eqb g 1 || gd)) ≡ mapped_by c g gd
by_bits zero zero gd h k = refl
by_bits zero (suc zero) gd h k = refl
by_bits zero (suc (suc g)) gd h k = absurd (omega arith)
by_bits (suc zero) zero gd h k = refl
by_bits (suc zero) (suc zero) gd h k = refl
by_bits (suc zero) (suc (suc g)) gd h k = absurd (omega arith)
by_bits (suc (suc c)) g gd h k = absurd (omega arith)

pub mapped_by_law : (sync : ℕ) (gd : Bool) → (eqb (sync / 32 % 2) 0 && (eqb (sync / 2 % 2) 1 || gd)) ≡ bit_mapped_b sync gd
unfolding bit_mapped_b bit
mapped_by_law sync gd = by_bits (sync / 32 % 2) (sync / 2 % 2) gd (omega arith) (omega arith)

module _ (t : Transfer) (i v : ℕ) (r : Registers) (m : List ℕ) where
  pub wdat_whole : {q : Registers} {b : Bool} {p : ℕ} {n : List ℕ} → half_b t i ≡ false → b ≡ bit_mapped_b (first_sync r) r.drawing.gd
      → p ≡ set_pattern b t r.progress.low v → n ≡ cycled r.board.wiring r.op p r.cursor m → q ≡ set_done t r
      → state q n ≡ wdat_taken t i v r m
  unfolding wdat_taken
  wdat_whole h b p n e = rw (h, e, n, p, b)
