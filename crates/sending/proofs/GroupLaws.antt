-- The entries of one command, as one change of registers: CURS, PRAM and FIGS with their bytes. A number comes back from its
-- bytes, and what its register held before is gone.
use mathlib.Core.Path.{◌≡◌, refl, ap, ap₂, subst}
use mathlib.Core.Bool.{Bool, false}
use mathlib.Core.List.{List, [], ◌∷◌}
use Prim.Native.Nat.{ℕ, ◌+◌, ◌*◌, ◌/◌, ◌%◌, ◌^◌, ◌<◌}
use native.Mathlib.Omega.{arith}
use lib.Dec.{eqb}
use lib.ListN.{set}
use lib.Seq.{sets}
use borrow.Author.Tests.{ne_eqb}
use Rattle.dots.specs.declared.Cursor.{Cursor}
use Rattle.registers.specs.declared.Command.TheVariants.{Zoom, Curs, Pram, Pitch, Figs}
use Rattle.registers.specs.declared.Drawing.{Drawing}
use Rattle.registers.specs.declared.Registers.{Registers}
use Rattle.registers.specs.Fresh.{fresh_drawing}
use Rattle.registers.specs.Put.{put_cursor, put_pitch, put_drawing, put_ram, put_video, put_progress, put_zoom, put_gd, put_kind, put_dir}
use Rattle.registers.specs.Put.{put_dc}
use Rattle.registers.specs.Put.{put_d, put_d2, put_d1, put_dm}
use Rattle.parameters.specs.Parameter.{low_byte, high_six, curs_by, figs_by}
use Rattle.sending.proofs.WaitLaws.{Waiting, drained}
use Rattle.sending.proofs.SendLaws.{Acts, acts_then}
use Rattle.sending.proofs.EntryLaws.{progress, pitch_command, zoom_command, curs_command, pram_command, figs_command, curs_byte}
use Rattle.sending.proofs.EntryLaws.{pram_byte, figs_byte, pitch_byte, zoom_byte}

pub acts_as : {r q q' : Registers} {l : List ℕ} → Acts r l q → q ≡ q' → Acts r l q'
acts_as {r} {q} {q'} {l} a e = subst (Acts r l) e a

-- ---- CURS: three bytes make the address and the mask (by parts: the whole is too much for omega)
low_byte_law : (q a : ℕ) → a < 256 → (q / 256 * 256 + a) % 256 ≡ a
low_byte_law q a h = omega arith

low_word : (q a b : ℕ) → a < 256 → b < 256 → (q / 65536 * 65536 + b * 256 + a) % 65536 ≡ b * 256 + a
low_word q a b h k = omega arith

top_bits : (x e : ℕ) → (x % 16 * 16 + e / 65536 % 4) % 4 ≡ e / 65536 % 4
top_bits x e = omega arith

dot_bits : (x e : ℕ) → (x % 16 * 16 + e / 65536 % 4) / 16 ≡ x % 16
dot_bits x e = omega arith

joined : (e : ℕ) → e < 262144 → e / 65536 % 4 * 65536 + (e / 256 % 256 * 256 + e % 256) ≡ e
joined e h = omega arith

three_bytes : (q : Cursor) (e x : ℕ) → e < 262144
    → curs_by 2 (x % 16 * 16 + e / 65536 % 4) (curs_by 1 (e / 256 % 256) (curs_by 0 (e % 256) q)) ≡ record { ead = e; mask = 2 ^ (x % 16) }
unfolding curs_by
three_bytes q e x h =
    rw (
      low_byte_law q.ead (e % 256) (omega arith),
      low_word (q.ead / 256 * 256 + e % 256) (e % 256) (e / 256 % 256) (omega arith) (omega arith),
      top_bits x e,
      dot_bits x e,
      joined e h,
    )

module _ {r : Registers} (v : Waiting r) where
  pub acts_pitch : (p : ℕ) → p < 256 → Acts r (0x147 ∷ p ∷ []) (put_progress (put_pitch (drained r) p) (progress Pitch 1))
  acts_pitch p h = let a = pitch_command v in acts_then a (pitch_byte a.waits p h refl)

  pub acts_zoom : (z : ℕ) → z < 256 → Acts r (0x146 ∷ z ∷ []) (put_progress (put_video (drained r) (put_zoom r.video z)) (progress Zoom 1))
  acts_zoom z h = let a = zoom_command v in acts_then a (zoom_byte a.waits z h refl)

  -- the address e, and the mask for column x
  pub acts_curs : (e x : ℕ) → e < 262144
      → Acts r (0x149 ∷ (e % 256) ∷ (e / 256 % 256) ∷ (x % 16 * 16 + e / 65536 % 4) ∷ [])
      (put_progress (put_cursor (drained r) (record { ead = e; mask = 2 ^ (x % 16) })) (progress Curs 3))
  acts_curs e x h =
      let a = curs_command v in
      let b = curs_byte a.waits (e % 256) (omega arith) 0 (omega arith) refl in
      let c = curs_byte b.waits (e / 256 % 256) (omega arith) 1 (omega arith) refl in
      let d = curs_byte c.waits (x % 16 * 16 + e / 65536 % 4) (omega arith) 2 (omega arith) refl in
      acts_as (acts_then a (acts_then b (acts_then c d)))
      (ap (λ (q : Cursor). put_progress (put_cursor (drained r) q) (progress Curs 3)) (three_bytes r.cursor e x h))

  -- PRAM 8 with FF FF
  pub acts_ones : Acts r (0x178 ∷ 0xFF ∷ 0xFF ∷ []) (put_progress (put_ram (drained r) (set (set r.ram 8 255) 9 255)) (progress Pram 10))
  acts_ones =
      let a = pram_command v in
      let b = pram_byte a.waits 255 (omega arith) 8 (omega arith) refl in
      acts_then a (acts_then b (pram_byte b.waits 255 (omega arith) 9 (omega arith) refl))

  -- .. and with eight bytes
  module _ (a b c d e f g h : ℕ) (ha : a < 256) (hb : b < 256) (hc : c < 256) (hd : d < 256) (he : e < 256) (hf : f < 256) (hg : g < 256)
      (hh : h < 256) where
    pub acts_rows : Acts r (0x178 ∷ a ∷ b ∷ c ∷ d ∷ e ∷ f ∷ g ∷ h ∷ [])
        (put_progress (put_ram (drained r) (sets r.ram 8 (a ∷ b ∷ c ∷ d ∷ e ∷ f ∷ g ∷ h ∷ []))) (progress Pram 16))
    acts_rows =
        let s0 = pram_command v in
        let s1 = pram_byte s0.waits a ha 8 (omega arith) refl in
        let s2 = pram_byte s1.waits b hb 9 (omega arith) refl in
        let s3 = pram_byte s2.waits c hc 10 (omega arith) refl in
        let s4 = pram_byte s3.waits d hd 11 (omega arith) refl in
        let s5 = pram_byte s4.waits e he 12 (omega arith) refl in
        let s6 = pram_byte s5.waits f hf 13 (omega arith) refl in
        let s7 = pram_byte s6.waits g hg 14 (omega arith) refl in
        let s8 = pram_byte s7.waits h hh 15 (omega arith) refl in
        acts_then s0 (acts_then s1 (acts_then s2 (acts_then s3 (acts_then s4 (acts_then s5 (acts_then s6 (acts_then s7 s8)))))))

-- ---- FIGS: its first byte, then numbers of two bytes
-- two bytes make a number of 14 bits again, whatever o the register held
two_bytes : (o n : ℕ) → n < 16384 → high_six (low_byte o (n % 256)) (n / 256 % 256) ≡ n
two_bytes o n h = omega arith

-- bit 6 of the high byte is 0
no_gd : (n : ℕ) → n < 16384 → eqb (n / 256 % 256 / 64 % 2) 1 ≡ false
no_gd n h = ne_eqb (n / 256 % 256 / 64 % 2) 1 (λ q. omega arith)

-- FIGS' registers set, the next byte being byte i
abbrev pub drawing_set : Registers → Drawing → ℕ → Registers
drawing_set r f i = put_progress (put_drawing (drained r) f) (progress Figs i)

module _ {r : Registers} (v : Waiting r) where
  pub acts_figs : (b kind dir : ℕ) → b < 256 → b / 8 ≡ kind → b % 8 ≡ dir
      → Acts r (0x14C ∷ b ∷ []) (drawing_set r (put_dir (put_kind (fresh_drawing r.drawing) kind) dir) 1)
  unfolding figs_by
  acts_figs b kind dir h k d =
      let a = figs_command v in
      acts_as (acts_then a (figs_byte a.waits b h 0 (omega arith) refl))
      (ap₂ (λ (x y : ℕ). drawing_set r (put_dir (put_kind (fresh_drawing r.drawing) x) y) 1) k d)

  module _ (n : ℕ) (small : n < 16384) where
    number : (i : ℕ) → i < 15 → r.progress ≡ progress Figs i → (f : Drawing)
        → figs_by (i + 1) (n / 256 % 256) (figs_by i (n % 256) r.drawing) ≡ f
        → Acts r ((n % 256) ∷ (n / 256 % 256) ∷ []) (drawing_set r f (i + 2))
    number i h e f is =
        let a = figs_byte v (n % 256) (omega arith) i (omega arith) e in
        let j : i + 1 + 1 ≡ i + 2 = omega arith in
        acts_as (acts_then a (figs_byte a.waits (n / 256 % 256) (omega arith) (i + 1) (omega arith) refl))
        (ap₂ (λ (g : Drawing) (k : ℕ). drawing_set r g k) is j)

    pub sends_dc : r.progress ≡ progress Figs 1 → Acts r ((n % 256) ∷ (n / 256 % 256) ∷ [])
        (drawing_set r (put_gd (put_dc r.drawing n) false) 3)
    unfolding figs_by
    sends_dc e =
        number 1 (omega arith) e (put_gd (put_dc r.drawing n) false)
        (ap₂ (λ (x : ℕ) (t : Bool). put_gd (put_dc r.drawing x) t) (two_bytes r.drawing.dc n small) (no_gd n small))

    pub sends_d : r.progress ≡ progress Figs 3 → Acts r ((n % 256) ∷ (n / 256 % 256) ∷ []) (drawing_set r (put_d r.drawing n) 5)
    unfolding figs_by
    sends_d e = number 3 (omega arith) e (put_d r.drawing n) (ap (put_d r.drawing) (two_bytes r.drawing.d n small))

    pub sends_d2 : r.progress ≡ progress Figs 5 → Acts r ((n % 256) ∷ (n / 256 % 256) ∷ []) (drawing_set r (put_d2 r.drawing n) 7)
    unfolding figs_by
    sends_d2 e = number 5 (omega arith) e (put_d2 r.drawing n) (ap (put_d2 r.drawing) (two_bytes r.drawing.d2 n small))

    pub sends_d1 : r.progress ≡ progress Figs 7 → Acts r ((n % 256) ∷ (n / 256 % 256) ∷ []) (drawing_set r (put_d1 r.drawing n) 9)
    unfolding figs_by
    sends_d1 e = number 7 (omega arith) e (put_d1 r.drawing n) (ap (put_d1 r.drawing) (two_bytes r.drawing.d1 n small))

    pub sends_dm : r.progress ≡ progress Figs 9 → Acts r ((n % 256) ∷ (n / 256 % 256) ∷ []) (drawing_set r (put_dm r.drawing n) 11)
    unfolding figs_by
    sends_dm e = number 9 (omega arith) e (put_dm r.drawing n) (ap (put_dm r.drawing) (two_bytes r.drawing.dm n small))
