-- What the derived defaults give: zeros, so each part of the fresh set.
use Rattle.std.proofs.Common.{◌≡◌, ℕ, zero, suc, ◌<◌, false, List, [], ◌∷◌, length, get_or, replicate, refl, arith}
use Rattle.std.specs.Array.{AllOfLen}
use Rattle.registers.specs.declared.Video.{Video}
use Rattle.registers.specs.declared.Pen.{Pen}
use Rattle.registers.specs.declared.Buffer.{Buffer}
use Rattle.registers.specs.declared.Command.TheVariants.{Nothing}
use Rattle.registers.specs.declared.Progress.{Progress}
use Rattle.registers.specs.Fresh.{empty_buffer, no_command}

zeros_by : (n : ℕ) (xs : List ℕ) → length xs ≡ n → ((i : ℕ) → i < n → get_or xs i 0 ≡ 0) → xs ≡ replicate n 0
zeros_by zero [] e h = refl
zeros_by zero (x ∷ xs) e h = absurd (omega arith)
zeros_by (suc n) [] e h = absurd (omega arith)
zeros_by (suc n) (x ∷ xs) e h =
    let z : x ≡ 0 = h 0 (omega arith) in
    let t : xs ≡ replicate n 0 = zeros_by n xs (omega arith) (λ i l. h (suc i) (omega arith)) in
    rw (z, t)

abbrev Zeros : List ℕ → ℕ → Type 0
Zeros xs n = AllOfLen (λ x. x ≡ 0) xs n

zeros : (n : ℕ) (xs : List ℕ) → Zeros xs n → xs ≡ replicate n 0
zeros n xs a = zeros_by n xs a.long (λ i l. a.at i 0 l)

pub video_zero : (w : Video)
    → (w.zoom ≡ 0) × ((w.display ≡ false) × ((w.vsync ≡ false) × (Zeros w.sync 8 × Zeros w.cchar 3)))
    → w ≡ record { zoom = 0; display = false; vsync = false; sync = replicate 8 0; cchar = replicate 3 0 }
video_zero w (a, (b, (c, (d, e)))) =
    λ i. record { zoom = a i; display = b i; vsync = c i; sync = zeros 8 w.sync d i; cchar = zeros 3 w.cchar e i }

pub buffer_empty : (b : Buffer) → Zeros b.entries 16 × (b.count ≡ 0) → b ≡ empty_buffer
buffer_empty b (a, c) = λ i. record { entries = zeros 16 b.entries a i; count = c i }

pub pen_zero : (p : Pen) → (p.address ≡ 0) × (p.set ≡ false) → p ≡ record { address = 0; set = false }
pen_zero p (a, b) = λ i. record { address = a i; set = b i }

pub progress_none : (p : Progress) → (p.command ≡ Nothing) × ((p.next ≡ 0) × (p.low ≡ 0)) → p ≡ no_command
progress_none p (a, (b, c)) = λ i. record { command = a i; next = b i; low = c i }
