-- `reversed` gives `reversed_of`: std's bits, one by one.
use native.Mathlib.Omega.{arith}
use mathlib.Core.Path.{◌≡◌, ◌∙◌}
use Prim.Native.Nat.{ℕ, ◌<◌}
use Rattle.std.specs.Int.{w8, reverse_bits, reverse_bits_onto}
use Rattle.bitmap.specs.Image.{reversed_of}
use Rattle.bitmap.proofs.reversed.Goals as goal

same : (b : ℕ) → b < 256 → reverse_bits w8 b ≡ reversed_of b
unfolding reversed_of reverse_bits_onto
same b h = omega arith

pub returns : goal.returns
returns c = c.reverse_bits.ensures ∙ same _ (omega arith)
