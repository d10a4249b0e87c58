-- `cursor_at` is the definition: the word that it reads is 2 to the dot's number (`mask_at`).
use Prim.Native.Nat.{◌/◌, ◌%◌}
use native.Mathlib.Omega.{arith}
use Rattle.dots.proofs.MaskLaws.{mask_at}
use Rattle.dots.proofs.cursor_at.Goals as goal

pub returns : goal.returns
returns c = λ i. record { ead = c.args.a / 16; mask = mask_at (c.args.a % 16) (omega arith) i }
