-- `larger` gives `larger_b`: two 32-bit numbers have a product of 64 bits.
use Prim.Native.Nat.{◌*◌, ◌≤◌}
use native.Mathlib.Omega.{arith}
use native.Mathlib.Nat.{mul-le-mul}
use borrow.Author.Rules.{rules}
use Rattle.drawing.proofs.larger.Goals as goal

pub overflow_mul-result : goal.overflow_mul-result
overflow_mul-result c =
    let h : c.args.p * c.args.h ≤ 4294967295 * 4294967295 =
    mul-le-mul {n₂ = 4294967295} {m₂ = 4294967295} (search rules) (search rules) in omega arith

pub returns : goal.returns
returns c = rw c.plane_fits.ensures
