-- `size_of` is safe: the largest picture has 2·255·4,096 bytes.
use Prim.Native.Nat.{◌*◌, ◌≤◌}
use native.Mathlib.Omega.{arith}
use native.Mathlib.Nat.{mul-le-mul}
use borrow.Author.Rules.{rules}
use Rattle.pages.proofs.size_of.Goals as goal

pub overflow_mul-result-2 : goal.overflow_mul-result-2
overflow_mul-result-2 c =
    let h : 2 * c.args.p * c.args.h ≤ 510 * 4096 =
    mul-le-mul {n₂ = 510} {m₂ = 4096} (search rules) (search rules) in omega arith
