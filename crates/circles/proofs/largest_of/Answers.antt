-- `largest_of` gives `largest`: i² is at most half of r² where 2i² is at most r².
use Prim.Native.Nat.{ℕ, ◌+◌, ◌*◌, ◌/◌, ◌<◌, ◌≤◌}
use mathlib.Core.Path.{ap}
use native.Mathlib.Numerals.{add-one}
use native.Mathlib.Omega.{arith}
use Rattle.circles.proofs.SizeLaws.{largest_is}
use Rattle.circles.proofs.largest_of.Goals as goal

pub returns : goal.returns
returns c =
    let r : ℕ = c.args.r in
    let i : ℕ = c.isqrt.result in
    let low : i * i ≤ r * r / 2 = rw (c.from.ensures, c.from-2.ensures) at c.isqrt.ensures.square_le in
    let high : r * r / 2 < (i + 1) * (i + 1) = rw (c.from.ensures, c.from-2.ensures) at c.isqrt.ensures.next_square_gt in
    largest_is r i (omega arith) (omega (arith, ap (λ (n : ℕ). n * n) (add-one i)))
