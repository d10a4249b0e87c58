-- `picture_with` is safe and ends: an array of n zeros has n elements, which `refl` would find by counting them.
use lib.ListN.{length-replicate}
use mathlib.Core.Path.{sym}
use Prim.Native.Nat.{ℕ}
use Rattle.picture.proofs.picture_with.Goals as goal

pub slice_bounds-picture_of-end : goal.slice_bounds-picture_of-end
slice_bounds-picture_of-end c = sym (length-replicate {A = ℕ} 262144 0)
