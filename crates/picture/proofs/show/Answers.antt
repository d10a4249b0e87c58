-- `show` is safe and ends: an array of n zeros has n elements, which `refl` would find by counting them.
use lib.ListN.{length-replicate}
use mathlib.Core.Path.{sym}
use Prim.Native.Nat.{ℕ}
use Rattle.picture.proofs.show.Goals as goal

pub slice_bounds-show_by-end : goal.slice_bounds-show_by-end
slice_bounds-show_by-end c = sym (length-replicate {A = ℕ} 524288 0)
