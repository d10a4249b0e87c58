-- `replay_in` is safe and ends: an array of n zeros has n elements, which `refl` would find by counting them.
use lib.ListN.{length-replicate}
use Rattle.std.proofs.Common.{ℕ, sym}
use Rattle.replay.proofs.replay_in.Goals as goal

pub slice_bounds-turns-end : goal.slice_bounds-turns-end
slice_bounds-turns-end c = sym (length-replicate {A = ℕ} 65536 0)

pub slice_bounds-turns-end-2 : goal.slice_bounds-turns-end-2
slice_bounds-turns-end-2 c = sym (length-replicate {A = ℕ} 81 0)

pub slice_bounds-turns-end-3 : goal.slice_bounds-turns-end-3
slice_bounds-turns-end-3 c = sym (length-replicate {A = ℕ} 524288 0)
