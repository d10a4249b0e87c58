-- `replay_with` is safe and ends: an array of n zeros has n elements, which `refl` would find by counting them.
use Rattle.std.proofs.Common.{ℕ, sym}
use lib.ListN.{length-replicate}
use Rattle.replay.proofs.replay_with.Goals as goal

pub slice_bounds-replay_at-end : goal.slice_bounds-replay_at-end
slice_bounds-replay_at-end c = sym (length-replicate {A = ℕ} 262144 0)
