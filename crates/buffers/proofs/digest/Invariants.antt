-- `digest` gives `digest_of`: the words still to be taken decide, at each turn.
use lib.ListN.{drop}
use mathlib.Core.Path.{◌≡◌}
use Rattle.buffers.specs.Words.{digest_from, digest_of}
use Rattle.buffers.proofs.digest.Given as goal

abbrev pub invariant-loop-w : goal.invariant-loop-w
invariant-loop-w l = digest_of l.mem ≡ digest_from l.h (drop l.w-index l.mem)
