-- `check_sum` gives `check_of`: the sum so far, which wraps, and the words left make the check at each turn.
use Rattle.std.proofs.Common.{◌≡◌}
use Rattle.blocks.specs.Block.{check_of}
use Rattle.blocks.proofs.BlockLaws.{left}
use Rattle.blocks.proofs.check_sum.Given as goal

abbrev pub invariant-loop-i : goal.invariant-loop-i
invariant-loop-i l = check_of l.s l.b ≡ left l.s l.b l.i l.sum
