-- `check_blocks` gives `blocks_checked`: the blocks left decide the answer as all the blocks do, at each turn.
use Rattle.std.proofs.Common.{◌≡◌, ◌-◌}
use Rattle.blocks.specs.Answer.{first_from}
use Rattle.blocks.specs.Block.{block_answer, blocks_checked}
use Rattle.blocks.proofs.check_blocks.Given as goal

abbrev pub invariant-loop-b : goal.invariant-loop-b
invariant-loop-b l = blocks_checked l.s l.n ≡ first_from (block_answer l.s l.n) (l.n - l.b) l.b
