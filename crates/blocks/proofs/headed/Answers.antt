-- `headed` gives `head_b`: its tests are the definition's; a count over 50 makes both false.
use Rattle.std.proofs.Common.{le-leb}
use Rattle.blocks.specs.Block.{head_b}
use Rattle.blocks.proofs.BlockLaws.{byte_bit, head_over, true_after}
use Rattle.blocks.proofs.headed.Goals as goal

pub returns-then-count-gt-FIGURES : goal.returns-then-count-gt-FIGURES
returns-then-count-gt-FIGURES c = head_over _ _ _ c.byte_at-count.ensures c.if-count-gt-FIGURES.true

pub returns : goal.returns
unfolding head_b
returns c =
    rw (
      ← c.byte_at-count.ensures,
      le-leb _ 50 c.if-count-gt-FIGURES.false,
      true_after,
      c.word_at-number.ensures,
      c.byte_at-last.ensures,
      c.zeros-spare.ensures,
      c.zeros-unused.ensures,
      byte_bit,
    )
