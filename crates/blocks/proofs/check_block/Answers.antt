-- `check_block` gives `block_answer`: 14 is tested before 15, as there.
use Rattle.std.proofs.Common.{sym, ◌∙◌, eq-eqb, ne_eqb}
use Rattle.blocks.specs.Block.{block_refusal}
use Rattle.blocks.proofs.check_block.Goals as goal

pub returns-then-check_sum-word_at : goal.returns-then-check_sum-word_at
unfolding block_refusal
returns-then-check_sum-word_at c =
    rw (← c.check_sum.ensures, ← c.word_at.ensures, ne_eqb _ _ c.if-check_sum-word_at.true)

pub returns-then-not-headed : goal.returns-then-not-headed
unfolding block_refusal
returns-then-not-headed c =
    rw (
      ← c.check_sum.ensures,
      ← c.word_at.ensures,
      eq-eqb _ _ c.if-check_sum-word_at.false,
      sym c.headed.ensures ∙ c.if-not-headed.true,
    )

pub returns : goal.returns
unfolding block_refusal
returns c =
    rw (
      ← c.check_sum.ensures,
      ← c.word_at.ensures,
      eq-eqb _ _ c.if-check_sum-word_at.false,
      sym c.headed.ensures ∙ c.if-not-headed.false,
    )
