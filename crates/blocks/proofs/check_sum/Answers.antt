-- `check_sum` gives `check_of`: the sum so far, which wraps, and the words left make the check at each turn.
use Rattle.std.proofs.Common.{sym, refl, ◌∙◌, rules}
use Rattle.blocks.proofs.BlockLaws.{sum_starts, sum_goes_on, sum_ends}
use Rattle.blocks.proofs.check_sum.Goals as goal

pub loop-i-init : goal.loop-i-init
loop-i-init c = sum_starts _ _

pub loop-i-preserved : goal.loop-i-preserved
loop-i-preserved c =
    c.loop-i.invariant ∙ sum_goes_on _ _ _ _ c.loop-i-test.true (rw c.from.ensures at c.word_at-sum.ensures) refl

pub returns : goal.returns
returns c = sum_ends _ _ _ _ c.loop-i-test.false (search rules) ∙ sym c.loop-i.invariant
