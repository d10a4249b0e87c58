-- `check_blocks` gives `blocks_checked`: the blocks left decide the answer as all the blocks do, at each turn.
use Rattle.std.proofs.Common.{sym, ◌∙◌}
use Rattle.std.proofs.lemmas.Result.{err_from_is_err_and}
use Rattle.blocks.specs.Block.{block_answer}
use Rattle.blocks.proofs.AnswerLaws.{err_stops, ok_goes_on}
use Rattle.blocks.proofs.BlockLaws.{blocks_start, blocks_end}
use Rattle.blocks.proofs.check_blocks.Goals as goal

pub loop-b-init : goal.loop-b-init
loop-b-init c = blocks_start _ _ 0

pub returns-in_err-check_block : goal.returns-in_err-check_block
returns-in_err-check_block c =
    let p = err_from_is_err_and c.from_residual.result c.from_residual.ensures.1 in
    rw (p.1, p.2) (err_stops (block_answer _ _) _ _ c.loop-b-test.true _ c.in_err-check_block.ensures ∙ sym c.loop-b.invariant)

pub loop-b-preserved : goal.loop-b-preserved
loop-b-preserved c =
    c.loop-b.invariant ∙ ok_goes_on (block_answer _ _) _ _ c.loop-b-test.true c.in_ok-check_block.ensures

pub returns : goal.returns
returns c = blocks_end _ _ _ c.loop-b-test.false ∙ sym c.loop-b.invariant
