-- `zeros` gives `zeros_b`: what is left to be zero decides the whole, at each turn.
use Rattle.std.proofs.Common.{sym, ◌∙◌}
use Rattle.blocks.proofs.BlockLaws.{zeros_start, zeros_fail, zeros_go_on, zeros_end}
use Rattle.blocks.proofs.zeros.Goals as goal

pub loop-i-init : goal.loop-i-init
loop-i-init c = zeros_start _ _ _ 0

pub returns-then-byte_at-ne0 : goal.returns-then-byte_at-ne0
returns-then-byte_at-ne0 c = zeros_fail _ _ _ _ c.loop-i-test.true c.byte_at.ensures c.if-byte_at-ne0.true
    ∙ sym c.loop-i.invariant

pub loop-i-preserved : goal.loop-i-preserved
loop-i-preserved c =
    c.loop-i.invariant ∙ zeros_go_on _ _ _ _ c.loop-i-test.true c.byte_at.ensures c.if-byte_at-ne0.false

pub returns : goal.returns
returns c = zeros_end _ _ _ _ c.loop-i-test.false ∙ sym c.loop-i.invariant
