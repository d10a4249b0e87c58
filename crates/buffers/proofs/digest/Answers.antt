-- `digest` gives `digest_of`: the words still to be taken decide, at each turn.
use mathlib.Core.Path.{refl, sym, ◌∙◌}
use Rattle.buffers.specs.Words.{digest_of}
use Rattle.buffers.proofs.Laws.{digest_goes_on, digest_ends}
use Rattle.buffers.proofs.digest.Goals as goal

pub loop-w-init : goal.loop-w-init
unfolding digest_of
loop-w-init c = refl

pub loop-w-preserved : goal.loop-w-preserved
loop-w-preserved c = c.loop-w.invariant ∙ digest_goes_on _ _ _ c.loop-w-test.true c.mix.ensures c.mix-h.ensures

pub returns : goal.returns
returns c = sym (c.loop-w.invariant ∙ digest_ends _ _ _ c.loop-w-test.false)
