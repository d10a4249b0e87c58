-- `mix` gives `mixed`: the product wraps at 32 bits.
use borrow.Author.Rules.{rules}
use Rattle.buffers.specs.Words.{mixed}
use Rattle.buffers.proofs.mix.Goals as goal

pub returns : goal.returns
unfolding mixed
returns c = search rules
