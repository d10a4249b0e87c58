-- `store` gives `stored`: the same test.
use borrow.Author.Tests.{lt-ltb, le-ltb}
use Rattle.buffers.specs.Words.{stored}
use Rattle.buffers.proofs.store.Goals as goal

pub returns-then-at-mem : goal.returns-then-at-mem
unfolding stored
returns-then-at-mem c = rw (lt-ltb _ _ c.if-at-mem.true)

pub returns-else-at-mem : goal.returns-else-at-mem
unfolding stored
returns-else-at-mem c = rw (le-ltb _ _ c.if-at-mem.false)
