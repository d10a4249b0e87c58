-- `pop` is the definition: the last entry leaves an empty buffer.
use Rattle.registers.proofs.FreshLaws.{buffer_empty}
use Rattle.registers.specs.Buffer.{popped}
use borrow.Author.Tests.{le-leb}
use Rattle.registers.proofs.entries.pop.Goals as goal

pub returns-then-b-le1 : goal.returns-then-b-le1
unfolding popped
returns-then-b-le1 c = rw (le-leb c.args.b.count 1 c.if-b-le1.true) (buffer_empty _ c.default.ensures)
