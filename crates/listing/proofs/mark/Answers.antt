-- `mark` gives `mark_of`: the same test.
use borrow.Author.Tests.{lt-ltb, le-ltb}
use Rattle.listing.proofs.mark.Goals as goal

pub returns-then-e-lt256 : goal.returns-then-e-lt256
returns-then-e-lt256 c = rw (lt-ltb _ 256 c.if-e-lt256.true)

pub returns-else-e-lt256 : goal.returns-else-e-lt256
returns-else-e-lt256 c = rw (le-ltb _ 256 c.if-e-lt256.false)
