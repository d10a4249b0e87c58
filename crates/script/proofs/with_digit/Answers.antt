-- `with_digit` gives `more`: the same test.
use borrow.Author.Tests.{le-leb, lt-leb}
use Rattle.script.specs.Digits.{more}
use Rattle.script.proofs.with_digit.Goals as goal

pub returns-then-n-ge268435456 : goal.returns-then-n-ge268435456
unfolding more
returns-then-n-ge268435456 c = rw (le-leb 268435456 _ c.if-n-ge268435456.true)

pub returns : goal.returns
unfolding more
returns c = rw (c.from.ensures, lt-leb 268435456 _ c.if-n-ge268435456.false)
