-- `place_on` is the definition, by D's sign.
use borrow.Author.Tests.{le-leb, lt-leb}
use Rattle.passes.specs.Place.{place_on, gaining}
use Rattle.passes.proofs.place_on.Goals as goal

pub returns-then-d-ge-SIGN : goal.returns-then-d-ge-SIGN
unfolding place_on
returns-then-d-ge-SIGN c = rw (le-leb 9223372036854775808 (gaining c.args.p) c.if-d-ge-SIGN.true, c.keep.ensures)

pub returns : goal.returns
unfolding place_on
returns c = rw (lt-leb 9223372036854775808 (gaining c.args.p) c.if-d-ge-SIGN.false, c.keep-2.ensures)
