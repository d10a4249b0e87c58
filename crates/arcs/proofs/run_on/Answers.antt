-- `run_on` is the definition, by D's sign after it has gained D1.
use Rattle.arcs.proofs.RunningLaws.{turned_on, straight_on}
use Rattle.arcs.proofs.run_on.Goals as goal

pub returns-then-d-ge-SIGN : goal.returns-then-d-ge-SIGN
returns-then-d-ge-SIGN c =
    turned_on _ c.gain-d.ensures c.lose-d1.ensures
    c.if-d-ge-SIGN.true c.lose.ensures

pub returns : goal.returns
returns c = straight_on _ c.gain-d.ensures c.lose-d1.ensures c.if-d-ge-SIGN.false
