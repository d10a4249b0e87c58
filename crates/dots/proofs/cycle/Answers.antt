-- `cycle`: a word inside the memory is the one met under either wiring; past the end a word that is met is written, and where none is
-- met nothing is.
use mathlib.Core.Path.{sym}
use lib.ListN.{length}
use native.Mathlib.Omega.{arith}
use Rattle.dots.proofs.CycleLaws.{met_inside, cycled_met, cycled_past}
use Rattle.dots.proofs.cycle.Goals as goal

pub returns-then-at-n : goal.returns-then-at-n
returns-then-at-n c =
    let a = c.args in
    let inside = c.if-at-n.true in
    cycled_met a.wiring a.op a.pattern a.c.ead _ a.c a.mem.now
    (sym (met_inside a.wiring a.c.ead (length a.mem.now) inside)) inside c.combine.ensures

pub returns-then-past-n : goal.returns-then-past-n
returns-then-past-n c =
    let a = c.args in
    cycled_met a.wiring a.op a.pattern _ _ a.c a.mem.now c.word_met-past.ensures
    c.if-past-n.true c.combine-then-past-n.ensures

pub returns-else-past-n : goal.returns-else-past-n
returns-else-past-n c =
    let a = c.args in
    cycled_past a.wiring a.op a.pattern _ 0 a.c a.mem.now c.word_met-past.ensures (omega (arith, c.if-past-n.false))
