-- `word_met`: a word inside the memory is looked for first, since both wirings meet it.
use mathlib.Core.Path.{sym}
use Rattle.dots.proofs.CycleLaws.{met_inside, met_none}
use Rattle.dots.proofs.word_met.Goals as goal

pub returns-then-at-n : goal.returns-then-at-n
returns-then-at-n c = let a = c.args in sym (met_inside a.wiring a.ead a.n c.if-at-n.true)

pub returns-then-n-eq0 : goal.returns-then-n-eq0
returns-then-n-eq0 c = let a = c.args in sym (met_none a.wiring a.ead a.n c.if-n-eq0.true)

pub returns-in-Folded : goal.returns-in-Folded
returns-in-Folded c = rw c.in-Folded.is

pub returns-in-Open : goal.returns-in-Open
returns-in-Open c = rw c.in-Open.is
