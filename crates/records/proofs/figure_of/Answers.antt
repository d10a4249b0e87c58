-- `figure_of` gives `figure_of`: the same kinds in the same order.
use Rattle.std.proofs.Common.{ne_eqb}
use Rattle.records.specs.Decode.{figure_of}
use Rattle.records.proofs.figure_of.Goals as goal

pub returns-in-1 : goal.returns-in-1
unfolding figure_of
returns-in-1 c = rw c.in-1.is

pub returns-in-2 : goal.returns-in-2
unfolding figure_of
returns-in-2 c = rw c.in-2.is

pub returns-in-3 : goal.returns-in-3
unfolding figure_of
returns-in-3 c = rw c.in-3.is

pub returns-in-4 : goal.returns-in-4
unfolding figure_of
returns-in-4 c = rw c.in-4.is

pub returns-in_default : goal.returns-in_default
unfolding figure_of
returns-in_default c = let n = c.in_default.in_default-own.rest in
    rw (ne_eqb _ _ n.0.0.0.1, ne_eqb _ _ n.0.0.1, ne_eqb _ _ n.0.1, ne_eqb _ _ n.1)
