-- `from` is the definition: at each number it computes; any other differs from each.
use borrow.Author.Tests.{ne_eqb}
use Rattle.dots.specs.Operation.{operation_of}
use Rattle.dots.proofs.OperationFromU8.from.Goals as goal

pub returns-in-0 : goal.returns-in-0
unfolding operation_of
returns-in-0 c = rw c.in-0.is

pub returns-in-1 : goal.returns-in-1
unfolding operation_of
returns-in-1 c = rw c.in-1.is

pub returns-in-2 : goal.returns-in-2
unfolding operation_of
returns-in-2 c = rw c.in-2.is

pub returns-in_default : goal.returns-in_default
unfolding operation_of
returns-in_default c = let n = c.in_default.in_default-own.rest in rw (ne_eqb _ 0 n.0.0.1, ne_eqb _ 1 n.0.1, ne_eqb _ 2 n.1)
