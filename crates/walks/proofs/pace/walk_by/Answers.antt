-- `walk_by` goes by the operation, whose number is known then.
use Rattle.dots.specs.Operation.{operation_of}
use Rattle.walks.proofs.pace.walk_by.Goals as goal

pub returns-in-Replace : goal.returns-in-Replace
unfolding operation_of
returns-in-Replace g c = rw c.in-Replace.is c.walk_loop.ensures

pub returns-in-Complement : goal.returns-in-Complement
unfolding operation_of
returns-in-Complement g c = rw c.in-Complement.is c.walk_loop-in-Complement.ensures

pub returns-in-Reset : goal.returns-in-Reset
unfolding operation_of
returns-in-Reset g c = rw c.in-Reset.is c.walk_loop-in-Reset.ensures

pub returns-in-Set : goal.returns-in-Set
unfolding operation_of
returns-in-Set g c = rw c.in-Set.is c.walk_loop-in-Set.ensures
