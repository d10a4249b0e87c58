-- `direction` is the definition, by whether the move is diagonal.
use mathlib.Core.Path.{sym, ◌∙◌}
use Rattle.arcs.specs.Arc.{arc_direction}
use Rattle.arcs.proofs.direction.Goals as goal

pub returns-then-turns : goal.returns-then-turns
unfolding arc_direction
returns-then-turns c = rw (c.diagonal_of.ensures, sym c.turns.ensures ∙ c.if-turns.true)

pub returns : goal.returns
unfolding arc_direction
returns c = rw (c.axis_of.ensures, sym c.turns.ensures ∙ c.if-turns.false)
