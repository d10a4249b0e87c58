-- `pass`: after so many rounds as many moves are made.
use mathlib.Core.Path.{◌≡◌}
use Rattle.arcs.specs.Arc.{passed}
use Rattle.arcs.proofs.pass.Given as goal

abbrev pub invariant-loop : goal.invariant-loop
invariant-loop l = l.at ≡ passed l.dir l.pitch l.initial.at l.counter
