-- `pass_loop`: after so many rounds as many moves are made.
use Rattle.std.proofs.Common.{◌≡◌}
use Rattle.passes.specs.Place.{place_passed}
use Rattle.passes.proofs.pass_loop.Given as goal

abbrev pub invariant-loop : goal.invariant-loop
invariant-loop l = l.p ≡ place_passed l.axis l.initial.p l.counter
