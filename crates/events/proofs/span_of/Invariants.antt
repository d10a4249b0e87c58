-- `span_of` gives `span_of`: the blanks at the end fall off one by one.
use mathlib.Core.Path.{◌≡◌}
use lib.ListN.{length}
use Rattle.events.specs.Event.{span_of}
use Rattle.events.proofs.span_of.Given as goal

abbrev pub invariant-loop-i : goal.invariant-loop-i
invariant-loop-i l = span_of (length l.s) l.s ≡ span_of l.i l.s
