-- `span_of` gives `span_of`: the blanks at the end fall off one by one.
use native.Mathlib.Omega.{arith}
use Prim.Native.Nat.{◌+◌, ◌-◌}
use mathlib.Core.Path.{◌≡◌, sym, ◌∙◌}
use Rattle.events.proofs.Laws.{blank_falls, other_stays, none_left}
use Rattle.events.proofs.span_of.Goals as goal

pub returns-then-not-blank : goal.returns-then-not-blank
returns-then-not-blank c =
    let same : c.loop-i.i - 1 + 1 ≡ c.loop-i.i = omega arith in (
      omega arith,
      same ∙ sym (c.loop-i.invariant ∙ other_stays _ _ c.loop-i-test.true (sym c.blank.ensures ∙ c.if-not-blank.true)),
    )

pub loop-i-preserved : goal.loop-i-preserved
loop-i-preserved c = c.loop-i.invariant ∙ blank_falls _ _ c.loop-i-test.true (sym c.blank.ensures ∙ c.if-not-blank.false)

pub returns : goal.returns
returns c = (omega arith, sym (c.loop-i.invariant ∙ none_left _ _ c.loop-i-test.false))
