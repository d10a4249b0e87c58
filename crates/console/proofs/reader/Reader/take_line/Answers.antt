-- `take_line` gives `taken`: the characters that are left of the piece decide, at each turn.
use native.Mathlib.Omega.{arith}
use mathlib.Core.Path.{◌≡◌, refl, sym, ◌∙◌}
use Rattle.console.specs.Reader.{taken}
use Rattle.console.proofs.ReaderLaws.{take_whole, take_one, take_none, take_ends}
use Rattle.console.proofs.reader.Reader.take_line.Goals as goal
use Rattle.console.proofs.reader.Reader.take_line.Goals.{then-length-line, else-length-line}

pub loop-at-init : goal.loop-at-init
unfolding taken
loop-at-init c = record { within = omega arith; idle = λ _. refl; rest = rw c.used-filled.ensures.same }

pub returns-then-b-eq10 : goal.returns-then-b-eq10
returns-then-b-eq10 c =
    let l = c.loop-at in
    sym (l.invariant.rest ∙ take_whole _ _ _ l.invariant.within _ _ _ c.loop-at-test.true refl c.if-b-eq10.true)

pub loop-at-preserved : goal.loop-at-preserved
loop-at-preserved c =
    let l = c.loop-at in record {
      within = l.invariant.within;
      idle = λ h. absurd (omega (arith, c.loop-at-test.true));
      rest = l.invariant.rest ∙ elim c.if-length-line.branch [
        | then-length-line w ↦ rw (w.line-is, w.length-is)
            (take_one _ _ _ l.invariant.within _ _ _ c.loop-at-test.true refl c.if-b-eq10.false w.if-length-line.true)
        | else-length-line w ↦ rw (w.line-is, w.length-is)
            (take_none _ _ _ l.invariant.within _ _ _ c.loop-at-test.true refl c.if-b-eq10.false w.if-length-line.false)
      ];
    }

pub returns : goal.returns
returns c =
    let l = c.loop-at in
    let e : c.max.result ≡ l.at = grind (arith, c.max.ensures) in
    rw e (sym (l.invariant.rest ∙ take_ends _ _ _ l.invariant.within _ _ _ c.loop-at-test.false))
