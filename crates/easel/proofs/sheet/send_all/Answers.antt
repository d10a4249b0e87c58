-- `send_all` gives `played`: what is left to play from here, with the units so far, is what was to play from the start.
use native.Mathlib.Omega.{arith}
use mathlib.Core.Path.{sym, ◌∙◌}
use Rattle.finishing.proofs.FinishLaws.{finished_few}
use Rattle.easel.proofs.PlayLaws.{plays_on, plays_out}
use Rattle.easel.proofs.sheet.send_all.Goals as goal

pub overflow_add-units : goal.overflow_add-units
overflow_add-units c =
    let l = c.loop-e in
    omega (
      arith,
      l.invariant.few,
      l.invariant.short,
      c.loop-e-test.true,
      finished_few _ c.finish-s.ensures,
    )

pub loop-e-preserved : goal.loop-e-preserved
loop-e-preserved c =
    let l = c.loop-e in
    record {
      short = l.invariant.short;
      few = omega (arith, l.invariant.few, finished_few _ c.finish-s.ensures);
      rest = l.invariant.rest ∙ plays_on _ _ _ _ c.loop-e-test.true c.to_port.ensures c.finish-s.ensures;
    }

pub returns : goal.returns
returns c = let l = c.loop-e in sym (l.invariant.rest ∙ plays_out _ _ _ _ c.loop-e-test.false)
