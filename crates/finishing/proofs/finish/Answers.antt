-- `finish`: what is left to run from here, with the units so far, is what was to run from the start; a run that does not say that its
-- budget is spent is the last one.
use Prim.Native.Nat.{ℕ, ◌+◌, ◌-◌, ◌<◌}
use native.Mathlib.Omega.{arith}
use mathlib.Core.Path.{◌≡◌, refl, sym, ap, ◌∙◌}
use Rattle.registers.specs.State.{state}
use Rattle.finishing.specs.Finish.{more, runs_done, finished}
use Rattle.finishing.proofs.FinishLaws.{none_more, no_run, goes_on, ends, refused_ends, is_spent, not_spent, run_few}
use Rattle.finishing.proofs.finish.Goals as goal

pub loop-done-init : goal.loop-done-init
unfolding finished
loop-done-init c = record { long = refl; few = omega arith; rest = none_more _ }

pub overflow_add-units : goal.overflow_add-units
overflow_add-units c = omega (arith, c.loop-done.invariant.few, c.loop-done-test.true, run_few _ c.in-Ok.ensures)

pub returns-in_default : goal.returns-in_default
returns-in_default c =
    let l = c.loop-done in
    let some : 0 < 272 - l.done = omega arith in
    refused_ends _ _ _ some c.in_default.ensures ∙ sym l.invariant.rest

pub returns-then-ne : goal.returns-then-ne
returns-then-ne c =
    let l = c.loop-done in
    let some : 0 < 272 - l.done = omega arith in
    no_run _ _ ∙ sym (l.invariant.rest ∙ ends _ _ _ some c.in-Ok.ensures (not_spent _ c.if-ne.ensures))

pub loop-done-preserved : goal.loop-done-preserved
loop-done-preserved c =
    let l = c.loop-done in
    let some : 0 < 272 - l.done = omega arith in
    let next : 272 - l.done - 1 ≡ 272 - (l.done + 1) = omega arith in
    let q = c.in-Ok.q in
    record {
      long = c.run.auto.mem ∙ l.invariant.long;
      few = omega (arith, l.invariant.few, run_few _ c.in-Ok.ensures);
      rest = l.invariant.rest ∙ goes_on _ _ _ some c.in-Ok.ensures (is_spent _ c.if-ne.ensures)
          ∙ ap (λ (k : ℕ). more (l.units + q.count) (runs_done k (state q.regs c.run.new.mem))) next;
    }

pub returns-after-loop-done : goal.returns-after-loop-done
returns-after-loop-done c =
    let l = c.loop-done in
    let none : 0 ≡ 272 - l.done = omega arith in
    no_run _ _ ∙ ap (λ (k : ℕ). more l.units (runs_done k (state l.regs l.mem))) none ∙ sym l.invariant.rest
