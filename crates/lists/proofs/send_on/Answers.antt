-- `send_on`: after k entries, what is left to send from here, with the units so far, is what was to send from the start. Both ways
-- of a turn keep that: entries that only set registers, and one entry.
use native.Mathlib.Omega.{arith}
use mathlib.Core.Path.{refl, sym, ◌∙◌}
use Rattle.laws.proofs.KeptLaws.{lawful}
use Rattle.laws.proofs.TypedLaws.{held_typed, held_words}
use Rattle.sends.proofs.SendLaws.{starts, all_taken}
use Rattle.lists.proofs.QuickLaws.{units_fit, sets_on, sends_some, sends_on, sends_no_more}
use Rattle.lists.proofs.send_on.Goals as goal

pub loop-k-init : goal.loop-k-init
loop-k-init c =
    record {
      right = c.requires.1.0;
      short = c.requires.1.1;
      within = omega arith;
      few = omega arith;
      whole = record {
        regs = lawful _ c.requires.0 (held_typed _ _ c.well_formed.0);
        words = held_words c.args.mem.now c.slice_known-1.given;
        long = refl;
      };
      rest = starts _ _;
    }

pub overflow_add-units : goal.overflow_add-units
overflow_add-units c =
    let g =
    sets_on c.loop-k.invariant c.loop-k-test.true
    c.set_at-set.ensures c.if-set-gt0.true
    c.with_settings-s.ensures in
    omega (arith, units_fit g)

pub overflow_add-k : goal.overflow_add-k
overflow_add-k c =
    let g =
    sets_on c.loop-k.invariant c.loop-k-test.true
    c.set_at-set.ensures c.if-set-gt0.true
    c.with_settings-s.ensures in
    omega (arith, g.within, g.short)

pub loop-k-smaller-then-set-gt0 : goal.loop-k-smaller-then-set-gt0
loop-k-smaller-then-set-gt0 c =
    omega (
      arith,
      c.loop-k-test.true,
      c.if-set-gt0.true,
    )

pub loop-k-preserved-then-set-gt0 : goal.loop-k-preserved-then-set-gt0
loop-k-preserved-then-set-gt0 c =
    sets_on c.loop-k.invariant c.loop-k-test.true
    c.set_at-set.ensures c.if-set-gt0.true
    c.with_settings-s.ensures

pub shape_of-mem-then-q-ne0 : goal.shape_of-mem-then-q-ne0
shape_of-mem-then-q-ne0 c =
    c.send_first-q.auto.mem ∙ c.set_at-set.auto.mem
    ∙ c.loop-k.invariant.whole.long

pub returns-then-q-ne0 : goal.returns-then-q-ne0
returns-then-q-ne0 c =
    sends_no_more c.loop-k.invariant
    c.loop-k-test.true c.set_at-set.ensures
    c.if-set-gt0.false
    c.send_first-q.ensures c.if-q-ne0.true

pub overflow_add-units-else-set-gt0 : goal.overflow_add-units-else-set-gt0
overflow_add-units-else-set-gt0 c =
    let g =
    sends_on c.loop-k.invariant
    c.loop-k-test.true c.set_at-set.ensures
    c.if-set-gt0.false
    c.send_first-q.ensures c.if-q-ne0.false in
    omega (arith, units_fit g)

pub overflow_add-k-else-set-gt0 : goal.overflow_add-k-else-set-gt0
overflow_add-k-else-set-gt0 c =
    let g =
    sends_on c.loop-k.invariant
    c.loop-k-test.true c.set_at-set.ensures
    c.if-set-gt0.false
    c.send_first-q.ensures c.if-q-ne0.false in
    omega (arith, g.within, g.short)

pub loop-k-smaller : goal.loop-k-smaller
loop-k-smaller c =
    let some =
    sends_some c.loop-k.invariant
    c.loop-k-test.true c.set_at-set.ensures
    c.if-set-gt0.false
    c.send_first-q.ensures c.if-q-ne0.false in
    omega (arith, c.loop-k-test.true, some)

pub loop-k-preserved : goal.loop-k-preserved
loop-k-preserved c =
    sends_on c.loop-k.invariant
    c.loop-k-test.true c.set_at-set.ensures
    c.if-set-gt0.false
    c.send_first-q.ensures c.if-q-ne0.false

pub shape_of-mem : goal.shape_of-mem
shape_of-mem c = c.loop-k.invariant.whole.long

pub returns : goal.returns
returns c = let l = c.loop-k in sym (l.invariant.rest ∙ all_taken _ _ _ _ c.loop-k-test.false)
