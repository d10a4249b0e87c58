-- `data_taken`: what is left to take from here, with the entries so far, is what was to take from the start; a byte leaves its set
-- half-sent (`half_sent`) or completes it (`completed`), and the loop ends behind the last entry or at a command.
use Prim.Native.Nat.{ℕ, ◌+◌}
use mathlib.Core.Path.{refl, sym, ap, ◌∙◌}
use lib.ListN.{drop}
use Rattle.settings.specs.declared.Settings.{Settings}
use Rattle.settings.specs.Settings.{settled, data_all}
use Rattle.settings.proofs.DataLaws.{beyond, within, in_progress, none_before, one_before, all_before, half_sent, completed}
use Rattle.settings.proofs.DataLaws.{data_ended, data_broken}
use Rattle.settings.proofs.data_taken.Goals as goal
use Rattle.settings.proofs.data_taken.Goals.{then-half, else-half, else-loop-e-test, then-loop-e-test+then-e-ge256}

pub loop-e-init : goal.loop-e-init
loop-e-init c =
    let a = c.args in
    record {
      counted = refl;
      long = refl;
      rest = none_before 0 _
          ∙ ap (λ (p : Settings). beyond 0 (data_all a.sync a.t p a.entries.now a.mem.now)) (in_progress _ a.from c.requires _ _ _);
    }

pub loop-e-preserved : goal.loop-e-preserved
loop-e-preserved c =
    let l = c.loop-e in
    let a = c.args in
    let more = c.loop-e-test.true in
    let byte = c.if-e-ge256.false in
    record {
      counted = ap (λ (n : ℕ). n + 1) l.invariant.counted;
      long = c.if-half.auto.mem ∙ l.invariant.long;
      rest = l.invariant.rest
          ∙ ap (beyond l.e-index)
          (elim c.if-half.branch [
            | then-half w ↦
                half_sent _ a.from _ _ _ _ _ _ _ more byte (sym c.half.ensures ∙ w.if-half.true) w.mem-is w.cursor-is w.next-is w.low-is
            | else-half w ↦ completed _ a.from _ _ _ _ _ _ _ more byte _ (sym c.half.ensures ∙ w.if-half.false)
                c.bit_mapped-mapped.ensures w.set_pattern-pattern.ensures
                (w.mem-is ∙ w.cycle.ensures)
                (w.cursor-is ∙ w.word_move-cursor.ensures) w.next-is w.low-is
          ])
          ∙ one_before _ _;
    }

pub returns : goal.returns
returns c =
    let l = c.loop-e in
    let a = c.args in
    let from_here = within a.t a.from l.cursor l.next l.low in
    ap (λ (p : Settings). settled (record { settings = p; count = l.count }) l.mem)
    (in_progress _ a.from c.requires _ _ _)
    ∙ all_before _ from_here _
    (elim c.loop-e-test.branch [
      | else-loop-e-test w ↦ data_ended _ a.from _ _ _ _ _ _ _ w.loop-e-test.false
      | then-loop-e-test+then-e-ge256 w ↦ data_broken _ a.from _ _ _ _ _ _ _ w.loop-e-test.true w.if-e-ge256.true
    ])
    ∙ ap (λ (n : ℕ). beyond n (data_all a.sync a.t from_here (drop l.e-index a.entries.now) l.mem)) l.invariant.counted
    ∙ sym l.invariant.rest
