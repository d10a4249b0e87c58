-- `settle`: what is left to take from here, with the entries so far, is what was to take from the start. A turn takes a command
-- (`by_command`), a parameter of the command in progress (`by_parameter`) or a stretch of WDAT's bytes (`by_data`); the loop ends behind
-- the last entry or before one that does more.
use native.Mathlib.Omega.{arith}
use mathlib.Core.Path.{refl, sym, ap, ◌∙◌}
use Rattle.settings.specs.Put.{set_pitch, set_drawing, set_ram, set_zoom}
use Rattle.settings.proofs.CommandLaws.{not_setting, settable_parameter}
use Rattle.settings.proofs.DataLaws.{none_before, all_before}
use Rattle.settings.proofs.SettleLaws.{Onward, counting, by_command, by_parameter, by_data, data_counted, settle_ended, settle_past}
use Rattle.settings.proofs.SettleLaws.{turned, ram_by_length}
use borrow.Author.Rules.{rules}
use Rattle.registers.proofs.BoolLaws.{false_true}
use borrow.Enum.Refused.{opened}
use Rattle.settings.proofs.settle.Goals as goal
use Rattle.settings.proofs.settle.Goals.{After-row_known-1, then-e-ge256, else-e-ge256+in-Figs, else-e-ge256+in-Curs, else-e-ge256+in-Mask}
use Rattle.settings.proofs.settle.Goals.{else-e-ge256+in-Pram}
use Rattle.settings.proofs.settle.Goals.{else-e-ge256+in-Zoom, else-e-ge256+in-Pitch, else-e-ge256+in-Wdat, else-e-ge256+in_default}
use Rattle.settings.proofs.settle.Goals.{else-loop-at-test, then-loop-at-test+then-not-settable}

pub loop-at-init : goal.loop-at-init
loop-at-init c = record { past = omega arith; long = refl; rest = none_before _ _ }

-- what a turn does, by the way that it went
turn : (c : After-row_known-1)
    → Onward c.args.sync c.args.entries.now c.loop-at.at c.loop-at.p c.loop-at.mem c.if-e-ge256.at c.if-e-ge256.p c.if-e-ge256.mem
turn c =
    let p = c.loop-at.p in
    let more = c.loop-at-test.true in
    let ok = sym c.settable.ensures ∙ c.if-not-settable.false in
    elim c.if-e-ge256.branch [
      | then-e-ge256 w ↦ by_command _ _ _ _ _ more ok w.at-is w.if-e-ge256.true w.begin-p.ensures w.mem-is w.p-is
      | else-e-ge256+in-Figs w ↦ by_parameter _ _ _ _ _ more ok w.at-is w.if-e-ge256.false w.in-Figs.is w.next_of-p.ensures w.mem-is
          (w.p-is ∙ ap (set_drawing (counting p w.next_of-p.result)) w.figs_byte-p.ensures) refl
      | else-e-ge256+in-Curs w ↦ by_parameter _ _ _ _ _ more ok w.at-is w.if-e-ge256.false w.in-Curs.is w.next_of-p.ensures w.mem-is
          (cc) refl
      | else-e-ge256+in-Mask w ↦ by_parameter _ _ _ _ _ more ok w.at-is w.if-e-ge256.false w.in-Mask.is w.next_of-p.ensures w.mem-is
          (cc) refl
      | else-e-ge256+in-Pram w ↦ by_parameter _ _ _ _ _ more ok w.at-is w.if-e-ge256.false w.in-Pram.is w.next_of-p.ensures w.mem-is
          (w.p-is ∙ ap (set_ram (counting p w.next_of-p.result)) (w.put_at.ensures ∙ ram_by_length _ _ p.ram (search rules))) refl
      | else-e-ge256+in-Zoom w ↦ by_parameter _ _ _ _ _ more ok w.at-is w.if-e-ge256.false w.in-Zoom.is w.next_of-p.ensures w.mem-is
          (w.p-is ∙ ap (set_zoom (counting p w.next_of-p.result)) w.first_or.ensures) refl
      | else-e-ge256+in-Pitch w ↦ by_parameter _ _ _ _ _ more ok w.at-is w.if-e-ge256.false w.in-Pitch.is w.next_of-p.ensures w.mem-is
          (w.p-is ∙ ap (set_pitch (counting p w.next_of-p.result)) w.first_or-in-Pitch.ensures) refl
      | else-e-ge256+in-Wdat w ↦ by_data _ _ _ _ _ more w.in-Wdat.t w.if-e-ge256.false w.in-Wdat.is w.data_taken-q.ensures
          w.data_taken-q.auto.mem w.mem-is w.p-is w.at-is
      | else-e-ge256+in_default w ↦
          absurd (false_true (not_setting p.progress.command (opened w.in_default.in_default-own.keys8)
          ∙ settable_parameter _ _ w.if-e-ge256.false ok))
    ]

pub data_taken-q-requires : goal.data_taken-q-requires
data_taken-q-requires c = c.in-Wdat.is

pub loop-at-preserved : goal.loop-at-preserved
loop-at-preserved c =
    let l = c.loop-at in
    let o = turn c in
    record {
      past = omega (arith, l.invariant.past, o.past);
      long = o.long ∙ l.invariant.long;
      rest = l.invariant.rest ∙ turned _ _ _ _ _ _ _ _ _ l.invariant.past o;
    }

pub overflow_sub-at : goal.overflow_sub-at
overflow_sub-at c = (data_counted _ _ _ c.loop-at.p _ c.loop-at-test.true _ c.if-e-ge256.false c.data_taken-q.ensures).0

pub overflow_add-at : goal.overflow_add-at
overflow_add-at c =
    let n = data_counted _ _ _ c.loop-at.p _ c.loop-at-test.true _ c.if-e-ge256.false c.data_taken-q.ensures in
    omega (arith, n.0, n.1, c.well_formed)

pub overflow_add-at-in-loop-at : goal.overflow_add-at-in-loop-at
overflow_add-at-in-loop-at c = omega (arith, (turn c).inside)

pub overflow_sub-result : goal.overflow_sub-result
overflow_sub-result c = omega (arith, c.loop-at.invariant.past)

pub shape_of-mem : goal.shape_of-mem
shape_of-mem c = c.loop-at.invariant.long

pub returns : goal.returns
returns c =
    let l = c.loop-at in
    all_before _ l.p _
    (elim c.loop-at-test.branch [
      | else-loop-at-test w ↦ settle_past _ _ _ l.p _ w.loop-at-test.false
      | then-loop-at-test+then-not-settable w ↦
          settle_ended _ _ _ l.p _ w.loop-at-test.true (sym w.settable.ensures ∙ w.if-not-settable.true)
    ])
    ∙ sym l.invariant.rest
