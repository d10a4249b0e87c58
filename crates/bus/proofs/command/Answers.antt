-- `command` refuses what does not fit; else it answers what the command port gives, by the byte and the mode.
use Rattle.bus.proofs.BytesLaws.{turned_away, resets, turns_back, queues}
use Rattle.bus.specs.Bytes.{granted_plain, answer_held}
use mathlib.Core.Path.{sym, ap, ◌∙◌}
use Rattle.bus.proofs.command.Goals as goal

pub returns-then-not-fits : goal.returns-then-not-fits
returns-then-not-fits c =
    let a = c.args in
    c.refuse.ensures ∙ turned_away a.r a.byte (sym c.fits.ensures ∙ c.if-not-fits.true)

pub returns-then-byte-eq0 : goal.returns-then-byte-eq0
returns-then-byte-eq0 c =
    let a = c.args in
    c.grant.ensures ∙ ap granted_plain c.reset_plain.ensures
    ∙ resets a.r a.byte (sym c.fits.ensures ∙ c.if-not-fits.false)
    c.if-byte-eq0.true

pub returns-then-r-ne0 : goal.returns-then-r-ne0
returns-then-r-ne0 c =
    let a = c.args in
    c.grant-then-r-ne0.ensures ∙ ap granted_plain c.turned_plain.ensures
    ∙ turns_back a.r a.byte (sym c.fits.ensures
    ∙ c.if-not-fits.false) c.if-byte-eq0.false
    c.if-r-ne0.true

pub returns : goal.returns
returns c =
    let a = c.args in
    c.answer_held.ensures ∙ ap (answer_held a.r) c.held_written.ensures
    ∙ queues a.r a.byte (sym c.fits.ensures
    ∙ c.if-not-fits.false) c.if-byte-eq0.false
    c.if-r-ne0.false
