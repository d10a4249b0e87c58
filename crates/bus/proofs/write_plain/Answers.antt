-- `write_plain` answers what its port gives: RESET and a command in read mode go through the controller (`turns_on`), of the rest the
-- buffer alone changes (`writes`).
use Rattle.bus.proofs.BytesLaws.{turns_on, writes}
use mathlib.Core.Path.{sym, ◌∙◌}
use Rattle.bus.proofs.write_plain.Goals as goal

pub returns-then-turns : goal.returns-then-turns
returns-then-turns c =
    let a = c.args in
    turns_on a.p a.e (sym c.turns.ensures ∙ c.if-turns.true)
    c.command-a.ensures

pub returns-else-turns : goal.returns-else-turns
returns-else-turns c =
    let a = c.args in
    writes a.p a.e (sym c.turns.ensures ∙ c.if-turns.false)
    c.written_held-h.ensures
