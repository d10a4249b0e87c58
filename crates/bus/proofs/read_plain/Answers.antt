-- `read_plain` answers what the port gives, with the buffer then (`reads`).
use Rattle.bus.proofs.BytesLaws.{reads}
use Rattle.bus.specs.Bytes.{answer_held}
use mathlib.Core.Path.{ap, ◌∙◌}
use Rattle.bus.proofs.read_plain.Goals as goal

pub returns : goal.returns
returns c =
    let a = c.args in
    c.answer_held.ensures ∙ ap (answer_held a.p) c.read_held.ensures ∙ reads a.p a.port
