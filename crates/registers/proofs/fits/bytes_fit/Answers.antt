-- `bytes_fit` is the definition in read mode: where all sixteen are bytes the count alone is left to ask.
use Rattle.registers.proofs.BufferLaws.{bytes_enough}
use mathlib.Core.Path.{sym, ◌∙◌}
use Rattle.registers.proofs.fits.bytes_fit.Goals as goal

pub returns-then-entries_fit : goal.returns-then-entries_fit
returns-then-entries_fit c =
    let b = c.args.b in
    bytes_enough b.count b.entries (sym c.entries_fit.ensures ∙ c.if-entries_fit.true)
