-- `decode` gives `decoded_of`: one law of DecodeLaws for each way out.
use mathlib.Core.Path.{sym, ◌∙◌}
use Rattle.records.proofs.DecodeLaws.{misformed, unknown, misfactored, out_of_range, stands_for}
use Rattle.records.proofs.decode.Goals as goal

pub returns-then-not-formed : goal.returns-then-not-formed
returns-then-not-formed c = misformed _ _ (sym c.formed.ensures ∙ c.if-not-formed.true)

pub returns-then-not-known : goal.returns-then-not-known
returns-then-not-known c =
    unknown _ _ (sym c.formed.ensures ∙ c.if-not-formed.false)
    (sym c.known.ensures ∙ c.if-not-known.true)

pub returns-then-not-factored : goal.returns-then-not-factored
returns-then-not-factored c =
    misfactored _ _ (sym c.formed.ensures
    ∙ c.if-not-formed.false)
    (sym c.known.ensures ∙ c.if-not-known.false)
    (sym c.factored.ensures ∙ c.if-not-factored.true)

pub returns-then-not-radius_right : goal.returns-then-not-radius_right
returns-then-not-radius_right c =
    out_of_range _ _ (sym c.formed.ensures
    ∙ c.if-not-formed.false)
    (sym c.known.ensures ∙ c.if-not-known.false)
    (sym c.factored.ensures ∙ c.if-not-factored.false)
    (sym c.radius_right.ensures ∙ c.if-not-radius_right.true)

pub returns : goal.returns
returns c =
    rw (c.figure_of.ensures, c.from.ensures)
    (stands_for _ _ (sym c.formed.ensures
    ∙ c.if-not-formed.false)
    (sym c.known.ensures ∙ c.if-not-known.false)
    (sym c.factored.ensures ∙ c.if-not-factored.false)
    (sym c.radius_right.ensures ∙ c.if-not-radius_right.false))
