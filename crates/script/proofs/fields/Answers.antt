-- `fields` gives `fields_of`: the same test, on what the calls answer.
use mathlib.Core.Path.{sym, ◌∙◌}
use Rattle.script.specs.Line.{one_of, second_of}
use Rattle.script.proofs.LineLaws.{fields_none, fields_one, fields_first_wrong, fields_two}
use Rattle.script.proofs.fields.Goals as goal

pub returns-then-padded : goal.returns-then-padded
returns-then-padded c = fields_none _ _ (sym c.padded.ensures ∙ c.if-padded.true)

pub returns-in_err-number_of : goal.returns-in_err-number_of
unfolding one_of
returns-in_err-number_of c =
    c.from_residual.ensures
    ∙ fields_one _ _ (sym c.padded.ensures ∙ c.if-padded.false) c.end_of-e.ensures.1 c.if-e-s.true c.in_err-number_of.ensures

pub returns-then-e-s : goal.returns-then-e-s
unfolding one_of
returns-then-e-s c =
    fields_one _ _ (sym c.padded.ensures ∙ c.if-padded.false) c.end_of-e.ensures.1 c.if-e-s.true c.in_ok-number_of.ensures

pub returns-in_err-a : goal.returns-in_err-a
returns-in_err-a c =
    c.from_residual-in_err-a.ensures
    ∙ fields_first_wrong _ _ (sym c.padded.ensures ∙ c.if-padded.false) c.end_of-e.ensures.1 c.if-e-s.false c.in_err-a.ensures

pub returns-in_err-b : goal.returns-in_err-b
unfolding second_of
returns-in_err-b c =
    c.from_residual-in_err-b.ensures
    ∙ fields_two _ _ (sym c.padded.ensures ∙ c.if-padded.false) c.end_of-e.ensures.1 c.if-e-s.false c.in_ok-a.ensures c.in_err-b.ensures

pub returns : goal.returns
unfolding second_of
returns c =
    fields_two _ _ (sym c.padded.ensures ∙ c.if-padded.false) c.end_of-e.ensures.1 c.if-e-s.false c.in_ok-a.ensures
    c.in_ok-b.ensures
