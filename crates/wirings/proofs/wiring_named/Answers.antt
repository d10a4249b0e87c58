-- `wiring_named` gives `wiring_named`: the same tests.
use mathlib.Core.Path.{sym, ◌∙◌}
use mathlib.Core.Bool.{false≢true}
use Rattle.wirings.specs.Wired.{open_word, folded_word, wiring_named}
use Rattle.wirings.proofs.SameLaws.{same_yes, same_no}
use Rattle.wirings.proofs.wiring_named.Goals as goal

pub returns-then-same : goal.returns-then-same
unfolding wiring_named
returns-then-same c = rw (same_yes _ open_word (c.same.ensures.0 c.if-same.true))

pub returns-then-same-2 : goal.returns-then-same-2
unfolding wiring_named
returns-then-same-2 c =
    rw (
      same_no _ open_word (λ e. false≢true (sym c.if-same.false ∙ c.same.ensures.1 e)),
      same_yes _ folded_word (c.same-2.ensures.0 c.if-same-2.true),
    )

pub returns : goal.returns
unfolding wiring_named
returns c =
    rw (
      same_no _ open_word (λ e. false≢true (sym c.if-same.false ∙ c.same.ensures.1 e)),
      same_no _ folded_word (λ e. false≢true (sym c.if-same-2.false ∙ c.same-2.ensures.1 e)),
    )
