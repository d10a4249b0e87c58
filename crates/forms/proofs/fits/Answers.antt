-- `fits` asks the four tests in turn, and ends at the first that fails; together they are the form and the soundness (`by_parts`).
use Rattle.forms.proofs.FitLaws.{by_parts}
use mathlib.Core.Path.{refl, sym, ◌∙◌}
use Rattle.forms.proofs.fits.Goals as goal
use Rattle.forms.proofs.fits.Goals.{then-numbers_fit, else-numbers_fit, then-command_formed, else-command_formed}

pub returns-then-work_fits : goal.returns-then-work_fits
returns-then-work_fits c =
    elim c.if-command_formed.branch [
      | then-command_formed w ↦ elim c.if-numbers_fit.branch [
        | then-numbers_fit v ↦ by_parts c.args.p (sym v.if-numbers_fit.true ∙ c.numbers_fit.ensures)
            (sym w.if-command_formed.true ∙ v.value-is ∙ v.command_formed.ensures)
            (sym c.if-work_fits.true ∙ w.value-is ∙ w.work_fits.ensures)
            (rw (c.into.ensures, c.mode_of.ensures) at c.buffer_fits.ensures)
        | else-numbers_fit v ↦ cc
      ]
      | else-command_formed w ↦ cc
    ]

pub returns-else-work_fits : goal.returns-else-work_fits
returns-else-work_fits c =
    c.if-work_fits.false
    ∙ (elim c.if-command_formed.branch [
      | then-command_formed w ↦ elim c.if-numbers_fit.branch [
        | then-numbers_fit v ↦ by_parts c.args.p (sym v.if-numbers_fit.true ∙ c.numbers_fit.ensures)
            (sym w.if-command_formed.true ∙ v.value-is ∙ v.command_formed.ensures)
            (sym c.if-work_fits.false ∙ w.value-is ∙ w.work_fits.ensures)
            refl
        | else-numbers_fit v ↦ cc
      ]
      | else-command_formed w ↦ elim c.if-numbers_fit.branch [
        | then-numbers_fit v ↦ by_parts c.args.p (sym v.if-numbers_fit.true ∙ c.numbers_fit.ensures)
            (sym w.if-command_formed.false ∙ v.value-is ∙ v.command_formed.ensures)
            refl refl
        | else-numbers_fit v ↦ by_parts c.args.p (sym v.if-numbers_fit.false ∙ c.numbers_fit.ensures) refl refl refl
      ]
    ])
