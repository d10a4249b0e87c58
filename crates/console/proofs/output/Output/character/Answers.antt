-- `character` gives `with_character`: whether the room was full decides, and then whether it has any place.
use native.Mathlib.Omega.{arith}
use mathlib.Core.Path.{◌∙◌}
use Rattle.console.proofs.OutputLaws.{full, was_full, puts_more, puts_first, puts_nowhere}
use Rattle.console.proofs.output.Output.character.Goals as goal
use Rattle.console.proofs.output.Output.character.Goals.{then-self, else-self}

pub returns-then-self-2-clause-holds : goal.returns-then-self-2-clause-holds
returns-then-self-2-clause-holds c = elim c.if-self.branch [
  | then-self w ↦ puts_first _ _ _ _ (c.self-2.view_is ∙ w.self-is ∙ w.flush.ensures) (full _ _ c.self.view_is w.if-self.true)
      c.if-self-2.true
  | else-self w ↦ puts_more _ _ _ (c.self-2.view_is ∙ w.self-is) c.if-self-2.true
]

pub returns-else-self-2-clause-holds : goal.returns-else-self-2-clause-holds
returns-else-self-2-clause-holds c = elim c.if-self.branch [
  | then-self w ↦ w.self-is ∙ w.flush.ensures ∙ puts_nowhere _ _ _ _ (c.self-2.view_is ∙ w.self-is ∙ w.flush.ensures)
      (full _ _ c.self.view_is w.if-self.true) c.self-2.invariant c.if-self-2.false
  | else-self w ↦ absurd (w.if-self.false (was_full _ _ c.self.view_is c.self.invariant
      (full _ _ (c.self-2.view_is ∙ w.self-is) (omega (arith, c.self-2.invariant, c.if-self-2.false)))))
]
