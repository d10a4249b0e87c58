-- `check_slot` gives `slot_answer`: an unused slot has no refusal.
use Prim.Native.Nat.{ℕ, ◌/◌, ◌%◌}
use mathlib.Core.Path.{refl, sym, ap, ◌∙◌}
use Rattle.blocks.specs.Answer.{answer}
use Rattle.blocks.proofs.AnswerLaws.{fault_told}
use Rattle.refusals.proofs.RefusalLaws.{not_refused, number_is}
use Rattle.refusals.proofs.check_slot.Goals as goal

pub returns-then-not-used : goal.returns-then-not-used
returns-then-not-used c =
    ap (λ (y : ℕ). answer y (c.args.k / 50) (c.args.k % 50)) (not_refused _ _ _ (sym c.used.ensures ∙ c.if-not-used.true))

pub returns-in-Ok : goal.returns-in-Ok
returns-in-Ok c =
    ap (λ (y : ℕ). answer y (c.args.k / 50) (c.args.k % 50))
    (number_is _ _ _ (sym c.used.ensures ∙ c.if-not-used.false) c.in-Ok.ensures refl)

pub returns-in-Err : goal.returns-in-Err
returns-in-Err c =
    ap (λ (y : ℕ). answer y (c.args.k / 50) (c.args.k % 50))
    (number_is _ _ _ (sym c.used.ensures ∙ c.if-not-used.false) c.in-Err.ensures (rw c.into.ensures (fault_told _)))
