-- The contracts of `board_run` and `board_send` leave one answer, one register set behind the reference and one memory: two that both
-- meet one of them are equal. True since each of the three is read off the outcome that the contract fixes.
use mathlib.Core.List.{List}
use Prim.Native.Nat.{ℕ}
use mathlib.Core.Path.{◌≡◌, sym, ◌∙◌}
use Rattle.registers.specs.declared.Registers.{Registers}
use Rattle.units.specs.Run.{Outcome}
use Rattle.sends.specs.Sends.{ListOutcome}
use Rattle.board.specs.declared.Report.{Report}
use Rattle.board.specs.declared.Tally.{Tally}
use Rattle.board.specs.Board.{report, tallied}

pub only :
    (x : Outcome) (q q' : Report) (k k' : Registers) (m m' : List ℕ)
    → report q k m ≡ x
    → report q' k' m' ≡ x
    → (q ≡ q') × (k ≡ k') × (m ≡ m')
only x q q' k k' m m' e f =
    let p = e ∙ sym f in
    ((λ i. record { number = (p i).ran.number; count = (p i).ran.count; why = (p i).ran.why }), (λ i. (p i).ran.regs), (λ i. (p i).mem))

pub only_sent :
    (x : ListOutcome) (q q' : Tally) (k k' : Registers) (m m' : List ℕ)
    → tallied q k m ≡ x
    → tallied q' k' m' ≡ x
    → (q ≡ q') × (k ≡ k') × (m ≡ m')
only_sent x q q' k k' m m' e f =
    let p = e ∙ sym f in (
      (λ i. record { number = (p i).list.number; taken = (p i).list.taken; units = (p i).list.units }),
      (λ i. (p i).list.regs),
      (λ i. (p i).mem),
    )
