-- The exported functions against the controller: on the plain numbers of a register set each is the controller's own function; and
-- the contracts of those that change a lent buffer leave one answer and one content. True by the conversions' laws, and since each
-- part is read off the outcome that the contract fixes.
use Prim.Native.Nat.{ℕ}
use mathlib.Core.Path.{◌≡◌, sym, ◌∙◌}
use mathlib.Core.Bool.{true}
use mathlib.Core.List.{List}
use Rattle.registers.specs.declared.Registers.{Registers}
use Rattle.registers.specs.State.{state}
use Rattle.units.specs.Run.{run_done}
use Rattle.ports.specs.declared.Answer.{Answer}
use Rattle.sends.specs.Sends.{list_sent}
use Rattle.sheets.specs.Sheet.{Outcome as Sheet}
use Rattle.plain.specs.declared.PlainRegisters.{PlainRegisters}
use Rattle.bus.specs.declared.PlainAnswer.{PlainAnswer}
use Rattle.mirror.specs.declared.PlainReply.{PlainReply}
use Rattle.mirror.specs.declared.PlainRan.{PlainRan}
use Rattle.mirror.specs.declared.PlainReport.{PlainReport}
use Rattle.mirror.specs.declared.PlainTally.{PlainTally}
use Rattle.mirror.specs.declared.PlainTranslation.{PlainTranslation}
use Rattle.plain.specs.Form.{plain_form_b}
use Rattle.plain.specs.Mirror.{from_plain, to_plain}
use Rattle.bus.specs.Asked.{answer_plain, asked}
use Rattle.mirror.specs.Asked.{replied, Plained, plained, ran_plain, ran_on, report, told}
use Rattle.mirror.specs.Asked.{Delivered, delivered, sent_plain, sent_on, tallied}
use Rattle.plain.proofs.MirrorLaws.{from_to, formed_to}

-- a port
pub asked_is : (f : Registers → Answer) (r : Registers) → asked (to_plain r) (f (from_plain (to_plain r))) ≡ answer_plain (f r)
asked_is f r = rw (formed_to r, from_to r)

-- the run
pub run_is : (n : ℕ) (r : Registers) (m : List ℕ) → ran_on (to_plain r) m (run_done n (state (from_plain (to_plain r)) m))
    ≡ plained (ran_plain (run_done n (state r m)).ran) (run_done n (state r m)).mem
run_is n r m = rw (formed_to r, from_to r)

-- a list of entries
pub send_is : (l : List ℕ) (r : Registers) (m : List ℕ) → sent_on (to_plain r) m (list_sent (state (from_plain (to_plain r)) m) l)
    ≡ delivered (sent_plain (list_sent (state r m) l).list) (list_sent (state r m) l).mem
send_is l r m = rw (formed_to r, from_to r)

-- a register set that comes back may be handed in again
pub formed_again : (a : Answer) → plain_form_b (answer_plain a).regs ≡ true
formed_again a = formed_to a.regs

-- one answer and one register set of `kranichseil_board_write` and `kranichseil_board_read`
pub only_reply : (x : PlainAnswer) (q q' : PlainReply) (k k' : PlainRegisters) → replied q k ≡ x → replied q' k' ≡ x → (q ≡ q') × (k ≡ k')
only_reply x q q' k k' e f = let p = e ∙ sym f in ((λ i. record { number = (p i).number; value = (p i).value }), (λ i. (p i).regs))

-- one answer and one memory of `kranichseil_run`
pub only_run : (x : Plained) (q q' : PlainRan) (m m' : List ℕ) → plained q m ≡ x → plained q' m' ≡ x → (q ≡ q') × (m ≡ m')
only_run x q q' m m' e f = let p = e ∙ sym f in ((λ i. (p i).ran), (λ i. (p i).mem))

-- one answer, one register set and one memory of `kranichseil_board_run`
pub only_board_run :
    (x : Plained) (q q' : PlainReport) (k k' : PlainRegisters) (m m' : List ℕ)
    → report q k m ≡ x
    → report q' k' m' ≡ x
    → (q ≡ q') × (k ≡ k') × (m ≡ m')
only_board_run x q q' k k' m m' e f =
    let p = e ∙ sym f in
    ((λ i. record { number = (p i).ran.number; count = (p i).ran.count; why = (p i).ran.why }), (λ i. (p i).ran.regs), (λ i. (p i).mem))

-- one answer, one register set and one memory of `kranichseil_board_send`
pub only_board_send :
    (x : Delivered) (q q' : PlainTally) (k k' : PlainRegisters) (m m' : List ℕ)
    → tallied q k m ≡ x
    → tallied q' k' m' ≡ x
    → (q ≡ q') × (k ≡ k') × (m ≡ m')
only_board_send x q q' k k' m m' e f =
    let p = e ∙ sym f in (
      (λ i. record { number = (p i).sent.number; taken = (p i).sent.taken; units = (p i).sent.units }),
      (λ i. (p i).sent.regs),
      (λ i. (p i).mem),
    )

-- one answer and one output of `kranichseil_translate`
pub only_translate : (x : Sheet) (q q' : PlainTranslation) (o o' : List ℕ) → told q o ≡ x → told q' o' ≡ x → (q ≡ q') × (o ≡ o')
only_translate x q q' o o' e f =
    let p = e ∙ sym f in
    ((λ i. record { number = (p i).answer.number; first = (p i).answer.first; second = (p i).answer.second }), (λ i. (p i).out))
