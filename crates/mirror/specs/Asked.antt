-- What the exported functions answer: what the controller answers, in plain numbers; and to what is no register set, "1 register
-- set unsound", with "the set given, 0". What a port answers is in crate bus, `asked`.
use Rattle.std.specs.Prelude.{ℕ, cond, List}
use Rattle.units.specs.declared.Ran.{Ran}
use Rattle.units.specs.Run.{Outcome as Run}
use Rattle.sends.specs.declared.Listed.{Listed}
use Rattle.sends.specs.Sends.{ListOutcome}
use Rattle.blocks.specs.Answer.{answer}
use Rattle.sheets.specs.Sheet.{Outcome as Sheet, outcome as sheet}
use Rattle.plain.specs.declared.PlainRegisters.{PlainRegisters}
use Rattle.bus.specs.declared.PlainAnswer.{PlainAnswer}
use Rattle.mirror.specs.declared.PlainRan.{PlainRan}
use Rattle.mirror.specs.declared.PlainReport.{PlainReport}
use Rattle.mirror.specs.declared.PlainReply.{PlainReply}
use Rattle.mirror.specs.declared.PlainSent.{PlainSent}
use Rattle.mirror.specs.declared.PlainTally.{PlainTally}
use Rattle.mirror.specs.declared.PlainTranslation.{PlainTranslation}
use Rattle.mirror.specs.declared.PlainCost.{PlainCost}
use Rattle.costs.specs.declared.Cost.{Cost}
use Rattle.plain.specs.Form.{plain_form_b}
use Rattle.plain.specs.Mirror.{to_plain}

-- a port by reference: the reply and the registers behind the reference together are the answer by value
abbrev pub reply_of : PlainAnswer → PlainReply
reply_of d = record { number = d.number; value = d.value }

abbrev pub replied : PlainReply → PlainRegisters → PlainAnswer
replied q r = record { number = q.number; value = q.value; regs = r }

-- a run's answer, with the memory that it leaves
pub record Plained : Type 0 where
  pub ran : PlainRan
  pub mem : List ℕ

abbrev pub plained : PlainRan → List ℕ → Plained
plained q m = record { ran = q; mem = m }

abbrev pub ran_plain : Ran → PlainRan
ran_plain d = record { number = d.number; count = d.count; why = d.why; regs = to_plain d.regs }

-- a run asked with p and the memory m, where the controller would answer o; memory is "unaltered by a refusal"
abbrev pub ran_on : PlainRegisters → List ℕ → Run → Plained
ran_on p m o =
    cond (plain_form_b p) (plained (ran_plain o.ran) o.mem) (plained (record { number = 1; count = 0; why = 0; regs = p }) m)

-- the same run by reference: the report, the registers behind the reference and the memory together are the answer by value
abbrev pub report_of : PlainRan → PlainReport
report_of d = record { number = d.number; count = d.count; why = d.why }

abbrev pub report : PlainReport → PlainRegisters → List ℕ → Plained
report q r m = plained (record { number = q.number; count = q.count; why = q.why; regs = r }) m

-- a list's answer, with the memory that it leaves
pub record Delivered : Type 0 where
  pub sent : PlainSent
  pub mem : List ℕ

abbrev pub delivered : PlainSent → List ℕ → Delivered
delivered q m = record { sent = q; mem = m }

abbrev pub sent_plain : Listed → PlainSent
sent_plain d = record { number = d.number; taken = d.taken; units = d.units; regs = to_plain d.regs }

-- a list sent with p and the memory m, where the controller would answer o
abbrev pub sent_on : PlainRegisters → List ℕ → ListOutcome → Delivered
sent_on p m o =
    cond (plain_form_b p) (delivered (sent_plain o.list) o.mem)
    (delivered (record { number = 1; taken = 0; units = 0; regs = p }) m)

-- the same list by reference: the tally, the registers behind the reference and the memory together are the answer by value
abbrev pub tally_of : PlainSent → PlainTally
tally_of d = record { number = d.number; taken = d.taken; units = d.units }

abbrev pub tallied : PlainTally → PlainRegisters → List ℕ → Delivered
tallied q r m = delivered (record { number = q.number; taken = q.taken; units = q.units; regs = r }) m

-- a translation's answer and the output's content are the translator's
abbrev pub told : PlainTranslation → List ℕ → Sheet
told q o = sheet (answer q.number q.first q.second) o

-- what a cost answers
abbrev pub costed : PlainCost → Cost
costed q = record { number = q.number; first = q.first; second = q.second; figures = q.figures; units = q.units }
