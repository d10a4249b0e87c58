-- What a port answers in plain numbers: what the controller answers; and to what is no register set, "1 register set unsound", with "the
-- set given, 0".
use Rattle.std.specs.Prelude.{ℕ, cond, eqb}
use Rattle.registers.specs.declared.Registers.{Registers}
use Rattle.ports.specs.declared.Answer.{Answer}
use Rattle.ports.specs.Port.{byte_read, status_read}
use Rattle.plain.specs.declared.PlainRegisters.{PlainRegisters}
use Rattle.plain.specs.Form.{plain_form_b}
use Rattle.plain.specs.Mirror.{to_plain}
use Rattle.bus.specs.declared.PlainAnswer.{PlainAnswer}

abbrev pub answer_plain : Answer → PlainAnswer
answer_plain a = record { number = a.number; value = a.value; regs = to_plain a.regs }

abbrev pub refused_plain : PlainRegisters → PlainAnswer
refused_plain p = record { number = 1; value = 0; regs = p }

-- a port asked with p, where the controller would answer a
abbrev pub asked : PlainRegisters → Answer → PlainAnswer
asked p a = cond (plain_form_b p) (answer_plain a) (refused_plain p)

-- the port that is read: 0 has the status, any other the oldest byte
abbrev pub read_from : ℕ → Registers → Answer
read_from port r = cond (eqb port 0) (status_read r) (byte_read r)
