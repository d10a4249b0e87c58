-- 01, Board call: "one board call takes the register set by reference and updates it where it stands; it equals the run by value."
-- Here: what the run by value would have answered, put together from what the board call answers and what it leaves behind its
-- two references. The contract of `board_run` says that this is `run_done` of what stood there before, so nothing is left open.
use Rattle.std.specs.Prelude.{ℕ, List}
use Rattle.registers.specs.declared.Registers.{Registers}
use Rattle.units.specs.declared.Ran.{Ran}
use Rattle.units.specs.Run.{Outcome, outcome}
use Rattle.sends.specs.declared.Listed.{Listed}
use Rattle.sends.specs.Sends.{ListOutcome, listed}
use Rattle.board.specs.declared.Report.{Report}
use Rattle.board.specs.declared.Tally.{Tally}

-- the report, the registers that stand behind the reference, and the memory
abbrev pub report : Report → Registers → List ℕ → Outcome
report q r m = outcome (record { number = q.number; count = q.count; why = q.why; regs = r }) m

-- the answer of a run without its registers
abbrev pub report_of : Ran → Report
report_of d = record { number = d.number; count = d.count; why = d.why }

-- A list of entries by reference, likewise: what the sending by value would have answered, put together from the tally, the registers
-- that stand behind the reference, and the memory
abbrev pub tallied : Tally → Registers → List ℕ → ListOutcome
tallied q r m = listed (record { number = q.number; taken = q.taken; units = q.units; regs = r }) m

-- the answer of a sending without its registers
abbrev pub tally_of : Listed → Tally
tally_of d = record { number = d.number; taken = d.taken; units = d.units }
