-- 01, Numbers of refusal: "Where an answer is an enum, a definition gives this paper's number and values for each of its cases."
use Rattle.std.specs.Prelude.{ℕ, Bool, true, false, Result, Ok, Err}
use Rattle.registers.specs.declared.Registers.{Registers}
use Rattle.units.specs.Stop.{stop_number}
use Rattle.units.specs.declared.Done.{Done}
use Rattle.units.specs.declared.Ran.{Ran}
use Rattle.units.specs.declared.Refusal.{Refusal}
use Rattle.units.specs.declared.Refusal.TheVariants.{Unsound, Length}

-- "1 register set unsound", "2 memory length wrong"
abbrev pub refusal_number : Refusal → ℕ
refusal_number Unsound = 1
refusal_number Length = 2

-- "Success is number 0"
abbrev pub ran : Done → Ran
ran d = record { number = 0; count = d.count; why = stop_number d.why; regs = d.regs }

-- a refusal returns "the set given, 0"
abbrev pub answered : Registers → Result Done Refusal → Ran
answered r (Ok d) = ran d
answered r (Err w) = record { number = refusal_number w; count = 0; why = 0; regs = r }

-- "1 register set unsound", "2 memory length wrong", in that order
abbrev pub accepted_by : Bool → Bool → Result (Unit {0}) Refusal
accepted_by false l = Err Unsound
accepted_by true false = Err Length
accepted_by true true = Ok tt

-- .. in numbers: 0 where both are right
abbrev pub accepted_number : Result (Unit {0}) Refusal → ℕ
accepted_number (Ok x) = 0
accepted_number (Err w) = refusal_number w
