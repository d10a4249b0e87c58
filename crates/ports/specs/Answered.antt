-- 01, Numbers of refusal: "Where an answer is an enum, a definition gives this paper's number and values for each of its cases."
use Rattle.std.specs.Prelude.{ℕ, Result, Ok, Err}
use Rattle.registers.specs.declared.Registers.{Registers}
use Rattle.ports.specs.declared.Answer.{Answer}
use Rattle.ports.specs.declared.Granted.{Granted}
use Rattle.ports.specs.declared.Refusal.{Refusal}
use Rattle.ports.specs.declared.Refusal.TheVariants.{Unsound, Full, Reading, NoByte, PenAddress}
use Rattle.ports.specs.Port.{granted, refused}

-- "1: register set unsound"; "3: write mode and buffer holds 16, RESET excepted"; "4: parameter byte in read mode"; "5: read with no byte
-- to give"; "6: pen address 262,144 or more"
abbrev pub refusal_number : Refusal → ℕ
refusal_number Unsound = 1
refusal_number Full = 3
refusal_number Reading = 4
refusal_number NoByte = 5
refusal_number PenAddress = 6

-- what a port that was asked with the set r answers: "Success is number 0"; a refusal returns "the set given, 0"
abbrev pub answered : Registers → Result Granted Refusal → Answer
answered r (Ok g) = granted g.value g.regs
answered r (Err w) = refused (refusal_number w) r
