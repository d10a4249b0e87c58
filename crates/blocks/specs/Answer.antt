-- 01, Numbers of refusal: a number and two values; "Checks run in table order".
use Rattle.std.specs.Prelude.{ℕ, zero, suc, ◌+◌, Bool, cond, ◌==◌, Result, Ok, Err}
use Rattle.blocks.specs.declared.Answer.{Answer}

abbrev pub answer : ℕ → ℕ → ℕ → Answer
answer n a b = record { number = n; first = a; second = b }

-- a refusal that "returns 0, 0" where a test fails; "Success is number 0"
abbrev pub refusal_unless : Bool → ℕ → Answer
refusal_unless ok n = answer (cond ok 0 n) 0 0

-- .. as the code has it: good where the test holds
abbrev pub unless : {E : Type 0} → Bool → E → Result (Unit {0}) E
unless ok why = cond ok (Ok tt) (Err why)

-- the first answer if it is a refusal, else the second ("Success is number 0")
abbrev pub or_else : Answer → Answer → Answer
or_else a b = cond (a.number == 0) b a

-- the first refusal among f answers from place k on, or 0, 0, 0
unfoldable pub first_from : (ℕ → Answer) → ℕ → ℕ → Answer
first_from a zero k = answer 0 0 0
first_from a (suc f) k = or_else (a k) (first_from a f (k + 1))
