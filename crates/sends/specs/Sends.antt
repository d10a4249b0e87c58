-- 01, demand 3's sending as a function answers it, of a list of entries: how many of them were taken, the units, the registers and the
-- memory.
use Rattle.std.specs.Prelude.{ℕ, suc, Bool, true, false, cond, List, [], ◌∷◌, eqb, length, take}
use Rattle.registers.specs.Sound.{sound_b}
use Rattle.registers.specs.State.{State}
use Rattle.units.specs.Run.{fitted_b}
use Rattle.sending.specs.Send.{sent, left, sent_all, units_of}
use Rattle.sends.specs.declared.Listed.{Listed}

-- what a list is answered with, and what the lent memory then holds
pub record ListOutcome : Type 0 where
  pub list : Listed
  pub mem : List ℕ

abbrev pub listed : Listed → List ℕ → ListOutcome
listed q m = record { list = q; mem = m }

-- how many entries are taken: those before the first that its port refuses
unfoldable pub taken_of : State → List ℕ → ℕ
taken_of s [] = 0
taken_of s (e ∷ l) = cond (eqb (sent s e).port.number 0) (suc (taken_of (left (sent s e)) l)) 0

-- the number with which its port refuses that one; 0 if none is refused
unfoldable pub number_at : State → List ℕ → ℕ
number_at s [] = 0
number_at s (e ∷ l) = cond (eqb (sent s e).port.number 0) (number_at (left (sent s e)) l) (sent s e).port.number

-- the entries that are taken
abbrev pub taken_from : State → List ℕ → List ℕ
taken_from s l = take (taken_of s l) l

-- "the entries in order, each with its run until idle, up to the first that its port refuses"
abbrev pub list_taken : State → List ℕ → ListOutcome
list_taken s l =
    listed
    (record {
      number = number_at s l;
      taken = taken_of s l;
      units = units_of s (taken_from s l);
      regs = (sent_all s (taken_from s l)).regs;
    })
    (sent_all s (taken_from s l)).mem

-- a refusal returns the set given, and nothing is taken; memory is unaltered
abbrev pub list_refused : ℕ → State → ListOutcome
list_refused n s = listed (record { number = n; taken = 0; units = 0; regs = s.regs }) s.mem

-- "1 register set unsound", "2 memory length wrong", in that order, as the run's
abbrev pub list_by : Bool → Bool → State → List ℕ → ListOutcome
list_by false long s l = list_refused 1 s
list_by true false s l = list_refused 2 s
list_by true true s l = list_taken s l

-- At most 4,294,967,295 entries of a list are looked at, so that the units of their runs fit 64 bits.
abbrev pub most_listed : ℕ
most_listed = 4294967295

unfoldable pub list_sent : State → List ℕ → ListOutcome
list_sent s l = list_by (sound_b s.regs) (fitted_b s) s (take most_listed l)
