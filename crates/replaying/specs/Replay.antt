-- A record of the bus, replayed (issue 20): what one event does, and what a list of them does, over the ports and the run of 01. An event
-- is a number of 64 bits: an entry for a port, so many units, or "until idle".
use Rattle.std.specs.Prelude.{ℕ, ◌+◌, ◌%◌, Bool, true, false, cond, List, [], ◌∷◌, eqb, ltb, length, take}
use Rattle.registers.specs.Sound.{sound_b}
use Rattle.registers.specs.State.{State, state}
use Rattle.units.specs.Run.{fitted_b, run_done}
use Rattle.sending.specs.Send.{written}
use Rattle.finishing.specs.Finish.{finished}
use Rattle.finishing.specs.Finish.{Outcome as Runs, outcome as runs, left_at as left_by}
use Rattle.replaying.specs.declared.Replayed.{Replayed}

-- n units are the event 4,294,967,296 + n, n being a number of 32 bits; "until idle" is the event 8,589,934,592
abbrev pub units_mark : ℕ
units_mark = 4294967296

abbrev pub idle_mark : ℕ
idle_mark = 8589934592

-- "let the chip do n units": a run with that budget
abbrev pub units_run : State → ℕ → Runs
units_run s n = runs (record { regs = (run_done n s).ran.regs; units = (run_done n s).ran.count }) (run_done n s).mem

-- an event that is no entry: so many units; or "the controller runs until idle", so that what waits or is in progress is finished
unfoldable pub runs_of : State → ℕ → Runs
runs_of s e = cond (ltb e idle_mark) (units_run s (e % units_mark)) (finished s)

-- What one event does: the number with which its port refuses it, 0 where it is taken; the units done; the controller and its memory
-- then.
pub record Effect : Type 0 where
  pub number : ℕ
  pub units : ℕ
  pub left : State

-- an entry is written to its port: queued, or RESET done, or refused; no unit is done
abbrev pub entered : State → ℕ → Effect
entered s e = record { number = (written s.regs e).number; units = 0; left = state (written s.regs e).regs s.mem }

-- a run is not refused: the set is sound and the memory's length lawful, and each event keeps both (`all_kept` of PartLaws)
abbrev pub ran : Runs → Effect
ran o = record { number = 0; units = o.sent.units; left = left_by o }

-- a number below 4,294,967,296 is an entry: "a byte, 256 more for a command"
unfoldable pub event_done : State → ℕ → Effect
event_done s e = cond (ltb e units_mark) (entered s e) (ran (runs_of s e))

-- what a list is answered with, and what the lent memory then holds
pub record Outcome : Type 0 where
  pub list : Replayed
  pub mem : List ℕ

abbrev pub outcome : Replayed → List ℕ → Outcome
outcome q m = record { list = q; mem = m }

-- the controller and its memory then
abbrev pub left_at : Outcome → State
left_at o = state o.list.regs o.mem

-- no event is taken, for the reason that the number says; registers and memory are as they were
abbrev pub none_taken : ℕ → State → Outcome
none_taken n s = outcome (record { number = n; taken = 0; units = 0; regs = s.regs }) s.mem

-- behind k events that were taken with u units
abbrev pub behind : ℕ → ℕ → Outcome → Outcome
behind k u o =
    outcome
    (record { number = o.list.number; taken = k + o.list.taken; units = u + o.list.units; regs = o.list.regs }) o.mem

-- the events in order, up to the first that its port refuses
unfoldable pub all_done : State → List ℕ → Outcome
all_done s [] = none_taken 0 s
all_done s (e ∷ l) =
    cond (eqb (event_done s e).number 0) (behind 1 (event_done s e).units (all_done (event_done s e).left l))
    (none_taken (event_done s e).number s)

-- "1 register set unsound", "2 memory length wrong", in that order, as the run's
abbrev pub replayed_by : Bool → Bool → State → List ℕ → Outcome
replayed_by false long s l = none_taken 1 s
replayed_by true false s l = none_taken 2 s
replayed_by true true s l = all_done s l

-- At most 4,194,304 events of a list are looked at, so that their units, at most 272 budgets each, fit 64 bits.
abbrev pub most_replayed : ℕ
most_replayed = 4194304

unfoldable pub replayed : State → List ℕ → Outcome
replayed s l = replayed_by (sound_b s.regs) (fitted_b s) s (take most_replayed l)
