-- What the list call does where the controller waits: an entry is taken at once, without its way through the buffer; entries that only set
-- registers, all that stand together.
use Rattle.std.specs.Prelude.{ℕ, ◌+◌, cond, List, [], ◌∷◌}
use Rattle.registers.specs.declared.Registers.{Registers}
use Rattle.registers.specs.Fresh.{empty_buffer}
use Rattle.registers.specs.Put.{put_buffer}
use Rattle.registers.specs.State.{State, state}
use Rattle.processor.specs.Entry.{entry_taken}
use Rattle.settings.specs.Settings.{Settlement, put_settings, settings_of, settle_all}
use Rattle.wdat.specs.Wdat.{first_sync}
use Rattle.units.specs.Run.{Outcome, run_from}
use Rattle.sends.specs.Sends.{ListOutcome, listed, list_taken}
use Rattle.sends.specs.Once.{at_once_b}

-- a run's answer, as that of one entry; the unit that took it is one more
abbrev pub with_one : Outcome → ListOutcome
with_one o = listed (record { number = 0; taken = 1; units = o.ran.count + 1; regs = o.ran.regs }) o.mem

-- an entry is taken, and what it began is run
unfoldable pub begun_by : ℕ → State → ListOutcome
begun_by e s = with_one (run_from 4294967294 0 (entry_taken e (state (put_buffer s.regs empty_buffer) s.mem)))

-- entries that only set registers are taken: a unit each
abbrev pub set_by : Registers → Settlement → ListOutcome
set_by r q =
    listed (record { number = 0; taken = q.count; units = q.count; regs = put_settings (put_buffer r empty_buffer) q.settings }) q.mem

-- none is taken
abbrev pub none_set : State → Settlement
none_set s = record { settings = settings_of s.regs; count = 0; mem = s.mem }

-- of a list, e being the first: all that only set registers, up to the first that does more, where the controller takes e at once
unfoldable pub set_at : ℕ → List ℕ → State → Settlement
set_at e l s =
    cond (at_once_b s.regs.mode s.regs.work s.regs.buffer.count e)
    (settle_all (first_sync s.regs) (settings_of s.regs) l s.mem) (none_set s)

-- one entry, taken at once, else by its port
unfoldable pub first_sent : ℕ → State → ListOutcome
first_sent e s =
    cond (at_once_b s.regs.mode s.regs.work s.regs.buffer.count e) (begun_by e s) (list_taken s (e ∷ []))
