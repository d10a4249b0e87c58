-- Demand 3's run as one definition: a sheet is translated, what was waiting or in progress is finished, and the entries are sent to the
-- controller one at a time, with a run after each. 01 has no number for a register set that is not ready (read mode, entries waiting,
-- something being drawn), and none is needed: once what was waiting is finished, no port refuses an entry.
use Rattle.std.specs.Prelude.{ℕ, ◌*◌, Bool, cond, ◌&&◌, List, eqb, ltb, length, take}
use Rattle.registers.specs.declared.Registers.{Registers}
use Rattle.registers.specs.Sound.{sound_b}
use Rattle.registers.specs.State.{state}
use Rattle.units.specs.Run.{length_b}
use Rattle.blocks.specs.declared.Answer.{Answer}
use Rattle.refusals.specs.Refusals.{plane_b}
use Rattle.sheets.specs.Sheet.{translate_def}
use Rattle.finishing.specs.Finish.{left_at, finished}
use Rattle.finishing.specs.Finish.{Outcome as Sending}
use Rattle.sends.specs.Sends.{ListOutcome, list_sent}
use Rattle.drawing.specs.declared.Drawn.{Drawn}

-- an answer, with what the lent entries and the lent memory then hold
pub record Outcome : Type 0 where
  pub drawn : Drawn
  pub entries : List ℕ
  pub mem : List ℕ

abbrev pub outcome : Drawn → List ℕ → List ℕ → Outcome
outcome q e m = record { drawn = q; entries = e; mem = m }

-- a refusal returns its number and its two values, "the set given", and no units
abbrev pub refusal : ℕ → ℕ → ℕ → Registers → Drawn
refusal n a b r = record { number = n; first = a; second = b; units = 0; earlier = 0; regs = r }

-- "Success is number 0, for a translation with the entries written": the translator's answer a and all that its output then holds; w is
-- what finishing the earlier work left, q what sending the entries left. The units of the two are told apart.
abbrev pub all_sent : Answer → List ℕ → Sending → ListOutcome → Outcome
all_sent a e w q =
    outcome
    (record {
      number = 0;
      first = a.first;
      second = a.second;
      units = q.list.units;
      earlier = w.sent.units;
      regs = q.list.regs;
    }) e q.mem

-- the translator's 11 to 20 with their two values, else the entries that it wrote are sent; "Memory, sheet and output are unaltered by a
-- refusal"
abbrev pub drawn_by : Answer → List ℕ → Registers → List ℕ → List ℕ → Outcome
drawn_by a e r entries mem =
    cond (eqb a.number 0)
    (all_sent a e (finished (state r mem)) (list_sent (left_at (finished (state r mem))) (take a.first e)))
    (outcome (refusal a.number a.first a.second r) entries mem)

-- 02's "23 a picture larger than the memory", where 11 does not come first
abbrev pub larger_b : ℕ → ℕ → ℕ → Bool
larger_b p h n = plane_b p h && ltb n (p * h)

-- "Checks run in table order": "1 register set unsound", "2 memory length wrong", 11, then 23 "directly after 11", which "returns 0, 0",
-- then the translator's 12 to 20
unfoldable pub sheet_drawn : List ℕ → ℕ → ℕ → List ℕ → Registers → List ℕ → List ℕ → Outcome
sheet_drawn sheet p h glyphs r entries mem =
    cond (sound_b r)
    (cond (length_b r.board.wiring (length mem))
    (cond (larger_b p h (length mem)) (outcome (refusal 23 0 0 r) entries mem)
    (drawn_by (translate_def sheet p h glyphs entries).answer (translate_def sheet p h glyphs entries).out r entries mem))
    (outcome (refusal 2 0 0 r) entries mem))
    (outcome (refusal 1 0 0 r) entries mem)
