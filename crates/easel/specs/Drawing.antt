-- What `K` tells, and what `X` does: "the sheet is translated with room enough, and if it is accepted each entry is sent and the controller
-- run until idle
-- after it; an entry that is refused is passed over".
use Rattle.std.specs.Prelude.{ℕ, cond, List, [], ◌∷◌, ◌++◌, eqb, drop, replicate}
use Rattle.registers.specs.declared.Registers.{Registers}
use Rattle.registers.specs.State.{State, state}
use Rattle.blocks.specs.declared.Answer.{Answer}
use Rattle.sheets.specs.Sheet.{translate_def}
use Rattle.sheets.specs.Sheet.{Outcome as Translated, outcome as translatedTo}
use Rattle.costs.specs.Cost.{cost_def}
use Rattle.sending.specs.Send.{written}
use Rattle.finishing.specs.declared.Sent.{Sent}
use Rattle.finishing.specs.Finish.{Outcome, outcome, left_at, unmoved, more, finished}
use Rattle.buffers.specs.Used.{used_of}
use Rattle.console.specs.declared.desk.Desk.{Desk}
use Rattle.console.specs.declared.desk.Done.{Done}
use Rattle.console.specs.declared.desk.Reply.{Reply}
use Rattle.console.specs.declared.desk.Reply.TheVariants.{Four}
use Rattle.easel.specs.Parts.{part_of, table_of, sheet_of}

-- the sheet into a room of that many of the lent entries; those past it stay
unfoldable pub translated_in : Desk → List ℕ → List ℕ → ℕ → Translated
translated_in d papers entries room =
    let t = translate_def (sheet_of papers d.sheet) d.across d.down (table_of papers d.glyphs) (part_of room entries) in
    translatedTo t.answer (t.out ++ drop (used_of room entries) entries)

-- `K`: "what the sheet will cost; nothing is sent", "`K number a b units`"
abbrev pub cost_told : Desk → List ℕ → Reply
cost_told d papers =
    let c = cost_def (sheet_of papers d.sheet) d.across d.down (table_of papers d.glyphs) in
    Four 75 c.number c.first c.second c.units

-- "each entry is sent and the controller run until idle after it; an entry that is refused is passed over"
abbrev pub entry_played : State → ℕ → Outcome
entry_played s e = finished (state (written s.regs e).regs s.mem)

-- .. all of a list in order, with "the units of all those runs"
unfoldable pub played : State → List ℕ → Outcome
played s [] = unmoved s
played s (e ∷ l) = more (entry_played s e).sent.units (played (left_at (entry_played s e)) l)

-- over the words that the memory has; the buffer's other words stay
unfoldable pub played_within : Registers → List ℕ → List ℕ → ℕ → Outcome
played_within r l mem words =
    let o = played (state r (part_of words mem)) l in outcome o.sent (o.mem ++ drop (used_of words mem) mem)

-- "`X number a b units`"
abbrev pub drawing_told : Answer → Sent → Done
drawing_told a s = record { regs = s.regs; reply = Four 88 a.number a.first a.second s.units }

-- an answer, with what the lent memory then holds
pub record Drew : Type 0 where
  pub done : Done
  pub mem : List ℕ

abbrev pub drew : Done → List ℕ → Drew
drew q m = record { done = q; mem = m }

-- "if it is accepted" its entries are played; "0 where the sheet is refused"
abbrev pub drawn_by : Translated → Registers → List ℕ → ℕ → Drew
drawn_by t r mem words =
    cond (eqb t.answer.number 0)
    (drew (drawing_told t.answer (played_within r (part_of t.answer.first t.out) mem words).sent)
    (played_within r (part_of t.answer.first t.out) mem words).mem)
    (drew (drawing_told t.answer (record { regs = r; units = 0 })) mem)

-- no translation is longer than 16,802 entries
unfoldable pub drawing_done : Registers → Desk → List ℕ → List ℕ → Drew
drawing_done r d mem papers = drawn_by (translated_in d papers (replicate 128802 0) 128802) r mem d.words
