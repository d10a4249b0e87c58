-- What a line to the memory does: the registers and the memory's length after it, its answer, and the memory's words. The memory is
-- the first words of a buffer, as many as it has; the buffer's other words stay.
use Rattle.std.specs.Prelude.{ℕ, cond, List, ◌++◌, leb, take, drop}
use Rattle.dots.specs.declared.Wiring.{Wiring}
use Rattle.dots.specs.declared.Wiring.TheVariants.{Folded, Open}
use Rattle.registers.specs.declared.Registers.{Registers}
use Rattle.registers.specs.Fresh.{fresh_set}
use Rattle.registers.specs.State.{state}
use Rattle.wirings.specs.Wired.{wired_as}
use Rattle.buffers.specs.Used.{used_of}
use Rattle.buffers.specs.Words.{cleared, stored}
use Rattle.units.specs.declared.Ran.{Ran}
use Rattle.units.specs.Run.{length_b, run_done}
use Rattle.units.specs.Run.{Outcome as RunOutcome, outcome as ranOutcome}
use Rattle.orders.specs.declared.Memory.{Memory}
use Rattle.orders.specs.declared.Memory.TheVariants.{Fresh, Word, Run}
use Rattle.console.specs.declared.desk.Reply.{Reply}
use Rattle.console.specs.declared.desk.Reply.TheVariants.{Unknown, One, Three}
use Rattle.controls.specs.declared.memory.Worked.{Worked}

-- an answer, with what the lent words then hold
pub record Outcome : Type 0 where
  pub worked : Worked
  pub mem : List ℕ

abbrev pub outcome : Worked → List ℕ → Outcome
outcome q m = record { worked = q; mem = m }

-- the same of `W`, which leaves the registers and the length
pub record Put : Type 0 where
  pub reply : Reply
  pub mem : List ℕ

abbrev pub put : Reply → List ℕ → Put
put q m = record { reply = q; mem = m }

-- "a memory of n words, all zero"
unfoldable pub cleared_first : ℕ → List ℕ → List ℕ
cleared_first n mem = cleared (take (used_of n mem) mem) ++ drop (used_of n mem) mem

-- "`M n` gives folded wiring", `O n` "open"
abbrev pub fresh_letter : Wiring → ℕ
fresh_letter Folded = 77
fresh_letter Open = 79

-- `M n`, `O n`: "fresh registers (01's "Fresh")", "but for the wiring", "and a memory of n words, all zero": "`O 0`; `O 2` where n is no
-- lawful length" of that wiring, "and all stays as it was"
unfoldable pub fresh_done : Wiring → Registers → ℕ → ℕ → List ℕ → Outcome
fresh_done w r words n mem =
    cond (length_b w n) (outcome (record { regs = wired_as w fresh_set; words = n; reply = One (fresh_letter w) 0 }) (cleared_first n mem))
    (outcome (record { regs = r; words = words; reply = One (fresh_letter w) 2 }) mem)

-- `W a v`: "the word a of the memory becomes v (a below the length ..)"; "out of the range given here .. is answered `?` and changes
-- nothing"
unfoldable pub word_done : ℕ → ℕ → ℕ → List ℕ → Put
word_done words a v mem = cond (leb words a) (put Unknown mem) (put (One 87 0) (stored mem a v))

-- `U n`: "a run with the budget n", over the words that the memory has
unfoldable pub run_within : Registers → List ℕ → ℕ → ℕ → RunOutcome
run_within r mem words budget =
    let o = run_done budget (state r (take (used_of words mem) mem)) in ranOutcome o.ran (o.mem ++ drop (used_of words mem) mem)

-- "`U n count why`: the number; the units done; 1 budget spent, 2 nothing in progress or queued, 3 a read awaits room"
abbrev pub run_told : Ran → ℕ → Worked
run_told a words = record { regs = a.regs; words = words; reply = Three 85 a.number a.count a.why }

-- each line to the memory
unfoldable pub memory_done : Registers → ℕ → Memory → List ℕ → Outcome
memory_done r words (Fresh w n) mem = fresh_done w r words n mem
memory_done r words (Run n) mem = outcome (run_told (run_within r mem words n).ran words) (run_within r mem words n).mem
memory_done r words (Word a v) mem =
    outcome (record { regs = r; words = words; reply = (word_done words a v mem).reply }) (word_done words a v mem).mem
