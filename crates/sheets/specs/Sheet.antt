-- 01, Numbers of refusal, 11 to 19 and then 20, and what the output then holds.
use Rattle.std.specs.Prelude.{ℕ, ◌/◌, List, ◌++◌, Bool, true, false, cond, eqb, ltb, length, drop}
use Rattle.records.specs.declared.Record.{Record}
use Rattle.blocks.specs.declared.Answer.{Answer}
use Rattle.blocks.specs.Answer.{answer, or_else}
use Rattle.refusals.specs.Refusals.{room_of, sheet_refusal}
use Rattle.sheets.specs.Slots.{figures, translation}

-- a sheet's figures
abbrev pub figures_of : List ℕ → ℕ → ℕ → List ℕ → List Record
figures_of s p h t = figures s (room_of p h (length t)) (length s / 512)

-- 20: "output shorter than the translation | entries needed, 0"; else "Success is number 0", with the entries written
abbrev pub ended : ℕ → ℕ → Answer
ended e l = cond (ltb l e) (answer 20 e 0) (answer 0 e 0)

-- 11 to 19, then 20
unfoldable pub answer_of : List ℕ → ℕ → ℕ → List ℕ → ℕ → Answer
answer_of s p h t l = or_else (sheet_refusal s p h t) (ended (length (translation t p (figures_of s p h t))) l)

-- an answer, and the output's content with it
pub record Outcome : Type 0 where
  pub answer : Answer
  pub out : List ℕ

abbrev pub outcome : Answer → List ℕ → Outcome
outcome a o = record { answer = a; out = o }

-- "Success .., for a translation with the entries written; output past the translation is unaltered", and "unaltered by a refusal"
abbrev pub output_of : Bool → List ℕ → List ℕ → List ℕ
output_of true o e = e ++ drop (length e) o
output_of false o e = o

unfoldable pub translate_def : List ℕ → ℕ → ℕ → List ℕ → List ℕ → Outcome
translate_def s p h t o =
    outcome (answer_of s p h t (length o))
    (output_of (eqb (answer_of s p h t (length o)).number 0) o (translation t p (figures_of s p h t)))
