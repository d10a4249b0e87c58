-- 02, M-106: what a sheet costs, said before anything is sent.
use Rattle.std.specs.Prelude.{ℕ, ◌+◌, ◌≡◌, cond, List, eqb, length, Result, Ok, Err}
use Rattle.records.specs.declared.Record.{Record}
use Rattle.blocks.specs.declared.Answer.{Answer}
use Rattle.blocks.specs.declared.Refused.{Refused}
use Rattle.blocks.specs.Refused.{refused}
use Rattle.refusals.specs.Refusals.{sheet_refusal}
use Rattle.sheets.specs.Lawful.{Lawful}
use Rattle.sheets.specs.Slots.{translation}
use Rattle.sheets.specs.Sheet.{figures_of, translate_def}
use Rattle.costs.specs.declared.Price.{Price}
use Rattle.costs.specs.declared.Cost.{Cost}
use Rattle.costs.specs.Dots.{figures_dots}

-- "the translation's entries plus one cycle for each visited dot"
abbrev pub units_for : List ℕ → ℕ → List Record → ℕ
units_for t p l = length (translation t p l) + figures_dots l

-- "Success is number 0", with the entries needed; how many figures there are, and their units
abbrev pub cost_of : List ℕ → ℕ → List Record → Cost
cost_of t p l = record { number = 0; first = length (translation t p l); second = 0; figures = length l; units = units_for t p l }

-- a refusal "returns its number and its two values"; no figures, no units
abbrev pub cost_refused : Answer → Cost
cost_refused a = record { number = a.number; first = a.first; second = a.second; figures = 0; units = 0 }

-- .. as the code has them: what is counted is told with number 0
abbrev pub priced : Price → Cost
priced q = record { number = 0; first = q.entries; second = 0; figures = q.figures; units = q.units }

-- .. and a refusal with its number and its two values
abbrev pub answered : Result Price Refused → Cost
answered (Ok q) = priced q
answered (Err w) = cost_refused (refused w)

-- 11 to 19; else what its figures cost
unfoldable pub cost_def : List ℕ → ℕ → ℕ → List ℕ → Cost
cost_def s p h t =
    cond (eqb (sheet_refusal s p h t).number 0) (cost_of t p (figures_of s p h t)) (cost_refused (sheet_refusal s p h t))

-- "For an accepted sheet": 0 is answered for each sheet that 01 accepts, and for no other. `cost_is_lawful` of proofs/CostLaws proves it.
abbrev pub CostIsToldOfLawful : Type 0
CostIsToldOfLawful =
    (s : List ℕ) (p h : ℕ) (t : List ℕ)
    → (Lawful s p h t → (cost_def s p h t).number ≡ 0) × ((cost_def s p h t).number ≡ 0 → Lawful s p h t)

-- The call refuses as the translator does, without 20: its number and both values are the translator's, whatever the output, but that
-- it answers 0 where the translator answers 20. `cost_agrees` of proofs/CostLaws proves it.
abbrev pub CostIsTheTranslators : Type 0
CostIsTheTranslators =
    (s : List ℕ) (p h : ℕ) (t out : List ℕ)
    → ((cost_def s p h t).number ≡ cond (eqb (translate_def s p h t out).answer.number 20) 0 (translate_def s p h t out).answer.number)
    × ((cost_def s p h t).first ≡ (translate_def s p h t out).answer.first)
    × ((cost_def s p h t).second ≡ (translate_def s p h t out).answer.second)
