-- 01, Numbers of refusal, rows 16 to 19, with 02's M-100: the number for each case of the decoder's answer.
use Rattle.std.specs.Prelude.{ℕ, Ok, Err}
use Rattle.records.specs.declared.Refusal.{Refusal}
use Rattle.records.specs.declared.Refusal.TheVariants.{Form, GlyphNumber, Factor, Radius, Outside}
use Rattle.records.specs.Decode.{Decoded}

-- "16, 17, 18, 19 | record's form; glyph number; factor; a dot outside"; 02, M-100: "18 also for a radius out of range"
abbrev pub why_number : Refusal → ℕ
why_number Form = 16
why_number GlyphNumber = 17
why_number Factor = 18
why_number Radius = 18
why_number Outside = 19

-- "Success is number 0"
abbrev pub number_of : Decoded → ℕ
number_of (Ok r) = 0
number_of (Err w) = why_number w
