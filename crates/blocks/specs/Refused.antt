-- 01, Numbers of refusal: "Where an answer is an enum, a definition gives this paper's number and values for each of its cases."
use Rattle.std.specs.Prelude.{ℕ, Result, Ok, Err}
use Rattle.records.specs.declared.Refusal.{Refusal}
use Rattle.records.specs.declared.Refusal.TheVariants as whys
use Rattle.blocks.specs.declared.Fault.{Fault}
use Rattle.blocks.specs.declared.Fault.TheVariants as faults
use Rattle.blocks.specs.declared.Answer.{Answer}
use Rattle.blocks.specs.declared.Refused.{Refused}
use Rattle.blocks.specs.declared.Refused.TheVariants.{Plane, Table, Length, Check, Heading, Slot, Short}
use Rattle.blocks.specs.Answer.{answer}

-- "16, 17, 18, 19 | record's form; glyph number; factor; a dot outside"; 02, M-100: "18 also for a radius out of range"
abbrev pub fault_of : Refusal → Fault
fault_of whys.Form = faults.Form
fault_of whys.GlyphNumber = faults.GlyphNumber
fault_of whys.Factor = faults.Size
fault_of whys.Radius = faults.Size
fault_of whys.Outside = faults.Outside

abbrev pub fault_number : Fault → ℕ
fault_number faults.Form = 16
fault_number faults.GlyphNumber = 17
fault_number faults.Size = 18
fault_number faults.Outside = 19

-- "11 | P, H or P·H out of range | 0, 0"; "12 | glyph bytes .. | 0, 0"; "13 | sheet length wrong | 0, 0"; "14, 15 | .. | block, 0";
-- "16, 17, 18, 19 | .. | block, record"; "20 | output shorter than the translation | entries needed, 0"
abbrev pub refused : Refused → Answer
refused Plane = answer 11 0 0
refused Table = answer 12 0 0
refused Length = answer 13 0 0
refused (Check b) = answer 14 b 0
refused (Heading b) = answer 15 b 0
refused (Slot b i f) = answer (fault_number f) b i
refused (Short n) = answer 20 n 0

-- what is checked at a place: "Success is number 0", with the place's values
abbrev pub checked_at : {T : Type 0} → ℕ → ℕ → Result T Refused → Answer
checked_at a b (Ok x) = answer 0 a b
checked_at a b (Err w) = refused w

-- .. and of a sheet, with 0, 0
abbrev pub checked : {T : Type 0} → Result T Refused → Answer
checked r = checked_at 0 0 r

-- "Success is number 0", "for a translation with the entries written"
abbrev pub answered : Result ℕ Refused → Answer
answered (Ok n) = answer 0 n 0
answered (Err w) = refused w
