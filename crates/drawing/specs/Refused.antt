-- 01, Numbers of refusal: "Where an answer is an enum, a definition gives this paper's number and values for each of its cases."
use Rattle.std.specs.Prelude.{Result, Ok, Err}
use Rattle.registers.specs.declared.Registers.{Registers}
use Rattle.units.specs.Answered.{refusal_number}
use Rattle.blocks.specs.declared.Answer.{Answer}
use Rattle.blocks.specs.Answer.{answer}
use Rattle.blocks.specs.Refused.{refused as sheet_refused}
use Rattle.drawing.specs.declared.Drawn.{Drawn}
use Rattle.drawing.specs.declared.Picture.{Picture}
use Rattle.drawing.specs.declared.Refusal.{Refusal}
use Rattle.drawing.specs.declared.Refusal.TheVariants.{Run, Larger, Sheet}
use Rattle.drawing.specs.Draw.{refusal}

-- "1 | register set unsound"; "2 | memory length wrong"; 02's "23 a picture larger than the memory", which "returns 0, 0"; the translator's
-- 11 to 20 with their two values
abbrev pub refused : Refusal → Answer
refused (Run w) = answer (refusal_number w) 0 0
refused Larger = answer 23 0 0
refused (Sheet w) = sheet_refused w

-- "Success is number 0", "for a translation with the entries written"; a refusal returns "the set given"
abbrev pub answered : Registers → Result Picture Refusal → Drawn
answered r (Ok q) = record { number = 0; first = q.entries; second = 0; units = q.units; earlier = q.earlier; regs = q.regs }
answered r (Err w) = refusal (refused w).number (refused w).first (refused w).second r
