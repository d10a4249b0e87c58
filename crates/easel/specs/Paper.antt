-- What a line to the picture's size, the glyph table or the sheet does: what stands on the bench then, its answer, and the papers' bytes.
use Rattle.std.specs.Prelude.{ℕ, ◌+◌, ◌/◌, cond, List, ltb, length}
use Rattle.script.specs.Digits.{bytes_b, bytes_put}
use Rattle.orders.specs.declared.Paper.{Paper}
use Rattle.orders.specs.declared.Paper.TheVariants.{Size, NoGlyphs, Glyphs, NoSheet, More}
use Rattle.console.specs.declared.desk.Desk.{Desk}
use Rattle.console.specs.declared.desk.Reply.TheVariants.{Unknown, One}
use Rattle.easel.specs.declared.paper.Laid.{Laid}

-- "`Q 0`", "`G 0`", "`Z 0`", "`B 0`"
abbrev pub accepted_on : Desk → ℕ → Laid
accepted_on d letter = record { desk = d; reply = One letter 0 }

-- a line "out of the range .. or not hexadecimal is answered `?` and changes nothing"
abbrev pub refused_on : Desk → Laid
refused_on d = record { desk = d; reply = Unknown }

-- `Q p h`: "the picture's size for the sheets that follow"
abbrev pub size_laid : Desk → ℕ → ℕ → Laid
size_laid d p h =
    accepted_on (record { words = d.words; across = p; down = h; glyphs = d.glyphs; sheet = d.sheet }) 81

-- `G`: the glyph table has n bytes
abbrev pub glyphs_laid : Desk → ℕ → Laid
glyphs_laid d n =
    accepted_on (record { words = d.words; across = d.across; down = d.down; glyphs = n; sheet = d.sheet }) 71

-- `Z` and `B`: the sheet has n bytes
abbrev pub sheet_laid : Desk → ℕ → ℕ → Laid
sheet_laid d n letter =
    accepted_on (record { words = d.words; across = d.across; down = d.down; glyphs = d.glyphs; sheet = n }) letter

-- an answer, with what the papers then hold
pub record Outcome : Type 0 where
  pub laid : Laid
  pub papers : List ℕ

abbrev pub outcome : Laid → List ℕ → Outcome
outcome q p = record { laid = q; papers = p }

-- "the glyph table is these bytes (two digits a byte ..)"; "glyph tables up to 4,096 bytes .. are taken"
unfoldable pub new_glyphs : Desk → List ℕ → List ℕ → Outcome
new_glyphs d hex papers =
    cond (ltb 4096 (length hex / 2)) (outcome (refused_on d) papers)
    (cond (bytes_b hex) (outcome (glyphs_laid d (length hex / 2)) (bytes_put papers 0 hex)) (outcome (refused_on d) papers))

-- "these bytes are added to the sheet"; "sheets up to 17 blocks (8,704 bytes) are taken"
unfoldable pub more_sheet : Desk → List ℕ → List ℕ → Outcome
more_sheet d hex papers =
    cond (ltb 8704 (d.sheet + length hex / 2)) (outcome (refused_on d) papers)
    (cond (bytes_b hex) (outcome (sheet_laid d (d.sheet + length hex / 2) 66) (bytes_put papers (4096 + d.sheet) hex))
    (outcome (refused_on d) papers))

-- each line to the papers; hex is what stands behind its letter and the space
unfoldable pub paper_done : Desk → Paper → List ℕ → List ℕ → Outcome
paper_done d (Size p h) hex papers = outcome (size_laid d p h) papers
paper_done d NoGlyphs hex papers = outcome (glyphs_laid d 0) papers
paper_done d Glyphs hex papers = new_glyphs d hex papers
paper_done d NoSheet hex papers = outcome (sheet_laid d 0 90) papers
paper_done d More hex papers = more_sheet d hex papers
