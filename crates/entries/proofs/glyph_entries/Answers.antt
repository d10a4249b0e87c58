-- `glyph_entries` gives `glyph_entries`: entry by entry what the calls give.
use Rattle.entries.specs.Entries.{glyph_entries}
use Rattle.entries.proofs.glyph_entries.Goals as goal

pub returns : goal.returns
unfolding glyph_entries
returns c = rw (
  c.row-8.ensures,
  c.row-7.ensures,
  c.row-6.ensures,
  c.row-5.ensures,
  c.row-4.ensures,
  c.row-3.ensures,
  c.row-2.ensures,
  c.row.ensures,
  c.third.ensures,
  c.from.ensures,
  c.saturating_sub-2.ensures,
  c.word_of-e.ensures,
  c.saturating_sub.ensures,
)
