-- `line_entries` gives `line_entries`: entry by entry what the calls give.
use Rattle.entries.specs.Entries.{line_entries}
use Rattle.entries.proofs.line_entries.Goals as goal

pub returns : goal.returns
unfolding line_entries
returns c = rw (
  c.third.ensures,
  c.minus-d2.ensures,
  c.minus-d.ensures,
  c.slope_of-s.ensures,
  c.word_of-e.ensures,
)
