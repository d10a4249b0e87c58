-- `dot_entries` gives `dot_entries`: entry by entry what the calls give.
use Rattle.entries.specs.Entries.{dot_entries}
use Rattle.entries.proofs.dot_entries.Goals as goal

pub returns : goal.returns
unfolding dot_entries
returns c = rw (c.third.ensures, c.word_of-e.ensures)
