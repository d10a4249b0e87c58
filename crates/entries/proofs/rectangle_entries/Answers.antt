-- `rectangle_entries` gives `rectangle_entries`: entry by entry what the calls give.
use Rattle.entries.specs.Entries.{rectangle_entries}
use Rattle.entries.proofs.rectangle_entries.Goals as goal

pub returns : goal.returns
unfolding rectangle_entries
returns c = rw (c.third.ensures, c.word_of-e.ensures)
