-- `slope_of` gives `slope_of`: field by field what the calls give.
use Rattle.entries.specs.Entries.{slope_of}
use Rattle.entries.proofs.way.slope_of.Goals as goal

pub returns : goal.returns
unfolding slope_of
returns c = rw (
  c.min.ensures,
  c.max.ensures,
  c.direction.ensures,
  c.abs_diff-y.ensures,
  c.abs_diff-x.ensures,
)
