-- `fresh` gives the fresh set, register by register.
use Rattle.registers.specs.Fresh.{fresh_set}
use Rattle.registers.proofs.FreshLaws.{video_zero, pen_zero, buffer_empty, progress_none}
use Rattle.registers.proofs.fresh.Goals as goal

pub returns : goal.returns
unfolding fresh_set
returns c =
    rw (
      video_zero _ c.default.ensures,
      pen_zero _ c.default-2.ensures,
      c.default-3.ensures,
      buffer_empty _ c.default-4.ensures,
      progress_none _ c.default-5.ensures,
      c.default-6.ensures,
    )
