-- `clear` gives `cleared`: as many zeros as there were words.
use mathlib.Core.Path.{◌∙◌}
use Rattle.buffers.proofs.Laws.{all_zeros}
use Rattle.buffers.proofs.clear.Goals as goal

pub returns : goal.returns
returns c = c.fill.ensures.after (λ y e. e) ∙ all_zeros _
