-- `dot_mask` is a power of two: the word that it reads is (`mask_at`).
use Rattle.std.proofs.Common.{rules}
use Rattle.dots.proofs.MaskLaws.{mask_at}
use Rattle.parameters.proofs.dot_mask.Goals as goal

pub returns : goal.returns
returns c = mask_at _ (search rules)
