-- `keep` is the definition.
use Rattle.std.proofs.Common.{refl}
use Rattle.passes.specs.Place.{kept}
use Rattle.passes.proofs.keep.Goals as goal

pub returns : goal.returns
unfolding kept
returns c = refl
