-- `keep` is the definition.
use Rattle.walks.specs.Address.{kept}
use borrow.Author.Rules.{rules}
use Rattle.walks.proofs.line.keep.Goals as goal

pub returns : goal.returns
unfolding kept
returns c = search rules
