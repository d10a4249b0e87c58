-- `bit_mapped` is the definition, by one test of C.
use Rattle.wdat.proofs.WdatLaws.{mapped_by_law}
use Rattle.wdat.proofs.bit_mapped.Goals as goal

pub returns : goal.returns
returns c = mapped_by_law _ _
