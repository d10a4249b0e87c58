-- `decode_record` gives `decoded_at`: it decodes the bytes that it reads.
use Rattle.records.specs.Decode.{decoded_at}
use Rattle.records.proofs.decode_record.Goals as goal

pub returns : goal.returns
unfolding decoded_at
returns c = rw (c.decode.ensures, c.raw_at.ensures)
