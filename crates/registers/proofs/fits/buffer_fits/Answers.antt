-- `buffer_fits` is the definition, by the mode; in write mode the test of all sixteen is enough.
use Rattle.registers.proofs.BufferLaws.{whole_enough}
use Rattle.registers.proofs.fits.buffer_fits.Goals as goal

pub returns-in-Write : goal.returns-in-Write
returns-in-Write c =
    let b = c.args.b in
    rw (c.in-Write.is, c.entries_fit.ensures) (whole_enough 512 b.count b.entries)
