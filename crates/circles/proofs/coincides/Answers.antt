-- `coincides` meets its contract, by the test of SizeLaws.
use Rattle.circles.proofs.SizeLaws.{coincide_by}
use Rattle.circles.proofs.coincides.Goals as goal

pub returns : goal.returns
returns c = rw (c.from.ensures, c.from-2.ensures, c.from-i.ensures) (coincide_by _ _ c.largest_of.ensures)
