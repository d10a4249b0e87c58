-- `size_of` gives `size_of`, case by case of the plain figure.
use Rattle.entries.proofs.PutLaws.{size_by}
use Rattle.entries.proofs.size_of.Goals as goal

pub returns-in-Dot : goal.returns-in-Dot
returns-in-Dot c = size_by _ c.plain_of.ensures c.in-Dot.is

pub returns-in-Line : goal.returns-in-Line
returns-in-Line c = size_by _ c.plain_of.ensures c.in-Line.is

pub returns-in-Rectangle : goal.returns-in-Rectangle
returns-in-Rectangle c = size_by _ c.plain_of.ensures c.in-Rectangle.is

pub returns-in-Glyph : goal.returns-in-Glyph
returns-in-Glyph c = size_by _ c.plain_of.ensures c.in-Glyph.is

pub returns-in-Circle : goal.returns-in-Circle
returns-in-Circle c = size_by _ c.plain_of.ensures c.in-Circle.is
