-- `figure_dots` gives `figure_dots`, case by case of the figure.
use Rattle.costs.proofs.DotLaws.{line_by_law, rectangle_by, dots_by}
use Rattle.costs.proofs.figure_dots.Goals as goal

pub returns-in-Line : goal.returns-in-Line
returns-in-Line c =
    line_by_law c.in-Line.is c.abs_diff.ensures c.abs_diff-in-Line.ensures
    c.line_dots.ensures

pub returns-in-Rectangle : goal.returns-in-Rectangle
returns-in-Rectangle c =
    rectangle_by c.in-Rectangle.is c.abs_diff-in-Rectangle.ensures c.abs_diff-in-Rectangle-2.ensures
    c.border_dots.ensures

pub returns-in-Glyph : goal.returns-in-Glyph
returns-in-Glyph c = dots_by c.in-Glyph.is c.glyph_dots.ensures

pub returns-in-Circle : goal.returns-in-Circle
returns-in-Circle c = dots_by c.in-Circle.is c.circle_dots.ensures
