-- `put_figure` gives `placed` of `figure_entries`: one array of entries for each case of the figure.
use mathlib.Core.Path.{refl, ◌∙◌, ap₂}
use Rattle.entries.specs.Entries.{rectangle_entries}
use Rattle.entries.proofs.PutLaws.{put_by}
use Rattle.entries.proofs.put_figure.Goals as goal

pub returns-in-Dot : goal.returns-in-Dot
returns-in-Dot c =
    put_by _ _ _ _ c.in-Dot.is
    c.dot_entries.ensures c.put_from.ensures

pub returns-in-Line : goal.returns-in-Line
returns-in-Line c =
    put_by _ _ _ _ c.in-Line.is
    c.line_entries.ensures c.put_from-in-Line.ensures

pub returns-in-Rectangle : goal.returns-in-Rectangle
returns-in-Rectangle c =
    put_by _ _ _ _ c.in-Rectangle.is
    (c.rectangle_entries.ensures
    ∙ ap₂ (rectangle_entries _ _) c.abs_diff.ensures
    c.abs_diff-in-Rectangle.ensures) c.put_from-in-Rectangle.ensures

pub returns-in-Glyph : goal.returns-in-Glyph
returns-in-Glyph c =
    put_by _ _ _ _ c.in-Glyph.is
    c.glyph_entries.ensures c.put_from-in-Glyph.ensures

pub returns-in-Circle : goal.returns-in-Circle
returns-in-Circle c = put_by _ _ _ _ c.in-Circle.is refl c.put_circle.ensures
