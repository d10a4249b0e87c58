-- `side_end` goes by the three tests that tell the sides (SideLaws).
use Rattle.walks.proofs.SideLaws.{no_side, side_1, side_2, side_3, side_4}
use Rattle.walks.proofs.side.side_end.Goals as goal

pub returns-then-f-ne-RECTANGLE_KIND : goal.returns-then-f-ne-RECTANGLE_KIND
returns-then-f-ne-RECTANGLE_KIND c = no_side _ _ c.requires.0 _ c.if-f-ne-RECTANGLE_KIND.true c.requires.1

pub returns-then-k-first : goal.returns-then-k-first
returns-then-k-first c =
    side_1 _ _ c.requires.0 c.if-f-ne-RECTANGLE_KIND.false c.if-k-first.true

pub returns-then-k-second : goal.returns-then-k-second
returns-then-k-second c =
    side_2 _ _ c.requires.0 c.if-f-ne-RECTANGLE_KIND.false
    c.if-k-first.false c.if-k-second.true

pub returns-then-k-third : goal.returns-then-k-third
returns-then-k-third c =
    side_3 _ _ c.requires.0
    c.if-f-ne-RECTANGLE_KIND.false c.if-k-first.false c.if-k-second.false c.if-k-third.true

pub returns : goal.returns
returns c =
    side_4 _ _ c.requires.0 _
    c.if-f-ne-RECTANGLE_KIND.false c.if-k-first.false c.if-k-second.false c.if-k-third.false
    c.requires.1
