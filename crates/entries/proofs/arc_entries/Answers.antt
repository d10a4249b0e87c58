-- `arc_entries` gives `arc_entries`: entry by entry what the calls give; no end lies past 131,071.
use mathlib.Core.Path.{◌≡◌}
use native.Mathlib.Omega.{arith}
use Rattle.circles.specs.Circle.{arc_dc, arc_dm}
use Rattle.entries.specs.Entries.{arc_entries}
use Rattle.entries.proofs.CircleLaws.{end_small}
use borrow.Author.Rules.{rules}
use Rattle.entries.proofs.arc_entries.Goals as goal

pub word_of-e-requires : goal.word_of-e-requires
word_of-e-requires c =
    omega (
      arith,
      c.end_y.ensures,
      end_small c.args.c.y c.args.r c.args.dir
          (search rules) (search rules) (search rules),
    )

pub returns : goal.returns
unfolding arc_entries arc_dm
returns c =
    let a = c.args in
    let dc : a.dc ≡ arc_dc a.r a.dir = search rules in
    rw (
      dc,
      c.third.ensures,
      c.saturating_sub-d.ensures,
      c.word_of-e.ensures,
      c.end_y.ensures,
      c.end_x-x.ensures,
    )
