-- `put_circle` gives `placed` of `circle_entries`: the arcs that are still to be placed, from where the loop stands, make the same list at
-- each turn.
use borrow.Author.Rules.{rules}
use mathlib.Core.Path.{refl, sym, ap, ◌∙◌}
use Rattle.entries.specs.Entries.{placed}
use Rattle.entries.proofs.CircleLaws.{dc_is, arcs_start, arcs_go_on, arcs_end}
use Rattle.entries.proofs.put_circle.Goals as goal

pub loop-dir-init : goal.loop-dir-init
loop-dir-init c = (refl, arcs_start _ _ _ _ _)

pub arc_entries-requires : goal.arc_entries-requires
arc_entries-requires c =
    record {
      dir_bound = search rules;
      dc_value = dc_is _ _ c.largest_of-largest.ensures c.coincides-coincide.ensures c.dc_of-dc.ensures;
    }

pub loop-dir-preserved : goal.loop-dir-preserved
loop-dir-preserved c = let l = c.loop-dir in (
  c.put_from.auto.out ∙ l.invariant.0,
  l.invariant.1 ∙ arcs_go_on _ _ _ _ _ _ c.loop-dir-test.true
      (c.put_from.ensures ∙ ap (placed _ _) c.arc_entries.ensures),
)

pub shape_of-out : goal.shape_of-out
shape_of-out c = c.loop-dir.invariant.0

pub returns : goal.returns
returns c = arcs_end _ _ _ _ _ _ c.loop-dir-test.false ∙ sym c.loop-dir.invariant.1
