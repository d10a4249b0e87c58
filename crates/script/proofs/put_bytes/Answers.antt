-- `put_bytes` gives `bytes_put`: what is left to be put decides, at each turn.
use mathlib.Core.Path.{sym, ◌∙◌}
use borrow.Author.Rules.{rules}
use Rattle.script.proofs.BytesLaws.{put_full, put_goes_on, put_ends}
use Rattle.script.proofs.put_bytes.Goals as goal

pub returns-then-to-at : goal.returns-then-to-at
returns-then-to-at c = sym (c.loop-left.invariant.1 ∙ put_full _ _ _ c.in-len2-up.len_at_least c.if-to-at.true)

pub loop-left-preserved : goal.loop-left-preserved
loop-left-preserved c = (
  search rules,
  c.loop-left.invariant.1 ∙ put_goes_on _ _ _ c.in-len2-up.len_at_least c.if-to-at.false c.byte_of.ensures,
)

pub returns : goal.returns
returns c = sym (c.loop-left.invariant.1 ∙ put_ends _ _ _ c.in_default.len_below)
