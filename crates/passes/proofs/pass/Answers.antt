-- `pass` moves as the cursor does, either way.
use Rattle.std.proofs.lemmas.Option.{MatchOption-at_some}
use Rattle.passes.proofs.PlaceLaws.{passes_by}
use Rattle.passes.proofs.pass.Goals as goal

pub returns : goal.returns
returns c =
    let v = MatchOption-at_some {o = c.address_of.result} _ _ c.in-Some.at c.in-Some.is c.address_of.ensures in
    passes_by _ _ _ _ c.axis_of.ensures c.stride-axis.ensures c.diagonal_of.ensures c.stride-diagonal.ensures _ _ _ v.1 v.0
    c.place_of-from.ensures c.pass_loop.ensures c.standing.ensures
