-- `figure_dots` goes one of three ways, which walk alike (`dots_by_bits`).
use Rattle.std.proofs.lemmas.Option.{MatchOption-at_some}
use Rattle.walks.proofs.BitLaws.{dots_by_bits}
use Rattle.walks.proofs.figure_dots.Goals as goal

pub line_dots-requires : goal.line_dots-requires
line_dots-requires c = let v = MatchOption-at_some _ _ _ c.in-Some.is c.address_of.ensures in (c.if-b-eq-LINE_KIND.true, v.0)

pub returns-in-Some : goal.returns-in-Some
returns-in-Some c =
    let v = MatchOption-at_some _ _ _ c.in-Some.is c.address_of.ensures in
    dots_by_bits _ _ _ _ _ v.1 v.0 c.line_dots.ensures

pub side_dots-requires : goal.side_dots-requires
side_dots-requires c = let v = MatchOption-at_some _ _ _ c.in-Some.is c.address_of.ensures in (c.if-b-eq-LINE_KIND.false, v.0)

pub returns-in-Some-2 : goal.returns-in-Some-2
returns-in-Some-2 c =
    let v = MatchOption-at_some _ _ _ c.in-Some.is c.address_of.ensures in
    dots_by_bits _ _ _ _ _ v.1 v.0 c.side_dots.ensures
