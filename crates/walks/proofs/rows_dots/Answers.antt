-- `rows_dots` goes one of two ways, which walk alike (`row_by_bits`).
use mathlib.Core.Path.{sym, ◌∙◌}
use Prim.Native.Nat.{◌-◌}
use Rattle.std.proofs.lemmas.Option.{MatchOption-at_some}
use Rattle.dots.specs.declared.Cursor.{Cursor}
use Rattle.walks.specs.Walk.{rows_walk}
use Rattle.walks.proofs.BitLaws.{row_by_bits}
use Rattle.walks.proofs.rows_dots.Goals as goal

pub rows_bits-requires : goal.rows_bits-requires
rows_bits-requires c =
    let v = MatchOption-at_some _ _ _ c.in-Some.is c.address_of.ensures in
    (sym c.factor_of.ensures ∙ c.if-factor_of-eq1.true, v.0)

pub returns-in-Some : goal.returns-in-Some
returns-in-Some c =
    let a = c.args in
    let v = MatchOption-at_some _ _ _ c.in-Some.is c.address_of.ensures in
    row_by_bits (λ (v : Cursor). rows_walk a.b (a.end - a.y) a.y v a.mem.now) c.rows_bits.result v.1 v.0 c.cursor_at.ensures
    c.rows_bits.ensures
