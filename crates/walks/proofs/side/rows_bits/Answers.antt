-- `rows_bits`: what is left to do from here is what was to do from the start, a row at a time (`rows_on`).
use mathlib.Core.Path.{refl, sym, ◌∙◌}
use native.Mathlib.Omega.{arith}
use Rattle.walks.proofs.BitLaws.{stride_small}
use Rattle.walks.proofs.RowLaws.{next_bits}
use Rattle.walks.proofs.WalkLaws.{rows_on, rows_end}
use Rattle.walks.proofs.side.rows_bits.Goals as goal

pub row_bits-s-requires : goal.row_bits-s-requires
row_bits-s-requires c =
    (c.requires.0, c.loop-i.invariant.small)

pub overflow_add-s : goal.overflow_add-s
overflow_add-s c =
    omega (
      arith,
      c.loop-i.invariant.small,
      stride_small c.stride-down.ensures,
    )

pub loop-i-preserved : goal.loop-i-preserved
loop-i-preserved c = let l = c.loop-i in
    record {
      small = omega arith;
      same = l.invariant.same ∙ rows_on _ _ _ _ _ c.loop-i-test.true
          c.columns_of-columns.ensures c.row_bits-s.ensures
          (next_bits c.args.b _ l.invariant.small refl
          c.stride-down.ensures);
    }

pub returns : goal.returns
returns c = rows_end _ _ _ _ _ c.loop-i-test.false ∙ sym c.loop-i.invariant.same
