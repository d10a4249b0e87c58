-- `read_line` gives `line_of`: the same tests.
use native.Mathlib.Omega.{arith}
use lib.ListN.{length}
use mathlib.Core.Path.{sym, ◌∙◌}
use borrow.Author.Tests.{eq-eqb, ne_eqb, lt-ltb, le-ltb}
use Rattle.std.proofs.Common.{inl, inr}
use Rattle.script.proofs.LineLaws.{bytes_line, fields_line}
use Rattle.script.specs.Line.{line_of}
use Rattle.script.proofs.read_line.Goals as goal

pub returns-then-is_empty : goal.returns-then-is_empty
unfolding line_of
returns-then-is_empty c = rw (sym c.if-is_empty.ensures)

pub returns-then-s-gt20000 : goal.returns-then-s-gt20000
unfolding line_of
returns-then-s-gt20000 c = rw (sym c.if-is_empty.ensures, lt-ltb 20000 _ c.if-s-gt20000.true)

pub returns-then-s-eq1 : goal.returns-then-s-eq1
unfolding line_of
returns-then-s-eq1 c =
    rw (sym c.if-is_empty.ensures, le-ltb 20000 (length c.args.s.now) (omega arith), eq-eqb _ 1 c.if-s-eq1.true)

pub returns-then-s-ne32 : goal.returns-then-s-ne32
unfolding line_of
returns-then-s-ne32 c =
    rw (
      sym c.if-is_empty.ensures,
      le-ltb 20000 (length c.args.s.now) (omega arith),
      ne_eqb _ 1 c.if-s-eq1.false,
      ne_eqb _ 32 c.if-s-ne32.true,
    )

pub returns-in-71 : goal.returns-in-71
returns-in-71 c =
    bytes_line _ c.if-is_empty.ensures (omega arith) c.if-s-eq1.false c.if-s-ne32.false c.in-71.is

pub returns-in_default : goal.returns-in_default
returns-in_default c = let n = c.in_default.in_default-own.rest in
    c.fields.ensures
    ∙ fields_line _ c.if-is_empty.ensures (omega arith) c.if-s-eq1.false c.if-s-ne32.false (λ e. n.1 (inr e)) (λ e. n.1 (inl e))
