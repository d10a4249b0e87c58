-- `step` is the definition: by the sign of D; what wraps at 64 bits is not kept (`kept_wraps`).
use Prim.Native.Nat.{◌+◌}
use native.Mathlib.Omega.{arith}
use borrow.Author.Tests.{le-leb, lt-leb}
use Rattle.walks.specs.Address.{line_stepped}
use Rattle.walks.proofs.LoopLaws.{kept_wraps}
use Rattle.walks.proofs.line.LinePace.step.Goals.{then-self-ge35184372088832, else-self-ge35184372088832}
use Rattle.walks.proofs.line.LinePace.step.Goals as goal

pub returns : goal.returns
unfolding line_stepped
returns c =
    let s = c.args.self.place in
    elim c.if-self-ge35184372088832.branch [
      | then-self-ge35184372088832 w ↦ let t = w.if-self-ge35184372088832.true in
          rw (c.keep.ensures, kept_wraps (s + c.if-self-ge35184372088832.gain), w.gain-is, le-leb 35184372088832 s (omega (arith, t)))
      | else-self-ge35184372088832 w ↦ let t = w.if-self-ge35184372088832.false in
          rw (c.keep.ensures, kept_wraps (s + c.if-self-ge35184372088832.gain), w.gain-is, lt-leb 35184372088832 s (omega (arith, t)))
    ]
