-- `zeros` gives `zeros_b`: what is left to be zero decides the whole, at each turn.
use Rattle.std.proofs.Common.{◌≡◌, ◌+◌, ◌-◌}
use Rattle.blocks.specs.Block.{zeros_b}
use Rattle.blocks.proofs.zeros.Given as goal

abbrev pub invariant-loop-i : goal.invariant-loop-i
invariant-loop-i l = zeros_b l.n l.s l.at ≡ zeros_b (l.n - l.i) l.s (l.at + l.i)
