-- `pattern_of` is the definition: a shift by k is a division by 2^k.
use Rattle.figures.specs.Figure.{pattern_of}
use Rattle.dots.specs.Bit.{bit}
use mathlib.Core.Path.{refl}
use Rattle.figures.proofs.figure.pattern_of.Goals as goal

pub returns : goal.returns
unfolding pattern_of bit
returns c = refl
