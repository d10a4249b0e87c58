-- The controller's axis and diagonal of a DIR are geometry's: eight cases, computed.
use mathlib.Core.Path.{◌≡◌}
use Prim.Native.Nat.{ℕ, ◌<◌}
use lib.Dec.{eqb, eqb→eq}
use Rattle.dots.proofs.Below.{below}
use Rattle.geometry.proofs.OctantLaws as octants
use Rattle.figures.specs.Figure.{axis_of, diagonal_of}

pub same_axis : (dir : ℕ) → dir < 8 → axis_of dir ≡ octants.axis_of dir
same_axis dir h = eqb→eq _ _ (below (λ j. eqb (axis_of j) (octants.axis_of j)) 8 tt dir h)

pub same_diagonal : (dir : ℕ) → dir < 8 → diagonal_of dir ≡ octants.diagonal_of dir
same_diagonal dir h = eqb→eq _ _ (below (λ j. eqb (diagonal_of j) (octants.diagonal_of j)) 8 tt dir h)
