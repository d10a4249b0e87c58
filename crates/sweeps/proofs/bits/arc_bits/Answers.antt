-- `arc_bits` walks as the cursor does (`bits_walk`).
use Rattle.sweeps.proofs.WalkLaws.{bits_walk}
use Rattle.sweeps.proofs.bits.arc_bits.Goals as goal

pub returns : goal.returns
returns c =
    bits_walk _ _ _ c.axis_of.ensures c.stride-axis.ensures c.diagonal_of.ensures c.stride-diagonal.ensures _ _ _ _ _ _ c.requires.1
    c.requires.0 c.place_of.ensures c.stroke.ensures c.walk.ensures c.standing.ensures
