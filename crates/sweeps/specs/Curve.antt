-- An arc's place, with what a move along the axis adds to its bit address.
use Rattle.std.specs.Prelude.{ℕ, ◌%◌}
use Rattle.sweeps.specs.declared.bits.Curve.{Curve}
use Rattle.passes.specs.Place.{place_on}

-- its bit address, and the place after a move
abbrev pub curve_at : Curve → ℕ
curve_at p = p.place.at % 4194304

abbrev pub curve_on : Curve → Curve
curve_on p = record { place = place_on p.axis p.place; axis = p.axis }
