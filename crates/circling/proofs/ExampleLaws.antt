-- Worked examples, each by computing: the request's radius 1, a radius whose last dots coincide, and one that leaves a gap on each
-- diagonal.
use mathlib.Core.Path.{◌≡◌, refl}
use mathlib.Core.Bool.{true, false}
use Rattle.geometry.specs.Plane.{lies_out, circle_on}
use Rattle.arcs.specs.Arc.{running_on}
use Rattle.circles.specs.Circle.{out_below, circle_out, last_below, largest, coincide, arc_dm, arc_dc}
use Rattle.circling.specs.Midpoint.{circle_running, running_after}

-- "never at radius 1, where odd arcs have DC 0 and draw nothing"
radius_1 : (coincide 1 ≡ false) × (arc_dc 1 1 ≡ 0) × (arc_dm 1 ≡ 1)
unfolding coincide circle_out out_below largest last_below arc_dc arc_dm
radius_1 = (refl, refl, refl)

-- radius 3: the last dots are (2, 2), so the odd arcs have one dot less
radius_3 : (largest 3 ≡ 2) × (circle_out 3 2 ≡ 2) × (arc_dc 3 0 ≡ 2) × (arc_dc 3 1 ≡ 1)
unfolding coincide circle_out out_below largest last_below arc_dc
radius_3 = (refl, refl, refl, refl)

-- radius 7: the last dots are (4, 6) and (6, 4), and (5, 5) between them is no dot of the circle
radius_7 : (largest 7 ≡ 4) × (circle_out 7 4 ≡ 6) × (circle_on 10 10 7 14 16 ≡ true) × (circle_on 10 10 7 16 14 ≡ true)
    × (circle_on 10 10 7 15 15 ≡ false)
unfolding circle_out out_below largest last_below circle_on lies_out
radius_7 = (refl, refl, refl, refl, refl)

-- .. and the registers at its last dot: D = 49 - 1 - 16 - 30, D1 = -9, D2 = 10
radius_7_registers : running_after (circle_running 7) 4 ≡ record { d = 2; d1 = 16375; d2 = 10 }
unfolding running_after running_on
radius_7_registers = refl
