-- 02, M-100: the eight arcs of a circle, and the numbers that they are sent with. The circle itself is the plane's shape (`lies_out`
-- and `circle_on` of crate geometry); nothing here knows the controller.
use Rattle.std.specs.Prelude.{ℕ, zero, suc, ◌+◌, ◌-◌, ◌*◌, ◌%◌, Bool, true, false, cond, not, ◌&&◌, [], ◌∷◌, eqb, ltb, leb, get_or}
use Rattle.geometry.specs.Plane.{Shape, some_to}

-- how far out dot i lies: the largest y with y(y - 1) + i² < r²
unfoldable pub out_below : ℕ → ℕ → ℕ → ℕ
out_below r i zero = 0
out_below r i (suc y) = cond (ltb (suc y * y + i * i) (r * r)) (suc y) (out_below r i y)

unfoldable pub circle_out : ℕ → ℕ → ℕ
circle_out r i = out_below r i r

-- "the largest i"
unfoldable pub last_below : ℕ → ℕ → ℕ
last_below r zero = 0
last_below r (suc i) = cond (leb (2 * (suc i * suc i)) (r * r)) (suc i) (last_below r i)

unfoldable pub largest : ℕ → ℕ
largest r = last_below r r

-- "where the octants' last dots coincide on the diagonal, that is where the largest i's dot lies i out"
unfoldable pub coincide : ℕ → Bool
coincide r = eqb (circle_out r (largest r)) (largest r)

-- "even ones have DM 0, odd ones DM 1 and a DC one less where" they coincide
unfoldable pub arc_dm : ℕ → ℕ
arc_dm dir = dir % 2

unfoldable pub arc_dc : ℕ → ℕ → ℕ
arc_dc r dir = largest r - cond (coincide r) (dir % 2) 0

-- how many dots an arc draws, "for i = 0 to DC, dots with i below DM are passed over": none where DM is above DC
abbrev pub arc_dots : ℕ → ℕ → ℕ
arc_dots r dir = arc_dc r dir + 1 - arc_dm dir

-- .. and a circle, whose arcs have no dot in common
unfoldable pub circle_dots : ℕ → ℕ
circle_dots r = arc_dots r 0 + arc_dots r 1 + arc_dots r 2 + arc_dots r 3 + arc_dots r 4 + arc_dots r 5 + arc_dots r 6 + arc_dots r 7

-- which way the arc of a DIR goes: whether its axis is across, and whether its diagonal goes right and down. An arc starts at the
-- end of the axis from which the axis move is the tangent and the diagonal goes inward.
pub record Way : Type 0 where
  pub across : Bool
  pub right : Bool
  pub down : Bool

abbrev pub way_of : ℕ → Way
way_of zero = record { across = false; right = true; down = true }
way_of (suc zero) = record { across = true; right = true; down = true }
way_of (suc (suc zero)) = record { across = true; right = true; down = false }
way_of (suc (suc (suc zero))) = record { across = false; right = true; down = false }
way_of (suc (suc (suc (suc zero)))) = record { across = false; right = false; down = false }
way_of (suc (suc (suc (suc (suc zero))))) = record { across = true; right = false; down = false }
way_of (suc (suc (suc (suc (suc (suc zero)))))) = record { across = true; right = false; down = true }
way_of (suc (suc (suc (suc (suc (suc (suc dir))))))) = record { across = false; right = false; down = true }

-- k dots on from a, forth or back
abbrev pub offset : Bool → ℕ → ℕ → ℕ
offset true a k = a + k
offset false a k = a - k

-- dot i of the arc of a DIR: i along the axis, y out on the side from which the diagonal goes inward
unfoldable pub arc_x : ℕ → ℕ → ℕ → ℕ → ℕ
arc_x cx r dir i = cond (way_of dir).across (offset (way_of dir).right cx i) (offset (not (way_of dir).right) cx (circle_out r i))

unfoldable pub arc_y : ℕ → ℕ → ℕ → ℕ → ℕ
arc_y cy r dir i = cond (way_of dir).across (offset (not (way_of dir).down) cy (circle_out r i)) (offset (way_of dir).down cy i)

-- its dot 0: left, top, bottom, left, right, bottom, top, right end
abbrev pub end_x : ℕ → ℕ → ℕ → ℕ
end_x cx r dir = get_or ((cx - r) ∷ cx ∷ cx ∷ (cx - r) ∷ (cx + r) ∷ cx ∷ cx ∷ (cx + r) ∷ []) dir 0

abbrev pub end_y : ℕ → ℕ → ℕ → ℕ
end_y cy r dir = get_or (cy ∷ (cy - r) ∷ (cy + r) ∷ cy ∷ cy ∷ (cy + r) ∷ (cy - r) ∷ cy ∷ []) dir 0

-- the dots that it draws: "for i = 0 to DC, dots with i below DM are passed over"
unfoldable pub arc_on : ℕ → ℕ → ℕ → ℕ → Shape
arc_on cx cy r dir x y = some_to (arc_dc r dir) (λ i. leb (arc_dm dir) i && (eqb x (arc_x cx r dir i) && eqb y (arc_y cy r dir i)))
