-- 02, M-100: "With D = r - 1, D2 = 2(r - 1), D1 = -1 this is the midpoint circle." `midpoint_circle` of proofs/ArcLaws.antt proves the
-- last definition of this file.
use Rattle.std.specs.Prelude.{◌≡◌, true, cond, ℕ, zero, suc, ◌+◌, ◌-◌, ◌*◌, ◌≤◌, ◌<◌}
use Rattle.geometry.specs.Plane.{lies_out}
use Rattle.registers.specs.declared.Running.{Running}
use Rattle.registers.specs.Width.{fourteen_bits, sign}
use Rattle.arcs.specs.Arc.{turns_b, running_on}
use Rattle.circles.specs.Circle.{circle_out}

-- "With D = r - 1, D2 = 2(r - 1), D1 = -1", in 14 bits
abbrev pub circle_running : ℕ → Running
circle_running r = record { d = r - 1; d1 = fourteen_bits - 1; d2 = 2 * (r - 1) }

-- D, D1 and D2 at dot i
unfoldable pub running_after : Running → ℕ → Running
running_after a zero = a
running_after a (suc i) = running_on (running_after a i)

-- dot i lies y out, as the request says; D is r² - 1 - i² - y(y - 1), D1 is -1 - 2i and D2 is 2(y - 1), none of which has wrapped in its
-- 14 bits; and dot i + 1, if it is the octant's, lies one less out exactly if the move to it is diagonal
pub record Midpoint (r i y next : ℕ) (a : Running) : Type 0 where
  pub out : lies_out r i y ≡ true
  pub d : a.d + 1 + i * i + y * (y - 1) ≡ r * r
  pub d1 : a.d1 + 1 + 2 * i ≡ fourteen_bits
  pub d2 : a.d2 ≡ 2 * (y - 1)
  pub d_positive : a.d < sign
  pub d1_negative : sign ≤ a.d1
  pub d2_positive : a.d2 < sign
  pub falls : 2 * (suc i * suc i) ≤ r * r → next + cond (turns_b a) 1 0 ≡ y

-- "for every i with 2i² at most r²", of a "radius 1 to 2,000"
abbrev pub MidpointCircle : Type 0
MidpointCircle =
    (r i : ℕ) → 1 ≤ r → r ≤ 2000 → 2 * (i * i) ≤ r * r
    → Midpoint r i (circle_out r i) (circle_out r (suc i)) (running_after (circle_running r) i)
