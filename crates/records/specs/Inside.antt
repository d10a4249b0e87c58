-- 01, Numbers of refusal, 19, "a dot outside", judged in plain numbers: a line or rectangle by its corners, a glyph by its square,
-- a circle by its four ends. That this is the same as "some dot of the figure lies outside the plane" is a law of crate demand
-- (proofs/InsideLaws).
use Rattle.std.specs.Prelude.{ℕ, ◌+◌, ◌*◌, Bool, cond, ◌&&◌, ltb, leb, Ok, Err}
use Rattle.records.specs.declared.Room.{Room}
use Rattle.records.specs.declared.Point.{Point}
use Rattle.records.specs.declared.Figure.{Figure}
use Rattle.records.specs.declared.Figure.TheVariants.{Dot, Line, Rectangle, Glyph, Circle}
use Rattle.records.specs.declared.Refusal.TheVariants.{Outside}
use Rattle.records.specs.Decode.{Decoded}

-- the plane has the dots below `across` and `down`
abbrev pub point_b : Room → Point → Bool
point_b m a = ltb a.x m.across && ltb a.y m.down

-- "Glyph at top left: 8g by 8g dots"
abbrev pub square_b : Room → Point → ℕ → Bool
square_b m a g = leb (a.x + 8 * g) m.across && leb (a.y + 8 * g) m.down

-- 02, M-100, "a circle about x, y": its ends are x - r, x + r and y - r, y + r, and x - r may be below 0
abbrev pub circle_b : Room → Point → ℕ → Bool
circle_b m a r = leb r a.x && leb r a.y && ltb (a.x + r) m.across && ltb (a.y + r) m.down

abbrev pub inside_b : Room → Figure → Bool
inside_b m (Dot a) = point_b m a
inside_b m (Line a b) = point_b m a && point_b m b
inside_b m (Rectangle a b) = point_b m a && point_b m b
inside_b m (Glyph a n g) = square_b m a g
inside_b m (Circle a r) = circle_b m a r

-- 19 after 16 to 18: what was decoded, as it is judged in the plane
abbrev pub judged : Room → Decoded → Decoded
judged m (Ok r) = cond (inside_b m r.figure) (Ok r) (Err Outside)
judged m (Err w) = Err w
