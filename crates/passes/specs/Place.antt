-- An arc whose mask is one bit, by its bit address: what the fast loops compute. D, D1 and D2 stand in the high 14 of 64 bits, so that
-- their sums wrap by themselves; proofs/PlaceLaws shows that a move here is a move of the cursor and of the copies.
use Rattle.std.specs.Prelude.{◌≡◌, ℕ, zero, suc, ◌+◌, ◌*◌, ◌/◌, ◌%◌, ◌<◌, Bool, true, false, nat_le}
use Rattle.dots.specs.Dot.{cursor_at}
use Rattle.registers.specs.declared.Running.{Running}
use Rattle.arcs.specs.declared.Moving.{Moving}
use Rattle.passes.specs.declared.Place.{Place}

-- 2^50, and 2 less of a number there
abbrev pub unit : ℕ
unit = 1125899906842624

abbrev pub two_less : ℕ
two_less = 18444492273895866368

abbrev pub wrapped : ℕ → ℕ
wrapped n = n % 18446744073709551616

-- the 14 bits, and 22 of a bit address, are kept
unfoldable pub kept : ℕ → ℕ
kept t = t / unit * unit + t % 4194304

-- D gains D1
abbrev pub gaining : Place → ℕ
gaining p = wrapped (p.at + p.gain)

-- one move, by D's sign
abbrev pub place_by : Bool → ℕ → Place → Place
place_by true axis p =
    record { at = kept (wrapped (gaining p + p.turn)); gain = wrapped (p.gain + two_less); turn = wrapped (p.turn + two_less) }
place_by false axis p = record { at = kept (wrapped (gaining p + axis)); gain = wrapped (p.gain + two_less); turn = p.turn }

unfoldable pub place_on : ℕ → Place → Place
place_on axis p = place_by (nat_le 9223372036854775808 (gaining p)) axis p

-- n moves
unfoldable pub place_passed : ℕ → Place → ℕ → Place
place_passed axis p zero = p
place_passed axis p (suc n) = place_on axis (place_passed axis p n)

-- an arc at a bit address; what a diagonal move adds to it stands beside D2
abbrev pub place_of : ℕ → ℕ → Running → Place
place_of diagonal a r =
    record { at = r.d % 16384 * unit + a; gain = r.d1 % 16384 * unit; turn = r.d2 % 16384 * unit + diagonal }

-- and back
abbrev pub standing_at : Place → Moving
standing_at p =
    record {
      running = record { d = p.at / unit; d1 = p.gain / unit; d2 = p.turn / unit };
      cursor = cursor_at (p.at % 4194304);
    }

-- a bit address below 2^22 is the arc's, whose copies have 14 bits
pub record Stands (m : Moving) (a : ℕ) : Type 0 where
  pub at : a < 4194304 → cursor_at a ≡ m.cursor
  pub d : a < 4194304 → m.running.d < 16384
  pub d1 : a < 4194304 → m.running.d1 < 16384
  pub d2 : a < 4194304 → m.running.d2 < 16384
