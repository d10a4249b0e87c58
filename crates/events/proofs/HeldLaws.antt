-- What a reader has to hold of a line: its first 81 characters say what the whole line says. For in a line that is longer they begin it
-- with the same character, and are more than 80 too.
use Prim.Native.Nat.{ℕ, ◌<◌}
use mathlib.Core.Path.{◌≡◌, ap}
use mathlib.Core.List.{List}
use lib.ListN.{length, take}
use lib.Seq.{take_all, get_or-take}
use native.Mathlib.Omega.{arith}
use native.Mathlib.Decide.{dec_lt}
use lib.Seq.{length-take-le}
use borrow.Author.Tests.{ne_eqb, lt-ltb}
use Rattle.events.specs.Event.{event_of}

module _ (s : List ℕ) where
  longer : 81 < length s → event_of (take 81 s) ≡ event_of s
  unfolding event_of
  longer h =
      let z : 0 < 81 = omega arith in
      let e : length (take 81 s) ≡ 81 = length-take-le 81 s (omega (arith, h)) in
      rw (
        get_or-take,
        e,
        ne_eqb (length s) 0 (omega (arith, h)),
        lt-ltb 80 (length s) (omega (arith, h)),
      )

  pub held_decides : event_of (take 81 s) ≡ event_of s
  held_decides = go (dec_lt 81 (length s))
    where
      go : Dec (81 < length s) → event_of (take 81 s) ≡ event_of s
      go (yes h) = longer h
      go (no h) = ap event_of (take_all 81 s (omega (arith, h)))
