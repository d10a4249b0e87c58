-- The lines that `listing` writes (`line_of` of its specs, without the line's end) say the entries that they were written of: each of the
-- sixteen digits is tried.
use Prim.Native.Nat.{ℕ, ◌+◌, ◌*◌, ◌<◌}
use mathlib.Core.Path.{◌≡◌, refl, ap}
use mathlib.Core.List.{[], ◌∷◌}
use mathlib.Core.Bool.{Bool, true, false, not, cond}
use lib.Dec.{T, ltb, eqb, eqb→eq}
use native.Mathlib.Omega.{arith}
use borrow.Author.Tests.{le-ltb}
use Rattle.dots.proofs.Below.{below}
use Rattle.events.specs.declared.Event.TheVariants.{Entry}
use Rattle.events.specs.Event.{digit_of, blank_b, span_of, entry_of, byte_of, field_of, said_by, event_of}

-- the digits 0 to 9 and A to F, in ASCII
abbrev pub upper_digit : ℕ → ℕ
upper_digit d = cond (ltb d 10) (48 + d) (55 + d)

digit_back : (d : ℕ) → d < 16 → digit_of (upper_digit d) ≡ d
unfolding digit_of
digit_back d h = eqb→eq _ _ (below (λ k. eqb (digit_of (upper_digit k)) k) 16 tt d h)

not_false : (b : Bool) → T (not b) → b ≡ false
not_false true t = absurd t
not_false false t = refl

no_blank : (d : ℕ) → d < 16 → blank_b (upper_digit d) ≡ false
unfolding blank_b
no_blank d h = not_false _ (below (λ k. not (blank_b (upper_digit k))) 16 tt d h)

module _ (high low : ℕ) (h : high < 16) (l : low < 16) where
  pub command_taken_law : event_of (67 ∷ 32 ∷ upper_digit high ∷ upper_digit low ∷ []) ≡ Entry (256 + (16 * high + low))
  unfolding event_of said_by field_of byte_of entry_of span_of
  command_taken_law =
      rw (no_blank low l, digit_back high h, digit_back low l, le-ltb 15 high (omega (arith, h)), le-ltb 15 low (omega (arith, l)))

  pub parameter_taken_law : event_of (80 ∷ 32 ∷ upper_digit high ∷ upper_digit low ∷ []) ≡ Entry (16 * high + low)
  unfolding event_of said_by field_of byte_of entry_of span_of
  parameter_taken_law =
      rw (no_blank low l, digit_back high h, digit_back low l, le-ltb 15 high (omega (arith, h)), le-ltb 15 low (omega (arith, l)))
      (ap Entry (omega arith))
