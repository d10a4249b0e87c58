-- One law for each way out of `decode`: what the tests on that way say is what `decoded_of` asks, in its order.
use mathlib.Core.Path.{◌≡◌}
use mathlib.Core.Bool.{true, false}
use Prim.Native.Nat.{ℕ}
use Rattle.std.specs.Prelude.{Ok, Err}
use Rattle.dots.specs.Operation.{operation_of}
use Rattle.records.specs.declared.Raw.{Raw}
use Rattle.records.specs.declared.Refusal.TheVariants.{Form, GlyphNumber, Factor, Radius}
use Rattle.records.specs.Decode.{record_form_b, known_b, factor_b, radius_b, figure_of, decoded_of}

module _ (r : Raw) (glyphs : ℕ) where
  pub misformed : record_form_b r ≡ false → Err Form ≡ decoded_of r glyphs
  unfolding decoded_of
  misformed f = rw f

  pub unknown : record_form_b r ≡ true → known_b r glyphs ≡ false → Err GlyphNumber ≡ decoded_of r glyphs
  unfolding decoded_of
  unknown f k = rw (f, k)

  pub misfactored : record_form_b r ≡ true → known_b r glyphs ≡ true → factor_b r ≡ false → Err Factor ≡ decoded_of r glyphs
  unfolding decoded_of
  misfactored f k g = rw (f, k, g)

  pub out_of_range : record_form_b r ≡ true → known_b r glyphs ≡ true → factor_b r ≡ true → radius_b r ≡ false
      → Err Radius ≡ decoded_of r glyphs
  unfolding decoded_of
  out_of_range f k g s = rw (f, k, g, s)

  pub stands_for : record_form_b r ≡ true → known_b r glyphs ≡ true → factor_b r ≡ true → radius_b r ≡ true
      → Ok (record { op = operation_of r.op; figure = figure_of r }) ≡ decoded_of r glyphs
  unfolding decoded_of
  stands_for f k g s = rw (f, k, g, s)
