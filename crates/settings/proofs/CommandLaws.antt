-- Commands by their places in the enum: those that set registers.
use mathlib.Core.Path.{◌≡◌, refl}
use mathlib.Core.Bool.{true, false}
use mathlib.Core.List.{List, [], ◌∷◌}
use Prim.Native.Nat.{ℕ, ◌<◌}
use types.Run.{OneOf, miss}
use denote.Enum.Declared.{tag_of}
use borrow.Author.Tests.{lt-ltb}
use Rattle.registers.specs.declared.Command.{Command}
use Rattle.registers.specs.declared.Command.TheVariants.{Nothing, Reset, Vsync, Cchar, Start, Zoom, Curs, Pram, Pitch, Mask, Figs, Figd}
use Rattle.registers.specs.declared.Command.TheVariants.{Gchrd, Curd, Lprd, Wdat, Rdat, Unknown}
use Rattle.registers.specs.contracts.Command as C
use Rattle.settings.specs.Settings.{setting_b, settable_b}

-- the commands that do more than set registers
abbrev more : List ℕ
more = 0 ∷ 1 ∷ 2 ∷ 3 ∷ 4 ∷ 11 ∷ 12 ∷ 13 ∷ 14 ∷ 16 ∷ 17 ∷ []

pub not_setting : (c : Command) → OneOf more (tag_of C.the_type c) → false ≡ setting_b c
not_setting Nothing h = refl
not_setting Reset h = refl
not_setting Vsync h = refl
not_setting Cchar h = refl
not_setting Start h = refl
not_setting Zoom h = absurd (miss more 5 tt h)
not_setting Curs h = absurd (miss more 6 tt h)
not_setting Pram h = absurd (miss more 7 tt h)
not_setting Pitch h = absurd (miss more 8 tt h)
not_setting Mask h = absurd (miss more 9 tt h)
not_setting Figs h = absurd (miss more 10 tt h)
not_setting Figd h = refl
not_setting Gchrd h = refl
not_setting Curd h = refl
not_setting Lprd h = refl
not_setting (Wdat t) h = absurd (miss more 15 tt h)
not_setting (Rdat t) h = refl
not_setting Unknown h = refl

-- ---- an entry is a parameter, or a command of nine bits
module _ (held : Command) (e : ℕ) where
  -- a parameter only of such a command
  pub settable_parameter : e < 256 → settable_b held e ≡ true → setting_b held ≡ true
  unfolding settable_b
  settable_parameter h s = rw (lt-ltb e 256 h) at s
