-- 02, M-108: "A register-set field says folded or open wiring."
use Rattle.std.specs.Prelude.{ℕ, List, [], ◌∷◌, Bool, true, false, cond, ◌&&◌, eqb, Option, None, Some}
use Rattle.dots.specs.declared.Wiring.{Wiring}
use Rattle.dots.specs.declared.Wiring.TheVariants.{Folded, Open}
use Rattle.registers.specs.declared.Registers.{Registers}
use Rattle.registers.specs.Put.{put_board}

-- the same characters
unfoldable pub same_b : List ℕ → List ℕ → Bool
same_b [] [] = true
same_b [] (b ∷ t) = false
same_b (a ∷ s) [] = false
same_b (a ∷ s) (b ∷ t) = eqb a b && same_b s t

-- the words "open" and "folded", in ASCII
abbrev pub open_word : List ℕ
open_word = 111 ∷ 112 ∷ 101 ∷ 110 ∷ []

abbrev pub folded_word : List ℕ
folded_word = 102 ∷ 111 ∷ 108 ∷ 100 ∷ 101 ∷ 100 ∷ []

-- the wiring that a word names
unfoldable pub wiring_named : List ℕ → Option Wiring
wiring_named s = cond (same_b s open_word) (Some Open) (cond (same_b s folded_word) (Some Folded) None)

-- the register set of a board that is wired so
abbrev pub wired_as : Wiring → Registers → Registers
wired_as w r = put_board r (record { wiring = w })
