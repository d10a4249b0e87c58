-- A memory of a lawful length, over what the calls ensure.
use mathlib.Core.Path.{◌≡◌}
use mathlib.Core.Bool.{true}
use mathlib.Core.List.{List}
use Prim.Native.Nat.{ℕ}
use Rattle.dots.specs.declared.Wiring.{Wiring}
use Rattle.registers.specs.declared.Registers.{Registers}
use Rattle.registers.specs.Fresh.{fresh_set}
use Rattle.wirings.specs.Wired.{wired_as}
use Rattle.units.specs.Run.{length_b}
use Rattle.console.specs.declared.desk.Reply.TheVariants.{One}
use Rattle.controls.specs.Memory.{outcome, cleared_first, fresh_letter, fresh_done}

module _ (r : Registers) (words : ℕ) (mem : List ℕ) where
  pub made_fresh : (w : Wiring) (n : ℕ) {l : ℕ} {f q : Registers} {o : List ℕ} → l ≡ fresh_letter w → length_b w n ≡ true
      → o ≡ cleared_first n mem → f ≡ fresh_set → q ≡ wired_as w f
      → outcome (record { regs = q; words = n; reply = One l 0 }) o ≡ fresh_done w r words n mem
  unfolding fresh_done
  made_fresh w n k h e f g = rw (k, e, g, f, h)
