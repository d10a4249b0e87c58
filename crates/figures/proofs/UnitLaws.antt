-- An item of a read that is given, over what the calls ensure.
use mathlib.Core.Path.{◌≡◌}
use mathlib.Core.Bool.{true}
use mathlib.Core.List.{List}
use Prim.Native.Nat.{ℕ}
use Rattle.dots.specs.Cycle.{met_by}
use Rattle.registers.specs.declared.Transfer.{Transfer}
use Rattle.registers.specs.declared.Registers.{Registers}
use Rattle.registers.specs.State.{state}
use Rattle.figures.specs.Reading.{room_b, item_given, read_unit}

module _ (i : ℕ) (t : Transfer) (r : Registers) (m : List ℕ) where
  pub item_done : {w : ℕ} {q : Registers} → room_b t r.buffer ≡ true → w ≡ met_by r.board.wiring r.cursor.ead m
      → q ≡ item_given i t w r
      → state q m ≡ read_unit i t (state r m)
  unfolding read_unit
  item_done h e f = rw (h, f, e)
