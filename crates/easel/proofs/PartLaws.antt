-- The sheet is the part that is in use of what lies behind the glyph table.
use mathlib.Core.Path.{◌≡◌, ◌∙◌}
use mathlib.Core.List.{List}
use Prim.Native.Nat.{ℕ, ◌-◌, ◌≤◌}
use native.Mathlib.Omega.{arith}
use lib.ListN.{length, take, drop, length-drop}
use lib.Seq.{take_all}
use borrow.Author.Tests.{le-ltb}
use Rattle.std.specs.List.{slice_range}
use Rattle.buffers.specs.Used.{used_of}
use Rattle.easel.specs.Parts.{sheet_of}

pub sheet_part : (xs : List ℕ) (n : ℕ) {k : ℕ} {rest : List ℕ} → 4096 ≤ length xs → rest ≡ slice_range xs 4096 (length xs)
    → k ≡ used_of n rest → take k rest ≡ sheet_of xs n
unfolding sheet_of
sheet_part xs n h e used =
    let behind : take (length xs - 4096) (drop 4096 xs) ≡ drop 4096 xs =
    take_all (length xs - 4096) (drop 4096 xs) (omega (arith, length-drop 4096 xs)) in
    rw (used, e ∙ behind, le-ltb (length xs) 4096 h)
