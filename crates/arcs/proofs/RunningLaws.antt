-- An arc's moves and its beginning over what the code's calls ensure: D, D1 and D2 after a move by D's sign, once it has gained D1; FIGD
-- by whether the arc has a dot to draw.
use mathlib.Core.Path.{◌≡◌}
use Prim.Native.Nat.{ℕ, ◌+◌, ◌%◌, ◌≤◌, ◌<◌}
use borrow.Author.Tests.{le-leb, lt-leb, lt-ltb, le-ltb}
use Rattle.registers.specs.declared.Running.{Running}
use Rattle.registers.specs.declared.Registers.{Registers}
use Rattle.registers.specs.declared.Work.TheVariants.{Arc}
use Rattle.registers.specs.Size.{arc_cycles_of}
use Rattle.registers.specs.Put.{put_cursor, put_work}
use Rattle.arcs.specs.declared.Moving.{Moving}
use Rattle.arcs.specs.Arc.{gained, losing, running_on, passed}
use Rattle.arcs.specs.Unit.{copied, moving, arc_begun}

module _ (a : Running) {d x : ℕ} (gain : d ≡ gained a) (one : x ≡ losing a.d1) where
  pub turned_on : {y : ℕ} → 8192 ≤ d → y ≡ losing a.d2 → record { d = (d + a.d2) % 16384; d1 = x; d2 = y } ≡ running_on a
  unfolding running_on
  turned_on h two = let k : 8192 ≤ gained a = rw (← gain) h in rw (le-leb 8192 (gained a) k, gain, one, two)

  pub straight_on : d < 8192 → record { d = d; d1 = x; d2 = a.d2 } ≡ running_on a
  unfolding running_on
  straight_on h = let k : gained a < 8192 = rw (← gain) h in rw (lt-leb 8192 (gained a) k, gain, one)

module _ (r : Registers) {n : ℕ} {a : Running} (all : n ≡ arc_cycles_of r.drawing) (copy : a ≡ copied r.drawing) where
  pub arc_begins : 0 < n → put_work r (Arc 0 a) ≡ arc_begun r
  unfolding arc_begun
  arc_begins h = let k : 0 < arc_cycles_of r.drawing = rw (← all) h in rw (lt-ltb 0 (arc_cycles_of r.drawing) k, copy)

  pub arc_passes : {m : Moving} → n ≤ 0 → m ≡ passed r.drawing.dir r.pitch (moving r a) r.drawing.dc
      → put_cursor r m.cursor ≡ arc_begun r
  unfolding arc_begun
  arc_passes h e = let k : arc_cycles_of r.drawing ≤ 0 = rw (← all) h in rw (le-ltb 0 (arc_cycles_of r.drawing) k, e, copy)
