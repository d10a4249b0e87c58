-- What a record's entries begin with: WDAT sets the operation, CURS goes to the figure's first dot, and PRAM sets a pattern of
-- ones. After them nothing of the controller's earlier mask, address, operation or pattern is left.
use mathlib.Core.Path.{◌≡◌, ap}
use mathlib.Core.List.{List, [], ◌∷◌}
use Prim.Native.Nat.{ℕ, ◌+◌, ◌*◌, ◌/◌, ◌%◌, ◌^◌, ◌≤◌}
use native.Mathlib.Nat.{mul_left_comm}
use native.Mathlib.Omega.{arith}
use lib.Dec.{eqb, eqb→eq}
use lib.ListN.{length, set, length-set}
use lib.Seq.{get_or-set_same, get_or-set_other}
use Rattle.dots.specs.declared.Operation.{Operation}
use Rattle.dots.specs.Operation.{operation_number}
use Rattle.dots.specs.declared.Cursor.{Cursor}
use Rattle.dots.specs.Bit.{bit}
use Rattle.dots.specs.Dot.{cursor_at}
use Rattle.dots.proofs.Below.{below}
use Rattle.dots.proofs.OperationLaws.{operation_below, operation_back}
use Rattle.dots.proofs.DotLaws.{address}
use Rattle.geometry.specs.Plane.{InPlane}
use Rattle.geometry.proofs.WalkLaws.{address_word}
use Rattle.geometry.proofs.FigureLaws.{spread}
use Rattle.records.specs.declared.Point.{Point}
use Rattle.entries.specs.Entries.{ead_of, cursor_entries, head_entries}
use Rattle.registers.specs.declared.Command.TheVariants.{Pram, Curs, Wdat}
use Rattle.registers.specs.declared.Transfer.TheVariants.{Word}
use Rattle.registers.specs.declared.Registers.{Registers}
use Rattle.registers.specs.Put.{put_cursor, put_op, put_ram, put_progress}
use Rattle.figures.specs.Figure.{pattern_of, pattern_at}
use Rattle.sending.proofs.WaitLaws.{Waiting, drained}
use Rattle.sending.proofs.SendLaws.{Acts, acts_then}
use Rattle.sending.proofs.EntryLaws.{progress, wdat_command}
use Rattle.sending.proofs.GroupLaws.{acts_as, acts_curs, acts_ones}

-- WDAT gets the operation's number, and the controller has the operation from it
pub acts_wdat : {r : Registers} → Waiting r → (op : Operation)
    → Acts r ((0x120 + operation_number op) ∷ []) (put_progress (put_op (drained r) op) (progress (Wdat Word) 0))
acts_wdat {r} v op =
    acts_as (wdat_command v (operation_number op) (operation_below op))
    (ap (λ (o : Operation). put_progress (put_op (drained r) o) (progress (Wdat Word) 0)) (operation_back op))

-- CURS goes to the dot's own cursor
cursor_is : (p : ℕ) (a : Point) → ◌≡◌ {A = Cursor} (record { ead = ead_of p a; mask = 2 ^ (a.x % 16) }) (cursor_at (address p a.x a.y))
unfolding address
cursor_is p a =
    let e : a.y * (16 * p) ≡ 16 * (a.y * p) = mul_left_comm a.y 16 p in
    let u : a.y * p + a.x / 16 ≡ (a.y * (16 * p) + a.x) / 16 = omega arith in
    let w : a.x % 16 ≡ (a.y * (16 * p) + a.x) % 16 = omega arith in
    λ i. record { ead = u i; mask = 2 ^ (w i) }

module _ (p h : ℕ) (area : p * h ≤ 262144) (a : Point) (inside : InPlane p h a.x a.y) {r : Registers} (v : Waiting r) where
  pub acts_cursor : Acts r (cursor_entries (ead_of p a) a.x)
      (put_progress (put_cursor (drained r) (cursor_at (address p a.x a.y))) (progress Curs 3))
  acts_cursor =
      let w = address_word p h a.x a.y inside in
      let e = ap (λ (c : Cursor). c.ead) (cursor_is p a) in
      acts_as (acts_curs v (ead_of p a) a.x (omega arith))
      (ap (λ (c : Cursor). put_progress (put_cursor (drained r) c) (progress Curs 3)) (cursor_is p a))

-- the first dot and the pattern are set
abbrev pub aimed : Registers → Cursor → Registers
aimed r c = put_progress (put_ram (put_cursor (drained r) c) (set (set r.ram 8 255) 9 255)) (progress Pram 10)

pub acts_head : (p h : ℕ) → p * h ≤ 262144 → (a : Point) → InPlane p h a.x a.y → {r : Registers} → Waiting r
    → Acts r (head_entries p a) (aimed r (cursor_at (address p a.x a.y)))
acts_head p h area a inside v =
    let first = acts_cursor p h area a inside v in
    acts_then first (acts_ones first.waits)

-- the pattern is all ones
ones : (k : ℕ) → bit (k % 16) 65535 ≡ 1
unfolding bit
ones k = eqb→eq _ _ (below (λ j. eqb (bit j 65535) 1) 16 tt (k % 16) (omega arith))

pub pattern_ones : (ram : List ℕ) → length ram ≡ 16 → (i k : ℕ) → bit (k % 16) (pattern_at (set (set ram 8 255) 9 255) i) ≡ 1
unfolding pattern_at pattern_of
pattern_ones ram l i k =
    let high = get_or-set_same (set ram 8 255) 9 255 0 (rw (length-set ram 8 255) (omega arith)) in
    let low = get_or-set_other (set ram 8 255) 9 8 255 0 (λ z. omega arith) in
    rw (high, low, get_or-set_same ram 8 255 0 (omega arith), ones i) (spread 1 k (omega arith))
