-- An arc, from CURS to its last dot, the operation being set: if the cycles of its registers change a shape of the plane once, then its
-- entries are accepted and change just that shape. The twin of `figd_law`; an arc with DM above DC makes no cycle, and its shape has no
-- dot.
use mathlib.Core.Path.{◌≡◌, refl, sym}
use mathlib.Core.List.{List, [], ◌∷◌, ◌++◌}
use Prim.Native.Nat.{ℕ, zero, suc, ◌+◌, ◌%◌, ◌<◌}
use native.Mathlib.Omega.{arith}
use lib.ListN.{set}
use Rattle.dots.specs.declared.Operation.{Operation}
use Rattle.dots.specs.Bit.{bit}
use Rattle.dots.specs.Dot.{cursor_at}
use Rattle.dots.proofs.DotLaws.{address}
use Rattle.geometry.specs.Plane.{InPlane, Shape, solid}
use Rattle.geometry.proofs.WalkLaws.{Sized}
use Rattle.geometry.proofs.CycleLaws.{cycles, Drawn}
use Rattle.records.specs.declared.Point.{Point}
use Rattle.entries.specs.Entries.{head_entries}
use Rattle.registers.specs.declared.Drawing.{Drawing}
use Rattle.registers.specs.declared.Registers.{Registers}
use Rattle.registers.specs.Size.{arc_kind, arc_cycles_of}
use Rattle.registers.specs.State.{State, state}
use Rattle.figures.specs.Figure.{pattern_at}
use Rattle.arcs.specs.Arc.{passed}
use Rattle.arcs.specs.Unit.{copied}
use Rattle.sending.proofs.WaitLaws.{Waiting}
use Rattle.sending.proofs.SendLaws.{leads_then, Acts}
use Rattle.sending.proofs.GroupLaws.{drawing_set}
use Rattle.sending.proofs.DrawLaws.{figd}
use Rattle.sending.proofs.ArcLaws.{arc_ended, arc_passed, arc_draws, arc_waits, arc_passes}
use Rattle.demand.proofs.HeadLaws.{acts_head, pattern_ones}
use Rattle.demand.proofs.DrawsLaws.{Held, Draws, leads_count, base}

module _ (p h : ℕ) (sized : Sized p h) (s : State) (held : Held p h s) (op : Operation) (is : s.regs.op ≡ op) (a : Point)
    (inside : InPlane p h a.x a.y) where
  abbrev first : Registers
  first = base p h sized s held op is a inside

  -- the entries of FIGS set f
  module _ (figs : List ℕ) (f : Drawing) (i : ℕ) (on : Shape) (sets : Waiting first → Acts first figs (drawing_set first f i))
      (arc : f.kind ≡ arc_kind) (few : arc_cycles_of f < 65536)
      (geometry : (t : ℕ → ℕ) → ((j k : ℕ) → bit (k % 16) (t j) ≡ 1)
      → Drawn p h op on solid s.mem (cycles s.regs.board.wiring op (λ j. t (f.dm + j))
      (λ j. (passed f.dir p (record { running = copied f; cursor = cursor_at (address p a.x a.y) }) (f.dm + j)).cursor)
      (arc_cycles_of f) s.mem)) where
    abbrev ready : Registers
    ready = drawing_set first f i

    head : Acts s.regs (head_entries p a) first
    head = acts_head p h sized.area a inside held.waits

    tail : Acts first figs ready
    tail = sets head.waits

    abbrev ones : ℕ → ℕ
    ones = pattern_at (set (set s.regs.ram 8 255) 9 255)

    abbrev made : Operation → ℕ → ℕ → List ℕ
    made o k n =
        cycles s.regs.board.wiring o (λ j. ones (f.dm + j))
        (λ j. (passed f.dir k (record { running = copied f; cursor = cursor_at (address p a.x a.y) }) (f.dm + j)).cursor) n s.mem

    changes : (n : ℕ) → n ≡ arc_cycles_of f → Drawn p h op on solid s.mem (made s.regs.op s.regs.pitch n)
    changes n e =
        rw (e, is, held.pitch) (geometry ones (λ j k. pattern_ones s.regs.ram held.waits.lawful.ram j k))

    by_count : (n : ℕ) → n ≡ arc_cycles_of f → Draws p h op on solid s (head_entries p a ++ figs ++ 0x16C ∷ []) n
    unfolding cycles
    by_count zero e =
        let none = arc_passes tail.waits arc (sym e) in
        record {
          after = state (arc_passed (figd ready) []).regs s.mem;
          leads = leads_count (leads_then (head.leads s.mem held.lawful) (leads_then (tail.leads s.mem held.lawful)
              (none.leads s.mem held.lawful))) (omega arith);
          waits = none.waits;
          pitch = held.pitch;
          keeps = is;
          board = refl;
          drawn = changes 0 e;
        }
    by_count (suc n) e =
        record {
          after = arc_ended (figd ready) s.mem n;
          leads = leads_count (leads_then (head.leads s.mem held.lawful) (leads_then (tail.leads s.mem held.lawful)
              (arc_draws tail.waits arc n e s.mem held.lawful (omega arith)))) (omega arith);
          waits = arc_waits tail.waits arc n e s.mem;
          pitch = held.pitch;
          keeps = is;
          board = refl;
          drawn = changes (suc n) e;
        }

    pub arc_law : Draws p h op on solid s (head_entries p a ++ figs ++ 0x16C ∷ []) (arc_cycles_of f)
    arc_law = by_count (arc_cycles_of f) refl
