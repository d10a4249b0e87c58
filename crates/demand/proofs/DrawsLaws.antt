-- A figure that FIGD draws, from CURS to its last dot, the operation being set: if the walk of its registers changes a shape of the
-- plane once, as geometry shows of dots, lines and rectangles and circling of arcs, then its entries are accepted and change just that
-- shape. A dot is the first case. Shapes that have no dot in common, drawn one after the other, are one shape.
use mathlib.Core.Path.{◌≡◌, refl, sym, subst, ◌∙◌}
use mathlib.Core.Bool.{true, false}
use mathlib.Core.List.{List, [], ◌∷◌, ◌++◌}
use Prim.Native.Nat.{ℕ, suc, ◌+◌, ◌*◌, ◌%◌, ◌≤◌, ◌<◌}
use native.Mathlib.Omega.{arith}
use lib.ListN.{length, set}
use Rattle.dots.specs.declared.Operation.{Operation}
use Rattle.dots.specs.Bit.{bit}
use Rattle.dots.specs.Dot.{cursor_at}
use Rattle.dots.proofs.DotLaws.{address}
use Rattle.geometry.specs.Plane.{InPlane, Picture, Shape, changed, solid, dot_on}
use Rattle.geometry.proofs.WalkLaws.{Sized, walk}
use Rattle.geometry.proofs.CycleLaws.{cycles, Drawn, drawn_as, either_on, drawn_both}
use Rattle.geometry.proofs.FigureLaws.{dot_drawn}
use Rattle.records.specs.declared.Point.{Point}
use Rattle.entries.specs.Entries.{head_entries, dot_entries}
use Rattle.registers.specs.declared.Drawing.{Drawing}
use Rattle.registers.specs.declared.Registers.{Registers}
use Rattle.registers.specs.Size.{dots_of}
use Rattle.registers.specs.State.{State}
use Rattle.figures.specs.Figure.{pattern_at}
use Rattle.units.specs.Run.{fitted_b}
use Rattle.sending.proofs.WaitLaws.{Waiting}
use Rattle.sending.proofs.SendLaws.{Leads, leads_then, leads_nothing, Acts}
use Rattle.sending.proofs.GroupLaws.{drawing_set, acts_figs}
use Rattle.sending.proofs.DrawLaws.{step_at, ended, figd, figd_draws, figd_waits}
use Rattle.demand.proofs.HeadLaws.{aimed, acts_head, pattern_ones}

-- the controller waits, its pitch is the plane's, and the plane fits a lawful memory
pub record Held (p h : ℕ) (s : State) : Type 0 where
  pub waits : Waiting s.regs
  pub pitch : s.regs.pitch ≡ p
  pub room : p * h ≤ length s.mem
  pub lawful : fitted_b s ≡ true

-- entries that change a shape and nothing else, with n units beside one for each entry; the controller waits again
pub record Draws (p h : ℕ) (op : Operation) (on : Shape) (ink : Picture) (s : State) (l : List ℕ) (n : ℕ) : Type 0 where
  pub after : State
  pub leads : Leads s l n after
  pub waits : Waiting after.regs
  pub pitch : after.regs.pitch ≡ p
  pub keeps : after.regs.op ≡ op
  pub board : after.regs.board ≡ s.regs.board
  pub drawn : Drawn p h op on ink s.mem after.mem

pub leads_count : {s s' : State} {l : List ℕ} {m n : ℕ} → Leads s l m s' → m ≡ n → Leads s l n s'
leads_count {s} {s'} {l} v e = subst (λ (k : ℕ). Leads s l k s') e v

-- the same by another test of the shape, or another count
pub draws_as : {p h : ℕ} {op : Operation} {on on' : Shape} {ink : Picture} {s : State} {l : List ℕ} {m n : ℕ}
    → ((x y : ℕ) → on x y ≡ on' x y) → m ≡ n
    → Draws p h op on ink s l m → Draws p h op on' ink s l n
draws_as same e d =
    record {
      after = d.after;
      leads = leads_count d.leads e;
      waits = d.waits;
      pitch = d.pitch;
      keeps = d.keeps;
      board = d.board;
      drawn = drawn_as same d.drawn;
    }

-- no entries, no dots
pub draws_nothing : {p h : ℕ} {op : Operation} {ink : Picture} (s : State) → Held p h s → s.regs.op ≡ op
    → Draws p h op (λ x y. false) ink s [] 0
unfolding changed
draws_nothing s held is =
    record {
      after = s;
      leads = leads_nothing s;
      waits = held.waits;
      pitch = held.pitch;
      keeps = is;
      board = refl;
      drawn = record { long = refl; dots = λ x y i. refl; words = λ j k. refl };
    }

-- two shapes that have no dot in common, one after the other
pub draws_both : {p h : ℕ} {op : Operation} {a b : Shape} {ink : Picture} {s : State} {l k : List ℕ} {m n : ℕ}
    → ((x y : ℕ) → a x y ≡ true → b x y ≡ false) → (d : Draws p h op a ink s l m) → Draws p h op b ink d.after k n
    → Draws p h op (either_on a b) ink s (l ++ k) (m + n)
draws_both apart d e =
    record {
      after = e.after;
      leads = leads_then d.leads e.leads;
      waits = e.waits;
      pitch = e.pitch;
      keeps = e.keeps;
      board = e.board ∙ d.board;
      drawn = drawn_both apart d.drawn e.drawn;
    }

-- what it leaves is what the next one asks
pub draws_held : {p h : ℕ} {op : Operation} {on : Shape} {ink : Picture} {s : State} {l : List ℕ} {n : ℕ}
    → Held p h s → (d : Draws p h op on ink s l n) → Held p h d.after
draws_held held d =
    record {
      waits = d.waits;
      pitch = d.pitch;
      room = rw d.drawn.long held.room;
      lawful = rw (d.drawn.long, d.board) held.lawful;
    }

module _ (p h : ℕ) (sized : Sized p h) (s : State) (held : Held p h s) (op : Operation) (is : s.regs.op ≡ op) (a : Point)
    (inside : InPlane p h a.x a.y) where
  -- the registers before FIGS
  abbrev pub base : Registers
  base = aimed s.regs (cursor_at (address p a.x a.y))

  -- the entries of FIGS set f; n + 1 dots
  pub figd_law : (figs : List ℕ) (f : Drawing) (i n : ℕ) (on : Shape) → (Waiting base → Acts base figs (drawing_set base f i))
      → suc n ≡ dots_of f → n < 65536
      → ((t : ℕ → ℕ) → ((j k : ℕ) → bit (k % 16) (t j) ≡ 1)
      → Drawn p h op on solid s.mem (cycles s.regs.board.wiring op t (walk (step_at f) p (cursor_at (address p a.x a.y)))
      (suc n) s.mem))
      → Draws p h op on solid s (head_entries p a ++ figs ++ 0x16C ∷ []) (suc n)
  figd_law figs f i n on sets all few geometry =
      record {
        after = ended (figd (drawing_set base f i)) s.mem n;
        leads =
            leads_count (leads_then (head.leads s.mem held.lawful) (leads_then (tail.leads s.mem held.lawful)
            (figd_draws tail.waits n all s.mem held.lawful (omega arith)))) (omega arith);
        waits = figd_waits tail.waits n all s.mem;
        pitch = held.pitch;
        keeps = is;
        board = refl;
        drawn = subst (λ (o : Operation). Drawn p h op on solid s.mem (made o s.regs.pitch)) (sym is)
            (subst (λ (k : ℕ). Drawn p h op on solid s.mem (made op k)) (sym held.pitch)
            (geometry ones (λ j k. pattern_ones s.regs.ram held.waits.lawful.ram j k)));
      }
    where
      head : Acts s.regs (head_entries p a) base
      head = acts_head p h sized.area a inside held.waits

      tail : Acts base figs (drawing_set base f i)
      tail = sets head.waits

      ones : ℕ → ℕ
      ones = pattern_at (set (set s.regs.ram 8 255) 9 255)

      made : Operation → ℕ → List ℕ
      made o k = cycles s.regs.board.wiring o ones (walk (step_at f) k (cursor_at (address p a.x a.y))) (suc n) s.mem

  pub dot_law : Draws p h op (dot_on a.x a.y) solid s (dot_entries p a) 1
  unfolding dot_entries dots_of
  dot_law =
      figd_law (0x14C ∷ 0x02 ∷ [])
      (record { kind = 0; dir = 2; gd = s.regs.drawing.gd; dc = 0; d = 8; d2 = 8; d1 = 16383; dm = 16383 }) 1 0 (dot_on a.x a.y)
      (λ v. acts_figs v 2 0 2 (omega arith) refl refl) refl (omega arith)
      (λ t ones. dot_drawn s.regs.board.wiring op p h sized s.mem held.room t _ (cursor_at (address p a.x a.y)) (ones 0)
      a.x a.y inside refl)
