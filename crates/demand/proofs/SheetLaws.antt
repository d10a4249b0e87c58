-- From one figure to a sheet: a figure as it is given, its corners in any order and flat ones too, makes of every dot what 01 says;
-- and figures one after the other make one after the other, as each leaves the controller as ready as it found it.
use mathlib.Core.Path.{◌≡◌, refl, sym, ap₂, ◌∙◌}
use mathlib.Core.Bool.{Bool, true, false, cond, ◌||◌, true≢false}
use mathlib.Core.List.{List, [], ◌∷◌}
use Prim.Native.Nat.{ℕ, suc, ◌+◌, ◌*◌, ◌≤◌, ◌<◌, min, max}
use native.Mathlib.Omega.{arith}
use lib.Dec.{eqb}
use lib.ListN.{length, get_or}
use borrow.Author.Tests.{eqb-false}
use Rattle.dots.specs.declared.Operation.{Operation}
use Rattle.dots.specs.Dot.{dot}
use Rattle.geometry.specs.Plane.{InPlane, Picture, Shape, changed, solid, distance, border_on}
use Rattle.geometry.proofs.WalkLaws.{Sized}
use Rattle.geometry.proofs.CycleLaws.{changed_under}
use Rattle.geometry.proofs.BorderLaws.{border_ordered, flat_border}
use Rattle.records.specs.declared.Point.{Point}
use Rattle.records.specs.declared.Record.{Record}
use Rattle.records.specs.declared.Figure.{Figure}
use Rattle.records.specs.declared.Figure.TheVariants.{Dot, Line, Rectangle, Glyph, Circle}
use Rattle.entries.specs.Entries as entries
use Rattle.entries.specs.Entries.{slope_of, least, greatest, flat_b, plain, figure_entries, entries_of}
use Rattle.sheets.specs.Slots.{translated}
use Rattle.registers.specs.State.{State}
use Rattle.sending.proofs.SendLaws.{Leads, leads_then, leads_nothing}
use Rattle.demand.specs.Picture.{figure_on, figure_ink, figure_made, figures_made, figure_dots, figures_dots}
use Rattle.demand.proofs.InsideLaws.{Inside, AllInside}
use Rattle.demand.proofs.HeadLaws.{acts_wdat}
use Rattle.demand.proofs.DrawsLaws.{Held, Draws, leads_count, draws_as, draws_held, dot_law}
use Rattle.demand.proofs.LineLaws.{line_law}
use Rattle.demand.proofs.RectangleLaws.{rectangle_law}
use Rattle.demand.proofs.GlyphLaws.{glyph_law}
use Rattle.demand.proofs.CircleLaws.{circle_law}

-- entries that change the picture so, with n units beside one for each entry; no other word, and the controller is as ready as before
pub record Makes (p h : ℕ) (change : Picture → Picture) (s : State) (l : List ℕ) (n : ℕ) : Type 0 where
  pub after : State
  pub leads : Leads s l n after
  pub held : Held p h after
  pub long : length after.mem ≡ length s.mem
  pub dots : (x y : ℕ) → InPlane p h x y → dot p x y after.mem ≡ change (λ u v. dot p u v s.mem) x y
  pub words : (j : ℕ) → p * h ≤ j → get_or after.mem j 0 ≡ get_or s.mem j 0

makes : {p h : ℕ} {op : Operation} {on : Shape} {ink : Picture} {s : State} {l : List ℕ} {n : ℕ} → Held p h s → Draws p h op on ink s l n
    → Makes p h (changed op on ink) s l n
makes held d = record {
  after = d.after;
  leads = d.leads;
  held = draws_held held d;
  long = d.drawn.long;
  dots = d.drawn.dots;
  words = d.drawn.words;
}

-- ---- one figure, as given
same_distance : (a b : ℕ) → entries.distance a b ≡ distance a b
same_distance a b = omega arith

ordered_distance : (a b : ℕ) → entries.distance (min a b) (max a b) ≡ distance a b
ordered_distance a b = omega arith

line_dots : (a b : Point) → suc (slope_of a b).major ≡ max (distance a.x b.x) (distance a.y b.y) + 1
unfolding slope_of
line_dots a b = rw (same_distance a.x b.x, same_distance a.y b.y) (omega arith)

flat_dots : (a b : Point) → suc (slope_of (least a b) (greatest a b)).major ≡ max (distance a.x b.x) (distance a.y b.y) + 1
unfolding slope_of
flat_dots a b = rw (ordered_distance a.x b.x, ordered_distance a.y b.y) (omega arith)

or_neither : (a b : Bool) → (a || b) ≡ false → (a ≡ false) × (b ≡ false)
or_neither true b e = absurd (true≢false e)
or_neither false b e = (refl, e)

module _ (p h : ℕ) (sized : Sized p h) (t : List ℕ) (bytes : (i : ℕ) → get_or t i 0 < 256) where
  module _ (s : State) (held : Held p h s) (op : Operation) (is : s.regs.op ≡ op) where
    -- any two opposite corners: flat, or in order
    rectangle : (a b : Point) → InPlane p h a.x a.y → InPlane p h b.x b.y → (e : Bool) → flat_b a b ≡ e
        → Draws p h op (border_on a.x a.y b.x b.y) solid s
        (figure_entries t p (cond e (Line (least a b) (greatest a b)) (Rectangle (least a b) (greatest a b))))
        (cond e (max (distance a.x b.x) (distance a.y b.y) + 1) (2 * (distance a.x b.x + distance a.y b.y)))
    rectangle a b ia ib true e =
        draws_as (λ u v. sym (flat_border a.x a.y b.x b.y u v e)) (flat_dots a b)
        (line_law p h sized s held op is (least a b) (greatest a b)
        (record { column = omega (arith, ia.column); row = omega (arith, ia.row) })
        (record { column = omega (arith, ia.column, ib.column); row = omega (arith, ia.row, ib.row) }))
    rectangle a b ia ib false e =
        let z = or_neither (eqb a.x b.x) (eqb a.y b.y) e in
        draws_as (λ u v. sym (border_ordered a.x a.y b.x b.y u v))
        (ap₂ (λ (x y : ℕ). 2 * (x + y)) (ordered_distance a.x b.x) (ordered_distance a.y b.y))
        (rectangle_law p h sized s held op is (least a b) (greatest a b)
        (record { column = omega (arith, ia.column); row = omega (arith, ia.row) })
        (record { column = omega (arith, ia.column, ib.column); row = omega (arith, ia.row, ib.row) })
        (omega (arith, eqb-false a.x b.x z.0)) (omega (arith, eqb-false a.y b.y z.1)))

    figure_law : (f : Figure) → Inside p h f → Makes p h (figure_made t op f) s (figure_entries t p (plain f)) (figure_dots f)
    figure_law (Dot a) i = makes held (dot_law p h sized s held op is a i)
    figure_law (Line a b) i = makes held (draws_as (λ x y. refl) (line_dots a b) (line_law p h sized s held op is a b i.0 i.1))
    figure_law (Rectangle a b) i = makes held (rectangle a b i.0 i.1 (flat_b a b) refl)
    figure_law (Glyph a n g) i = makes held (glyph_law p h sized s held op is t bytes a n g i.some i.few i.right i.low)
    figure_law (Circle a r) i = makes held (circle_law p h sized op a r i.some i.few i.left i.top i.right i.low s held is)

  -- ---- a record: WDAT sets the operation, then the figure
  record_law : (s : State) → Held p h s → (r : Record) → Inside p h r.figure
      → Makes p h (figure_made t r.op r.figure) s (entries_of t p r) (figure_dots r.figure)
  unfolding entries_of
  record_law s held r i =
      let wdat = acts_wdat held.waits r.op in
      let one = figure_law _ (record { waits = wdat.waits; pitch = held.pitch; room = held.room; lawful = held.lawful }) r.op refl
      r.figure i in
      record {
        after = one.after;
        leads = leads_count (leads_then (wdat.leads s.mem held.lawful) one.leads) (omega arith);
        held = one.held;
        long = one.long;
        dots = one.dots;
        words = one.words;
      }

  -- ---- all figures
  -- what figures make of a dot depends on that dot alone
  figure_under : (op : Operation) (f : Figure) (a b : Picture) (x y : ℕ) → a x y ≡ b x y
      → figure_made t op f a x y ≡ figure_made t op f b x y
  figure_under op f a b x y e = changed_under op (figure_on f) (figure_ink t f) a b x y e

  figures_under : (l : List Record) (a b : Picture) (x y : ℕ) → a x y ≡ b x y → figures_made t l a x y ≡ figures_made t l b x y
  unfolding figures_made
  figures_under [] a b x y e = e
  figures_under (r ∷ l) a b x y e =
      figures_under l (figure_made t r.op r.figure a) (figure_made t r.op r.figure b) x y
      (figure_under r.op r.figure a b x y e)

  pub sheet_law : (l : List Record) → AllInside p h l → (s : State) → Held p h s
      → Makes p h (figures_made t l) s (translated t p l) (figures_dots l)
  unfolding figures_made figures_dots translated
  sheet_law [] i s held = record { after = s; leads = leads_nothing s; held = held; long = refl; dots = λ x y v. refl; words = λ j k. refl }
  sheet_law (r ∷ l) i s held =
      let one = record_law s held r i.0 in
      let rest = sheet_law l i.1 one.after one.held in
      record {
        after = rest.after;
        leads = leads_then one.leads rest.leads;
        held = rest.held;
        long = rest.long ∙ one.long;
        dots = λ x y v. rest.dots x y v
            ∙ figures_under l (λ u w. dot p u w one.after.mem) (figure_made t r.op r.figure (λ u w. dot p u w s.mem)) x y
            (one.dots x y v);
        words = λ j k. rest.words j k ∙ one.words j k;
      }
