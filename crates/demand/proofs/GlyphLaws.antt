-- A glyph, from ZOOM to its last dot, the operation being set: ZOOM sets the factor, CURS goes to the bottom left, PRAM takes the glyph's
-- eight
-- rows to RA8 to RA15, and GCHRD's 8g rows of 8g dots are the glyph's square with the glyph's bits.
use mathlib.Core.Path.{◌≡◌, refl, sym, ap, ap₂, subst, ◌∙◌}
use mathlib.Core.Bool.{false}
use mathlib.Core.List.{List, ◌∷◌, ◌++◌}
use Prim.Native.Nat.{ℕ, zero, suc, ◌+◌, ◌-◌, ◌*◌, ◌/◌, ◌%◌, ◌≤◌, ◌<◌}
use native.Mathlib.Nat.{mul-le-mul_left}
use native.Mathlib.Omega.{arith}
use lib.ListN.{length, get_or, take, drop, length-append, get_or-append}
use lib.Seq.{sets, sets-eq, length-take-le, get_or-append-add}
use Rattle.dots.specs.declared.Operation.{Operation}
use Rattle.dots.specs.declared.Cursor.{Cursor}
use Rattle.dots.specs.Dot.{cursor_at}
use Rattle.dots.proofs.BitLaws.{bit_lt}
use Rattle.dots.proofs.DotLaws.{address}
use Rattle.geometry.specs.Plane.{square_on, glyph_ink}
use Rattle.geometry.proofs.WalkLaws.{Sized}
use Rattle.geometry.proofs.CycleLaws.{cycles, Drawn}
use Rattle.geometry.proofs.FigureLaws.{spread}
use Rattle.geometry.proofs.GlyphLaws.{spot, glyph_drawn}
use Rattle.records.specs.declared.Point.{Point}
use Rattle.entries.specs.Entries.{ead_of, cursor_entries, foot, glyph_rows, both, glyph_entries}
use Rattle.registers.specs.declared.Command.TheVariants.{Figs}
use Rattle.registers.specs.declared.Drawing.{Drawing}
use Rattle.registers.specs.declared.Registers.{Registers}
use Rattle.registers.specs.Fresh.{empty_buffer}
use Rattle.registers.specs.Put.{put_cursor, put_drawing, put_ram, put_video, put_buffer, put_progress, put_zoom}
use Rattle.registers.specs.Size.{factor_of, rows_of, columns_of}
use Rattle.registers.specs.State.{State}
use Rattle.figures.specs.Character.{character_pattern}
use Rattle.sending.proofs.SendLaws.{leads_then, Acts, acts_then}
use Rattle.sending.proofs.EntryLaws.{progress}
use Rattle.sending.proofs.GroupLaws.{acts_zoom, acts_rows, acts_figs, sends_dc}
use Rattle.sending.proofs.CharacterLaws.{gchrd, finished, gchrd_draws, gchrd_waits}
use Rattle.demand.proofs.HeadLaws.{acts_cursor}
use Rattle.demand.proofs.DrawsLaws.{Held, Draws, leads_count}

-- ---- RA8 to RA15
ram_at : (ram bs : List ℕ) → length ram ≡ 16 → length bs ≡ 8 → (j : ℕ) → j < 8 → get_or (sets ram 8 bs) (8 + j) 0 ≡ get_or bs j 0
ram_at ram bs l k j h =
    let e : length (take 8 ram) ≡ 8 = length-take-le 8 ram (omega arith) in
    let n : 8 + j < length (take 8 ram ++ bs) = omega (arith, length-append (take 8 ram) bs) in
    ap (λ (x : List ℕ). get_or x (8 + j) 0) (sets-eq bs ram 8 (omega arith))
    ∙ get_or-append (take 8 ram ++ bs) (drop (8 + length bs) ram) 0 (8 + j) n
    ∙ ap (λ (x : ℕ). get_or (take 8 ram ++ bs) (x + j) 0) (sym e) ∙ get_or-append-add (take 8 ram) bs j 0

row_at : (t : List ℕ) (n j : ℕ) → j < 8 → get_or (glyph_rows t n) j 0 ≡ get_or t (8 * n + j) 0
row_at t n zero h = let e : 8 * n ≡ 8 * n + 0 = omega arith in ap (λ (x : ℕ). get_or t x 0) e
row_at t n (suc zero) h = refl
row_at t n (suc (suc zero)) h = refl
row_at t n (suc (suc (suc zero))) h = refl
row_at t n (suc (suc (suc (suc zero)))) h = refl
row_at t n (suc (suc (suc (suc (suc zero))))) h = refl
row_at t n (suc (suc (suc (suc (suc (suc zero)))))) h = refl
row_at t n (suc (suc (suc (suc (suc (suc (suc zero))))))) h = refl
row_at t n (suc (suc (suc (suc (suc (suc (suc (suc j)))))))) h = absurd (omega arith)

-- ---- how many dots
some_dots : (g : ℕ) → 0 < g → 0 < 8 * g * (8 * g)
some_dots g h = let m : 8 * g * 1 ≤ 8 * g * (8 * g) = mul-le-mul_left (8 * g) (omega arith) in omega arith

few_dots : (g : ℕ) → g < 17 → 8 * g * (8 * g) ≤ 128 * 128
few_dots g h = let m : 8 * g * (8 * g) ≤ 8 * g * 128 = mul-le-mul_left (8 * g) (omega arith) in omega arith

module _ (p h : ℕ) (sized : Sized p h) (s : State) (held : Held p h s) (op : Operation) (is : s.regs.op ≡ op) (t : List ℕ)
    (bytes : (i : ℕ) → get_or t i 0 < 256) (a : Point) (n g : ℕ) (pos : 0 < g) (top : g < 17) (rx : a.x + 8 * g ≤ 16 * p)
    (ry : a.y + 8 * g ≤ h) where
  abbrev first : Cursor
  first = cursor_at (address p a.x (a.y + (8 * g - 1)))

  abbrev ram : List ℕ
  ram = sets s.regs.ram 8 (glyph_rows t n)

  abbrev f : Drawing
  f = record { kind = 2; dir = 2; gd = false; dc = 7; d = 8; d2 = 8; d1 = 16383; dm = 16383 }

  abbrev before : List ℕ
  before =
      0x146 ∷ (g - 1) ∷ cursor_entries (ead_of p (foot a g)) a.x ++ 0x178 ∷ glyph_rows t n ++ 0x14C ∷ 0x12 ∷ both 7

  -- the registers before GCHRD
  abbrev q : Registers
  q =
      put_progress (put_buffer (put_video (put_drawing (put_cursor (put_ram s.regs ram) first) f)
      (put_zoom s.regs.video (g - 1))) empty_buffer) (progress Figs 3)

  acts : Acts s.regs before q
  acts =
      let zoom = acts_zoom held.waits (g - 1) (omega arith) in
      let curs = acts_cursor p h sized.area (foot a g) (record { column = omega arith; row = omega arith }) zoom.waits in
      let rows = acts_rows curs.waits _ _ _ _ _ _ _ _ (bytes (8 * n)) (bytes (8 * n + 1)) (bytes (8 * n + 2)) (bytes (8 * n + 3))
      (bytes (8 * n + 4)) (bytes (8 * n + 5)) (bytes (8 * n + 6)) (bytes (8 * n + 7)) in
      let figs = acts_figs rows.waits 0x12 2 2 (omega arith) refl refl in
      acts_then zoom (acts_then curs (acts_then rows (acts_then figs (sends_dc figs.waits 7 (omega arith) refl))))

  -- ---- GCHRD's dots, by operation, width, factor, pitch and count
  abbrev made : Operation → ℕ → ℕ → ℕ → ℕ → List ℕ
  made o w k pitch count =
      cycles s.regs.board.wiring o (λ j. character_pattern ram k (j / w) (j % w)) (λ j. spot 2 4 pitch first (j / w) (j % w)) count
      s.mem

  is_glyph : Drawn p h op (square_on a.x a.y g) (glyph_ink t n a.x a.y g) s.mem (made op (8 * g) g p (8 * g * (8 * g)))
  unfolding character_pattern
  is_glyph =
      glyph_drawn a.x a.y g pos t n (λ j. get_or ram j 0)
      (λ j k. ram_at s.regs.ram (glyph_rows t n) held.waits.lawful.ram refl j k ∙ row_at t n j k)
      s.regs.board.wiring op p h sized s.mem held.room rx ry _ first refl (λ i k l. spread _ k (bit_lt _ _))

  factor_is : factor_of (g - 1) ≡ g
  unfolding factor_of
  factor_is = omega arith

  columns_are : columns_of f (g - 1) ≡ 8 * g
  unfolding columns_of
  columns_are = omega (arith, factor_is)

  rows_are : rows_of f (g - 1) ≡ 8 * g
  unfolding rows_of
  rows_are = omega (arith, factor_is)

  some : 0 < columns_of f (g - 1)
  some = omega (arith, columns_are)

  abbrev last : ℕ
  last = 8 * g * (8 * g) - 1

  all : suc last ≡ rows_of f (g - 1) * columns_of f (g - 1)
  all = rw (rows_are, columns_are) (omega (arith, some_dots g pos))

  leaves : (finished (gchrd q) s.mem some last).mem ≡ made op (8 * g) g p (8 * g * (8 * g))
  leaves =
      ap (λ (m : ℕ). made s.regs.op (columns_of f (g - 1)) (factor_of (g - 1)) s.regs.pitch m) (omega (arith, some_dots g pos))
      ∙ ap₂ (λ (o : Operation) (w : ℕ). made o w (factor_of (g - 1)) s.regs.pitch (8 * g * (8 * g))) is columns_are
      ∙ ap₂ (λ (k d : ℕ). made op (8 * g) k d (8 * g * (8 * g))) factor_is held.pitch

  pub glyph_law : Draws p h op (square_on a.x a.y g) (glyph_ink t n a.x a.y g) s (glyph_entries t p a n g) (8 * g * (8 * g))
  unfolding glyph_entries
  glyph_law = record {
    after = finished (gchrd q) s.mem some last;
    leads =
        leads_count (leads_then (acts.leads s.mem held.lawful)
        (gchrd_draws acts.waits some last all s.mem held.lawful (omega (arith, few_dots g top))))
        (omega (arith, some_dots g pos));
    waits = gchrd_waits acts.waits some last all s.mem;
    pitch = held.pitch;
    keeps = is;
    board = refl;
    drawn = subst (Drawn p h op (square_on a.x a.y g) (glyph_ink t n a.x a.y g) s.mem) (sym leaves) is_glyph;
  }
