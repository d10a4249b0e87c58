-- A move of a place is a move of the arc: the sums of D, D1 and D2 wrap at 14 bits because they stand highest, and a step along a direction
-- is a sum on the bit address (`stride_steps`). So n moves are n moves, from wherever a bit address stands.
use Rattle.std.proofs.Common.{◌≡◌, ℕ, zero, suc, ◌+◌, ◌*◌, ◌/◌, ◌%◌, ◌<◌, ◌≤◌, Bool, true, false, cond, leb, sym, ap, ◌∙◌, arith}
use Rattle.std.proofs.Common.{le-leb}
use native.Mathlib.Decide.{dec_le}
use borrow.Author.Tests.{lt-leb}
use Rattle.dots.specs.Step.{step_of}
use Rattle.dots.specs.Dot.{cursor_at}
use Rattle.registers.specs.declared.Running.{Running}
use Rattle.figures.specs.Figure.{axis_of, diagonal_of}
use Rattle.arcs.specs.declared.Moving.{Moving}
use Rattle.arcs.specs.Arc.{gained, turns_b, running_by, running_on, arc_direction, moved_on, passed}
use Rattle.walks.specs.Address.{stride_of, Stride}
use Rattle.walks.proofs.BitLaws.{stride_steps, stride_small}
use Rattle.passes.specs.declared.Place.{Place}
use Rattle.passes.specs.Place.{unit, two_less, wrapped, kept, gaining, place_by, place_on, place_passed, place_of, standing_at, Stands}

-- ---- sums in the high bits
pub record Narrow (r : Running) : Type 0 where
  pub d : r.d < 16384
  pub d1 : r.d1 < 16384
  pub d2 : r.d2 < 16384

running_narrow : (t : Bool) (r : Running) → Narrow r → Narrow (running_by t r)
running_narrow true r n = record { d = omega arith; d1 = omega arith; d2 = omega arith }
running_narrow false r n = record { d = omega arith; d1 = omega arith; d2 = n.d2 }

-- D gains D1 beside a bit address
gains : (d e a : ℕ) → a < 4194304 → wrapped (d % 16384 * unit + a + e % 16384 * unit) ≡ (d + e) % 16384 * unit + a
gains d e a h = omega arith

loses : (e s : ℕ) → s < 8388608 → wrapped (e % 16384 * unit + s + two_less) ≡ (e + 16382) % 16384 * unit + s
loses e s h = omega arith

loses_alone : (e : ℕ) → wrapped (e % 16384 * unit + two_less) ≡ (e + 16382) % 16384 * unit
loses_alone e = omega arith

-- a bit address moves on, and D gains D2 or nothing
adds : (g e a s : ℕ) → g < 16384 → a < 4194304 → s < 8388608
    → kept (wrapped (g * unit + a + (e % 16384 * unit + s))) ≡ (g + e) % 16384 * unit + (a + s) % 4194304
unfolding kept
adds g e a s k h l = omega arith

stays : (g a s : ℕ) → g < 16384 → a < 4194304 → s < 8388608 → kept (wrapped (g * unit + a + s)) ≡ g * unit + (a + s) % 4194304
unfolding kept
stays g a s k h l = omega arith

same : (n : ℕ) → n < 16384 → n % 16384 ≡ n
same n h = omega arith

module _ (axis diagonal : ℕ) (x : axis < 8388608) (y : diagonal < 8388608) where
  abbrev next_at : Bool → ℕ → ℕ
  next_at t a = (a + cond t diagonal axis) % 4194304

  -- a move of a place
  place_moves : (a : ℕ) (r : Running) → a < 4194304 → Narrow r
      → place_on axis (place_of diagonal a r) ≡ place_of diagonal (next_at (turns_b r) a) (running_on r)
  unfolding place_on running_on
  place_moves a r h n = go (dec_le 8192 (gained r))
    where
      w : gaining (place_of diagonal a r) ≡ gained r * unit + a
      w = gains r.d r.d1 a h

      go : Dec (8192 ≤ gained r)
          → place_by (leb 9223372036854775808 (gaining (place_of diagonal a r))) axis (place_of diagonal a r)
          ≡ place_of diagonal (next_at (turns_b r) a) (running_by (turns_b r) r)
      go (yes k) =
          rw (le-leb 9223372036854775808 (gaining (place_of diagonal a r)) (omega (arith, w)), le-leb 8192 (gained r) k)
          (λ i. record {
            at = (ap (λ (v : ℕ). kept (wrapped (v + (r.d2 % 16384 * unit + diagonal)))) w
                ∙ adds (gained r) r.d2 a diagonal (omega arith) h y ∙ ap (λ (v : ℕ). v * unit + (a + diagonal) % 4194304)
                (sym (same ((gained r + r.d2) % 16384) (omega arith)))) i;
            gain = (loses_alone r.d1 ∙ ap (λ (v : ℕ). v * unit) (sym (same ((r.d1 + 16382) % 16384) (omega arith)))) i;
            turn = (loses r.d2 diagonal y ∙ ap (λ (v : ℕ). v * unit + diagonal) (sym (same ((r.d2 + 16382) % 16384) (omega arith)))) i;
          })
      go (no k) =
          rw (lt-leb 9223372036854775808 (gaining (place_of diagonal a r)) (omega (arith, w)), lt-leb 8192 (gained r) (omega arith))
          (λ i. record {
            at = (ap (λ (v : ℕ). kept (wrapped (v + axis))) w ∙ stays (gained r) a axis (omega arith) h x
                ∙ ap (λ (v : ℕ). v * unit + (a + axis) % 4194304)
                (sym (same (gained r) (omega arith)))) i;
            gain = (loses_alone r.d1 ∙ ap (λ (v : ℕ). v * unit) (sym (same ((r.d1 + 16382) % 16384) (omega arith)))) i;
            turn = r.d2 % 16384 * unit + diagonal;
          })

-- ---- what a place stands for
unpacks : (d a : ℕ) → d < 16384 → a < 8388608 → (d % 16384 * unit + a) / unit ≡ d
unpacks d a h k = omega arith

unpacks_alone : (d : ℕ) → d < 16384 → d % 16384 * unit / unit ≡ d
unpacks_alone d h = omega arith

unpacks_at : (d a : ℕ) → a < 4194304 → (d % 16384 * unit + a) % 4194304 ≡ a
unpacks_at d a h = omega arith

-- an arc that stands at a bit address
pub record Standing (diagonal : ℕ) (m : Moving) (p : Place) : Type 0 where
  pub address : ℕ
  pub small : address < 4194304
  pub cursor : cursor_at address ≡ m.cursor
  pub narrow : Narrow m.running
  pub place : p ≡ place_of diagonal address m.running

pub stands_for : (diagonal : ℕ) (m : Moving) (p : Place) → diagonal < 8388608 → Standing diagonal m p → standing_at p ≡ m
stands_for diagonal m p y s =
    let r = m.running in
    ap standing_at s.place
    ∙ (λ i. record {
      running = record {
        d = unpacks r.d s.address s.narrow.d (omega (arith, s.small)) i;
        d1 = unpacks_alone r.d1 s.narrow.d1 i;
        d2 = unpacks r.d2 diagonal s.narrow.d2 y i;
      };
      cursor = (ap cursor_at (unpacks_at r.d s.address s.small) ∙ s.cursor) i;
    })

-- where it is, on the bit address of its place
pub stands_at : (diagonal : ℕ) (m : Moving) (p : Place) → Standing diagonal m p → cursor_at (p.at % 4194304) ≡ m.cursor
stands_at diagonal m p s =
    ap (λ (q : Place). cursor_at (q.at % 4194304)) s.place
    ∙ ap cursor_at (unpacks_at m.running.d s.address s.small) ∙ s.cursor

module _ (dir h axis diagonal : ℕ) {u v : ℕ} (eu : u ≡ axis_of dir) (sx : Stride u h axis) (ev : v ≡ diagonal_of dir)
    (sy : Stride v h diagonal) where
  -- its moves
  pub stands_on : (m : Moving) (p : Place) → Standing diagonal m p → Standing diagonal (moved_on dir h m) (place_on axis p)
  unfolding arc_direction running_on
  stands_on m p s =
      record {
        address = next_at axis diagonal (stride_small sx) (stride_small sy) (turns_b m.running) s.address;
        small = omega arith;
        cursor = go (turns_b m.running) ∙ ap (step_of (cond (turns_b m.running) (diagonal_of dir) (axis_of dir)) h) s.cursor;
        narrow = running_narrow (turns_b m.running) m.running s.narrow;
        place = ap (place_on axis) s.place
            ∙ place_moves axis diagonal (stride_small sx) (stride_small sy) s.address m.running s.small s.narrow;
      }
    where
      by : (dir' step w : ℕ) → w ≡ dir' → Stride w h step
          → cursor_at ((s.address + step) % 4194304) ≡ step_of dir' h (cursor_at s.address)
      by dir' step w e z =
          (λ i. cursor_at ((s.address + (z.is ∙ ap (λ (j : ℕ). stride_of j h) e) i) % 4194304))
          ∙ sym (stride_steps h s.address z.narrow s.small dir')

      go : (t : Bool) → cursor_at ((s.address + cond t diagonal axis) % 4194304)
          ≡ step_of (cond t (diagonal_of dir) (axis_of dir)) h (cursor_at s.address)
      go true = by (diagonal_of dir) diagonal v ev sy
      go false = by (axis_of dir) axis u eu sx

  stands_passed : (m : Moving) (p : Place) (n : ℕ) → Standing diagonal m p → Standing diagonal (passed dir h m n) (place_passed axis p n)
  unfolding passed place_passed
  stands_passed m p zero s = s
  stands_passed m p (suc n) s = stands_on (passed dir h m n) (place_passed axis p n) (stands_passed m p n s)

  pub stands_first : (m : Moving) (a : ℕ) {p : Place} → Stands m a → a < 4194304 → p ≡ place_of diagonal a m.running
      → Standing diagonal m p
  stands_first m a z k e =
      record { address = a; small = k; cursor = z.at k; narrow = record { d = z.d k; d1 = z.d1 k; d2 = z.d2 k }; place = e }

  -- over what the calls of the code ensure
  pub passes_by : (m : Moving) (a n : ℕ) {p q : Place} {w : Moving} → Stands m a → a < 4194304 → p ≡ place_of diagonal a m.running
      → q ≡ place_passed axis p n → w ≡ standing_at q → w ≡ passed dir h m n
  passes_by m a n {p} {q} z k ep eq ew =
      ew ∙ ap standing_at eq
      ∙ stands_for diagonal (passed dir h m n) (place_passed axis p n) (stride_small sy)
      (stands_passed m p n (stands_first m a z k ep))
