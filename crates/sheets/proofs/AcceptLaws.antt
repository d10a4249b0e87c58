-- A sheet is accepted where it is `Lawful`, and only there: 11 to 19 do not arise exactly for a lawful sheet, so the translator answers 0,
-- or 20 where the output is too short, exactly for these. True because the first refusal over the blocks, and over the slots, is none
-- just where no place has one; and because no refusal of 11 to 19 has the number 20.
use mathlib.Core.Path.{◌≡◌, refl, sym, ap, ◌∙◌}
use mathlib.Core.Bool.{Bool, true, false, cond, ◌&&◌}
use mathlib.Core.List.{List, ◌++◌}
use Rattle.std.specs.Prelude.{Ok, Err}
use Prim.Native.Nat.{ℕ, zero, suc, ◌+◌, ◌*◌, ◌/◌, ◌%◌, ◌<◌, ◌≤◌}
use native.Mathlib.Omega.{arith}
use lib.Dec.{eqb, leb}
use lib.ListN.{length, drop}
use borrow.Author.Tests.{eqb-true, eq-eqb, lt-ltb, le-ltb, ltb-true, leb-true, le-leb}
use Rattle.records.specs.declared.Room.{Room}
use Rattle.records.specs.declared.Refusal.{Refusal}
use Rattle.records.specs.declared.Refusal.TheVariants.{Form, GlyphNumber, Factor, Radius, Outside}
use Rattle.records.specs.Raw.{record_place, raw_at}
use Rattle.records.specs.Decode.{Decoded, decoded_at}
use Rattle.records.specs.Refused.{why_number, number_of}
use Rattle.records.proofs.TestLaws.{and_both}
use Rattle.blocks.specs.declared.Answer.{Answer}
use Rattle.blocks.specs.Answer.{answer, or_else, first_from}
use Rattle.blocks.specs.Block.{count_of, check_b, head_b, block_refusal, block_answer, blocks_checked}
use Rattle.blocks.proofs.AnswerLaws.{or_zero, first_none, first_all}
use Rattle.refusals.specs.Refusals.{plane_b, table_b, sheet_length_b, frame_refusal, room_of, sheet_refusal}
use Rattle.refusals.specs.Refusals.{used_b, slot_decoded, slot_refusal, slot_answer, records_checked}
use Rattle.refusals.proofs.RefusalLaws.{three}
use Rattle.sheets.specs.Slots.{translation}
use Rattle.sheets.specs.Sheet.{figures_of, ended, answer_of, Outcome, outcome, translate_def}
use Rattle.sheets.specs.Lawful.{LawfulRecord, Lawful}
use Rattle.sheets.proofs.SheetLaws.{translated_means}
use Rattle.sheets.proofs.LawfulLaws.{block_lawful, block_granted, record_lawful, record_granted}

used_zero : (u : Bool) (x : ℕ) → (u ≡ true → x ≡ 0) → cond u x 0 ≡ 0
used_zero true x h = h refl
used_zero false x h = refl

module _ (s : List ℕ) (p h : ℕ) (t : List ℕ) where
  abbrev n : ℕ
  n = length s / 512

  abbrev m : Room
  m = room_of p h (length t)

  abbrev all : List ℕ
  all = translation t p (figures_of s p h t)

  -- ---- complete: what 01 accepts is accepted
  module _ (w : Lawful s p h t) where
    frame_none : frame_refusal p h (length t) (length s) ≡ answer 0 0 0
    unfolding frame_refusal
    frame_none =
        rw (
          le-leb 1 p w.some_words,
          le-leb p 255 w.words,
          le-leb 1 h w.some_lines,
          le-leb h 4096 w.lines,
          le-leb (p * h) 262144 w.area,
          eq-eqb (length t % 8) 0 w.glyphs_whole,
          le-leb (length t) 2048 w.glyphs,
          eq-eqb (length s % 512) 0 w.blocks_whole,
          le-leb 1 n w.some_blocks,
          le-leb n 16 w.few_blocks,
        )

    blocks_none : blocks_checked s n ≡ answer 0 0 0
    unfolding blocks_checked
    blocks_none = first_none (block_answer s n) n 0 (λ b l u. block_granted s n b (w.blocks b (omega arith)))

    records_none : records_checked s m n ≡ answer 0 0 0
    unfolding records_checked slot_refusal decoded_at
    records_none =
        first_none (slot_answer s m) (50 * n) 0
        (λ k l u. used_zero (used_b s k) (number_of (slot_decoded s m k))
        (λ e. record_granted p h (length t / 8) _ (w.records (k / 50) (k % 50) (omega arith) (ltb-true (k % 50) (count_of s (k / 50)) e))))

    pub not_refused : sheet_refusal s p h t ≡ answer 0 0 0
    unfolding sheet_refusal
    not_refused = rw (frame_none, blocks_none, records_none)

    pub accepts : (o : List ℕ) → length all ≤ length o
        → translate_def s p h t o ≡ outcome (answer 0 (length all) 0) (all ++ drop (length all) o)
    unfolding translate_def answer_of
    accepts o l = rw (not_refused, le-ltb (length o) (length all) l)

    pub tells_need : (o : List ℕ) → length o < length all → translate_def s p h t o ≡ outcome (answer 20 (length all) 0) o
    unfolding translate_def answer_of
    tells_need o l = rw (not_refused, lt-ltb (length o) (length all) l)

  -- ---- sound: what is not refused is what 01 accepts
  module _ (z : (sheet_refusal s p h t).number ≡ 0) where
    frame_zero : (frame_refusal p h (length t) (length s)).number ≡ 0
    unfolding sheet_refusal
    frame_zero = (or_zero (frame_refusal p h (length t) (length s)) _ z).0

    rest_zero : (or_else (blocks_checked s n) (records_checked s m n)).number ≡ 0
    unfolding sheet_refusal
    rest_zero = sym (ap (λ (x : Answer). x.number) (or_zero (frame_refusal p h (length t) (length s)) _ z).1) ∙ z

    blocks_zero : (b : ℕ) → b < n → block_refusal s n b ≡ 0
    unfolding blocks_checked
    blocks_zero b l = first_all (block_answer s n) n 0 (or_zero (blocks_checked s n) (records_checked s m n) rest_zero).0 b (omega arith)
        (omega arith)

    records_zero : (k : ℕ) → k < 50 * n → slot_refusal s m k ≡ 0
    unfolding records_checked
    records_zero k l =
        let e = (or_zero (blocks_checked s n) (records_checked s m n) rest_zero).1 in
        first_all (slot_answer s m) (50 * n) 0 (sym (ap (λ (x : Answer). x.number) e) ∙ rest_zero) k (omega arith) (omega arith)

    each_record : (b i : ℕ) → b < n → i < count_of s b → LawfulRecord p h (length t / 8) (raw_at s (record_place b i))
    unfolding slot_refusal decoded_at
    each_record b i l u =
        let c : count_of s b ≤ 50 = (block_lawful s n b (blocks_zero b l)).count in
        let d : (50 * b + i) / 50 ≡ b = omega arith in
        let r : (50 * b + i) % 50 ≡ i = omega arith in
        let q : slot_refusal s m (50 * b + i) ≡ 0 = records_zero (50 * b + i) (omega arith) in
        record_lawful p h (length t / 8) _ (rw (d, r, lt-ltb i (count_of s b) u) at q)

    pub lawful_only : Lawful s p h t
    lawful_only =
        let f = three p h (length t) (length s) frame_zero in
        let a = and_both (leb 1 p && leb p 255 && leb 1 h && leb h 4096) (leb (p * h) 262144) f.0 in
        let b = and_both (leb 1 p && leb p 255 && leb 1 h) (leb h 4096) a.0 in
        let c = and_both (leb 1 p && leb p 255) (leb 1 h) b.0 in
        let d = and_both (leb 1 p) (leb p 255) c.0 in
        let g = and_both (eqb (length t % 8) 0) (leb (length t) 2048) f.1 in
        let u = and_both (eqb (length s % 512) 0 && leb 1 n) (leb n 16) f.2 in
        let v = and_both (eqb (length s % 512) 0) (leb 1 n) u.0 in
        record {
          some_words = leb-true _ _ d.0;
          words = leb-true _ _ d.1;
          some_lines = leb-true _ _ c.1;
          lines = leb-true _ _ b.1;
          area = leb-true _ _ a.1;
          glyphs_whole = eqb-true _ 0 g.0;
          glyphs = leb-true _ _ g.1;
          blocks_whole = eqb-true _ 0 v.0;
          some_blocks = leb-true _ _ v.1;
          few_blocks = leb-true _ _ u.1;
          blocks = λ b l. block_lawful s n b (blocks_zero b l);
          records = each_record;
        }

-- ---- 20 is no number of a sheet's refusal
or_below : (a b : Answer) → a.number < 20 → b.number < 20 → (or_else a b).number < 20
or_below a b k l = go (eqb a.number 0)
  where
    go : (t : Bool) → (cond t b a).number < 20
    go true = l
    go false = k

first_below : (a : ℕ → Answer) → ((i : ℕ) → (a i).number < 20) → (f k : ℕ) → (first_from a f k).number < 20
unfolding first_from
first_below a l zero k = omega arith
first_below a l (suc f) k = or_below (a k) (first_from a f (k + 1)) (l k) (first_below a l f (k + 1))

cond_below : (t : Bool) (x y : ℕ) → x < 20 → y < 20 → cond t x y < 20
cond_below true x y k l = k
cond_below false x y k l = l

why_below : (w : Refusal) → why_number w < 20
why_below Form = omega arith
why_below GlyphNumber = omega arith
why_below Factor = omega arith
why_below Radius = omega arith
why_below Outside = omega arith

number_below : (d : Decoded) → number_of d < 20
number_below (Ok r) = omega arith
number_below (Err w) = why_below w

module _ (s : List ℕ) (p h : ℕ) (t : List ℕ) where
  pub refusal_below : (sheet_refusal s p h t).number < 20
  unfolding sheet_refusal frame_refusal blocks_checked records_checked block_refusal slot_refusal
  refusal_below =
      or_below _ _
      (or_below _ _ (cond_below (plane_b p h) 0 11 (omega arith) (omega arith))
      (or_below _ _ (cond_below (table_b (length t)) 0 12 (omega arith) (omega arith))
      (cond_below (sheet_length_b (length s)) 0 13 (omega arith) (omega arith))))
      (or_below _ _
      (first_below (block_answer s (length s / 512))
      (λ b. cond_below (check_b s b) _ 14 (cond_below (head_b s (length s / 512) b) 0 15 (omega arith) (omega arith)) (omega arith))
      (length s / 512) 0)
      (first_below (slot_answer s (room_of p h (length t)))
      (λ k. cond_below (used_b s k) _ 0 (number_below (slot_decoded s (room_of p h (length t)) k)) (omega arith))
      (50 * (length s / 512)) 0))

  -- the translator's answer 0 or 20 is given for a lawful sheet only
  module _ (o : List ℕ) {a : Answer} {o' : List ℕ} (e : outcome a o' ≡ translate_def s p h t o) where
    pub accepted_only : a.number ≡ 0 → Lawful s p h t
    accepted_only z = lawful_only s p h t (translated_means s p h t o e z).accepted

    pub short_only : a.number ≡ 20 → Lawful s p h t
    unfolding translate_def answer_of
    short_only z = go (eqb (sheet_refusal s p h t).number 0) refl (sym (ap (λ (x : Outcome). x.answer.number) e) ∙ z)
      where
        go : (u : Bool) → eqb (sheet_refusal s p h t).number 0 ≡ u
            → (cond u (ended (length (translation t p (figures_of s p h t))) (length o)) (sheet_refusal s p h t)).number ≡ 20
            → Lawful s p h t
        go true q k = lawful_only s p h t (eqb-true _ 0 q)
        go false q k = let l = refusal_below in absurd (omega arith)
