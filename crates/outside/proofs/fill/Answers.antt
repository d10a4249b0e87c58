-- A part of the buffer is filled behind what stands in it: the two, one after the other, are the reader's next.
use Rattle.std.proofs.Common.{◌≡◌, ℕ, ◌+◌, ◌-◌, ◌≤◌, List, ◌++◌, length, take, drop, sym, ◌∙◌, ap, subst, arith, length-drop}
use Rattle.std.proofs.Common.{length-take-le, take-add, take-take, take_at, drop_at}
use Rattle.std.specs.Io.KnownBytes.{Consumes}
use Rattle.std.proofs.lemmas.Slice.{take-put_mid}
use Rattle.std.proofs.KnownBytes.{Consumes-trans}
use borrow.Rule.Slice.PartMut.{put_mid, same_len_mid}
use Rattle.outside.proofs.fill.Goals as goal

-- the part from i on is as long as what follows i
part-long : (xs ys : List ℕ) (i : ℕ) → length ys ≡ length (take (length xs - i) (drop i xs)) → length ys ≡ length xs - i
part-long xs ys i e = e ∙ length-take-le (length xs - i) (drop i xs) (omega (arith, length-drop i xs))

-- what stands before the part, and the part's first bytes
take-part : (xs ys : List ℕ) (i k n : ℕ) → i + k ≤ length xs → length ys ≡ k → n ≤ k
    → take (i + n) (put_mid i k xs ys) ≡ take i xs ++ take n ys
take-part xs ys i k n fits long few =
    let front = length-take-le i xs (omega arith) in
    sym (take-take (i + n) (i + k) (put_mid i k xs ys) (omega arith))
    ∙ ap (take (i + n)) (take-put_mid i k xs ys (i + k) (omega arith) (omega arith)) ∙ take-add i n (take i xs ++ ys)
    ∙ (λ j. take_at (take i xs) ys i front j ++ take n (drop_at (take i xs) ys i front j))

pub loop-done-preserved : goal.loop-done-preserved
loop-done-preserved g c =
    let at = c.loop-done.done in
    let old = c.loop-done.buf in
    let new = c.part-n.new.buf in
    let long = part-long old new at c.part-n.auto.buf in
    record {
      fits = omega (
        arith,
        same_len_mid at (length old - at) old new c.part-n.auto.buf,
        c.loop-done.invariant.fits,
        c.part-n.ensures.fits,
        long,
      );
      next =
          subst (Consumes (g.R.Read.remaining c.args.from.now) (g.R.Read.remaining c.part-n.new.from))
          (sym (take-part old new at (length old - at) c.part-n.result (omega (arith, c.loop-done.invariant.fits)) long
          (omega (arith, c.part-n.ensures.fits, long))))
          (Consumes-trans _ _ _ _ _ c.loop-done.invariant.next c.part-n.ensures.next);
    }
