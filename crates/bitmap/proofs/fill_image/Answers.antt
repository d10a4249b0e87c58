-- `fill_image` gives `image_of`: what is left to fill from place j makes the same image at each turn.
use native.Mathlib.Omega.{arith}
use mathlib.Core.Path.{refl, sym, ◌∙◌}
use lib.ListN.{length-set}
use Rattle.bitmap.proofs.ImageLaws.{place_fits, fill_starts, fill_goes_on, fill_ends, fill_whole, fill_none}
use Rattle.bitmap.proofs.fill_image.Goals as goal

pub returns-then-p-eq0 : goal.returns-then-p-eq0
returns-then-p-eq0 c = fill_none _ _ _ c.if-p-eq0.true

pub loop-j-init : goal.loop-j-init
loop-j-init c = record { wide = refl; within = omega arith; long = refl; same = fill_starts _ _ _ _ }

pub nonzero_div-j : goal.nonzero_div-j
nonzero_div-j c = omega (arith, c.loop-j.invariant.wide, c.if-p-eq0.false)

pub nonzero_rem-j : goal.nonzero_rem-j
nonzero_rem-j c = omega (arith, c.loop-j.invariant.wide, c.if-p-eq0.false)

pub image_byte-requires : goal.image_byte-requires
image_byte-requires c = let l = c.loop-j in omega (arith, place_fits _ _ _ _ l.invariant.wide c.loop-j-test.true)

pub loop-j-preserved : goal.loop-j-preserved
loop-j-preserved c = let l = c.loop-j in
    let e = c.loop-j-test.true in
    record {
      wide = l.invariant.wide;
      within = omega (arith, l.invariant.long, e);
      long = length-set l.image l.j c.image_byte.result ∙ l.invariant.long;
      same = l.invariant.same ∙ fill_goes_on _ _ _ _ _ (omega (arith, l.invariant.long, e)) c.image_byte.ensures;
    }

pub shape_of-image : goal.shape_of-image
shape_of-image c = c.loop-j.invariant.long

pub returns : goal.returns
returns c = let l = c.loop-j in
    fill_ends _ _ _ _ _ (omega (arith, l.invariant.long, c.loop-j-test.false)) ∙ sym l.invariant.same
    ∙ fill_whole _ _ _ c.if-p-eq0.false
