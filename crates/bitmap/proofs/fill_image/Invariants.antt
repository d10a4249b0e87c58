-- `fill_image` gives `image_of`: what is left to fill from place j makes the same image at each turn.
use Prim.Native.Nat.{◌-◌, ◌*◌, ◌≤◌}
use mathlib.Core.Path.{◌≡◌}
use lib.ListN.{length}
use Rattle.bitmap.specs.Image.{bytes_from}
use Rattle.bitmap.proofs.ImageLaws.{filled}
use Rattle.bitmap.proofs.fill_image.Given as goal

abbrev pub invariant-loop-j : goal.invariant-loop-j
invariant-loop-j l =
    record {
      wide : l.width ≡ 2 * l.p;
      within : l.j ≤ length l.initial.image;
      long : length l.image ≡ length l.initial.image;
      same : filled l.initial.image 0 (bytes_from l.p l.mem (length l.initial.image) 0)
          ≡ filled l.image l.j (bytes_from l.p l.mem (length l.initial.image - l.j) l.j);
    }
