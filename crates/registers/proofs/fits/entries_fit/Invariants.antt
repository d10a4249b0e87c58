-- `entries_fit` tests one entry a turn; those passed and what is left to test decide.
use Rattle.std.proofs.Common.{◌≡◌, ◌-◌, ◌&&◌, take, drop}
use Rattle.registers.specs.Sound.{all_below}
use Rattle.registers.proofs.fits.entries_fit.Given as goal

abbrev pub invariant-loop-i : goal.invariant-loop-i
invariant-loop-i l =
    all_below l.below (take l.n l.e-items) ≡ (l.fit && all_below l.below (take (l.n - l.i) (drop l.i l.e-items)))
