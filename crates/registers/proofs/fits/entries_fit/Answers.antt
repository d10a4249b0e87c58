-- `entries_fit` tests one entry a turn; those passed and what is left to test decide.
use Rattle.std.proofs.Common.{◌∙◌, sym, rules}
use Rattle.registers.proofs.BufferLaws.{fit_goes_on, fit_ends}
use Rattle.registers.proofs.fits.entries_fit.Goals as goal

pub loop-i-preserved : goal.loop-i-preserved
loop-i-preserved c = c.loop-i.invariant ∙ fit_goes_on _ _ _ c.loop-i.fit c.loop-i.i (search rules)

pub returns : goal.returns
returns c = sym (c.loop-i.invariant ∙ fit_ends _ _ _ c.loop-i.fit c.loop-i.i (search rules))
