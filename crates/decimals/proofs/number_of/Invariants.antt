-- `number_of` gives `decimal_of`: the digits still to be read decide, at each turn, after a number of 32 bits.
use lib.ListN.{drop}
use mathlib.Core.Path.{◌≡◌}
use Rattle.decimals.specs.Decimal.{decimal_from, decimal_of}
use Rattle.decimals.proofs.number_of.Given as goal

abbrev pub invariant-loop-c : goal.invariant-loop-c
invariant-loop-c l = decimal_of l.text ≡ decimal_from l.value (drop l.c-index l.text)
