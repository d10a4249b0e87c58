-- `stride` is the definition, direction by direction.
use mathlib.Core.Path.{sym, ap}
use Prim.Native.Nat.{ℕ}
use Rattle.dots.proofs.StepLaws.{last_arm}
use Rattle.walks.specs.Address.{stride_of}
use borrow.Author.Rules.{rules}
use Rattle.walks.proofs.bits.stride.Goals as goal

pub returns-in-0 : goal.returns-in-0
returns-in-0 c = record { is = rw c.in-0.is; narrow = search rules }

pub returns-in-1 : goal.returns-in-1
returns-in-1 c = record { is = rw c.in-1.is; narrow = search rules }

pub returns-in-2 : goal.returns-in-2
returns-in-2 c = record { is = search rules; narrow = search rules }

pub returns-in-3 : goal.returns-in-3
returns-in-3 c = record { is = rw c.in-3.is; narrow = search rules }

pub returns-in-4 : goal.returns-in-4
returns-in-4 c = record { is = rw c.in-4.is; narrow = search rules }

pub returns-in-5 : goal.returns-in-5
returns-in-5 c = record { is = rw c.in-5.is; narrow = search rules }

pub returns-in-6 : goal.returns-in-6
returns-in-6 c = record { is = search rules; narrow = search rules }

pub returns-in_default : goal.returns-in_default
returns-in_default c = let n = c.in_default.in_default-own.rest in
    record {
      is = sym (ap (λ (d : ℕ). stride_of d c.args.pitch) (last_arm _ n.0.0.0.0.0.0.1 n.0.0.0.0.0.1
          n.0.0.0.0.1 n.0.0.0.1 n.0.0.1 n.0.1 n.1));
      narrow = search rules;
    }
