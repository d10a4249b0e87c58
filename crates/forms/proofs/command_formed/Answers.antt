-- `command_formed` is the definition: with no transfer beside it any command is formed, with one WDAT and RDAT alone.
use mathlib.Core.Path.{◌≡◌, refl, sym}
use mathlib.Core.Bool.{Bool, true, false, cond, ◌&&◌, ◌||◌, and-true, and-false}
use Prim.Native.Nat.{ℕ}
use native.Mathlib.Decide.{ℕ_discrete}
use borrow.Author.Tests.{ne_eqb}
use lib.Dec.{eqb, ltb}
use Rattle.forms.proofs.command_formed.Goals as goal

-- WDAT and RDAT are commands
any_command : (n : ℕ) → ltb n 18 ≡ cond (eqb n 15 || eqb n 16) true (ltb n 18 && true)
any_command n = go (ℕ_discrete n 15) (ℕ_discrete n 16)
  where
    go : Dec (n ≡ 15) → Dec (n ≡ 16) → ltb n 18 ≡ cond (eqb n 15 || eqb n 16) true (ltb n 18 && true)
    go (yes e) q = rw e
    go (no e) (yes f) = rw f
    go (no e) (no f) = rw (ne_eqb n 15 e, ne_eqb n 16 f, and-true (ltb n 18))

beside : (w a b : Bool) → (w && a) ≡ cond w a (b && false)
beside true a b = refl
beside false a b = sym (and-false b)

pub returns-then-transfer-eq0 : goal.returns-then-transfer-eq0
returns-then-transfer-eq0 c = rw c.if-transfer-eq0.true (any_command c.args.n)

pub returns : goal.returns
returns c =
    let n = c.args.n in
    let x = c.args.transfer in
    rw (ne_eqb x 0 c.if-transfer-eq0.false) (beside (eqb n 15 || eqb n 16) (ltb x 3) (ltb n 18))
