-- The form of what is in progress, field by field as `work_formed` tests it, is the form kind by kind: at each kind both compute, and any
-- other number is no kind.
use mathlib.Core.Path.{◌≡◌, ap}
use mathlib.Core.Bool.{Bool, false, cond, not, and-true, ◌&&◌, ◌||◌}
use Prim.Native.Nat.{ℕ, zero, suc}
use native.Mathlib.Omega.{arith}
use lib.Dec.{eqb, ltb}
use borrow.Author.Tests.{le-ltb, ne_eqb}

-- the figure's fields, an arc's two, a character's and a read's are nothing; the transfer is one
pub form_by_field : (k : ℕ) (f a c r t : Bool)
    → (((((ltb k 5 && ((eqb k 1 || eqb k 4) || f)) && (eqb k 4 || a)) && (eqb k 2 || c)) && (not (eqb k 3) || t)) && (eqb k 3 || r))
    ≡ cond (eqb k 0) (f && a && c && r)
    (cond (eqb k 1) (a && c && r)
    (cond (eqb k 2) (f && a && r)
    (cond (eqb k 3) (f && a && c && t)
    (cond (eqb k 4) (c && r)
    false))))
form_by_field zero f a c r t = ap (λ (x : Bool). x && r) (and-true ((f && a) && c))
form_by_field (suc zero) f a c r t = ap (λ (x : Bool). x && r) (and-true (a && c))
form_by_field (suc (suc zero)) f a c r t = rw (and-true (f && a), and-true (f && a))
form_by_field (suc (suc (suc zero))) f a c r t = and-true (((f && a) && c) && t)
form_by_field (suc (suc (suc (suc zero)))) f a c r t = ap (λ (x : Bool). x && r) (and-true c)
form_by_field (suc (suc (suc (suc (suc k))))) f a c r t =
    let n = suc (suc (suc (suc (suc k)))) in
    rw (
      le-ltb n 5 (omega arith),
      ne_eqb n 0 (λ e. omega arith),
      ne_eqb n 1 (λ e. omega arith),
      ne_eqb n 2 (λ e. omega arith),
      ne_eqb n 3 (λ e. omega arith),
      ne_eqb n 4 (λ e. omega arith),
    )
