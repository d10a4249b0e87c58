-- Numbers and enums, both ways: the number of an enum's case gives the case back, and a number within the range is the number of
-- its case. True case by case.
use Prim.Native.Nat.{ℕ, zero, suc, ◌<◌}
use mathlib.Core.Path.{◌≡◌, refl, sym, subst}
use mathlib.Core.Bool.{Bool, true, false}
use native.Mathlib.Omega.{arith}
use borrow.Author.Tests.{ltb-true, ltb-false, eqb-true, eqb-false, ne_eqb}
use lib.Dec.{ltb, eqb}
use Rattle.dots.specs.declared.Wiring.{Wiring}
use Rattle.dots.specs.declared.Wiring.TheVariants as wiring
use Rattle.registers.specs.declared.Mode.{Mode}
use Rattle.registers.specs.declared.Mode.TheVariants as mode
use Rattle.registers.specs.declared.Transfer.{Transfer}
use Rattle.registers.specs.declared.Transfer.TheVariants as transfer
use Rattle.registers.specs.declared.Command.{Command}
use Rattle.registers.specs.declared.Command.TheVariants.{Nothing, Reset, Vsync, Cchar, Start, Zoom, Curs, Pram, Pitch, Mask, Figs, Figd}
use Rattle.registers.specs.declared.Command.TheVariants.{Gchrd, Curd, Lprd, Wdat, Rdat, Unknown}
use Rattle.registers.proofs.BoolLaws.{false_true}
use Rattle.plain.specs.Numbers.{wirings, bit_of, bit_number, mode_of, mode_number, wiring_of, wiring_number, transfer_of, transfer_number}
use Rattle.plain.specs.Numbers.{command_of, command_number, command_transfer}
use Rattle.plain.specs.Form.{command_form_b}

-- ---- a case, its number, the case
pub bit_back : (t : Bool) → bit_of (bit_number t) ≡ t
bit_back true = refl
bit_back false = refl

pub mode_back : (m : Mode) → mode_of (mode_number m) ≡ m
mode_back mode.Write = refl
mode_back mode.Read = refl

pub wiring_back : (w : Wiring) → wiring_of (wiring_number w) ≡ w
wiring_back wiring.Folded = refl
wiring_back wiring.Open = refl

pub transfer_back : (t : Transfer) → transfer_of (transfer_number t) ≡ t
transfer_back transfer.Word = refl
transfer_back transfer.Low = refl
transfer_back transfer.High = refl

pub command_back : (c : Command) → command_of (command_number c) (command_transfer c) ≡ c
command_back Nothing = refl
command_back Reset = refl
command_back Vsync = refl
command_back Cchar = refl
command_back Start = refl
command_back Zoom = refl
command_back Curs = refl
command_back Pram = refl
command_back Pitch = refl
command_back Mask = refl
command_back Figs = refl
command_back Figd = refl
command_back Gchrd = refl
command_back Curd = refl
command_back Lprd = refl
command_back (Wdat t) = λ i. Wdat (transfer_back t i)
command_back (Rdat t) = λ i. Rdat (transfer_back t i)
command_back Unknown = refl

-- ---- .. its number is within the range
pub bit_fits : (t : Bool) → ltb (bit_number t) 2 ≡ true
bit_fits true = refl
bit_fits false = refl

pub mode_fits : (m : Mode) → ltb (mode_number m) 2 ≡ true
mode_fits mode.Write = refl
mode_fits mode.Read = refl

pub wiring_fits : (w : Wiring) → ltb (wiring_number w) wirings ≡ true
wiring_fits wiring.Folded = refl
wiring_fits wiring.Open = refl

pub transfer_fits : (t : Transfer) → ltb (transfer_number t) 3 ≡ true
transfer_fits transfer.Word = refl
transfer_fits transfer.Low = refl
transfer_fits transfer.High = refl

pub command_fits : (c : Command) → command_form_b (command_number c) (command_transfer c) ≡ true
command_fits Nothing = refl
command_fits Reset = refl
command_fits Vsync = refl
command_fits Cchar = refl
command_fits Start = refl
command_fits Zoom = refl
command_fits Curs = refl
command_fits Pram = refl
command_fits Pitch = refl
command_fits Mask = refl
command_fits Figs = refl
command_fits Figd = refl
command_fits Gchrd = refl
command_fits Curd = refl
command_fits Lprd = refl
command_fits (Wdat t) = transfer_fits t
command_fits (Rdat t) = transfer_fits t
command_fits Unknown = refl

-- ---- the other way: what holds of 0 to n - 1 each holds of every number below n
abbrev Each : (ℕ → Type 0) → ℕ → Type 0
Each P zero = Unit {0}
Each P (suc n) = Each P n × P n

each_or_last : (P : ℕ → Type 0) (n k : ℕ) → (k < n → P k) → P n → k < suc n → (t : Bool) → eqb k n ≡ t → P k
each_or_last P n k f p h true q = subst P (sym (eqb-true k n q)) p
each_or_last P n k f p h false q = let d = eqb-false k n q in f (omega (arith, d))

each : (P : ℕ → Type 0) (n : ℕ) → Each P n → (k : ℕ) → k < n → P k
each P zero e k h = absurd (omega arith)
each P (suc n) e k h = each_or_last P n k (λ l. each P n e.0 k l) e.1 h (eqb k n) refl

-- ---- a number within the range, its case, the number
pub bit_there : (n : ℕ) → ltb n 2 ≡ true → bit_number (bit_of n) ≡ n
bit_there n e = each (λ k. bit_number (bit_of k) ≡ k) 2 ((tt, refl), refl) n (ltb-true n 2 e)

pub mode_there : (n : ℕ) → ltb n 2 ≡ true → mode_number (mode_of n) ≡ n
mode_there n e = each (λ k. mode_number (mode_of k) ≡ k) 2 ((tt, refl), refl) n (ltb-true n 2 e)

pub wiring_there : (n : ℕ) → ltb n wirings ≡ true → wiring_number (wiring_of n) ≡ n
wiring_there n e = each (λ k. wiring_number (wiring_of k) ≡ k) 2 ((tt, refl), refl) n (ltb-true n 2 e)

pub transfer_there : (n : ℕ) → ltb n 3 ≡ true → transfer_number (transfer_of n) ≡ n
transfer_there n e = each (λ k. transfer_number (transfer_of k) ≡ k) 3 (((tt, refl), refl), refl) n (ltb-true n 3 e)

-- a command's number is below 18, whatever stands beside it
command_below : (n x : ℕ) → command_form_b n x ≡ true → (t : Bool) → ltb n 18 ≡ t → n < 18
command_below n x e true q = ltb-true n 18 q
command_below n x e false q =
    let h = ltb-false n 18 q in
    let a = ne_eqb n 15 (λ (z : n ≡ 15). absurd (omega arith)) in
    let b = ne_eqb n 16 (λ (z : n ≡ 16). absurd (omega arith)) in
    absurd (false_true (subst (λ (t : Bool). t ≡ true) (none a b) e))
  where
    none : eqb n 15 ≡ false → eqb n 16 ≡ false → command_form_b n x ≡ false
    none a b = rw (a, b, q)

pub command_there : (n x : ℕ) → command_form_b n x ≡ true → command_number (command_of n x) ≡ n
command_there n x e =
    each (λ k. command_number (command_of k x) ≡ k) 18 (
      (
        ((((((((((((((((tt, refl), refl), refl), refl), refl), refl), refl), refl), refl), refl), refl), refl), refl), refl), refl), refl),
        refl,
      ),
      refl,
    ) n
    (command_below n x e (ltb n 18) refl)

-- the transfer beside it: 0, but for WDAT and RDAT
abbrev Beside : ℕ → ℕ → Type 0
Beside x k = command_form_b k x ≡ true → command_transfer (command_of k x) ≡ x

none_beside : (x : ℕ) → eqb x 0 ≡ true → 0 ≡ x
none_beside x e = sym (eqb-true x 0 e)

pub transfer_beside : (n x : ℕ) → command_form_b n x ≡ true → command_transfer (command_of n x) ≡ x
transfer_beside n x e =
    each (Beside x) 18 (
      (
        (
          (
            (
              (
                (
                  (
                    (
                      (
                        (
                          (
                            ((((((tt, none_beside x), none_beside x), none_beside x), none_beside x), none_beside x), none_beside x),
                            none_beside x,
                          ),
                          none_beside x,
                        ),
                        none_beside x,
                      ),
                      none_beside x,
                    ),
                    none_beside x,
                  ),
                  none_beside x,
                ),
                none_beside x,
              ),
              none_beside x,
            ),
            none_beside x,
          ),
          transfer_there x,
        ),
        transfer_there x,
      ),
      none_beside x,
    ) n (command_below n x e (ltb n 18) refl) e
