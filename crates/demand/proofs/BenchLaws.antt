-- The premises of demand 3 can be met: 01's bench sheet, the fresh controller and a memory of zeros meet them. And its conclusion says
-- something: the sheet's figure sets dot (17, 2) and leaves its neighbour (16, 2), in 13 units for the entries and one for the dot.
use mathlib.Core.Path.{◌≡◌, refl, sym, ap, ◌∙◌}
use mathlib.Core.Bool.{true}
use mathlib.Core.List.{List, [], ◌∷◌, ◌++◌}
use Prim.Native.Nat.{ℕ}
use native.Mathlib.Omega.{arith}
use lib.ListN.{length, get_or, take, replicate, length-replicate, get_or-replicate}
use Rattle.dots.specs.declared.Operation.TheVariants.{Set}
use Rattle.dots.specs.Bit.{bit}
use Rattle.dots.specs.Logic.{one_bit}
use Rattle.dots.specs.Dot.{dot}
use Rattle.registers.specs.Fresh.{fresh_set}
use Rattle.registers.specs.State.{state}
use Rattle.units.specs.Run.{length_b}
use Rattle.geometry.specs.Plane.{changed}
use Rattle.records.specs.declared.Record.{Record}
use Rattle.records.specs.declared.Figure.TheVariants.{Dot}
use Rattle.entries.specs.Entries.{dot_entries, entries_of}
use Rattle.sheets.specs.Slots.{translated, translation}
use Rattle.blocks.specs.Answer.{answer}
use Rattle.sheets.specs.Sheet.{Outcome, outcome, figures_of}
use Rattle.sheets.proofs.WorkedSheet.{sheet, listing, worked_sheet}
use Rattle.sending.specs.Send.{Ready, sent_all, units_of}
use Rattle.laws.proofs.SoundLaws.{fresh_sound, fresh_typed}
use Rattle.demand.specs.Picture.{figures_made, figures_dots}
use Rattle.demand.specs.Shown.{Shown}
use Rattle.sending.proofs.WaitLaws.{waiting}
use Rattle.demand.proofs.Whole.{shown, picture_is_right}

pub fresh_ready : Ready fresh_set
unfolding fresh_set
fresh_ready = record { sound = fresh_sound; mode = refl; empty = refl; idle = refl }

-- the first of two lists that are equal
first_of : (l m : List Outcome) (d : Outcome) → l ≡ m → get_or l 0 d ≡ get_or m 0 d
first_of l m d e = ap (λ (x : List Outcome). get_or x 0 d) e

pub zeros : List ℕ
zeros = replicate 16384 0

long : length zeros ≡ 16384
unfolding zeros
long = length-replicate {A = ℕ} 16384 0

lawful : length_b fresh_set.board.wiring (length zeros) ≡ true
unfolding fresh_set length_b
lawful = rw long refl

pub bench_shown : Shown 40 400 [] (figures_of sheet 40 400 []) (take 13 (listing ++ 7 ∷ 7 ∷ [])) (state fresh_set zeros)
bench_shown =
    picture_is_right sheet 40 400 [] (replicate 15 7) (listing ++ 7 ∷ 7 ∷ []) (answer 0 13 0)
    (sym (first_of _ _ (outcome (answer 0 0 0) []) worked_sheet)) refl (λ j. omega arith) fresh_set zeros fresh_ready fresh_typed lawful
    (omega (arith, long))

-- the bench sheet's figure
one : List Record
one = record { op = Set; figure = Dot (record { x = 17; y = 2 }) } ∷ []

one_shown : Shown 40 400 [] one (translation [] 40 one) (state fresh_set zeros)
unfolding one
one_shown =
    shown 40 400 (record { wide = omega arith; tall = omega arith; area = omega arith }) [] (λ j. omega arith) one
    (record { column = omega arith; row = omega arith }, tt) fresh_set (waiting fresh_set fresh_ready fresh_typed) zeros lawful
    (omega (arith, long))

abbrev drawn : List ℕ
drawn = (sent_all (state fresh_set zeros) (translation [] 40 one)).mem

dot_set : dot 40 17 2 drawn ≡ 1
unfolding one figures_made changed one_bit
dot_set = one_shown.dots 17 2 (record { column = omega arith; row = omega arith })

dot_left : dot 40 16 2 drawn ≡ 0
unfolding one figures_made changed dot bit zeros
dot_left = one_shown.dots 16 2 (record { column = omega arith; row = omega arith })
    ∙ rw (get_or-replicate {A = ℕ} 16384 81 0 0 (omega arith))

units_told : units_of (state fresh_set zeros) (translation [] 40 one) ≡ 14
unfolding one translation translated entries_of dot_entries figures_dots
units_told = one_shown.units
