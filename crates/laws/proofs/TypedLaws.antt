-- What the type of a register set says of one is `Typed`. A function is told it of each parameter of that type on entry, as a fact for
-- each field in the order of the struct: a number fits its width, an array has its length, and what is in progress has its variant's.
use mathlib.Core.List.{List}
use Prim.Native.Nat.{ℕ}
use lib.ListN.{get_or}
use mir.Syntax.{w16}
use mir.Val.{Val, Fits}
use denote.Laws.{Is}
use denote.Struct.Declared.{row}
use Rattle.registers.specs.declared.Work.{Work}
use Rattle.registers.specs.declared.Work.TheVariants.{Idle, Figure, Arc, Character, Reading}
use Rattle.registers.specs.declared.Registers.{Registers}
use Rattle.registers.specs.Typed.{StartFits, Typed, Words}
use Rattle.registers.specs.contracts.Registers.{the_type}
use Rattle.registers.specs.contracts.Work.{the_field}

start_fits : (w : Work) (vs : List Val) → Is the_field.row (the_field.into w) vs → StartFits w
start_fits Idle vs g = tt
start_fits (Figure k d) vs g = tt
start_fits (Arc k a) vs g = tt
start_fits (Character y x start) vs g = g.1.1.1.1.1.1.0.1.1.1.0.1
start_fits (Reading i t) vs g = tt

pub held_typed : (r : Registers) (vs : List Val) → Is (row the_type) r vs → Typed r
held_typed r vs g =
    let f = g.1.1 in
    record {
      mask = f.0.1.1.1.0.1;
      ram = f.1.1.1.1.0.1.0.1;
      entries = f.1.1.1.1.1.1.1.1.0.1.1.0.1.0.1;
      start = start_fits r.work _ f.1.1.1.1.1.1.1.1.1.1.0;
    }

-- .. and of a lent memory, of which each word is told to fit 16 bits
pub held_words : (m : List ℕ) → ((j : ℕ) → Fits w16 (get_or m j 0)) → Words m
held_words m h = record { below = λ j. (h j).fits }
