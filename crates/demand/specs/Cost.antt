-- 02, M-106: what a sheet costs is what demand 3's run reports, and no sheet costs more than the request says. The proofs are in
-- proofs/CostLaws: `units_are_entries_and_dots`, `cost_is_the_runs`, `cycles_are_bounded` and `cost_fits`.
use Rattle.std.specs.Prelude.{◌≡◌, true, List, ℕ, ◌+◌, ◌*◌, ◌≤◌, max, length}
use Rattle.registers.specs.declared.Registers.{Registers}
use Rattle.registers.specs.State.{state}
use Rattle.registers.specs.Typed.{Typed}
use Rattle.units.specs.Run.{length_b}
use Rattle.sheets.specs.Lawful.{Lawful}
use Rattle.sheets.specs.Slots.{translation}
use Rattle.sheets.specs.Sheet.{figures_of}
use Rattle.costs.specs.declared.Cost.{Cost}
use Rattle.costs.specs.Dots.{figures_dots}
use Rattle.costs.specs.Cost.{units_for, cost_def}
use Rattle.sending.specs.Send.{Ready, units_of}
use Rattle.demand.specs.Shown.{Bytes}

-- "For an accepted sheet we want the units reported in demand 3's run to be the translation's entries plus one cycle for each visited dot":
-- from any register set and memory of demand 3
abbrev pub UnitsAreEntriesAndDots : Type 0
UnitsAreEntriesAndDots =
    (sheet : List ℕ) (p h : ℕ) (table : List ℕ) → Lawful sheet p h table → Bytes table
    → (r : Registers) (mem : List ℕ) → Ready r → Typed r → length_b r.board.wiring (length mem) ≡ true → p * h ≤ length mem
    → units_of (state r mem) (translation table p (figures_of sheet p h table)) ≡ units_for table p (figures_of sheet p h table)

-- .. and to be said in advance: c is the call's answer
abbrev pub CostIsTheRuns : Type 0
CostIsTheRuns =
    (sheet : List ℕ) (p h : ℕ) (table : List ℕ) (c : Cost) → c ≡ cost_def sheet p h table → c.number ≡ 0 → Bytes table
    → (r : Registers) (mem : List ℕ) → Ready r → Typed r → length_b r.board.wiring (length mem) ≡ true → p * h ≤ length mem
    → units_of (state r mem) (translation table p (figures_of sheet p h table)) ≡ c.units

-- "the larger of 16,384 and twice the sum of width and height in dots"; a word is 16 dots wide
abbrev pub most_dots : ℕ → ℕ → ℕ
most_dots p h = max 16384 (2 * (16 * p + h))

-- "Without circles the cycles are at most the figure count times" that, and with circles too
abbrev pub CyclesAreBounded : Type 0
CyclesAreBounded =
    (sheet : List ℕ) (p h : ℕ) (table : List ℕ) → Lawful sheet p h table
    → figures_dots (figures_of sheet p h table) ≤ length (figures_of sheet p h table) * most_dots p h

-- so no answer wraps: 128,802 entries and 800 figures of 16,384 dots are far below 2⁶⁴
abbrev pub CostFits : Type 0
CostFits = (sheet : List ℕ) (p h : ℕ) (table : List ℕ) → (cost_def sheet p h table).units ≤ 13236002
