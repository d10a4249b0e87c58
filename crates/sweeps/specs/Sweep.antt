-- Units of an arc one after another: as many as there may be, or up to its end. Each is the unit of arcs/specs, on what it reads and moves:
-- the registers that stay (the brush), where the arc stands with its running D, D1 and D2, and memory.
use Rattle.std.specs.Prelude.{ℕ, zero, suc, ◌+◌, cond, List, ltb}
use Rattle.registers.specs.declared.Work.TheVariants.{Idle, Arc}
use Rattle.registers.specs.Size.{arc_cycles_of}
use Rattle.arcs.specs.declared.Moving.{Moving}
use Rattle.arcs.specs.Arc.{moved_on}
use Rattle.arcs.specs.Unit.{meets}
use Rattle.walks.specs.declared.Brush.{Brush}
use Rattle.walks.specs.Walk.{dotted}
use Rattle.bursts.specs.Burst.{Drawn, later}

-- where cycle k is made, and the memory after it
abbrev pub met_by : Brush → ℕ → Moving → Moving
met_by b k m = meets b.drawing b.pitch k m

abbrev pub bent : Brush → ℕ → Moving → List ℕ → List ℕ
bent b k m l = dotted b (b.drawing.dm + k) m.cursor l

abbrev pub on_by : Brush → Moving → Moving
on_by b m = moved_on b.drawing.dir b.pitch m

-- at most n units of the arc whose cycle k is next
unfoldable pub arc_burst : Brush → ℕ → ℕ → Moving → List ℕ → Drawn
arc_burst b zero k m l = record { count = 0; cursor = m.cursor; work = Arc k m.running; mem = l }
arc_burst b (suc n) k m l =
    cond (ltb (k + 1) (arc_cycles_of b.drawing))
    (later 1 (arc_burst b n (k + 1) (on_by b (met_by b k m)) (bent b k (met_by b k m) l)))
    (record { count = 1; cursor = (met_by b k m).cursor; work = Idle; mem = bent b k (met_by b k m) l })

-- n dots of an arc from dot i on, each with the move after it
pub record Swept : Type 0 where
  pub moving : Moving
  pub mem : List ℕ

abbrev pub swept : Moving → List ℕ → Swept
swept m l = record { moving = m; mem = l }

unfoldable pub arc_walk : Brush → ℕ → ℕ → Moving → List ℕ → Swept
arc_walk b zero i m l = swept m l
arc_walk b (suc n) i m l = arc_walk b n (i + 1) (on_by b m) (dotted b i m.cursor l)
