-- The fields that 02's requests added to the register set: "what a request adds to the register set is shown by `F` and, where no port
-- can change it, put by `J`".
use Rattle.std.specs.Prelude.{ℕ, List, [], ◌∷◌}
use Rattle.dots.specs.declared.Wiring.{Wiring}
use Rattle.dots.specs.declared.Wiring.TheVariants.{Folded, Open}
use Rattle.registers.specs.declared.Registers.{Registers}
use Rattle.registers.specs.Put.{put_remaining}
use Rattle.wirings.specs.Wired.{wired_as}
use Rattle.console.specs.declared.desk.Done.{Done}
use Rattle.console.specs.declared.desk.Reply.TheVariants.{One}

-- a field is put: "`J 0`"
abbrev pub field_put : Registers → Done
field_put r = record { regs = r; reply = One 74 0 }

-- `J 103 v`: "the count in the register set becomes v (up to FFFFFFFF), true or not"
abbrev pub count_done : Registers → ℕ → Done
count_done r n = field_put (put_remaining r n)

-- "`F 103 left`"
abbrev pub count_fields : Registers → List ℕ
count_fields r = 0x103 ∷ r.remaining ∷ []

-- `J 108 v`: "the wiring becomes v (0 or 1); the memory stays, of whatever length"
abbrev pub wiring_done : Registers → Wiring → Done
wiring_done r w = field_put (wired_as w r)

-- "0 folded, 1 open"
abbrev pub wiring_number : Wiring → ℕ
wiring_number Folded = 0
wiring_number Open = 1

-- "`F 108 w`", the request's number "written as it is printed"
abbrev pub wiring_fields : Registers → List ℕ
wiring_fields r = 0x108 ∷ wiring_number r.board.wiring ∷ []
