-- The numbers of the answer to `D`.
use Rattle.std.specs.Prelude.{ℕ, ◌+◌, ◌*◌, Bool, true, false, List, [], ◌∷◌}
use Rattle.dots.specs.Operation.{operation_number}
use Rattle.registers.specs.declared.Mode.{Mode}
use Rattle.registers.specs.declared.Mode.TheVariants.{Write, Read}
use Rattle.registers.specs.declared.Registers.{Registers}

-- "mode is 0 for write, 1 for read"
abbrev pub mode_number : Mode → ℕ
mode_number Write = 0
mode_number Read = 1

-- "vsync, display and penset are 0 or 1"
abbrev pub bit_number : Bool → ℕ
bit_number true = 1
bit_number false = 0

-- "ead mask pitch dc d d2 d1 dm figs gd op zoom"; "figs is FIGS' first byte (type and DIR); op is 0 to 3"
abbrev pub first_fields : Registers → List ℕ
first_fields r =
    r.cursor.ead ∷ r.cursor.mask ∷ r.pitch ∷ r.drawing.dc ∷ r.drawing.d ∷ r.drawing.d2 ∷ r.drawing.d1 ∷ r.drawing.dm
    ∷ (8 * r.drawing.kind + r.drawing.dir) ∷ bit_number r.drawing.gd ∷ operation_number r.op ∷ r.video.zoom ∷ []

-- "vsync display pen penset mode held"; "held is the number of buffered entries"
abbrev pub last_fields : Registers → List ℕ
last_fields r =
    bit_number r.video.vsync ∷ bit_number r.video.display ∷ r.pen.address ∷ bit_number r.pen.set ∷ mode_number r.mode
    ∷ r.buffer.count ∷ []
