-- 01, Numbers: "A sound register set has every field within its width, at most 16 buffered entries, the place reached
-- inside its figure or read, a figure in progress only in write mode and a read only in read mode." 02, M-103: "a set whose count is
-- false is unsound (1)."
use Rattle.std.specs.Prelude.{ℕ, Bool, true, false, not, ◌&&◌, List, [], ◌∷◌, eqb, ltb, leb, take}
use Rattle.dots.specs.declared.Cursor.{Cursor}
use Rattle.dots.specs.Step.{addresses}
use Rattle.registers.specs.declared.Mode.{Mode}
use Rattle.registers.specs.declared.Mode.TheVariants.{Write, Read}
use Rattle.registers.specs.declared.Work.{Work}
use Rattle.registers.specs.declared.Work.TheVariants.{Idle, Figure, Arc, Character, Reading}
use Rattle.registers.specs.declared.Running.{Running}
use Rattle.registers.specs.declared.Drawing.{Drawing}
use Rattle.registers.specs.declared.Pen.{Pen}
use Rattle.registers.specs.declared.Buffer.{Buffer}
use Rattle.registers.specs.declared.Progress.{Progress}
use Rattle.registers.specs.declared.Registers.{Registers}
use Rattle.registers.specs.Width.{kinds, directions, fourteen_bits, places, command_mark, entry_end, parameters}
use Rattle.registers.specs.Size.{dots_of, arc_cycles_of, rows_of, columns_of}
use Rattle.registers.specs.Left.{cycles_left}

-- every number of the list is below n
unfoldable pub all_below : ℕ → List ℕ → Bool
all_below n [] = true
all_below n (x ∷ xs) = ltb x n && all_below n xs

-- "EAD has 18 bits"; the mask's 16 are its type's, as are all widths of 8, 16 and 32 bits
abbrev pub cursor_b : Cursor → Bool
cursor_b c = ltb c.ead addresses

-- five type bits, three of DIR; "DC, D, D2, D1, DM 14 bits"
abbrev pub drawing_b : Drawing → Bool
drawing_b f =
    ltb f.kind kinds && ltb f.dir directions && ltb f.dc fourteen_bits && ltb f.d fourteen_bits
    && ltb f.d2 fourteen_bits && ltb f.d1 fourteen_bits && ltb f.dm fourteen_bits

-- "an 18-bit light-pen address"
abbrev pub pen_b : Pen → Bool
pen_b p = ltb p.address addresses

-- where the next parameter goes
abbrev pub progress_b : Progress → Bool
progress_b p = leb p.next parameters

-- a held entry is a byte in read mode, and may have a command mark in write mode
abbrev pub mark_b : Mode → ℕ
mark_b Write = entry_end
mark_b Read = command_mark

-- "at most 16 buffered entries", each within its width
abbrev pub buffer_b : Mode → Buffer → Bool
buffer_b m b =
    leb b.count places && all_below entry_end (take places b.entries) && all_below (mark_b m) (take b.count b.entries)

-- the running D, D1 and D2 of an arc
abbrev pub running_b : Running → Bool
running_b a = ltb a.d fourteen_bits && ltb a.d1 fourteen_bits && ltb a.d2 fourteen_bits

-- "the place reached inside its figure or read"; the running D and the row's start within their widths
abbrev pub place_b : Drawing → ℕ → Work → Bool
place_b f zoom Idle = true
place_b f zoom (Figure k d) = ltb k (dots_of f) && ltb d fourteen_bits
place_b f zoom (Arc k a) = ltb k (arc_cycles_of f) && running_b a
place_b f zoom (Character row column start) = ltb row (rows_of f zoom) && ltb column (columns_of f zoom) && cursor_b start
place_b f zoom (Reading item t) = ltb item f.dc

abbrev pub write_b : Mode → Bool
write_b Write = true
write_b Read = false

-- "a figure in progress only in write mode and a read only in read mode"
abbrev pub work_b : Mode → Work → Bool
work_b m Idle = true
work_b m (Figure k d) = write_b m
work_b m (Arc k a) = write_b m
work_b m (Character row column start) = write_b m
work_b m (Reading item t) = not (write_b m)

-- 02, M-103: the count "equals, at all times, the cycles still to come by the figure's definition"
abbrev pub count_b : Registers → Bool
count_b r = eqb r.remaining (cycles_left r.drawing r.video.zoom r.work)

unfoldable pub sound_b : Registers → Bool
sound_b r =
    cursor_b r.cursor && drawing_b r.drawing && pen_b r.pen && progress_b r.progress && buffer_b r.mode r.buffer
    && place_b r.drawing r.video.zoom r.work && work_b r.mode r.work && count_b r
