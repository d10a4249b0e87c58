-- A line of a record of the bus, in the form that `listing` writes: "C 47" and "P 28" a byte for a port, "U 5000" units to be done,
-- "F" a picture to be sent.
use Rattle.std.specs.Prelude.{ℕ, ◌+◌, ◌-◌, ◌*◌, zero, suc, List, [], ◌∷◌, Bool, true, cond, ltb, eqb, length, get_or, take, drop, Option}
use Rattle.std.specs.Prelude.{None, Some}
use Rattle.decimals.specs.Decimal.{decimal_of}
use Rattle.replaying.specs.Replay.{units_mark, idle_mark}
use Rattle.events.specs.declared.Event.{Event}
use Rattle.events.specs.declared.Event.TheVariants.{Nothing, Entry, Units, Picture, Unknown}

-- the value of 0 to 9, A to F and a to f, in ASCII; 16 for any other character
unfoldable pub digit_of : ℕ → ℕ
digit_of c =
    cond (ltb c 48) 16
    (cond (ltb c 58) (c - 48)
    (cond (ltb c 65) 16
    (cond (ltb c 71) (c - 55)
    (cond (ltb c 97) 16
    (cond (ltb c 103) (c - 87)
    16)))))

-- a blank: a space, a tab or a carriage return
unfoldable pub blank_b : ℕ → Bool
blank_b c = cond (eqb c 32) true (cond (eqb c 9) true (eqb c 13))

-- of the first n characters those up to the last that is no blank
unfoldable pub span_of : ℕ → List ℕ → ℕ
span_of zero s = 0
span_of (suc n) s = cond (blank_b (get_or s n 0)) (span_of n s) (suc n)

-- a text without the blanks at its end
abbrev pub trimmed : List ℕ → List ℕ
trimmed s = take (span_of (length s) s) s

-- an entry: the byte of two digits, the high one first, with the port's mark
unfoldable pub entry_of : ℕ → ℕ → ℕ → Event
entry_of mark high low = cond (ltb 15 high) Unknown (cond (ltb 15 low) Unknown (Entry (mark + (16 * high + low))))

-- two digits and no more
unfoldable pub byte_of : ℕ → List ℕ → Event
byte_of mark f = cond (eqb (length f) 2) (entry_of mark (digit_of (get_or f 0 0)) (digit_of (get_or f 1 0))) Unknown

-- a decimal number of 32 bits
unfoldable pub units_of : Option ℕ → Event
units_of None = Unknown
units_of (Some n) = Units n

-- what follows a letter and a space: a byte after C, "commands are the byte + 256", and after P; units after U
unfoldable pub field_of : ℕ → List ℕ → Event
field_of letter f =
    cond (eqb letter 67) (byte_of 256 f)
    (cond (eqb letter 80) (byte_of 0 f)
    (cond (eqb letter 85) (units_of (decimal_of f))
    Unknown))

-- F alone
unfoldable pub bare_of : ℕ → Event
bare_of letter = cond (eqb letter 70) Picture Unknown

-- what a text with no blank at its end says
unfoldable pub said_by : List ℕ → Event
said_by t =
    cond (eqb (length t) 0) Nothing
    (cond (eqb (length t) 1) (bare_of (get_or t 0 0))
    (cond (eqb (get_or t 1 0) 32) (field_of (get_or t 0 0) (drop 2 t))
    Unknown))

-- an empty line says nothing, nor does one that begins with '#', however long; any other of more than 80 characters is no event
unfoldable pub event_of : List ℕ → Event
event_of s =
    cond (eqb (length s) 0) Nothing
    (cond (eqb (get_or s 0 0) 35) Nothing
    (cond (ltb 80 (length s)) Unknown
    (said_by (trimmed s))))

-- ---- what an event asks of the controller, as crate replaying has it

-- "let the chip do n units"
abbrev pub units_asked : ℕ → ℕ
units_asked n = units_mark + n

-- "without any U the controller runs until idle after each entry": up to the first U, since a stream cannot be looked at in advance; from
-- there on it does units where a U says so, and after an entry none
unfoldable pub after_entry : Bool → ℕ
after_entry byUnits = cond byUnits (units_asked 0) idle_mark

-- two events: an entry and what follows it; units; nothing of the controller otherwise
unfoldable pub asked_by : Event → Bool → List ℕ
asked_by (Entry b) byUnits = b ∷ after_entry byUnits ∷ []
asked_by (Units n) byUnits = units_asked n ∷ units_asked 0 ∷ []
asked_by Nothing byUnits = units_asked 0 ∷ units_asked 0 ∷ []
asked_by Picture byUnits = units_asked 0 ∷ units_asked 0 ∷ []
asked_by Unknown byUnits = units_asked 0 ∷ units_asked 0 ∷ []
