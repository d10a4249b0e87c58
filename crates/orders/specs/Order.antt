-- What a line of the bench's script asks for: the letters of docs/BENCH.md with the ranges given there. "A line with a field missing or one
-- too many, out of the range given here, .. is answered `?`": such a line asks for nothing that is known.
use Rattle.std.specs.Prelude.{ℕ, cond, ltb, eqb, Option, None, Some}
use Rattle.dots.specs.declared.Wiring.TheVariants.{Folded, Open}
use Rattle.script.specs.declared.Line.{Line}
use Rattle.script.specs.declared.Line.TheVariants as line
use Rattle.orders.specs.declared.Order.{Order}
use Rattle.orders.specs.declared.Order.TheVariants.{Unknown, OfPort, OfMemory, OfShow, OfPaper, Translate, Draw, Count, Wire}
use Rattle.orders.specs.declared.Port.TheVariants.{Command, Parameter, Pen, Read, Status}
use Rattle.orders.specs.declared.Memory.TheVariants.{Fresh, Word, Run}
use Rattle.orders.specs.declared.Show.TheVariants.{Registers, Words, Digest, Counted, Wired}
use Rattle.orders.specs.declared.Paper.TheVariants.{Size, NoGlyphs, Glyphs, NoSheet, More}

-- an order, if a number is at most the largest that the line takes
abbrev pub up_to : ℕ → ℕ → Order → Order
up_to most n o = cond (ltb most n) Unknown o

-- a letter and a byte: "C b", "P b"
unfoldable pub byte_order : ℕ → ℕ → Order
byte_order letter n =
    up_to 0xFF n
    (cond (eqb letter 67) (OfPort (Command n))
    (cond (eqb letter 80) (OfPort (Parameter n))
    Unknown))

-- a letter and a number "up to FFFFFFFF": "L a", "U n", "T n", "O n"
unfoldable pub wide_order : ℕ → ℕ → Order
wide_order letter n =
    up_to 0xFFFFFFFF n
    (cond (eqb letter 76) (OfPort (Pen n))
    (cond (eqb letter 85) (OfMemory (Run n))
    (cond (eqb letter 84) (Translate n)
    (cond (eqb letter 79) (OfMemory (Fresh Open n))
    (byte_order letter n)))))

-- "W a v": "v at most FFFF"; a is held against the memory
unfoldable pub word_order : ℕ → ℕ → Order
word_order a v = up_to 0xFFFF v (OfMemory (Word a v))

-- "Q p h": "each up to FFFFFFFF"
unfoldable pub size_order : ℕ → ℕ → Order
size_order p h = up_to 0xFFFFFFFF p (up_to 0xFFFFFFFF h (OfPaper (Size p h)))

-- "what a request adds to the register set is shown by `F` and, where no port can change it, put by `J`. In `F`, `J` the first field is
-- the request's number, written as it is printed": as every field it was read as hexadecimal. "F 103": "the count of cycles left"; "F
-- 108": "the wiring"
unfoldable pub field_order : ℕ → Order
field_order request = cond (eqb request 0x103) (OfShow Counted) (cond (eqb request 0x108) (OfShow Wired) Unknown)

-- "J 103 v": "the count in the register set becomes v (up to FFFFFFFF), true or not"
unfoldable pub count_order : ℕ → Order
count_order v = up_to 0xFFFFFFFF v (Count v)

-- "J 108 v": "the wiring becomes v (0 or 1)", "0 folded, 1 open"
unfoldable pub wiring_order : ℕ → Order
wiring_order v = cond (eqb v 0) (Wire Folded) (cond (eqb v 1) (Wire Open) Unknown)

unfoldable pub put_order : ℕ → ℕ → Order
put_order request v = cond (eqb request 0x103) (count_order v) (cond (eqb request 0x108) (wiring_order v) Unknown)

-- a letter alone: R, S, D, H, G, Z, X
unfoldable pub bare_order : ℕ → Order
bare_order letter =
    cond (eqb letter 82) (OfPort Read)
    (cond (eqb letter 83) (OfPort Status)
    (cond (eqb letter 68) (OfShow Registers)
    (cond (eqb letter 72) (OfShow Digest)
    (cond (eqb letter 71) (OfPaper NoGlyphs)
    (cond (eqb letter 90) (OfPaper NoSheet)
    (cond (eqb letter 88) Draw
    Unknown))))))

-- a letter and a number: "M n", of which any number is taken, F, and those above
unfoldable pub one_order : ℕ → ℕ → Order
one_order letter n =
    cond (eqb letter 77) (OfMemory (Fresh Folded n))
    (cond (eqb letter 70) (field_order n)
    (wide_order letter n))

-- a letter and two numbers: W, V, Q, J
unfoldable pub two_order : ℕ → ℕ → ℕ → Order
two_order letter a b =
    cond (eqb letter 87) (word_order a b)
    (cond (eqb letter 86) (OfShow (Words a b))
    (cond (eqb letter 81) (size_order a b)
    (cond (eqb letter 74) (put_order a b)
    Unknown)))

-- a letter and bytes: G, B
unfoldable pub bytes_order : ℕ → Order
bytes_order letter =
    cond (eqb letter 71) (OfPaper Glyphs)
    (cond (eqb letter 66) (OfPaper More)
    Unknown)

-- what a line asks for
unfoldable pub order_of : Option Line → Order
order_of None = Unknown
order_of (Some (line.Bare letter)) = bare_order letter
order_of (Some (line.One letter n)) = one_order letter n
order_of (Some (line.Two letter a b)) = two_order letter a b
order_of (Some (line.Bytes letter)) = bytes_order letter
