-- The image of a picture, as a portable bitmap of form P4 has it after its header: line after line from the top, eight dots to a byte,
-- the leftmost dot in the byte's most significant bit, 1 for a set dot. 01: "dot (x, y) is bit x mod 16 of word y·P + x div 16".
use Rattle.std.specs.Prelude.{ℕ, zero, suc, ◌+◌, ◌*◌, ◌/◌, ◌%◌, cond, List, [], ◌∷◌, eqb, length}
use Rattle.dots.specs.Dot.{dot}

-- byte b of line y of a plane of p words a line: its dots are 8·b to 8·b + 7
unfoldable pub byte_at : ℕ → ℕ → ℕ → List ℕ → ℕ
byte_at p y b mem =
    (128 * dot p (8 * b) y mem + 64 * dot p (8 * b + 1) y mem + 32 * dot p (8 * b + 2) y mem + 16 * dot p (8 * b + 3) y mem)
    + (8 * dot p (8 * b + 4) y mem + 4 * dot p (8 * b + 5) y mem + 2 * dot p (8 * b + 6) y mem + dot p (8 * b + 7) y mem)

-- n bytes of the image from byte j on; a line has 2·p bytes
unfoldable pub bytes_from : ℕ → List ℕ → ℕ → ℕ → List ℕ
bytes_from p mem zero j = []
bytes_from p mem (suc n) j = byte_at p (j / (2 * p)) (j % (2 * p)) mem ∷ bytes_from p mem n (j + 1)

-- as many bytes as the lent image has; lines of no words make no picture, and the lent image stays as it was
unfoldable pub image_of : ℕ → List ℕ → List ℕ → List ℕ
image_of p mem image = cond (eqb p 0) image (bytes_from p mem (length image) 0)

-- a byte with its bits in reverse, and the half of a word that a byte of the image comes from
unfoldable pub reversed_of : ℕ → ℕ
reversed_of b =
    (128 * (b % 2) + 64 * (b / 2 % 2) + 32 * (b / 4 % 2) + 16 * (b / 8 % 2))
    + (8 * (b / 16 % 2) + 4 * (b / 32 % 2) + 2 * (b / 64 % 2) + b / 128 % 2)

unfoldable pub half_of : ℕ → ℕ → ℕ
half_of word place = cond (eqb (place % 2) 0) (word % 256) (word / 256)
