-- 01, Steps and figures: how large a figure is.
use Rattle.std.specs.Prelude.{ℕ, ◌+◌, ◌-◌, ◌*◌, ◌%◌, Bool, cond, ◌||◌, eqb}
use Rattle.registers.specs.declared.Drawing.{Drawing}

-- the five type bits SL, R, A, GC, L as a number
abbrev pub plain_kind : ℕ
plain_kind = 0

abbrev pub line_kind : ℕ
line_kind = 1

abbrev pub character_kind : ℕ
character_kind = 2

abbrev pub arc_kind : ℕ
arc_kind = 4

abbrev pub rectangle_kind : ℕ
rectangle_kind = 8

-- "Type 00000: DC + 1 dots"; "L: DC + 1 dots"; "R: four sides .. of D, D2, D, D2 dots"; "Other types, or GC under FIGD .. draw nothing."
unfoldable pub dots_of : Drawing → ℕ
dots_of f =
    cond (eqb f.kind plain_kind || eqb f.kind line_kind) (f.dc + 1)
    (cond (eqb f.kind rectangle_kind) (f.d + f.d2 + f.d + f.d2) 0)

-- 02, M-100, "FIGD with the A bit alone draws an arc: for i = 0 to DC, dots with i below DM are passed over without a cycle": how many
-- are left
unfoldable pub arc_cycles_of : Drawing → ℕ
arc_cycles_of f = cond (eqb f.kind arc_kind) (f.dc + 1 - f.dm) 0

-- "factor g (ZOOM's low nibble + 1)"
unfoldable pub factor_of : ℕ → ℕ
factor_of zoom = zoom % 16 + 1

-- "(DC + 1)·g rows"; "GCHRD without GC draws nothing"
unfoldable pub rows_of : Drawing → ℕ → ℕ
rows_of f zoom = cond (eqb f.kind character_kind) ((f.dc + 1) * factor_of zoom) 0

-- "of D·g dots"
unfoldable pub columns_of : Drawing → ℕ → ℕ
columns_of f zoom = f.d * factor_of zoom
