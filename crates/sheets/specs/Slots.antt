-- 01, Drawing sheets, Translation: the figures of a sheet's slots in order, and their entries.
use Rattle.std.specs.Prelude.{ℕ, zero, suc, ◌+◌, ◌*◌, List, [], ◌∷◌, ◌++◌, cond, Option, Some, None, Ok, Err}
use Rattle.records.specs.declared.Record.{Record}
use Rattle.records.specs.declared.Room.{Room}
use Rattle.records.specs.Decode.{Decoded}
use Rattle.refusals.specs.Refusals.{used_b, slot_decoded}
use Rattle.entries.specs.Entries.{pitch_code, size_of, entries_of}

-- a slot's figure, in a list of none or one
abbrev pub figures_in : Decoded → List Record
figures_in (Ok r) = r ∷ []
figures_in (Err w) = []

unfoldable pub slot_figures : List ℕ → Room → ℕ → List Record
slot_figures s m k = cond (used_b s k) (figures_in (slot_decoded s m k)) []

-- .. and as the code gives it
abbrev pub listed : Option Record → List Record
listed (Some r) = r ∷ []
listed None = []

unfoldable pub figures_from : List ℕ → Room → ℕ → ℕ → List Record
figures_from s m zero k = []
figures_from s m (suc f) k = slot_figures s m k ++ figures_from s m f (k + 1)

-- the figures of n blocks
unfoldable pub figures : List ℕ → Room → ℕ → List Record
figures s m n = figures_from s m (50 * n) 0

unfoldable pub translated : List ℕ → ℕ → List Record → List ℕ
translated t p [] = []
translated t p (r ∷ l) = entries_of t p r ++ translated t p l

-- "Translation: PITCH P; per figure .."
unfoldable pub translation : List ℕ → ℕ → List Record → List ℕ
translation t p l = pitch_code ∷ p ∷ translated t p l

-- how many entries figures take (`translated_length` of SlotLaws)
unfoldable pub sized : List Record → ℕ
sized [] = 0
sized (r ∷ l) = size_of r + sized l
