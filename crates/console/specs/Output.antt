-- What is held of the answers: the characters that are not yet written out, in a room of a fixed size.
use Rattle.std.specs.Prelude.{ℕ, cond, List, [], ◌∷◌, ◌++◌, ltb, length, take}

pub record Held : Type 0 where
  pub size : ℕ
  pub text : List ℕ

-- all is written out
abbrev pub nothing_held : ℕ → Held
nothing_held n = record { size = n; text = [] }

-- the first n characters of a room are held, all of them where n is more than its length
abbrev pub held_first : ℕ → List ℕ → Held
held_first n room = record { size = length room; text = take n room }

-- one character more; a full room is written out first, and a room of no size holds nothing
unfoldable pub with_character : Held → ℕ → Held
with_character o c =
    cond (ltb (length o.text) o.size) (record { size = o.size; text = o.text ++ c ∷ [] })
    (cond (ltb 0 o.size) (record { size = o.size; text = c ∷ [] }) (nothing_held o.size))
