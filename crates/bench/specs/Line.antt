-- A line of the script in its buffer.
use Rattle.std.specs.Prelude.{ℕ, cond, List, ltb, length, take, drop}
use Rattle.buffers.specs.Used.{used_of}
use Rattle.script.specs.Line.{line_of}
use Rattle.orders.specs.declared.Order.{Order}
use Rattle.orders.specs.Order.{order_of}

-- its characters: as many as it has
abbrev pub characters_of : List ℕ → ℕ → List ℕ
characters_of line n = take (used_of n line) line

-- what characters ask for
abbrev pub asked_for : List ℕ → Order
asked_for text = order_of (line_of text)

-- what stands behind their letter and the space
abbrev pub behind_of : List ℕ → List ℕ
behind_of text = cond (ltb (length text) 2) text (drop 2 text)
