-- What a loop over a piece of the script knows of the characters that it has not reached.
use Prim.Native.Nat.{ℕ, ◌+◌, ◌<◌, ◌≤◌}
use mathlib.Core.Path.{◌≡◌, sym, ◌∙◌}
use mathlib.Core.List.{List, ◌∷◌}
use lib.ListN.{length as count, get_or, take, drop, set, drop_of_length-le}
use lib.Seq.{drop-cons, get_or-take}
use native.Mathlib.Numerals.{add-one}
use native.Mathlib.Omega.{arith}
use lib.Seq.{length-take-le}
use borrow.Author.Tests.{eq-eqb, ne_eqb, lt-ltb, le-ltb}
use Rattle.console.specs.declared.reader.Reader.{Reader}
use Rattle.console.specs.Reader.{taking, whole_at, piece_end, taken_from}

module _ (s : List ℕ) (filled at : ℕ) (h : filled ≤ count s) where
  -- the next character of the piece
  next_of_piece : at < filled → drop at (take filled s) ≡ get_or s at 0 ∷ drop (at + 1) (take filled s)
  next_of_piece g =
      let e : at < count (take filled s) = omega (arith, length-take-le filled s h) in
      rw (add-one, drop-cons (take filled s) at 0 e, get_or-take)

  module _ (r : Reader) (n : ℕ) (l : List ℕ) where
    pub take_whole : {b : ℕ} → at < filled → b ≡ get_or s at 0 → b ≡ 10
        → taken_from r filled (drop at (take filled s)) at n l ≡ taking (whole_at (at + 1) filled n) l
    unfolding taken_from
    take_whole g e f = rw (next_of_piece g, eq-eqb (get_or s at 0) 10 (sym e ∙ f))

    pub take_one : {b : ℕ} → at < filled → b ≡ get_or s at 0 → (b ≡ 10 → ⊥) → n < count l
        → taken_from r filled (drop at (take filled s)) at n l
        ≡ taken_from r filled (drop (at + 1) (take filled s)) (at + 1) (n + 1) (set l n b)
    unfolding taken_from
    take_one g e f k = rw (next_of_piece g, ne_eqb (get_or s at 0) 10 (λ x. f (e ∙ x)), lt-ltb n (count l) k, e)

    pub take_none : {b : ℕ} → at < filled → b ≡ get_or s at 0 → (b ≡ 10 → ⊥) → count l ≤ n
        → taken_from r filled (drop at (take filled s)) at n l ≡ taken_from r filled (drop (at + 1) (take filled s)) (at + 1) n l
    unfolding taken_from
    take_none g e f k = rw (next_of_piece g, ne_eqb (get_or s at 0) 10 (λ x. f (e ∙ x)), le-ltb n (count l) k)

    pub take_ends : filled ≤ at → taken_from r filled (drop at (take filled s)) at n l ≡ taking (piece_end r at filled n) l
    unfolding taken_from
    take_ends g = let e : count (take filled s) ≤ at = omega (arith, length-take-le filled s h) in
        rw (drop_of_length-le (take filled s) e)
