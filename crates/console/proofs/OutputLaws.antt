-- A character more in the room, by the tests that the code makes of how much is held.
use mathlib.Core.Path.{◌≡◌, sym, ap, ◌∙◌}
use mathlib.Core.List.{List, [], ◌∷◌, ◌++◌}
use Prim.Native.Nat.{ℕ, ◌+◌, ◌≤◌, ◌<◌}
use native.Mathlib.Omega.{arith}
use lib.ListN.{length, take, set, length-set}
use Rattle.std.proofs.lemmas.List.{take_more_set, length-take-le}
use borrow.Author.Tests.{lt-ltb, le-ltb}
use Rattle.console.specs.Output.{Held, nothing_held, with_character}

abbrev seen : List ℕ → ℕ → Held
seen room held = record { size = length room; text = take held room }

module _ (room : List ℕ) (held : ℕ) where
  pub full : {s : Held} → seen room held ≡ s → held ≡ length room → length s.text ≡ s.size
  full {s} e h =
      sym (ap (λ (x : Held). length x.text) e) ∙ length-take-le held room (omega arith) ∙ h ∙ ap (λ (x : Held). x.size) e

  written : (c : ℕ) → held < length room → seen (set room held c) (held + 1)
      ≡ record { size = length room; text = take held room ++ c ∷ [] }
  written c h = rw (take_more_set room held c h, length-set room held c)

  pub puts_more : {s : Held} (c : ℕ) → seen room held ≡ s → held < length room → seen (set room held c) (held + 1) ≡ with_character s c
  unfolding with_character
  puts_more {s} c e h =
      let few : length (take held room) < length room = omega (arith, length-take-le held room (omega arith)) in
      written c h ∙ rw (← e, lt-ltb (length (take held room)) (length room) few)

  pub puts_first : (s : Held) (c : ℕ) → seen room held ≡ nothing_held s.size → length s.text ≡ s.size → held < length room
      → seen (set room held c) (held + 1) ≡ with_character s c
  unfolding with_character
  puts_first s c e h k =
      let size : length room ≡ s.size = ap (λ (x : Held). x.size) e in
      let none : take held room ≡ [] = ap (λ (x : Held). x.text) e in
      let some : 0 < s.size = omega arith in
      let all : s.size ≤ length s.text = omega arith in
      written c k ∙ rw (size, none, le-ltb (length s.text) s.size all, lt-ltb 0 s.size some)

  pub was_full : {s : Held} → seen room held ≡ s → held ≤ length room → length s.text ≡ s.size → held ≡ length room
  was_full {s} e i h =
      sym (length-take-le held room i) ∙ ap (λ (x : Held). length x.text) e ∙ h ∙ sym (ap (λ (x : Held). x.size) e)

  pub puts_nowhere : (s : Held) (c : ℕ) → seen room held ≡ nothing_held s.size → length s.text ≡ s.size → held ≤ length room
      → length room ≤ held → nothing_held s.size ≡ with_character s c
  unfolding with_character
  puts_nowhere s c e h i k =
      let size : length room ≡ s.size = ap (λ (x : Held). x.size) e in
      let none : length (take held room) ≡ 0 = ap (λ (x : Held). length x.text) e in
      let no : s.size ≤ 0 = omega (arith, length-take-le held room i) in
      let all : s.size ≤ length s.text = omega arith in
      rw (le-ltb (length s.text) s.size all, le-ltb 0 s.size no)
