-- A text from its end: the blanks there fall off one by one.
use Prim.Native.Nat.{ℕ, ◌-◌, ◌<◌, ◌≤◌, suc}
use mathlib.Core.Path.{◌≡◌, sym, ap, ◌∙◌}
use mathlib.Core.List.{List}
use mathlib.Core.Bool.{true, false}
use lib.ListN.{get_or, take, drop, length, length-drop}
use lib.Seq.{take_all}
use native.Mathlib.Omega.{arith}
use Rattle.events.specs.Event.{blank_b, span_of}

module _ (s : List ℕ) where
  one_more : (m : ℕ) → 0 < m → m ≡ suc (m - 1)
  one_more m h = omega arith

  pub blank_falls : (n : ℕ) → 0 < n → blank_b (get_or s (n - 1) 0) ≡ true → span_of n s ≡ span_of (n - 1) s
  unfolding span_of
  blank_falls n h e = let f : span_of (suc (n - 1)) s ≡ span_of (n - 1) s = rw e in ap (λ k. span_of k s) (one_more n h) ∙ f

  pub other_stays : (n : ℕ) → 0 < n → blank_b (get_or s (n - 1) 0) ≡ false → span_of n s ≡ n
  unfolding span_of
  other_stays n h e =
      let f : span_of (suc (n - 1)) s ≡ suc (n - 1) = rw e in ap (λ k. span_of k s) (one_more n h) ∙ f ∙ sym (one_more n h)

  pub none_left : (n : ℕ) → n ≤ 0 → span_of n s ≡ 0
  unfolding span_of
  none_left n h = let e : n ≡ 0 = omega arith in rw e

-- a part that goes to the end
pub to_end : (n : ℕ) (s : List ℕ) → take (length s - n) (drop n s) ≡ drop n s
to_end n s = take_all (length s - n) (drop n s) (omega (arith, length-drop n s))
