-- Where a side ends: until there the steps go one way, by the three tests that tell a rectangle's sides.
use mathlib.Core.Path.{◌≡◌, ap}
use Prim.Native.Nat.{ℕ, ◌+◌, ◌%◌, ◌<◌, ◌≤◌}
use native.Mathlib.Omega.{arith}
use borrow.Author.Tests.{eq-eqb, ne_eqb, lt-ltb, le-ltb}
use Rattle.registers.specs.declared.Drawing.{Drawing}
use Rattle.registers.specs.Size.{line_kind, rectangle_kind}
use Rattle.figures.specs.Figure.{side_of, direction_at}
use Rattle.walks.specs.Address.{Side}

module _ (f : Drawing) (k : ℕ) (other : f.kind ≡ line_kind → ⊥) where
  -- only a rectangle has sides
  pub no_side : (e : ℕ) → (f.kind ≡ rectangle_kind → ⊥) → k < e → Side f k e
  unfolding direction_at
  no_side e h l = record { from = l; same = λ i d p q. rw (ne_eqb f.kind line_kind other, ne_eqb f.kind rectangle_kind h) }

  one_side : (e : ℕ) → f.kind ≡ rectangle_kind → k < e
      → ((i : ℕ) → k ≤ i → i < e → side_of f.d f.d2 i ≡ side_of f.d f.d2 k) → Side f k e
  unfolding direction_at
  one_side e h l same = record {
    from = l;
    same = λ i d p q. rw (ne_eqb f.kind line_kind other, eq-eqb f.kind rectangle_kind h)
        (ap (λ (x : ℕ). (f.dir + x) % 8) (same i p q));
  }

  pub side_1 : f.kind ≡ rectangle_kind → k < f.d → Side f k f.d
  unfolding side_of
  side_1 h a = one_side f.d h a (λ i p q. rw (lt-ltb i f.d q, lt-ltb k f.d a))

  pub side_2 : f.kind ≡ rectangle_kind → f.d ≤ k → k < f.d + f.d2 → Side f k (f.d + f.d2)
  unfolding side_of
  side_2 h a b =
      one_side (f.d + f.d2) h b
      (λ i p q. rw (le-ltb i f.d (omega arith), le-ltb k f.d a, lt-ltb i (f.d + f.d2) q, lt-ltb k (f.d + f.d2) b))

  pub side_3 : f.kind ≡ rectangle_kind → f.d ≤ k → f.d + f.d2 ≤ k → k < f.d + f.d2 + f.d → Side f k (f.d + f.d2 + f.d)
  unfolding side_of
  side_3 h a b c =
      one_side (f.d + f.d2 + f.d) h c
      (λ i p q. rw (
        le-ltb i f.d (omega arith),
        le-ltb k f.d a,
        le-ltb i (f.d + f.d2) (omega arith),
        le-ltb k (f.d + f.d2) b,
        lt-ltb i (f.d + f.d2 + f.d) q,
        lt-ltb k (f.d + f.d2 + f.d) c,
      ))

  pub side_4 : (e : ℕ) → f.kind ≡ rectangle_kind → f.d ≤ k → f.d + f.d2 ≤ k → f.d + f.d2 + f.d ≤ k → k < e → Side f k e
  unfolding side_of
  side_4 e h a b c l =
      one_side e h l
      (λ i p q. rw (
        le-ltb i f.d (omega arith),
        le-ltb k f.d a,
        le-ltb i (f.d + f.d2) (omega arith),
        le-ltb k (f.d + f.d2) b,
        le-ltb i (f.d + f.d2 + f.d) (omega arith),
        le-ltb k (f.d + f.d2 + f.d) c,
      ))
