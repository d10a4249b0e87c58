-- Entries played one at a time: what is left to play from here, with the units so far, is what was to play from the start. True because
-- `played` takes the first entry of a list first.
use mathlib.Core.Path.{◌≡◌, sym, ap, ◌∙◌}
use mathlib.Core.List.{List, ◌∷◌}
use Prim.Native.Nat.{ℕ, suc, ◌+◌, ◌≤◌, ◌<◌}
use native.Mathlib.Omega.{arith}
use lib.ListN.{length, get_or, drop, drop_of_length-le}
use lib.Seq.{drop-cons}
use Rattle.registers.specs.declared.Registers.{Registers}
use Rattle.registers.specs.State.{State, state}
use Rattle.sending.specs.Send.{written}
use Rattle.finishing.proofs.FinishLaws.{more_more}
use Rattle.finishing.specs.Finish.{Outcome, outcome, left_at, more, finished}
use Rattle.easel.specs.Drawing.{entry_played, played}

module _ (u i : ℕ) (entries : List ℕ) (s : State) where
  pub plays_on : {p : Registers} {o : Outcome} → i < length entries → p ≡ (written s.regs (get_or entries i 0)).regs
      → o ≡ finished (state p s.mem)
      → more u (played s (drop i entries)) ≡ more (u + o.sent.units) (played (left_at o) (drop (i + 1) entries))
  unfolding played
  plays_on {p} {o} some port ran =
      let e : o ≡ entry_played s (get_or entries i 0) = ran ∙ ap (λ (x : Registers). finished (state x s.mem)) port in
      let k : suc i ≡ i + 1 = omega arith in
      let first : drop i entries ≡ get_or entries i 0 ∷ drop (i + 1) entries = drop-cons entries i 0 some ∙ rw k in
      ap (λ (l : List ℕ). more u (played s l)) first
      ∙ more_more u _ _
      ∙ ap (λ (x : Outcome). more (u + x.sent.units) (played (left_at x) (drop (i + 1) entries))) (sym e)

  pub plays_out : length entries ≤ i
      → more u (played s (drop i entries)) ≡ outcome (record { regs = s.regs; units = u }) s.mem
  unfolding played
  plays_out few =
      let k : u + 0 ≡ u = omega arith in
      ap (λ (l : List ℕ). more u (played s l)) (drop_of_length-le entries few)
      ∙ ap (λ (n : ℕ). outcome (record { regs = s.regs; units = n }) s.mem) k
