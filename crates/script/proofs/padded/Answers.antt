-- `padded` gives `padded_b`: the same tests; of no characters the first is none.
use native.Mathlib.Omega.{arith}
use mathlib.Core.Path.{◌≡◌}
use Rattle.std.proofs.Common.{◌⊎◌}
use Rattle.script.proofs.LineLaws.{padded_request, padded_other}
use Rattle.script.proofs.padded.Goals.{in-70, in_default}
use Rattle.script.proofs.padded.Goals as goal

pub returns : goal.returns
returns c = elim c.match-matches.branch [
  | in-70 w ↦
      let k : (c.args.letter ≡ 70) ⊎ (c.args.letter ≡ 74) = grind arith in
      padded_request _ _ c.starts_with.ensures.value w.matches-is k
  | in_default w ↦
      let f : c.args.letter ≡ 70 → ⊥ = λ e. grind arith in
      let g : c.args.letter ≡ 74 → ⊥ = λ e. grind arith in
      padded_other _ _ c.starts_with.ensures.value w.matches-is f g
]
