-- `take_line` gives `taken`: the characters that are left of the piece decide, at each turn.
use lib.ListN.{length as count, take, drop}
use mathlib.Core.Path.{◌≡◌}
use Prim.Native.Nat.{◌≤◌}
use Rattle.console.specs.Reader.{taken, taken_from}
use Rattle.console.proofs.reader.Reader.take_line.Given as goal

abbrev pub invariant-loop-at : goal.invariant-loop-at
invariant-loop-at l =
    record {
      within : l.filled ≤ count l.input;
      idle : l.filled ≤ l.self.at → l.at ≡ l.self.at;
      rest : taken l.input l.self l.initial.line
          ≡ taken_from l.self l.filled (drop l.at (take l.filled l.input)) l.at l.length l.line;
    }
