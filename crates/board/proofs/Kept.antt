-- The board calls keep a sound set sound: what they leave behind the reference are the registers of the call by value. The run by value
-- keeps it, and so do entries sent one after the other (crate sending).
use Prim.Native.Nat.{ℕ}
use mathlib.Core.Path.{◌≡◌, refl, sym, subst}
use mathlib.Core.Bool.{Bool, true, false}
use mathlib.Core.List.{List}
use lib.ListN.{length, take}
use Rattle.registers.specs.declared.Board.{Board}
use Rattle.registers.specs.declared.Registers.{Registers}
use Rattle.registers.specs.Sound.{sound_b}
use Rattle.registers.specs.State.{State, state}
use Rattle.registers.specs.Typed.{Typed}
use Rattle.units.specs.Run.{Outcome, fitted_b}
use Rattle.sending.specs.Send.{sent_all}
use Rattle.sends.specs.Sends.{ListOutcome, taken_from, list_by, most_listed, list_sent}
use Rattle.laws.proofs.KeptLaws.{SoundSet, Whole, lawful, lawful_sound, lawful_typed}
use Rattle.laws.proofs.Kept.{every_entry_keeps_sound}
use Rattle.sending.proofs.KeptLaws.{sent_all_kept}
use Rattle.board.specs.Kept.{BoardCallKeepsSound, BoardListKeepsSound}

abbrev Good : Board → Registers → Type 0
Good board r = (sound_b r ≡ true) × (Typed r × (r.board ≡ board))

pub board_call_keeps_sound : BoardCallKeepsSound
board_call_keeps_sound budget r left m after q e t w s =
    subst (λ (o : Outcome). Good r.board o.ran.regs) (sym e) (every_entry_keeps_sound.run budget m w r t s)

-- ---- a list of entries
good : {board : Board} (r : Registers) → SoundSet board r → Good board r
good r l = (lawful_sound r l, (lawful_typed r l, l.same))

-- a refusal leaves the set given
list_kept : {board : Board} (n : ℕ) (sound long : Bool) (s : State) (l : List ℕ) → Whole board n s
    → Good board (list_by sound long s l).list.regs
list_kept n false long s l w = good s.regs w.regs
list_kept n true false s l w = good s.regs w.regs
list_kept n true true s l w = good (sent_all s (taken_from s l)).regs (sent_all_kept n (taken_from s l) s w).regs

pub board_list_keeps_sound : BoardListKeepsSound
unfolding list_sent
board_list_keeps_sound l r left m after q e t w s =
    subst (λ (o : ListOutcome). Good r.board o.list.regs) (sym e)
    (list_kept (length m) (sound_b r) (fitted_b (state r m)) (state r m) (take most_listed l)
    (record { regs = lawful r s t; words = w; long = refl }))
