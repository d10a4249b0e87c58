-- The ports, the status and the light pen keep a lawful register set lawful: what is queued is a byte, with a command mark or
-- without, and a refusal answers the set given.
use mathlib.Core.Path.{◌≡◌, refl, sym, ap, ◌∙◌}
use mathlib.Core.Bool.{true}
use Prim.Native.Nat.{ℕ, ◌+◌, ◌<◌}
use native.Mathlib.Omega.{arith}
use lib.Dec.{eqb, leb}
use borrow.Author.Tests.{leb-false}
use Rattle.dots.specs.Step.{addresses}
use Rattle.registers.specs.declared.Board.{Board}
use Rattle.registers.specs.declared.Mode.{Mode}
use Rattle.registers.specs.declared.Mode.TheVariants.{Write, Read}
use Rattle.registers.specs.declared.Drawing.{Drawing}
use Rattle.registers.specs.declared.Work.{Work}
use Rattle.registers.specs.declared.Work.TheVariants.{Idle, Figure, Arc, Character, Reading}
use Rattle.registers.specs.declared.Registers.{Registers}
use Rattle.registers.specs.Fresh.{empty_buffer}
use Rattle.registers.specs.Sound.{write_b, sound_b, mark_b}
use Rattle.registers.specs.Buffer.{pushed, popped}
use Rattle.registers.proofs.BoolLaws.{false_true}
use Rattle.ports.specs.declared.Answer.{Answer}
use Rattle.ports.specs.Port.{queued, turned_back, queued_or3, command_in, command_written, parameter_in, parameter_written, byte_in}
use Rattle.ports.specs.Port.{byte_read}
use Rattle.ports.specs.Port.{status_read, pen_posted}
use Rattle.laws.proofs.BranchLaws.{either, cases}
use Rattle.laws.proofs.KeptLaws.{Going, SoundSet, idle, buffer_kept, pen_kept, turn_kept}
use Rattle.laws.proofs.KeptBufferLaws.{empty_queue, pushed_queue, popped_queue}
use Rattle.laws.proofs.KeptProcessorLaws.{reset_kept}

abbrev pub Answers : Board → Answer → Type 0
Answers board a = SoundSet board a.regs

module _ {board : Board} (r : Registers) (l : SoundSet board r) where
  queued_kept : (e : ℕ) → e < mark_b r.mode → SoundSet board (queued r e)
  queued_kept e h = buffer_kept r l (pushed r.buffer e) (pushed_queue r.mode r.buffer l.buffer e h)

  queued_or_3 : (e : ℕ) → e < mark_b r.mode → Answers board (queued_or3 r e)
  unfolding queued_or3
  queued_or_3 e h = either (Answers board) (leb 16 r.buffer.count) l (queued_kept e h)

-- in read mode no figure is in progress, so that no cycle is left
none_in_read_mode : (f : Drawing) (zoom : ℕ) (m : Mode) (n : ℕ) (w : Work) → m ≡ Read → Going f zoom m n w → n ≡ 0
none_in_read_mode f zoom m n Idle e g = g.count
none_in_read_mode f zoom m n (Figure k d) e g = absurd (false_true (ap write_b (sym e ∙ g.mode)))
none_in_read_mode f zoom m n (Arc k a) e g = absurd (false_true (ap write_b (sym e ∙ g.mode)))
none_in_read_mode f zoom m n (Character row column start) e g = absurd (false_true (ap write_b (sym e ∙ g.mode)))
none_in_read_mode f zoom m n (Reading i t) e g = g.count

pub turned_back_law : {board : Board} (r : Registers) → SoundSet board r → r.mode ≡ Read → SoundSet board (turned_back r)
turned_back_law r l e =
    turn_kept r l Write empty_buffer r.remaining Idle (empty_queue Write)
    (idle r.drawing r.video.zoom Write refl
    (none_in_read_mode r.drawing r.video.zoom r.mode r.remaining r.work e l.work))

module _ {board : Board} (r : Registers) (l : SoundSet board r) where
  command_in_law : (m : Mode) → r.mode ≡ m → (b : ℕ) → b < 256 → Answers board (command_in m r b)
  command_in_law Write e b h = queued_or_3 r l (b + 256) (rw e (omega arith))
  command_in_law Read e b h = queued_kept (turned_back r) (turned_back_law r l e) (b + 256) (omega arith)

  pub command_written_kept : (b : ℕ) → b < 256 → Answers board (command_written r b)
  unfolding command_written
  command_written_kept b h =
      either (Answers board) (sound_b r) (either (Answers board) (eqb b 0) (reset_kept r l) (command_in_law r.mode refl b h)) l

  parameter_in_law : (m : Mode) → r.mode ≡ m → (b : ℕ) → b < 256 → Answers board (parameter_in m r b)
  parameter_in_law Write e b h = queued_or_3 r l b (rw e (omega arith))
  parameter_in_law Read e b h = l

  pub parameter_written_kept : (b : ℕ) → b < 256 → Answers board (parameter_written r b)
  unfolding parameter_written
  parameter_written_kept b h = either (Answers board) (sound_b r) (parameter_in_law r.mode refl b h) l

  byte_in_law : (m : Mode) → Answers board (byte_in m r)
  byte_in_law Write = l
  byte_in_law Read =
      either (Answers board) (eqb r.buffer.count 0) l
      (buffer_kept r l (popped r.buffer) (popped_queue r.mode r.buffer l.buffer))

  pub byte_read_kept : Answers board (byte_read r)
  unfolding byte_read
  byte_read_kept = either (Answers board) (sound_b r) (byte_in_law r.mode) l

  pub status_read_kept : Answers board (status_read r)
  unfolding status_read
  status_read_kept = either (Answers board) (sound_b r) l l

  pub pen_posted_kept : (a : ℕ) → Answers board (pen_posted r a)
  unfolding pen_posted
  pen_posted_kept a =
      either (Answers board) (sound_b r)
      (cases (Answers board) (leb addresses a) (λ t. l)
      (λ t. pen_kept r l (record { address = a; set = true }) (leb-false addresses a t))) l
