-- A byte to a port and from one, by the plain numbers, is what the controller answers: a set that does not fit is refused with 1; of one
-- that fits the plain numbers stay, but for the buffer and, of RESET and of a command in read mode, what these end. True since formed plain
-- numbers are those of the set that they give.
use Prim.Native.Nat.{ℕ, zero, suc, ◌+◌, ◌%◌, ◌≤◌}
use mathlib.Core.Path.{◌≡◌, refl, sym, ap, ◌∙◌}
use mathlib.Core.Bool.{Bool, true, false, cond, not, ◌&&◌, ◌||◌}
use native.Mathlib.Omega.{arith}
use lib.Dec.{eqb, ltb, leb}
use borrow.Author.Tests.{ltb-false, leb-false, eqb-false, eq-eqb, ne_eqb}
use Rattle.registers.specs.declared.Mode.{Mode}
use Rattle.registers.specs.declared.Mode.TheVariants.{Write, Read}
use Rattle.registers.specs.declared.Buffer.{Buffer}
use Rattle.registers.specs.declared.Registers.{Registers}
use Rattle.registers.specs.Sound.{sound_b}
use Rattle.registers.specs.Buffer.{pushed, oldest, popped}
use Rattle.registers.specs.Put.{put_buffer}
use Rattle.registers.proofs.BoolLaws.{false_true}
use Rattle.processor.specs.Command.{reset_done}
use Rattle.ports.specs.declared.Answer.{Answer}
use Rattle.ports.specs.Port.{granted, refused, queued, queued_or3, command_in, command_written, parameter_in, parameter_written, byte_in}
use Rattle.ports.specs.Port.{byte_read, status_read}
use Rattle.status.specs.Status.{status_of, figure_in_progress_b, read_mode_b}
use Rattle.sending.specs.Send.{written}
use Rattle.plain.specs.declared.PlainWork.{PlainWork}
use Rattle.plain.specs.declared.PlainRegisters.{PlainRegisters}
use Rattle.plain.specs.Numbers.{mode_of}
use Rattle.plain.specs.Parts.{buffer_of, buffer_plain, work_of}
use Rattle.plain.specs.Form.{plain_form_b}
use Rattle.plain.specs.Mirror.{from_plain, to_plain}
use Rattle.plain.proofs.MirrorLaws.{to_from}
use Rattle.bus.specs.declared.PlainAnswer.{PlainAnswer}
use Rattle.bus.specs.declared.Held.{Held}
use Rattle.bus.specs.Asked.{answer_plain, refused_plain, asked, read_from}
use Rattle.bus.specs.Bytes.{turns_b, held, queued_buffer, queued_held, held_written, fit_b, written_held, held_read, read_held}
use Rattle.bus.specs.Bytes.{with_buffer, answer_held, granted_plain, reset_plain, turned_plain, command_plain}

-- ---- the set itself, and the set with another buffer
module _ (p : PlainRegisters) (s : plain_form_b p ≡ true) where
  same_there : (n v : ℕ) → answer_held p (held n v p.buffer) ≡ answer_plain (record { number = n; value = v; regs = from_plain p })
  same_there n v = λ i. record { number = n; value = v; regs = sym (to_from p s) i }

  put_there : (v : ℕ) (b : Buffer) → answer_held p (held 0 v (buffer_plain b)) ≡ answer_plain (granted v (put_buffer (from_plain p) b))
  unfolding from_plain to_plain
  put_there v b =
      let e = sym (to_from p s) in
      λ i.
      record {
        number = 0;
        value = v;
        regs =
            record {
              cursor = (e i).cursor;
              pitch = (e i).pitch;
              drawing = (e i).drawing;
              op = (e i).op;
              ram = (e i).ram;
              video = (e i).video;
              pen = (e i).pen;
              mode = (e i).mode;
              buffer = buffer_plain b;
              progress = (e i).progress;
              work = (e i).work;
              remaining = (e i).remaining;
              board = (e i).board;
            };
      }

  queue_there : (x : ℕ) → answer_held p (queued_held p.buffer x) ≡ answer_plain (queued_or3 (from_plain p) x)
  unfolding queued_or3 from_plain
  queue_there x = go (leb 16 p.buffer.count)
    where
      go : (t : Bool)
          → answer_held p (cond t (held 3 0 p.buffer) (held 0 0 (buffer_plain (pushed (buffer_of p.buffer) x))))
          ≡ answer_plain (cond t (refused 3 (from_plain p)) (granted 0 (put_buffer (from_plain p) (pushed (buffer_of p.buffer) x))))
      go true = same_there 3 0
      go false = put_there 0 (pushed (buffer_of p.buffer) x)

-- ---- every port refuses first what does not fit
inside : {A : Type 0} (t u : Bool) (x y z : A) → cond t (cond u x z) (cond u y z) ≡ cond u (cond t x y) z
inside true u x y z = refl
inside false u x y z = refl

module _ (p : PlainRegisters) where
  let_in : (x : PlainAnswer) (a : Answer) → (plain_form_b p ≡ true → x ≡ answer_plain a)
      → cond (fit_b p) x (refused_plain p) ≡ asked p (cond (sound_b (from_plain p)) a (refused 1 (from_plain p)))
  let_in x a f = go (plain_form_b p) (sound_b (from_plain p)) refl
    where
      go : (t u : Bool) → plain_form_b p ≡ t
          → cond (t && u) x (refused_plain p) ≡ cond t (answer_plain (cond u a (refused 1 (from_plain p)))) (refused_plain p)
      go true true e = f e
      go true false e = same_there p e 1 0
      go false u e = refl

  ported : (h : Held) (a : Answer) → (plain_form_b p ≡ true → answer_held p h ≡ answer_plain a)
      → answer_held p (cond (fit_b p) h (held 1 0 p.buffer)) ≡ asked p (cond (sound_b (from_plain p)) a (refused 1 (from_plain p)))
  ported h a f = go (fit_b p) ∙ let_in (answer_held p h) a f
    where
      go : (t : Bool) → answer_held p (cond t h (held 1 0 p.buffer)) ≡ cond t (answer_held p h) (refused_plain p)
      go true = refl
      go false = refl

-- ---- a byte is written
abbrev written_in : Registers → ℕ → Answer
written_in r e =
    cond (ltb e 256) (parameter_in r.mode r e)
    (cond (eqb (e % 256) 0) (granted 0 (reset_done r)) (command_in r.mode r (e % 256)))

written_in_law : (r : Registers) (e : ℕ) → cond (sound_b r) (written_in r e) (refused 1 r) ≡ written r e
unfolding parameter_written command_written
written_in_law r e =
    sym (inside (ltb e 256) (sound_b r) (parameter_in r.mode r e)
    (cond (eqb (e % 256) 0) (granted 0 (reset_done r)) (command_in r.mode r (e % 256))) (refused 1 r))

-- an entry of nine bits with the mark, but for RESET, is its byte with the mark
marked : (e : ℕ) → 256 ≤ e → eqb e 256 ≡ false → leb 512 e ≡ false → (eqb (e % 256) 0 ≡ false) × (e % 256 + 256 ≡ e)
marked e l f g =
    let a = eqb-false e 256 f in
    let b = leb-false 512 e g in
    (ne_eqb (e % 256) 0 (λ (z : e % 256 ≡ 0). absurd (omega (arith, a))), omega arith)

-- a command has no byte to give
no_value : (p : PlainRegisters) (b : ℕ) → (asked p (command_written (from_plain p) b)).value ≡ 0
unfolding command_written queued_or3
no_value p b = go (plain_form_b p) (sound_b (from_plain p)) (eqb b 0)
  where
    by_mode : (m : Mode) → (command_in m (from_plain p) b).value ≡ 0
    by_mode Write = full (leb 16 (from_plain p).buffer.count)
      where
        full : (t : Bool) → (cond t (refused 3 (from_plain p)) (granted 0 (queued (from_plain p) (b + 256)))).value ≡ 0
        full true = refl
        full false = refl
    by_mode Read = refl

    go : (t u w : Bool) → (cond t (answer_plain (cond u (cond w (granted 0 (reset_done (from_plain p))) (command_in (from_plain p).mode
        (from_plain p) b)) (refused 1 (from_plain p)))) (refused_plain p)).value ≡ 0
    go true true true = refl
    go true true false = by_mode (from_plain p).mode
    go true false w = refl
    go false u w = refl

module _ (p : PlainRegisters) (e : ℕ) where
  queued_there : turns_b p.mode e ≡ false → plain_form_b p ≡ true
      → answer_held p (held_written p.mode p.buffer e) ≡ answer_plain (written_in (from_plain p) e)
  unfolding from_plain
  queued_there n s = go (ltb e 256) (eqb p.mode 0) (eqb e 256) (leb 512 e) refl refl refl n
    where
      command : (eqb (e % 256) 0 ≡ false) × (e % 256 + 256 ≡ e)
          → answer_held p (queued_held p.buffer e)
          ≡ answer_plain (cond (eqb (e % 256) 0) (granted 0 (reset_done (from_plain p))) (queued_or3 (from_plain p) (e % 256 + 256)))
      command h = rw (h.0, h.1) (queue_there p s e)

      go : (t u v w : Bool) → ltb e 256 ≡ t → eqb e 256 ≡ v → leb 512 e ≡ w → cond t false (not u || v || w) ≡ false
          → answer_held p (cond u (queued_held p.buffer e) (held 4 0 p.buffer))
          ≡ answer_plain
          (cond t (parameter_in (cond u Write Read) (from_plain p) e)
          (cond (eqb (e % 256) 0) (granted 0 (reset_done (from_plain p))) (command_in (cond u Write Read) (from_plain p) (e % 256))))
      go true true v w a b c q = queue_there p s e
      go true false v w a b c q = same_there p s 4 0
      go false true true w a b c q = absurd (false_true (sym q))
      go false true false true a b c q = absurd (false_true (sym q))
      go false true false false a b c q = command (marked e (ltb-false e 256 a) b c)
      go false false v w a b c q = absurd (false_true (sym q))

  no_byte : (written_held p e).value ≡ 0
  no_byte = go (fit_b p) (eqb p.mode 0) (leb 16 p.buffer.count)
    where
      go : (t u v : Bool)
          → (cond t (cond u (cond v (held 3 0 p.buffer) (held 0 0 (queued_buffer p.buffer e))) (held 4 0 p.buffer))
          (held 1 0 p.buffer)).value ≡ 0
      go true true true = refl
      go true true false = refl
      go true false v = refl
      go false u v = refl

  -- the buffer alone changes
  pub writes : {h : Held} → turns_b p.mode e ≡ false → h ≡ written_held p e
      → record { number = h.number; value = 0; regs = with_buffer p h.buffer } ≡ asked p (written (from_plain p) e)
  writes n f =
      (λ i. record { number = (f i).number; value = sym no_byte i; regs = with_buffer p (f i).buffer })
      ∙ ported p (held_written p.mode p.buffer e) (written_in (from_plain p) e) (queued_there n)
      ∙ ap (asked p) (written_in_law (from_plain p) e)

  -- .. or more
  pub turns_on : {a : PlainAnswer} → turns_b p.mode e ≡ true → a ≡ asked p (command_written (from_plain p) (e % 256))
      → record { number = a.number; value = 0; regs = a.regs } ≡ asked p (written (from_plain p) e)
  turns_on n f =
      (λ i. record { number = (f i).number; value = sym (no_value p (e % 256)) i; regs = (f i).regs }) ∙ go (ltb e 256) n
    where
      go : (t : Bool) → cond t false (not (eqb p.mode 0) || eqb e 256 || leb 512 e) ≡ true
          → asked p (command_written (from_plain p) (e % 256))
          ≡ asked p (cond t (parameter_written (from_plain p) e) (command_written (from_plain p) (e % 256)))
      go true q = absurd (false_true q)
      go false q = refl

-- ---- a command byte
module _ (p : PlainRegisters) (b : ℕ) where
  command_there : plain_form_b p ≡ true
      → cond (eqb b 0) (granted_plain (reset_plain p))
      (cond (eqb p.mode 0) (answer_held p (queued_held p.buffer (b + 256))) (granted_plain (turned_plain p (b + 256))))
      ≡ answer_plain (cond (eqb b 0) (granted 0 (reset_done (from_plain p))) (command_in (from_plain p).mode (from_plain p) b))
  unfolding from_plain to_plain reset_done
  command_there s = go (eqb b 0) (eqb p.mode 0)
    where
      go : (t u : Bool)
          → cond t (granted_plain (reset_plain p))
          (cond u (answer_held p (queued_held p.buffer (b + 256))) (granted_plain (turned_plain p (b + 256))))
          ≡ answer_plain (cond t (granted 0 (reset_done (from_plain p))) (command_in (cond u Write Read) (from_plain p) b))
      go true u = λ i. granted_plain (reset_plain (sym (to_from p s) i))
      go false true = queue_there p s (b + 256)
      go false false = λ i. granted_plain (turned_plain (sym (to_from p s) i) (b + 256))

  commands : command_plain p b ≡ asked p (command_written (from_plain p) b)
  unfolding command_written
  commands =
      let_in p
      (cond (eqb b 0) (granted_plain (reset_plain p))
      (cond (eqb p.mode 0) (answer_held p (queued_held p.buffer (b + 256))) (granted_plain (turned_plain p (b + 256)))))
      (cond (eqb b 0) (granted 0 (reset_done (from_plain p))) (command_in (from_plain p).mode (from_plain p) b)) command_there

  abbrev kept : PlainAnswer
  kept = answer_held p (queued_held p.buffer (b + 256))

  abbrev ended : PlainAnswer
  ended = granted_plain (turned_plain p (b + 256))

  by_case : {t u v : Bool} → t ≡ fit_b p → u ≡ eqb b 0 → v ≡ eqb p.mode 0
      → cond t (cond u (granted_plain (reset_plain p)) (cond v kept ended)) (refused_plain p) ≡ asked p (command_written (from_plain p) b)
  by_case e f g =
      (λ i. cond (e i) (cond (f i) (granted_plain (reset_plain p)) (cond (g i) kept ended)) (refused_plain p)) ∙ commands

  -- a set that does not fit; RESET; a command in read mode; one in write mode
  pub turned_away : fit_b p ≡ false → refused_plain p ≡ asked p (command_written (from_plain p) b)
  turned_away e = by_case (sym e) refl refl

  pub resets : fit_b p ≡ true → b ≡ 0 → granted_plain (reset_plain p) ≡ asked p (command_written (from_plain p) b)
  resets e z = by_case (sym e) (sym (eq-eqb b 0 z)) refl

  pub turns_back : fit_b p ≡ true → (b ≡ 0 → ⊥) → (p.mode ≡ 0 → ⊥) → ended ≡ asked p (command_written (from_plain p) b)
  turns_back e z m = by_case (sym e) (sym (ne_eqb b 0 z)) (sym (ne_eqb p.mode 0 m))

  pub queues : fit_b p ≡ true → (b ≡ 0 → ⊥) → p.mode ≡ 0 → kept ≡ asked p (command_written (from_plain p) b)
  queues e z m = by_case (sym e) (sym (ne_eqb b 0 z)) (sym (eq-eqb p.mode 0 m))

-- ---- a port is read
module _ (p : PlainRegisters) (k : ℕ) where
  taken_there : plain_form_b p ≡ true
      → answer_held p (cond (eqb k 0) (held 0 (status_of (from_plain p)) p.buffer) (held_read p.mode p.buffer))
      ≡ answer_plain (cond (eqb k 0) (granted (status_of (from_plain p)) (from_plain p)) (byte_in (from_plain p).mode (from_plain p)))
  unfolding from_plain
  taken_there s = go (eqb k 0) (eqb p.mode 0)
    where
      by_count : (t : Bool)
          → answer_held p (cond t (held 5 0 p.buffer) (held 0 (oldest (buffer_of p.buffer) % 256)
          (buffer_plain (popped (buffer_of p.buffer)))))
          ≡ answer_plain (cond t (refused 5 (from_plain p)) (granted (oldest (buffer_of p.buffer) % 256)
          (put_buffer (from_plain p) (popped (buffer_of p.buffer)))))
      by_count true = same_there p s 5 0
      by_count false = put_there p s (oldest (buffer_of p.buffer) % 256) (popped (buffer_of p.buffer))

      go : (t u : Bool)
          → answer_held p (cond t (held 0 (status_of (from_plain p)) p.buffer) (cond (u || eqb p.buffer.count 0) (held 5 0 p.buffer)
          (held 0 (oldest (buffer_of p.buffer) % 256) (buffer_plain (popped (buffer_of p.buffer))))))
          ≡ answer_plain (cond t (granted (status_of (from_plain p)) (from_plain p)) (byte_in (cond u Write Read) (from_plain p)))
      go true u = same_there p s 0 (status_of (from_plain p))
      go false true = same_there p s 5 0
      go false false = by_count (eqb p.buffer.count 0)

  read_in : (r : Registers)
      → cond (sound_b r) (cond (eqb k 0) (granted (status_of r) r) (byte_in r.mode r)) (refused 1 r) ≡ read_from k r
  unfolding status_read byte_read
  read_in r = sym (inside (eqb k 0) (sound_b r) (granted (status_of r) r) (byte_in r.mode r) (refused 1 r))

  pub reads : answer_held p (read_held p k) ≡ asked p (read_from k (from_plain p))
  reads =
      ported p (cond (eqb k 0) (held 0 (status_of (from_plain p)) p.buffer) (held_read p.mode p.buffer))
      (cond (eqb k 0) (granted (status_of (from_plain p)) (from_plain p)) (byte_in (from_plain p).mode (from_plain p))) taken_there
      ∙ ap (asked p) (read_in (from_plain p))

-- ---- what the status tells
pub read_mode : (m : ℕ) → not (eqb m 0) ≡ read_mode_b (mode_of m)
read_mode m = go (eqb m 0)
  where
    go : (t : Bool) → not t ≡ read_mode_b (cond t Write Read)
    go true = refl
    go false = refl

-- all that is in progress but a read is a figure
figure_of_law : (k : ℕ) (w : PlainWork) → (not (eqb k 0) && not (eqb k 3)) ≡ figure_in_progress_b (work_of (record {
  kind = k;
  transfer = w.transfer;
  d = w.d;
  d1 = w.d1;
  d2 = w.d2;
  item = w.item;
  dot = w.dot;
  row = w.row;
  column = w.column;
  start = w.start;
}))
figure_of_law zero w = refl
figure_of_law (suc zero) w = refl
figure_of_law (suc (suc zero)) w = refl
figure_of_law (suc (suc (suc zero))) w = refl
figure_of_law (suc (suc (suc (suc k)))) w =
    let n = suc (suc (suc (suc k))) in
    rw (
      ne_eqb n 0 (λ (z : n ≡ 0). absurd (omega arith)),
      ne_eqb n 1 (λ (z : n ≡ 1). absurd (omega arith)),
      ne_eqb n 2 (λ (z : n ≡ 2). absurd (omega arith)),
      ne_eqb n 3 (λ (z : n ≡ 3). absurd (omega arith)),
    )

pub figure_there : (w : PlainWork) → (not (eqb w.kind 0) && not (eqb w.kind 3)) ≡ figure_in_progress_b (work_of w)
figure_there w = figure_of_law w.kind w
