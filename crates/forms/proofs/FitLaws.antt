-- Form and soundness together, part by part as `fits` tests them: the numbers, the command, what is in progress, the buffer. True
-- since both are conjunctions, which may be put in another order.
use mathlib.Core.Path.{◌≡◌, refl, sym, ap, ◌∙◌}
use mathlib.Core.Bool.{Bool, true, false, ◌&&◌, and-false, and_assoc, and_comm}
use lib.Dec.{ltb, leb}
use Rattle.registers.specs.Sound.{cursor_b, drawing_b, buffer_b, place_b, work_b, count_b, sound_b}
use Rattle.plain.specs.declared.PlainRegisters.{PlainRegisters}
use Rattle.plain.specs.Numbers.{mode_of}
use Rattle.plain.specs.Parts.{cursor_of, drawing_of, buffer_of, work_of}
use Rattle.plain.specs.Form.{command_form_b, work_form_b, bits_b, plain_form_b}
use Rattle.plain.specs.Mirror.{from_plain}
use Rattle.forms.specs.Fit.{placed_b, in_progress_b, numbers_b}

inner : (a b c d : Bool) → ((a && b) && (c && d)) ≡ ((a && c) && (b && d))
inner true true c d = refl
inner true false c d = sym (and-false c)
inner false b c d = refl

ordered : (a k w s b p : Bool) → (((a && k) && w) && ((s && b) && p)) ≡ ((((a && s) && k) && (w && p)) && b)
ordered a k w s b p =
    inner (a && k) w (s && b) p
    ∙ ap (λ (x : Bool). x && (w && p)) (inner a k s b ∙ sym (and_assoc (a && s) k b))
    ∙ and_assoc ((a && s) && k) b (w && p)
    ∙ ap (λ (x : Bool). ((a && s) && k) && x) (and_comm b (w && p))
    ∙ sym (and_assoc ((a && s) && k) (w && p) b)

module _ (p : PlainRegisters) where
  abbrev command_b : Bool
  command_b = command_form_b p.progress.command p.progress.transfer

  abbrev held_b : Bool
  held_b = buffer_b (mode_of p.mode) (buffer_of p.buffer)

  all : (plain_form_b p && sound_b (from_plain p)) ≡ (((numbers_b p && command_b) && in_progress_b p) && held_b)
  unfolding plain_form_b sound_b from_plain
  all =
      let n = cursor_b (cursor_of p.cursor) && drawing_b (drawing_of p.drawing) && ltb p.pen.address 262144
      && leb p.progress.next 16 in
      let place = place_b (drawing_of p.drawing) p.video.zoom (work_of p.work) in
      let work = work_b (mode_of p.mode) (work_of p.work) in
      let count = count_b (from_plain p) in
      ap (λ (x : Bool). plain_form_b p && x)
      (ap (λ (x : Bool). x && count) (and_assoc (n && held_b) place work) ∙ and_assoc (n && held_b) (place && work) count)
      ∙ ordered (bits_b p && ltb p.op 4 && ltb p.mode 2 && ltb p.board.wiring 2) command_b (work_form_b p.work) n held_b
      (placed_b (drawing_of p.drawing) p.video.zoom (mode_of p.mode) p.remaining (work_of p.work))

  -- the four tests, each with what it found
  pub by_parts : {n k w b : Bool} → n ≡ numbers_b p → k ≡ command_b → w ≡ in_progress_b p → b ≡ held_b
      → (((n && k) && w) && b) ≡ (plain_form_b p && sound_b (from_plain p))
  by_parts e f g h = (λ i. ((e i && f i) && g i) && h i) ∙ sym all
