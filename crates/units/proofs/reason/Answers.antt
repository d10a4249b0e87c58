-- `reason` is the definition, by what is in progress.
use Rattle.units.specs.Run.{reason_of}
use mathlib.Core.Path.{sym, ◌∙◌}
use Rattle.std.proofs.Common.{inl, inr}
use Rattle.units.proofs.reason.Goals as goal

pub returns-then-room : goal.returns-then-room
unfolding reason_of
returns-then-room c = rw (c.in-Reading.is, sym c.room.ensures ∙ c.if-room.true)

pub returns-in-Idle : goal.returns-in-Idle
unfolding reason_of
returns-in-Idle c = rw (c.in-Idle.is, c.waiting_reason.ensures)

pub returns-in-Figure : goal.returns-in-Figure
unfolding reason_of
returns-in-Figure c =
    elim c.in-Figure.is [ inl h ↦ rw h.2 | inr h ↦ elim h [ inl j ↦ rw j.2 | inr j ↦ rw j.3 ] ]

pub returns-else-room : goal.returns-else-room
unfolding reason_of
returns-else-room c = rw (c.in-Reading.is, sym c.room.ensures ∙ c.if-room.false)
