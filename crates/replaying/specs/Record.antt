-- What a program that replays a record piece by piece relies on, and what the record of a listing does. `record_goes_on` and
-- `parts_are_the_whole` of proofs/PartLaws.antt, `taken_is_all_done` of proofs/TakenLaws.antt and `listing_is_sent` of
-- proofs/ListingLaws.antt prove the four statements.
use Rattle.std.specs.Prelude.{◌≡◌, true, cond, List, [], ◌∷◌, ◌++◌, ℕ, ◌+◌, ◌*◌, ◌%◌, ◌≤◌, ltb, length, take}
use Rattle.registers.specs.Sound.{sound_b}
use Rattle.registers.specs.State.{State}
use Rattle.registers.specs.Typed.{Typed, Words}
use Rattle.units.specs.Run.{fitted_b}
use Rattle.sending.specs.Send.{sent_all, units_of, AllAccepted}
use Rattle.replaying.specs.Replay.{idle_mark, outcome, left_at, behind, all_done, most_replayed, replayed}

-- A record of any length, lent piece by piece from a sound set over a memory of a lawful length: behind the events a, none of which was
-- refused, the next piece b, lent to what they left, goes on as the whole record does. (`Typed` and `Words` are what the types say.)
abbrev pub RecordGoesOn : Type 0
RecordGoesOn =
    (s : State) (a b : List ℕ) → sound_b s.regs ≡ true → Typed s.regs → Words s.mem → fitted_b s ≡ true
    → length b ≤ most_replayed → (all_done s a).list.number ≡ 0
    → all_done s (a ++ b) ≡ behind (all_done s a).list.taken (all_done s a).list.units (replayed (left_at (all_done s a)) b)

-- .. and so a list that one call may look at, lent in two parts, does what the whole list does
abbrev pub PartsAreTheWhole : Type 0
PartsAreTheWhole =
    (s : State) (a b : List ℕ) → Typed s.regs → Words s.mem → length (a ++ b) ≤ most_replayed → (replayed s a).list.number ≡ 0
    → replayed s (a ++ b)
    ≡ behind (replayed s a).list.taken (replayed s a).list.units (replayed (left_at (replayed s a)) b)

-- What was done is what the events that were taken do: the refused one, and those behind it, alter nothing.
abbrev pub TakenIsAllDone : Type 0
TakenIsAllDone =
    (s : State) (l : List ℕ)
    → (left_at (replayed s (take (replayed s l).list.taken l)) ≡ left_at (replayed s l))
    × ((replayed s (take (replayed s l).list.taken l)).list.units ≡ (replayed s l).list.units)

-- a line of a listing tells an entry's port and its byte: "commands are the byte + 256"
abbrev pub line_event : ℕ → ℕ
line_event e = cond (ltb e 256) e (e % 256 + 256)

-- the record of a listing: "the controller runs until idle after each entry"
unfoldable pub listing_events : List ℕ → List ℕ
listing_events [] = []
listing_events (e ∷ l) = line_event e ∷ idle_mark ∷ listing_events l

-- Entries that the controller accepts, each with its run, are all taken from the record of their listing: registers, memory and units are
-- those of the entries sent one at a time.
abbrev pub ListingIsSent : Type 0
ListingIsSent =
    (s : State) (l : List ℕ) → sound_b s.regs ≡ true → fitted_b s ≡ true → 2 * length l ≤ most_replayed → AllAccepted s l
    → replayed s (listing_events l)
    ≡ outcome (record { number = 0; taken = 2 * length l; units = units_of s l; regs = (sent_all s l).regs }) (sent_all s l).mem
