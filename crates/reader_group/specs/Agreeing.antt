-- The plain reading of a read group, against Arrivals and Records.
use Rattle.std.specs.Prelude.{◌≡◌, ⊤, ℕ, ◌+◌, ◌<◌, ◌≤◌, List, [], ◌∷◌, map, Bool, true, false, Some, unwrap_or, slice_get, Contains}
use Rattle.seq_number.specs.Numbers.{number_of_place, greatest, IsNear}
use Rattle.pubsub_model.specs.declared.reading.Why.TheVariants.{Restarted}
use Rattle.pubsub_model.specs.Records.{Item, Arrival, place_in, since_cut, last_counting}
use Rattle.dataset_reader.specs.Keeping.{KeepsBy, AreNearInEach}
use Rattle.receive_timer.specs.Told.{last_seen}
use Rattle.chunker.specs.Chunks.{places}
use Rattle.chunker.specs.Joins.{JoinsOver}
use Rattle.message_guard.specs.Modes.{is_secured}
use Rattle.message_guard.specs.Acceptance.{highest}
use Rattle.reader_group.specs.Members.{MemberValue, numbering_of}
use Rattle.reader_group.specs.Plain.{Setting, Event, Got, Expired, Stopped, member_at, plain}
use Rattle.reader_group.specs.Arrivals.{Way, Mark, Arrived, Laid, accepted, arrivals_in, chunks_in, marks, arrivals, is_ready, is_late, goes_by_numbers}

-- the chunks' places are near in each stretch
abbrev pub ChunksNear : List Mark → Type 0
ChunksNear [] = ⊤
ChunksNear (Arrived arrival ∷ before) = ChunksNear before
ChunksNear (Laid chunk ∷ before) = IsNear (places (chunk ∷ chunks_in before)) × ChunksNear before

-- with no numbering the places of items don't matter
abbrev pub NearBy : Bool → List Arrival → Type 0
NearBy true list = AreNearInEach list
NearBy false list = ⊤

-- each cut by hand is a restart
abbrev pub AreRestarts : List Event → Type 0
AreRestarts [] = ⊤
AreRestarts (Got moment on datagram ∷ before) = AreRestarts before
AreRestarts (Expired moment ∷ before) = AreRestarts before
AreRestarts (Stopped reader why ∷ before) = (why ≡ Restarted) × AreRestarts before

-- each number stands for a place with its 16 bits
abbrev pub IsWay : Way → Type 0
IsWay way = (token number n : ℕ) → number_of_place (way.place token number n) ≡ number_of_place n

-- what is kept for a reader is what *Arrivals* and *Records* have of it
pub record MemberIs (way : Way) (list : List Mark) (member : MemberValue) : Type 0 where
  pub keeps : KeepsBy (numbering_of way.seat.part.numbering) (arrivals_in list) member.kept
  pub joins : JoinsOver (chunks_in list) member.joining
  pub seen : last_seen member.told ≡ last_counting (goes_by_numbers way) (since_cut (arrivals_in list))
  pub late : member.late ≡ is_late (goes_by_numbers way) (arrivals_in list)
  pub ready : member.ready ≡ is_ready (goes_by_numbers way) (arrivals_in list)

-- ---- without a premise on the places, where security numbers the datagrams

-- where the second number isn't lower, neither is its place, and the place rises by at most as much as the number
abbrev pub Rise : ℕ × ℕ → ℕ × ℕ → Type 0
Rise low high = low.0 ≤ high.0 → (low.1 ≤ high.1) × (high.1 + low.0 ≤ low.1 + high.0)

abbrev pub RisesWith : ℕ × ℕ → List (ℕ × ℕ) → Type 0
RisesWith pair [] = ⊤
RisesWith pair (other ∷ before) = Rise pair other × Rise other pair × RisesWith pair before

-- of any two pairs of a number and a place, whichever came first
abbrev pub RiseTogether : List (ℕ × ℕ) → Type 0
RiseTogether [] = ⊤
RiseTogether (pair ∷ before) = RisesWith pair before × RiseTogether before

-- each number after the first is below the greatest before it plus 16,384, and above it less 1,024
abbrev pub AreWithin : List ℕ → Type 0
AreWithin [] = ⊤
AreWithin (number ∷ []) = ⊤
AreWithin (number ∷ last ∷ before) =
    (number < greatest (last ∷ before) + 16384) × (greatest (last ∷ before) < number + 1024) × AreWithin (last ∷ before)

abbrev pub numbers_in : List (ℕ × ℕ) → List ℕ
numbers_in pairs = map (λ (pair : ℕ × ℕ). pair.0) pairs

abbrev pub places_in : List (ℕ × ℕ) → List ℕ
places_in pairs = map (λ (pair : ℕ × ℕ). pair.1) pairs

-- places that rise with their numbers, and by at most as much, are near where the numbers are
abbrev pub NearByNumbers : List (ℕ × ℕ) → Type 0
NearByNumbers pairs = RiseTogether pairs → AreWithin (numbers_in pairs) → IsNear (places_in pairs)

abbrev pub stamp_pair : Item → ℕ × ℕ
stamp_pair item = (unwrap_or item.stamp 0, place_in item)

-- what the sender gave under each token: pairs of a number and the place of this reader's writer in the datagram of that number
abbrev pub SendsRise : (ℕ → List (ℕ × ℕ)) → Type 0
SendsRise sent = (token : ℕ) → RiseTogether (sent token)

abbrev pub AreSent : List (ℕ × ℕ) → List Item → Type 0
AreSent sent [] = ⊤
AreSent sent (item ∷ before) = Contains sent (stamp_pair item) × AreSent sent before

-- after each event each item since the last cut is one that the sender gave under the highest token that was accepted
abbrev pub AllSent : (ℕ → List (ℕ × ℕ)) → Setting → Way → List Event → Type 0
AllSent sent setting way [] = ⊤
AllSent sent setting way (event ∷ before) =
    AreSent (sent (highest (accepted setting (event ∷ before)))) (since_cut (arrivals setting way (event ∷ before)))
    × AllSent sent setting way before

-- the reader is one of the group, its numbers stand for places, and each cut by hand is a restart
pub record IsWayOf (setting : Setting) (way : Way) (events : List Event) : Type 0 where
  pub seat : slice_get setting.seats way.index ≡ Some way.seat
  pub numbers : IsWay way
  pub restarts : AreRestarts events

-- where places are near, a reader of the plain reading is what *Arrivals* and *Records* say
abbrev pub Agrees : Setting → Way → List Event → Type 0
Agrees setting way events =
    IsWayOf setting way events → NearBy (goes_by_numbers way) (arrivals setting way events) → ChunksNear (marks setting way events)
    → MemberIs way (marks setting way events) (member_at (plain setting events).members way.index)

-- a reader of a secured group that goes by numbers is what *Arrivals* and *Records* say, with no premise on places but on those of chunks
abbrev pub SecuredAgrees : (ℕ → List (ℕ × ℕ)) → Setting → Way → List Event → Type 0
SecuredAgrees sent setting way events =
    is_secured setting.setup.mode ≡ true → goes_by_numbers way ≡ true → SendsRise sent → AllSent sent setting way events
    → IsWayOf setting way events → ChunksNear (marks setting way events)
    → MemberIs way (marks setting way events) (member_at (plain setting events).members way.index)

-- each reader of a secured group that goes by numbers is what *Arrivals* and *Records* say, whatever befell the group
abbrev pub EachSecuredAgrees : (ℕ → List (ℕ × ℕ)) → Type 0
EachSecuredAgrees sent = (setting : Setting) (way : Way) (events : List Event) → SecuredAgrees sent setting way events
