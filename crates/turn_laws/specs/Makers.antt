-- Who made the datagrams of a key group: its one sender, over all turns of its groups.
use Rattle.std.specs.Prelude.{◌≡◌, ◌<◌, ⊤, ℕ, List, [], ◌∷◌, length, true, Some, Ok, slice_get, AllPairs}
use Rattle.message_guard.specs.Senders.{HaveOtherNumbers, SenderState, renewed, turned}
use Rattle.ps_config.specs.declared.parts.Config.{Config}
use Rattle.ps_config.specs.declared.parts.GroupPart.{GroupPart}
use Rattle.ps_config.specs.declared.parts.ReadGroupPart.{ReadGroupPart}
use Rattle.ps_config.specs.Sound.{IsSound}
use Rattle.writer_group.specs.Parts.{group_at}
use Rattle.writer_group.specs.Sharing.{SenderUse, Moved, Renewed, Made, AreUses, after_turn, datagrams_by}
use Rattle.writer_group.specs.Turns.{GroupDeed, GroupTurn}
use Rattle.reader_group.specs.Agreeing.{ChunksNear, MemberIs, SendsRise}
use Rattle.reader_group.specs.Arrivals.{Way, accepted, arrivals, goes_by_numbers, is_numbered, marks}
use Rattle.reader_group.specs.Members.{seat_at}
use Rattle.reader_group.specs.Opening.{Opened, verdict}
use Rattle.reader_group.specs.Plain.{Setting, Event, Got, Expired, Stopped, member_at, plain}
use Rattle.reader_group.specs.Settings.{group_at as read_group_at, keygroup_at, setting_by, setting_of}
use Rattle.reader_group.specs.Signed.{IsSignedBy}
use Rattle.group_laws.specs.Matching.{IsMatchedTo}
use Rattle.session_model.specs.Deeds.{Deed, RefreshedBelow, RefreshedSet, CameTo, TookTurn, RenewedKeys, deeds, group_past, opening_sender, sender_after, sender_of}
use Rattle.session_model.specs.Events.{events}
use Rattle.session_model.specs.Keeping.{AreStepsOf, IsPlan}
use Rattle.session_model.specs.Sends.{IsRun}
use Rattle.session_model.specs.Steps.{Plan, Step}
use Rattle.session_model.specs.Turns.{TurnsHold}
use Rattle.session_laws.specs.Fresh.{protected_in}
use Rattle.session_laws.specs.Pasts.{CameAsMade, IsMade, IsTurn, answered_by}
use Rattle.session_laws.specs.Plays.{IsAnswerBy, ItemsAre}
use Rattle.session_laws.specs.Readers.{IsMadeFor, Making, SignedAreMade}
use Rattle.session_laws.specs.Reading.{IsMatchedIn}
use Rattle.session_laws.specs.Sessions.{TakesWhatWasSent}
use Rattle.turn_laws.specs.Sent.{NamesPlaces, place_near, sends_in}

-- ---- a key group's sender

-- the writer with index w is one of the group g, which the key group k secures
pub record IsWriterUnder (config : Config) (k g w : ℕ) : Type 0 where
  pub there : g < length config.group
  pub within : w < length (group_at config g).writer
  pub keyed : (group_at config g).keygroup ≡ Some k

-- the sender after these uses
abbrev pub sender_by : SenderState → List SenderUse → SenderState
sender_by s [] = s
sender_by s (Moved now ∷ uses) = sender_by (turned s now) uses
sender_by s (Renewed sets ∷ uses) = sender_by (renewed s sets) uses
sender_by s (Made envelope payloads ∷ uses) = sender_by (after_turn s envelope payloads) uses

-- All that the groups of a key group sent is what its own sender made, in uses of which each was allowed when it came. They begin with the
-- sender as the configuration has it, and leave it where these deeds do. No two datagrams have the same token and number.
pub record HasOneSender (config : Config) (k : ℕ) (deeds : List Deed) : Type 0 where
  pub uses : List SenderUse
  pub are : AreUses (opening_sender (keygroup_at config k)) uses
  pub made : datagrams_by (opening_sender (keygroup_at config k)) uses ≡ protected_in config k deeds
  pub own : sender_by (opening_sender (keygroup_at config k)) uses ≡ sender_after config k deeds
  pub once : AllPairs HaveOtherNumbers (protected_in config k deeds)

-- ---- turns with their senders

-- the turn is one by the definitions, with the sender of the group's key group
pub record IsOwnTurn (config : Config) (g : ℕ) (before : List Deed) (turn : GroupTurn) : Type 0 where
  pub is : IsTurn config (group_at config g) (group_past config g before) turn
  pub sender : is.input.sender ≡ sender_of config g before

-- so is each turn of these deeds
abbrev pub AreOwnTurns : Config → List Deed → Type 0
AreOwnTurns config [] = ⊤
AreOwnTurns config (RefreshedBelow component ∷ before) = AreOwnTurns config before
AreOwnTurns config (RefreshedSet set ∷ before) = AreOwnTurns config before
AreOwnTurns config (CameTo moment ∷ before) = AreOwnTurns config before
AreOwnTurns config (TookTurn g turn ∷ before) = IsOwnTurn config g before turn × AreOwnTurns config before
AreOwnTurns config (RenewedKeys keygroup sets ∷ before) = AreOwnTurns config before

-- ---- what came

-- the sender made each datagram that the read group took
abbrev pub TakenAreMade : Making → Setting → Way → List Event → Type 0
TakenAreMade m setting way [] = ⊤
TakenAreMade m setting way (Got moment on datagram ∷ before) =
    ((opened : Opened) → verdict setting.group setting.setup (accepted setting before) datagram ≡ Ok opened → IsMadeFor m setting way datagram)
    × TakenAreMade m setting way before
TakenAreMade m setting way (Expired moment ∷ before) = TakenAreMade m setting way before
TakenAreMade m setting way (Stopped reader why ∷ before) = TakenAreMade m setting way before

-- Each datagram that came with a signature under a key of the ring was made by a group, whose pasts are given by their indexes. Of those that the read group takes
-- alone `CameAsMade` says it.
abbrev pub SignedWereMade : Setting → Config → (ℕ → List GroupDeed) → List Event → Type 0
SignedWereMade setting config pasts [] = ⊤
SignedWereMade setting config pasts (Got moment on datagram ∷ before) =
    (IsSignedBy setting.setup.keys datagram → IsMade config pasts datagram) × SignedWereMade setting config pasts before
SignedWereMade setting config pasts (Expired moment ∷ before) = SignedWereMade setting config pasts before
SignedWereMade setting config pasts (Stopped reader why ∷ before) = SignedWereMade setting config pasts before

-- What a publisher did, a writer of one of its groups and the key group of that; and a reader, the places that its numbers stand for, and what befell its
-- read group.
pub record Signing : Type 0 where
  pub config : Config
  pub deeds : List Deed
  pub group : ℕ
  pub writer : ℕ
  pub keygroup : ℕ
  pub readers : ReadGroupPart
  pub reader : ℕ
  pub place : ℕ → ℕ → ℕ → ℕ
  pub events : List Event

abbrev pub its_part : Signing → GroupPart
its_part s = group_at s.config s.group

abbrev pub its_pasts : Signing → ℕ → List GroupDeed
its_pasts s index = group_past s.config index s.deeds

abbrev pub its_sends : Signing → ℕ → List (ℕ × ℕ)
its_sends s = sends_in s.config s.keygroup s.group s.writer s.deeds

abbrev pub its_setting : Signing → Setting
its_setting s = setting_by s.config s.readers

abbrev pub its_way : Signing → Way
its_way s = record { index = s.reader; seat = seat_at (its_setting s).seats s.reader; place = s.place }

-- The reader is matched to the writer, whose group is secured by the key group. It goes by numbers, whose 16 bits stand for the places that
-- were sent. Each datagram that the read group took was made by the publisher's turns. Of what it refused nothing is asked.
pub record IsSigning (s : Signing) : Type 0 where
  pub sound : IsSound s.config
  pub there : slice_get s.config.group s.group ≡ Some (its_part s)
  pub keyed : (its_part s).keygroup ≡ Some s.keygroup
  pub turns : AreOwnTurns s.config s.deeds
  pub matched : IsMatchedTo s.config s.readers s.reader (its_part s) s.writer
  pub numbered : goes_by_numbers (its_way s) ≡ true
  pub names : NamesPlaces s.place (its_sends s)
  pub came : CameAsMade (its_setting s) s.config (its_pasts s) s.events

-- what the key group's sender made, where the messages have these bytes
abbrev pub its_making : Signing → (ℕ → List ℕ) → Making
its_making s bytes = record { sent = its_sends s; bytes = bytes }

-- The sender of the key group that the read group names made what this took, with numbers that rise with the places of the writer's messages; and all that came
-- signed, where turns made that.
pub record IsMadeBySender (s : Signing) : Type 0 where
  pub named : s.readers.keygroup ≡ Some s.keygroup
  pub bytes : ℕ → List ℕ
  pub rise : SendsRise (its_sends s)
  pub made : TakenAreMade (its_making s bytes) (its_setting s) (its_way s) s.events
  pub signed : SignedWereMade (its_setting s) s.config (its_pasts s) s.events
      → SignedAreMade (its_making s bytes) (its_setting s) (its_way s) s.events

-- where chunks' places are near, what is kept for the reader is what *Arrivals* and *Records* have of it
abbrev pub HasItsRecords : Signing → Type 0
HasItsRecords s =
    let list = marks (its_setting s) (its_way s) s.events in
    ChunksNear list → MemberIs (its_way s) list (member_at (plain (its_setting s) s.events).members s.reader)

-- each item that comes to the reader is an answer of the writer, at its place, cut to the reader's fields
abbrev pub ComesFromSender : Signing → Type 0
ComesFromSender s =
    let way = its_way s in
    ItemsAre (IsAnswerBy way.seat.part.numbering way.seat.meta (answered_by (its_part s) s.writer (its_pasts s s.group))) (arrivals (its_setting s) way s.events)

-- ---- in a session

-- the reader i of the read group r, and the writer w of the group g with the key group k
abbrev pub signing_of : Plan → ℕ → ℕ → ℕ → ℕ → ℕ → List Step → (ℕ → ℕ → ℕ → ℕ) → Signing
signing_of p r i g w k steps place = record {
  config = p.config;
  deeds = deeds p steps;
  group = g;
  writer = w;
  keygroup = k;
  readers = read_group_at p.config r;
  reader = i;
  place = place;
  events = events p.config r steps;
}

-- where each place is told by the token and number that it was sent with, and its 16 bits
abbrev pub signed_session : Plan → ℕ → ℕ → ℕ → ℕ → ℕ → List Step → Signing
signed_session p r i g w k steps = signing_of p r i g w k steps (place_near (sends_in p.config k g w (deeds p steps)))

-- a session of so many ticks beside the closing one, whose turns hold, in which each datagram that the read group takes was sent before
pub record IsSignedSession (most : ℕ) (p : Plan) (r i g w k : ℕ) (steps : List Step) : Type 0 where
  pub plan : IsPlan p
  pub steps_are : AreStepsOf most p steps
  pub turns : TurnsHold p steps
  pub run : IsRun p steps
  pub under : IsWriterUnder p.config k g w
  pub matched : IsMatchedIn p.config r i g w
  pub numbered : is_numbered (seat_at (setting_of p.config r).seats i).part.numbering ≡ true
  pub takes : TakesWhatWasSent p r steps
