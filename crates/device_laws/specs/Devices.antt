-- Two devices: a publisher, and a subscriber that reads what it sends.
use Rattle.std.specs.Prelude.{◌≡◌, ℕ, ◌+◌, ◌%◌, ◌^◌, ◌<◌, ◌≤◌, List, ◌∷◌, length, Contains, Option, Some, slice_get, true}
use Rattle.dataset_meta.specs.DataValues.{DataValue}
use Rattle.dataset_reader.specs.Reader.{kept_by}
use Rattle.dataset_reader.specs.declared.reader.Reader.{Reader}
use Rattle.pubsub_model.specs.Answers.{is_data_at, version_of}
use Rattle.pubsub_model.specs.Cadence.{Answered, HadTurn, WriterDeed, WriterTurn, cadence, frames_of, log_of, next_place}
use Rattle.pubsub_model.specs.Frames.{published}
use Rattle.ps_config.specs.declared.parts.ReadGroupPart.{ReadGroupPart}
use Rattle.reader_group.specs.Groups.{Stands}
use Rattle.reader_group.specs.Members.{MemberValue, seat_at}
use Rattle.reader_group.specs.Plain.{member_at, plain, with_keys}
use Rattle.reader_group.specs.Settings.{group_at as read_group_at, setting_by}
use Rattle.writer_group.specs.Parts.{group_at}
use Rattle.writer_group.specs.Payloads.{writer_at}
use Rattle.writer_group.specs.Turns.{writer_past}
use Rattle.group_laws.specs.Matching.{IsMatchedTo}
use Rattle.session_laws.specs.Pasts.{answered_by, settings_at}
use Rattle.session_laws.specs.Plays.{Play}
use Rattle.device.specs.Readings.{IsReaderAt}
use Rattle.device.specs.declared.listening.Listening.{Listening}
use Rattle.device_laws.specs.Alike.{ReadsAlike}
use Rattle.device_laws.specs.Publishing.{AreOwnRings, HasOffered, IsPublisherLife, PublisherLife, config_in, publisher_in}
use Rattle.device_laws.specs.Histories.{history_in, row_at, sampled_at}
use Rattle.device_laws.specs.Subscribing.{AreOwnKeys, IsSubscriberLife, SubscriberLife, TakenAre, events_in, reading_in, setting_in, subscriber_in}
use Rattle.device_laws.specs.Turning.{past_in}

-- ---- a publisher

-- the writer's own part of what its group lived through
abbrev pub writer_deeds_in : PublisherLife → ℕ → ℕ → List WriterDeed
writer_deeds_in life g w = writer_past w (past_in life g)

-- place and version of each data frame that it sent, in order
abbrev pub log_in : PublisherLife → ℕ → ℕ → List (ℕ × ℕ)
log_in life g w = log_of (settings_at (group_at (config_in life) g) w) (writer_deeds_in life g w)

-- the data set that it publishes
abbrev pub set_in : PublisherLife → ℕ → ℕ → ℕ
set_in life g w = (writer_at (group_at (config_in life) g) w).dataset

-- the publisher had fewer than 2^64 calls, so that no version of it comes again
abbrev pub IsCounted : PublisherLife → Type 0
IsCounted life = length life.steps < 2 ^ 64

-- the publisher has the last row of the data set's history, and its version is the place of that
pub record HasItsHistory (life : PublisherLife) (set : ℕ) : Type 0 where
  pub version : (sampled_at (publisher_in life) set).version + 1 ≡ length (history_in life set)
  pub row : slice_get (history_in life set) (sampled_at (publisher_in life) set).version ≡ Some (row_at (config_in life) (publisher_in life) set)

-- the row of a turn is the whole row of its version in the data set's history
abbrev pub IsOfHistory : PublisherLife → ℕ → WriterTurn → Type 0
IsOfHistory life set turn = slice_get (history_in life set) turn.version ≡ Some turn.row

-- and the frames up to it publish it
pub record PublishesRow (life : PublisherLife) (g w : ℕ) (before : List WriterDeed) (turn : WriterTurn) : Type 0 where
  pub row : published (frames_of (cadence (settings_at (group_at (config_in life) g) w) (HadTurn turn ∷ before))) ≡ turn.row
  pub version : IsOfHistory life (set_in life g w) turn

-- ---- a subscriber

-- what is kept for the reader with index i of the read group with index r
abbrev pub member_in : SubscriberLife → ℕ → ℕ → MemberValue
member_in life r i = member_at (reading_in life r).value.members i

-- the read group in memory is where what befell it leaves its plain reading, with the keys that it has
pub record StandsAsRead (life : SubscriberLife) (r : ℕ) : Type 0 where
  pub listening : Listening
  pub at : slice_get (subscriber_in life).groups.items r ≡ Some listening
  pub stands : Stands (with_keys (setting_in life r) (reading_in life r).keys) (reading_in life r).value listening.group

-- with the keys of its configuration that is the plain reading of its events
abbrev pub ReadsPlainly : SubscriberLife → ℕ → Type 0
ReadsPlainly life r =
    let setting = setting_in life r in
    reading_in life r ≡ record { keys = setting.setup.keys; value = plain setting (events_in life r) }

-- what the reader in memory keeps is this
abbrev pub KeepsMember : SubscriberLife → ℕ → ℕ → Type 0
KeepsMember life r i =
    (reader : Reader) → IsReaderAt r i (subscriber_in life) reader
    → kept_by (seat_at (setting_in life r).seats i).meta.fields reader ≡ (member_in life r i).kept

-- a row that the reader in memory holds is so, with its number
abbrev pub MemoryHolds : SubscriberLife → ℕ → ℕ → (Option ℕ → List DataValue → Type 0) → Type 0
MemoryHolds life r i so =
    (reader : Reader) (row : List DataValue) → IsReaderAt r i (subscriber_in life) reader →
    let kept = kept_by (seat_at (setting_in life r).seats i).meta.fields reader in kept.row ≡ Some row → so kept.number row

-- ---- the two

-- The publisher of one configuration, and the subscriber of another. Of its read group with index r the reader with index i reads as it would of this part in the
-- publisher's configuration. There that reader is matched to the writer with index w of the group with index g. Each datagram that the read group took had waited at
-- the publisher; of what it refused nothing is asked. Rings of either have the keys of the configuration.
pub record ArePaired (text other : List ℕ) (pub_life : PublisherLife) (sub_life : SubscriberLife) (readers : ReadGroupPart) (r i g w : ℕ) : Type 0 where
  pub publisher : IsPublisherLife text pub_life
  pub subscriber : IsSubscriberLife other sub_life
  pub there : g < length (config_in pub_life).group
  pub read_there : r < length sub_life.first.config.readgroup
  pub alike : ReadsAlike i (setting_in sub_life r) (setting_by (config_in pub_life) readers)
  pub matched : IsMatchedTo (config_in pub_life) readers i (group_at (config_in pub_life) g) w
  pub rings : AreOwnRings (config_in pub_life) pub_life.steps
  pub keys : AreOwnKeys sub_life.steps r (setting_in sub_life r).setup.keys
  pub took : TakenAre sub_life.steps r (HasOffered pub_life.steps)

-- `ArePaired`, where both have one configuration, of its read group with index r
pub record ArePairedByOne (text : List ℕ) (pub_life : PublisherLife) (sub_life : SubscriberLife) (r i g w : ℕ) : Type 0 where
  pub publisher : IsPublisherLife text pub_life
  pub subscriber : IsSubscriberLife text sub_life
  pub there : g < length (config_in pub_life).group
  pub read_there : r < length sub_life.first.config.readgroup
  pub matched : IsMatchedTo (config_in pub_life) (read_group_at (config_in pub_life) r) i (group_at (config_in pub_life) g) w
  pub rings : AreOwnRings (config_in pub_life) pub_life.steps
  pub keys : AreOwnKeys sub_life.steps r (setting_in sub_life r).setup.keys
  pub took : TakenAre sub_life.steps r (HasOffered pub_life.steps)

-- the writer with index w of the group with index g has sent so many data frames at most
abbrev pub HasSentFew : ℕ → PublisherLife → ℕ → ℕ → Type 0
HasSentFew most life g w =
    let group = group_at (config_in life) g in
    next_place (settings_at group w) (answered_by group w (past_in life g)) ≤ (writer_at group w).first_number + most

-- what befell the two, as the laws of matched readers speak of it
abbrev pub play_of : PublisherLife → SubscriberLife → ReadGroupPart → ℕ → ℕ → ℕ → ℕ → Play
play_of pub_life sub_life readers r i g w = record {
  config = config_in pub_life;
  index = g;
  group = group_at (config_in pub_life) g;
  writer = w;
  readers = readers;
  reader = i;
  pasts = past_in pub_life;
  events = events_in sub_life r;
}

-- The row is the whole row of a version in the history of the writer's data set. It is that of the writer's turn whose data frame has this place, at which the
-- writer's log has the version. The number is the place's, in 16 bits.
pub record HoldsWhole (life : PublisherLife) (g w : ℕ) (number : Option ℕ) (row : List DataValue) : Type 0 where
  pub place : ℕ
  pub turn : Answered
  pub one_of : Contains (answered_by (group_at (config_in life) g) w (past_in life g)) turn
  pub place_is : is_data_at place turn ≡ true
  pub row_is : turn.turn.row ≡ row
  pub version_is : IsOfHistory life (set_in life g w) turn.turn
  pub logged : Contains (log_in life g w) (place, turn.turn.version)
  pub number_is : (n : ℕ) → number ≡ Some n → n ≡ place % 65536

-- and the log names the version by this number, which no data frame since has had
pub record HoldsNamed (life : PublisherLife) (g w : ℕ) (number : Option ℕ) (row : List DataValue) : Type 0 where
  pub whole : HoldsWhole life g w number row
  pub named : version_of (log_in life g w) (whole.place % 65536) ≡ Some whole.turn.turn.version
