-- A reader with no numbering that holds the newest version: the closing frame of its writer comes to it, and no other key frame after it.
use Rattle.std.specs.Prelude.{◌≡◌, ◌≢◌, ◌⊎◌, ⊤, ℕ, List, [], ◌∷◌, ◌++◌, map, All, Contains, true, false}
use Rattle.dataset_meta.specs.DataValues.{DataValue}
use Rattle.dataset_meta.specs.Rows.{row_cut}
use Rattle.ua_base.specs.Journal.{Entry, Got}
use Rattle.config_tables.specs.declared.words.NumberingWord.TheVariants as words
use Rattle.message_guard.specs.Modes.{is_secured}
use Rattle.reader_group.specs.Members.{seat_at}
use Rattle.reader_group.specs.Payloads.{pieces}
use Rattle.reader_group.specs.Settings.{setting_of}
use Rattle.pubsub_model.specs.Cadence.{HadTurn, WriterDeed, WriterTurn}
use Rattle.pubsub_model.specs.Frames.{Whole, is_whole}
use Rattle.pubsub_model.specs.Records.{Arrival, Came, Cut, Item, since_cut}
use Rattle.group_laws.specs.TurnItems.{IsUncut}
use Rattle.session_model.specs.Deeds.{deeds, group_past, writer_deeds}
use Rattle.session_model.specs.Steps.{Plan, Step, Pump}
use Rattle.writer_group.specs.Turns.{GroupDeed, GroupTurn, HadGroupTurn}
use Rattle.session_laws.specs.Headline.{meta_of}
use Rattle.session_laws.specs.Newest.{CameIn, ClosesBefore, ClosesInTick, EachPart, HasPartFor, NoHigherToken, TookIn, made_in, ticked}
use Rattle.session_laws.specs.Reading.{arrivals_at, first_number_of}

-- the item is no key frame, or one with this row
abbrev pub IsNoOtherKey : List DataValue → Item → Type 0
IsNoOtherKey row item = (is_whole item.frame ≡ false) ⊎ (item.frame ≡ Whole 0 row)

-- none of what came is another key frame
abbrev pub NoOtherKeys : List DataValue → List Arrival → Type 0
NoOtherKeys row [] = ⊤
NoOtherKeys row (Came item ∷ before) = IsNoOtherKey row item × NoOtherKeys row before
NoOtherKeys row (Cut why ∷ before) = NoOtherKeys row before

-- a key frame with this row came since the last cut, and no other one after it
pub record CameLast (arrivals : List Arrival) (row : List DataValue) : Type 0 where
  pub later : List Item
  pub item : Item
  pub earlier : List Item
  pub since : since_cut arrivals ≡ later ++ item ∷ earlier
  pub frame_is : item.frame ≡ Whole 0 row
  pub behind : All (IsNoOtherKey row) later

-- the reader has no numbering
abbrev pub IsBare : Plan → ℕ → ℕ → Type 0
IsBare p r i = (seat_at (setting_of p.config r).seats i).part.numbering ≡ words.None

-- The last turn of the writer was a closing one, and its frame came to the reader, which has no numbering, since its last cut, and no other key frame after it.
pub record ClosingCameLast (p : Plan) (r i g w : ℕ) (steps : List Step) (before : List WriterDeed) (turn : WriterTurn) : Type 0 where
  pub bare : IsBare p r i
  pub last : writer_deeds p g w steps ≡ HadTurn turn ∷ before
  pub closing : turn.closing ≡ true
  pub came : CameLast (arrivals_at p.config r i (first_number_of p.config g w) steps) (row_cut (meta_of p r i) turn.row)

-- Of what came to the reader in all of these steps, none after the steps with which they begin is another key frame than one with this row.
abbrev pub NoOtherBehind : Plan → ℕ → ℕ → ℕ → ℕ → List Step → List Step → List DataValue → Type 0
NoOtherBehind p r i g w steps here row =
    (newer : List Arrival)
    → (let arrived = arrivals_at p.config r i (first_number_of p.config g w) in arrived steps ≡ newer ++ arrived here)
    → NoOtherKeys row newer

-- The datagram came in these pumps, with which the steps end, at a moment after which no other key frame than one with this row came to the reader.
pub record CameQuietly (p : Plan) (r i g w : ℕ) (pumps : List (List Entry)) (start : List Step) (row : List DataValue) (datagram : List ℕ) : Type 0 where
  pub later : List (List Entry)
  pub before : List (List Entry)
  pub first : List Entry
  pub behind : List Entry
  pub is : pumps ≡ later ++ (first ++ Got datagram ∷ behind) ∷ before
  pub quiet : NoOtherBehind p r i g w (map Pump pumps ++ start) (Pump (first ++ Got datagram ∷ []) ∷ map Pump before ++ start) row

-- After no moment of these pumps, with which the steps end, by which all has come in them did another key frame than one with this row come to the reader.
abbrev pub NoOtherOnceAll : Plan → ℕ → ℕ → ℕ → ℕ → List (List Entry) → List Step → (List (List Entry) → Type 0) → List DataValue → Type 0
NoOtherOnceAll p r i g w pumps start HasAllCome row =
    (later before : List (List Entry)) (first behind : List Entry) → pumps ≡ later ++ (first ++ behind) ∷ before → HasAllCome (first ∷ before)
    → NoOtherBehind p r i g w (map Pump pumps ++ start) (Pump first ∷ map Pump before ++ start) row

-- The writer had a closing turn in the last one of its group. Each datagram of that with a part for the reader came in the pumps that the
-- steps end with, with no chunk for it, at a moment after which no other key frame came. It came to a read group that isn't secured, whose
-- reader has no numbering. Without `whole` a chunk that comes again, once its message came, would bring nothing, whatever key frame came
-- between.
pub record ClosingGotLast (p : Plan) (r i g w : ℕ) (steps : List Step) (before : List GroupDeed) (turn : GroupTurn) (own : WriterTurn) : Type 0 where
  pub bare : IsBare p r i
  pub unsecured : is_secured (setting_of p.config r).setup.mode ≡ false
  pub last : group_past p.config g (deeds p steps) ≡ HadGroupTurn turn ∷ before
  pub start : List Step
  pub ends : ClosesBefore p r i w steps start turn own
  pub whole : (datagram : List ℕ) → Contains turn.made datagram → (part : HasPartFor (setting_of p.config r) i datagram)
      → All IsUncut (pieces (seat_at (setting_of p.config r).seats i).part part.opened.payload)
  pub came : EachPart p r i turn.made (CameQuietly p r i g w ends.pumps start (row_cut (meta_of p r i) own.row))

-- each datagram of the closing turn with a part for the reader came in these pumps
abbrev pub AllCame : {p : Plan} {r i g w : ℕ} {steps : List Step} {own : WriterTurn} → ClosesInTick p r i g w steps own → List (List Entry) → Type 0
AllCame {p} {r} {i} {g} {w} {steps} {own} t pumps = EachPart p r i (made_in t) (CameIn pumps)

-- and the read group took each of them there
abbrev pub AllTook : {p : Plan} {r i g w : ℕ} {steps : List Step} {own : WriterTurn} → ClosesInTick p r i g w steps own → List (List Entry) → Type 0
AllTook {p} {r} {i} {g} {w} {steps} {own} t pumps = EachPart p r i (made_in t) (TookIn p r pumps (ticked t))

-- once all has come in the pumps of the closing tick, no other key frame came to the reader
abbrev pub QuietOnce : {p : Plan} {r i g w : ℕ} {steps : List Step} {own : WriterTurn} → ClosesInTick p r i g w steps own → (List (List Entry) → Type 0)
    → Type 0
QuietOnce {p} {r} {i} {g} {w} {steps} {own} t HasAllCome =
    NoOtherOnceAll p r i g w t.ends.pumps (ticked t) HasAllCome (row_cut (meta_of p r i) own.row)

-- The same whether or not the frame comes in chunks, where the pumps are all that are after the closing tick, so that none of its chunks came before: once
-- each of its datagrams came, no other key frame came. The read group isn't secured, or names the writer's group; nothing is asked of what it accepts.
pub record ClosingGotSinceLast (p : Plan) (r i g w : ℕ) (steps : List Step) (own : WriterTurn) : Type 0 where
  pub bare : IsBare p r i
  pub unsecured_or_named : (is_secured (setting_of p.config r).setup.mode ≡ false) ⊎ ((setting_of p.config r).group.group ≢ 0)
  pub tick : ClosesInTick p r i g w steps own
  pub came : AllCame tick tick.ends.pumps
  pub quiet : QuietOnce tick (AllCame tick)

-- The same of a secured read group that may name no group. It took each of these datagrams in one of the pumps, and none of a higher token,
-- after which a reader that it cuts holds nothing. Once it took all of them, no other key frame came.
pub record ClosingTookLast (p : Plan) (r i g w : ℕ) (steps : List Step) (own : WriterTurn) : Type 0 where
  pub bare : IsBare p r i
  pub secured : is_secured (setting_of p.config r).setup.mode ≡ true
  pub tick : ClosesInTick p r i g w steps own
  pub took : AllTook tick tick.ends.pumps
  pub tokens : NoHigherToken tick
  pub quiet : QuietOnce tick (AllTook tick)
