-- A reader that holds the newest version: the last datagram that comes brings it the key frame of the last place in its writer's log.
use Rattle.std.specs.Prelude.{◌≡◌, ◌≢◌, ◌⊎◌, ◌≤◌, ℕ, List, [], ◌∷◌, ◌++◌, ◌+◌, map, Bool, Contains, true, false, Option, Some, option_map, Ok}
use Rattle.seq_number.specs.Numbers.{number_of_place}
use Rattle.dataset_meta.specs.DataValues.{DataValue}
use Rattle.dataset_meta.specs.Rows.{row_cut}
use Rattle.ua_base.specs.Journal.{Entry, Got, received_list}
use Rattle.config_tables.specs.declared.words.NumberingWord.TheVariants as words
use Rattle.reader_group.specs.Complete.{BringsWhole}
use Rattle.message_guard.specs.Modes.{is_secured}
use Rattle.pubsub_states.specs.declared.component.Component.TheVariants.{Reader}
use Rattle.reader_group.specs.Arrivals.{accepted}
use Rattle.reader_group.specs.Members.{seat_at}
use Rattle.reader_group.specs.Opening.{Opened, verdict}
use Rattle.reader_group.specs.Payloads.{pieces}
use Rattle.reader_group.specs.Plain.{Setting}
use Rattle.reader_group.specs.Settings.{setting_of}
use Rattle.writer_group.specs.Parts.{group_at}
use Rattle.writer_group.specs.Payloads.{writer_at}
use Rattle.pubsub_model.specs.Cadence.{HadTurn, WriterDeed, WriterTurn, cadence, next_place}
use Rattle.pubsub_model.specs.Records.{Item, place_in, since_cut}
use Rattle.group_laws.specs.TurnOpened.{turn_opened}
use Rattle.session_model.specs.Deeds.{Deed, deeds, group_past, has_turn, log_at, turn_input, turn_of, writer_deeds}
use Rattle.session_model.specs.Turns.{deeds_before}
use Rattle.writer_group.specs.declared.sampled.Sampled.{Sampled}
use Rattle.session_model.specs.Events.{events, plain_at, reader_at, readers_on, receives}
use Rattle.session_model.specs.Steps.{Plan, Step, Pump, Tick, is_on, moment_of}
use Rattle.writer_group.specs.Turns.{GroupDeed, GroupTurn, HadGroupTurn, took_by}
use Rattle.session_laws.specs.Headline.{meta_of}
use Rattle.session_laws.specs.Pasts.{settings_at}
use Rattle.session_laws.specs.Reading.{arrivals_at, first_number_of}
use Rattle.session_laws.specs.Sessions.{ClosesWith}

-- The last datagram of a pump comes to a read group that is Operational, which takes it, and has one part for the reader, which is enabled: a key frame with this
-- row, that may follow what came before.
pub record BringsLast (p : Plan) (r i : ℕ) (before : List Step) (entries : List Entry) (row : List DataValue) : Type 0 where
  pub operational : receives p.config before r ≡ true
  pub earlier : List Entry
  pub datagram : List ℕ
  pub behind : List Entry
  pub split : entries ≡ earlier ++ Got datagram ∷ behind
  pub last : received_list behind ≡ []
  pub brings : BringsWhole (setting_of p.config r) (plain_at p.config r (Pump earlier ∷ before)) (readers_on p.config before r) datagram i row

-- the last entry of the writer's log
abbrev pub IsLastLogged : Plan → ℕ → ℕ → List Step → ℕ → ℕ → Type 0
IsLastLogged p g w steps place version =
    (earlier : List (ℕ × ℕ)) × (log_at p g w steps ≡ earlier ++ (place, version) ∷ [])

-- the frame has the number of the last place in the writer's log, where this version stands, and the reader goes by numbers
pub record IsNewest (p : Plan) (r i g w : ℕ) (before : List Step) (entries : List Entry) (number : Option ℕ) (version : ℕ) : Type 0 where
  pub numbered : (seat_at (setting_of p.config r).seats i).part.numbering ≡ words.Message
  pub place : ℕ
  pub number_is : option_map number_of_place number ≡ Some (number_of_place place)
  pub logged : IsLastLogged p g w (Pump entries ∷ before) place version

-- a frame at this place of the writer came to the reader since its last cut
pub record HasCome (p : Plan) (r i g w : ℕ) (steps : List Step) (place : ℕ) : Type 0 where
  pub item : Item
  pub came : Contains (since_cut (arrivals_at p.config r i (first_number_of p.config g w) steps)) item
  pub stands : place_in item ≡ place

-- The last turn of the writer was a closing one, and its frame came to the reader, which goes by numbers, since its last cut: at whatever place in a pump, however
-- often, and whatever came before or after it.
pub record ClosingCame (p : Plan) (r i g w : ℕ) (steps : List Step) (before : List WriterDeed) (turn : WriterTurn) : Type 0 where
  pub numbered : (seat_at (setting_of p.config r).seats i).part.numbering ≡ words.Message
  pub last : writer_deeds p g w steps ≡ HadTurn turn ∷ before
  pub closing : turn.closing ≡ true
  pub came : let s = settings_at (group_at p.config g) w in HasCome p r i g w steps (next_place s (cadence s before))

-- a read group that accepted nothing yet opens the datagram, and has a part of it for its reader
pub record HasPartFor (setting : Setting) (i : ℕ) (datagram : List ℕ) : Type 0 where
  pub opened : Opened
  pub opens : verdict setting.group setting.setup [] datagram ≡ Ok opened
  pub part : pieces (seat_at setting.seats i).part opened.payload ≢ []

-- the datagram came in one of these pumps
abbrev pub CameIn : List (List Entry) → List ℕ → Type 0
CameIn [] datagram = ⊥
CameIn (entries ∷ before) datagram = Contains entries (Got datagram) ⊎ CameIn before datagram

-- Each datagram of these with a part for the reader is such.
abbrev pub EachPart : Plan → ℕ → ℕ → List (List ℕ) → (List ℕ → Type 0) → Type 0
EachPart p r i made P = (datagram : List ℕ) → Contains made datagram → HasPartFor (setting_of p.config r) i datagram → P datagram

-- The turn of its group was a closing one for the writer, and the steps end with pumps after these, in which the read group is Operational and its reader enabled.
pub record ClosesBefore (p : Plan) (r i w : ℕ) (steps start : List Step) (turn : GroupTurn) (own : WriterTurn) : Type 0 where
  pub took : took_by w turn ≡ Some own
  pub closing : own.closing ≡ true
  pub pumps : List (List Entry)
  pub split : steps ≡ map Pump pumps ++ start
  pub operational : receives p.config start r ≡ true
  pub enabled : is_on p.config start (Reader r i) ≡ true

-- The writer had a closing turn in the last one of its group. Each datagram of that with a part for the reader came in the pumps that the
-- steps end with, to a read group that isn't secured, whose reader goes by numbers.
pub record ClosingGot (p : Plan) (r i g w : ℕ) (steps : List Step) (before : List GroupDeed) (turn : GroupTurn) (own : WriterTurn) : Type 0 where
  pub numbered : (seat_at (setting_of p.config r).seats i).part.numbering ≡ words.Message
  pub unsecured : is_secured (setting_of p.config r).setup.mode ≡ false
  pub last : group_past p.config g (deeds p steps) ≡ HadGroupTurn turn ∷ before
  pub start : List Step
  pub ends : ClosesBefore p r i w steps start turn own
  pub came : EachPart p r i turn.made (CameIn ends.pumps)

-- the turn of a group in a closing tick after these steps, and what the publisher did before it
abbrev pub closing_deeds : Plan → List Step → ℕ → List Sampled → ℕ → List Deed
closing_deeds p start ms samples g = deeds_before p start (moment_of start + ms) true samples g

abbrev pub closing_turn : Plan → List Step → ℕ → List Sampled → ℕ → GroupTurn
closing_turn p start ms samples g = turn_of p start (moment_of start + ms) true samples (closing_deeds p start ms samples g) g

-- what a read group finds of the datagrams of that turn
abbrev pub closing_opened : Plan → List Step → ℕ → List Sampled → ℕ → List Opened
closing_opened p start ms samples g =
    let so_far = closing_deeds p start ms samples g in
    turn_opened p.config (group_at p.config g) (group_past p.config g so_far) (turn_input p start (moment_of start + ms) true samples so_far g)

-- The steps end with a closing tick and its pumps, and the writer has a closing turn there.
pub record ClosesInTick (p : Plan) (r i g w : ℕ) (steps : List Step) (own : WriterTurn) : Type 0 where
  pub start : List Step
  pub ms : ℕ
  pub samples : List Sampled
  pub done : List Bool
  pub had : has_turn p start (moment_of start + ms) true (closing_deeds p start ms samples g) g ≡ true
  pub ends : ClosesBefore p r i w steps (Tick ms true samples done ∷ start) (closing_turn p start ms samples g) own

-- the steps up to that tick, what it made, and what a read group finds of that
abbrev pub ticked : {p : Plan} {r i g w : ℕ} {steps : List Step} {own : WriterTurn} → ClosesInTick p r i g w steps own → List Step
ticked t = Tick t.ms true t.samples t.done ∷ t.start

abbrev pub made_in : {p : Plan} {r i g w : ℕ} {steps : List Step} {own : WriterTurn} → ClosesInTick p r i g w steps own → List (List ℕ)
made_in {p} {r} {i} {g} {w} {steps} {own} t = (closing_turn p t.start t.ms t.samples g).made

-- Each datagram of it with a part for the reader came in the pumps, whole or in chunks, in whichever order: to a secured read group that names the group, whose reader
-- goes by numbers. Nothing is asked of what it accepts.
pub record ClosingGotSecured (p : Plan) (r i g w : ℕ) (steps : List Step) (own : WriterTurn) : Type 0 where
  pub numbered : (seat_at (setting_of p.config r).seats i).part.numbering ≡ words.Message
  pub secured : is_secured (setting_of p.config r).setup.mode ≡ true
  pub named : (setting_of p.config r).group.group ≢ 0
  pub tick : ClosesInTick p r i g w steps own
  pub came : EachPart p r i (made_in tick) (CameIn tick.ends.pumps)

-- the datagram came in one of these pumps after these steps, and the read group took it there
pub record TookIn (p : Plan) (r : ℕ) (pumps : List (List Entry)) (start : List Step) (datagram : List ℕ) : Type 0 where
  pub later : List (List Entry)
  pub before : List (List Entry)
  pub earlier : List Entry
  pub behind : List Entry
  pub is : pumps ≡ later ++ (earlier ++ Got datagram ∷ behind) ∷ before
  pub opened : Opened
  pub opens : let setting = setting_of p.config r in
      verdict setting.group setting.setup (accepted setting (events p.config r (Pump earlier ∷ map Pump before ++ start))) datagram ≡ Ok opened

-- No datagram that it took in the pumps has a higher token than the turn's, as one of another key group with the same keys may have, whose datagram cuts the reader.
abbrev pub NoHigherToken : {p : Plan} {r i g w : ℕ} {steps : List Step} {own : WriterTurn} → ClosesInTick p r i g w steps own → Type 0
NoHigherToken {p} {r} {i} {g} {w} {steps} {own} t =
    (datagram : List ℕ) (it : TookIn p r t.ends.pumps (ticked t) datagram) (one : Opened) → Contains (closing_opened p t.start t.ms t.samples g) one
    → it.opened.pass.token ≤ one.pass.token

-- The same of a secured read group that may name no group: it took each datagram of the turn with a part for the reader in one of the pumps.
pub record ClosingTook (p : Plan) (r i g w : ℕ) (steps : List Step) (own : WriterTurn) : Type 0 where
  pub numbered : (seat_at (setting_of p.config r).seats i).part.numbering ≡ words.Message
  pub secured : is_secured (setting_of p.config r).setup.mode ≡ true
  pub tick : ClosesInTick p r i g w steps own
  pub came : EachPart p r i (made_in tick) (TookIn p r tick.ends.pumps (ticked tick))
  pub tokens : NoHigherToken tick

-- the reader holds the row of the version, cut to its fields
abbrev pub HoldsRowOf : Plan → ℕ → ℕ → ℕ → ℕ → List Step → (ℕ → ℕ → List DataValue) → ℕ → Type 0
HoldsRowOf p r i g w steps rows version =
    (reader_at p.config r i steps).kept.row
    ≡ Some (row_cut (meta_of p r i) (rows (writer_at (group_at p.config g) w).dataset version))

-- The reader holds that row, at the number of the last place in the writer's log, where this version stands.
pub record HoldsNewest (p : Plan) (r i g w : ℕ) (steps : List Step) (rows : ℕ → ℕ → List DataValue) (version : ℕ) : Type 0 where
  pub row : HoldsRowOf p r i g w steps rows version
  pub place : ℕ
  pub logged : IsLastLogged p g w steps place version
  pub number : (reader_at p.config r i steps).kept.number ≡ Some (number_of_place place)

-- The reader holds so the version that the closing tick sampled of the writer's data set.
pub record HoldsClosing (p : Plan) (r i g w : ℕ) (steps : List Step) (rows : ℕ → ℕ → List DataValue) (version : ℕ) : Type 0 where
  pub newest : HoldsNewest p r i g w steps rows version
  pub sampled : ClosesWith steps (writer_at (group_at p.config g) w).dataset version

-- The reader holds the row of the version that the closing tick sampled of the writer's data set, cut to its fields.
pub record HoldsClosingRow (p : Plan) (r i g w : ℕ) (steps : List Step) (rows : ℕ → ℕ → List DataValue) (version : ℕ) : Type 0 where
  pub row : HoldsRowOf p r i g w steps rows version
  pub sampled : ClosesWith steps (writer_at (group_at p.config g) w).dataset version
