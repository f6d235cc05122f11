-- What each group of a publisher lived through over its calls. Each deed is the refresh of a writer, or a turn by the definitions of a group with the rows that the
-- publisher had then.
use Rattle.std.specs.Prelude.{ℕ, ◌-◌, ◌%◌, List, [], ◌∷◌, Bool, true, false, not, ◌&&◌, ◌==◌, slice_get, slice_index_or, min, length, if◌then◌else◌}
use Rattle.std.specs.Option.{option_map_or}
use Rattle.message_guard.specs.Senders.{SenderState, turned as turned_to}
use Rattle.ps_config.specs.declared.parts.Config.{Config}
use Rattle.writer_group.specs.Parts.{group_at}
use Rattle.writer_group.specs.Standing.{input_of}
use Rattle.writer_group.specs.Turns.{GroupDeed, GroupTurn, HadGroupTurn, RefreshedWriter, TurnInput, turned}
use Rattle.device.specs.declared.looking.Looked.{Looked}
use Rattle.device.specs.declared.looking.Looked.TheVariants.{Held, Idle, Made}
use Rattle.device.specs.declared.publisher.Publisher.{Publisher}
use Rattle.device.specs.Coming as coming
use Rattle.device.specs.Coming.{refreshed_first}
use Rattle.device.specs.Sides.{sender_for}
use Rattle.device_laws.specs.Publishing.{PublisherCall, PublisherLife, PublisherStep, SetField, SetWord, SetStatus, Waited, CameTo, HandedOver, Switched, Renewed, Resumed, Aside, publisher_after}

-- ---- refreshes

-- where so, all writers of the group with this index are refreshed
abbrev pub all_refreshed_if : Bool → Config → ℕ → List GroupDeed → List GroupDeed
all_refreshed_if true config g past = refreshed_first (min (length (group_at config g).writer) 256) past
all_refreshed_if false config g past = past

-- coming to the moment changes the token of the group's key group
abbrev pub is_rekeyed : Config → ℕ → List SenderState → ℕ → Bool
is_rekeyed config now senders g =
    option_map_or (λ s. not ((turned_to s now).keys.token == s.keys.token)) (sender_for config senders g) false

-- the group is secured with the keys of this key group
abbrev pub is_secured_with : Config → ℕ → ℕ → Bool
is_secured_with config keygroup g = option_map_or (λ other. other == keygroup) (group_at config g).keygroup false

-- the token in use of the key group with this index
abbrev pub token_at : Publisher → ℕ → ℕ
token_at publisher k = option_map_or (λ s. s.keys.token) (slice_get publisher.senders.items k) 0

-- ---- turns

-- which writers of the group are on
abbrev pub on_at : Publisher → ℕ → List Bool
on_at publisher g = option_map_or (λ side. side.on.items) (slice_get publisher.sides.items g) []

-- the last multiple of the interval that has passed
abbrev pub multiple_before : ℕ → ℕ → ℕ
multiple_before interval now = now - now % interval

-- what a turn of the group is given that comes at this moment
abbrev pub input_at : Config → Publisher → ℕ → ℕ → TurnInput
input_at config publisher now g =
    input_of (multiple_before (group_at config g).interval now) false config.dataset publisher.rows.items
    (on_at publisher g) (sender_for config (coming.turned_to now publisher.senders.items) g)

-- its turn then
abbrev pub turn_at : Config → Publisher → ℕ → ℕ → List GroupDeed → GroupTurn
turn_at config publisher now g past = turned config (group_at config g) past (input_at config publisher now g)

-- a group that was looked at has the turn, or goes on as it was
abbrev pub looked_on : Looked → GroupTurn → List GroupDeed → List GroupDeed
looked_on Idle turn past = past
looked_on Held turn past = past
looked_on (Made made) turn past = HadGroupTurn turn ∷ past

-- ---- a call

-- the group's writers are refreshed where its key group has a new token
abbrev pub fresh_on : Config → Publisher → ℕ → ℕ → List GroupDeed → List GroupDeed
fresh_on config old now g past = all_refreshed_if (is_rekeyed config now old.senders.items g) config g past

-- the group with index g comes to a moment
abbrev pub came_on : Config → Publisher → ℕ → List Looked → ℕ → List GroupDeed → List GroupDeed
came_on config old now did g past =
    let fresh = fresh_on config old now g past in
    looked_on (slice_index_or did g Idle) (turn_at config old now g fresh) fresh

-- what a call adds to the group with index g
abbrev pub past_by : Config → PublisherCall → Publisher → Publisher → ℕ → List GroupDeed → List GroupDeed
past_by config (SetField set field value status) old new g past = past
past_by config (SetWord set field kind word) old new g past = past
past_by config (SetStatus set field status) old new g past = past
past_by config (Waited now) old new g past = past
past_by config (CameTo now next did) old new g past = came_on config old now did g past
past_by config HandedOver old new g past = past
past_by config (Switched group writer on) old new g past = if on && (group == g) then RefreshedWriter writer ∷ past else past
past_by config (Renewed keygroup sets) old new g past = past
past_by config (Resumed keygroup now used sets) old new g past =
    all_refreshed_if (is_secured_with config keygroup g && not (token_at new keygroup == token_at old keygroup)) config g past
past_by config Aside old new g past = past

-- what the group with index g lived through
abbrev pub past_of : Publisher → List PublisherStep → ℕ → List GroupDeed
past_of first [] g = []
past_of first (step ∷ before) g = past_by first.config step.call (publisher_after first before) step.after g (past_of first before g)

abbrev pub past_in : PublisherLife → ℕ → List GroupDeed
past_in life g = past_of life.first life.steps g
