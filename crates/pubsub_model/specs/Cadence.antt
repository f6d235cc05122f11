-- Cadence: what a writer sends at each of its turns (OPC 10000-14 6.2.4.3, KeyFrameCount, and 6.2.6.3, KeepAliveTime). Lists have the latest first.
use Rattle.std.specs.Prelude.{◌≡◌, ℕ, ◌+◌, ◌-◌, List, [], ◌∷◌, ◌++◌, All, reverse, filter_map, count_by, Bool, true, false, not, ◌&&◌, ◌||◌, nat_le, ◌==◌, Option, Some, None, is_some, option_map, find, if◌then◌else◌, ⊤}
use Rattle.std.specs.Option.{option_map_or}
use Rattle.std.specs.List.{position_or_len}
use Rattle.dataset_meta.specs.DataValues.{DataValue}
use Rattle.dataset_meta.specs.Metas.{MetaData}
use Rattle.dataset_meta.specs.Rows.{IsRow, differs}
use Rattle.pubsub_model.specs.Frames.{PlacedFrame, Whole, Change, Alive, is_whole, is_silent, place_of}

-- a writer's first message number, KeyFrameCount and KeepAliveTime
pub record Settings : Type 0 where
  pub first_number : ℕ
  pub key_frame_count : ℕ
  pub keep_alive : ℕ

-- a turn of a writer: its moment, the sampled row with its version, and whether it is the closing one
pub record WriterTurn : Type 0 where
  pub moment : ℕ
  pub row : List DataValue
  pub version : ℕ
  pub closing : Bool

-- what a writer lives through: a refresh, and a turn
pub data WriterDeed : Type 0 where
  Refreshed : WriterDeed
  HadTurn : WriterTurn → WriterDeed

-- The turns' rows are rows of one meta from one refresh to the next, and since the last refresh of this one: a data set may grow at a refresh.
abbrev pub HasRowsOf : MetaData → List WriterDeed → Type 0
HasRowsOf meta [] = ⊤
HasRowsOf meta (Refreshed ∷ before) = (earlier : MetaData) × HasRowsOf earlier before
HasRowsOf meta (HadTurn turn ∷ before) = IsRow meta turn.row × HasRowsOf meta before

-- a turn with its answer
pub record Answered : Type 0 where
  pub turn : WriterTurn
  pub answer : Option PlacedFrame

-- answered by a key frame
abbrev pub is_key : Answered → Bool
is_key a = option_map_or is_whole a.answer false

-- answered by a data frame: a key frame or a delta frame
abbrev pub is_data : Answered → Bool
is_data a = option_map_or (λ frame. not (is_silent frame)) a.answer false

-- answered by a frame
abbrev pub is_any : Answered → Bool
is_any a = is_some a.answer

-- how many turns ago the last one passed the test
abbrev pub turns_since : (Answered → Bool) → List Answered → ℕ
turns_since test before = position_or_len test before + 1

-- the turn, or one with no row where there is none
abbrev pub turn_of : Option Answered → WriterTurn
turn_of None = record { moment = 0; row = []; version = 0; closing = false }
turn_of (Some a) = a.turn

-- the last turn that passed the test
abbrev pub last_turn : (Answered → Bool) → List Answered → WriterTurn
last_turn test before = turn_of (find test before)

-- the place of the next data frame
abbrev pub next_place : Settings → List Answered → ℕ
next_place s before = s.first_number + count_by is_data before

-- a keep-alive that is due, else nothing
abbrev pub quiet_answer : Settings → List Answered → WriterTurn → Option PlacedFrame
quiet_answer s before turn =
    if not (s.keep_alive == 0) && nat_le s.keep_alive
    (turn.moment - (last_turn is_any before).moment)
    then Some (Alive (next_place s before)) else None

-- the delta frame of a patch, and the quiet answer where nothing changes
abbrev pub change_answer : Settings → List Answered → WriterTurn → List (ℕ × DataValue)
    → Option PlacedFrame
change_answer s before turn [] = quiet_answer s before turn
change_answer s before turn (change ∷ patch) = Some (Change (next_place s before) (change ∷ patch))

-- a key frame is due at a fresh turn, at the closing one, and where the last one is at least KeyFrameCount turns ago
abbrev pub is_key_due : Settings → Bool → List Answered → WriterTurn → Bool
is_key_due s fresh before turn =
    fresh || turn.closing || nat_le s.key_frame_count (turns_since is_key before)

-- the answer of a turn, the first case that holds: a key frame, what differs from the row of the last data frame, a keep-alive, nothing
abbrev pub answer : Settings → Bool → List Answered → WriterTurn → Option PlacedFrame
answer s fresh before turn =
    if is_key_due s fresh before turn
    then Some (Whole (next_place s before) turn.row)
    else change_answer s before turn (differs (last_turn is_data before).row turn.row)

-- behind these turns, none of which is answered by a key frame, stands one that is
pub record HasKeyBehind (since answered : List Answered) : Type 0 where
  pub key : Answered
  pub before : List Answered
  pub split : answered ≡ since ++ key ∷ before
  pub is_key_frame : is_key key ≡ true
  pub none_since : All (λ a. is_key a ≡ false) since

-- a turn is fresh where it is the first, or a refresh came since the turn before
abbrev pub is_fresh : List WriterDeed → Bool
is_fresh [] = true
is_fresh (Refreshed ∷ before) = true
is_fresh (HadTurn turn ∷ before) = false

-- the turns with their answers
abbrev pub cadence : Settings → List WriterDeed → List Answered
cadence s [] = []
cadence s (Refreshed ∷ before) = cadence s before
cadence s (HadTurn turn ∷ before) =
    let earlier = cadence s before in
    record { turn = turn; answer = answer s (is_fresh before) earlier turn } ∷ earlier

-- place and version of a data frame
abbrev pub log_entry : Answered → Option (ℕ × ℕ)
log_entry a =
    if is_data a then option_map (λ frame. (place_of frame, a.turn.version)) a.answer else None

-- place and version of each data frame, in order
abbrev pub log_of : Settings → List WriterDeed → List (ℕ × ℕ)
log_of s deeds = reverse (filter_map log_entry (cadence s deeds))

-- the frames that a writer sent
abbrev pub frames_of : List Answered → List PlacedFrame
frames_of answered = filter_map (λ a. a.answer) answered
