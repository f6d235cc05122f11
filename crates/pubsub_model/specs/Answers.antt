-- Answers: what a writer answered at its turns, as it comes to a reader of its first fields, and the log of its versions. Lists have the latest first.
use Rattle.std.specs.Prelude.{◌≡◌, ◌⊎◌, ⊤, ℕ, ◌%◌, ◌+◌, ◌<◌, ◌≤◌, List, [], ◌∷◌, reverse, find, filter_map, Bool, false, ◌&&◌, ◌==◌, true, Option, Some, None, option_map, All, Contains}
use Rattle.std.specs.Option.{option_map_or}
use Rattle.std.specs.List.Sorted.{IsNonDecreasingBy}
use Rattle.dataset_meta.specs.DataValues.{DataValue}
use Rattle.dataset_meta.specs.Metas.{MetaData}
use Rattle.dataset_meta.specs.Rows.{row_cut}
use Rattle.pubsub_model.specs.Frames.{PlacedFrame, Whole, Change, Alive, place_of, is_silent, placed_cut}
use Rattle.pubsub_model.specs.Cadence.{Settings, WriterTurn, Answered, WriterDeed, Refreshed, HadTurn, HasRowsOf, cadence, answer, is_fresh, is_data, next_place, log_of}
use Rattle.pubsub_model.specs.Records.{Item, Arrival, Held, since_cut, held, unnumbered_row}

-- the frame is one of the answers
abbrev pub IsAnswer : List Answered → PlacedFrame → Type 0
IsAnswer [] frame = ⊥
IsAnswer (a ∷ before) frame = (a.answer ≡ Some frame) ⊎ IsAnswer before frame

-- a turn that is answered by a data frame at this place
abbrev pub is_data_at : ℕ → Answered → Bool
is_data_at place a = is_data a && option_map_or (λ frame. place_of frame == place) a.answer false

-- ---- places

-- how many places an answer uses up: a data frame one, a keep-alive and no answer none
abbrev pub places_used : Option PlacedFrame → ℕ
places_used None = 0
places_used (Some (Whole place row)) = 1
places_used (Some (Change place patch)) = 1
places_used (Some (Alive next)) = 0

-- A data frame's place is from the first one on and below the next. The place that a keep-alive tells of is above the
-- first one and at most the next.
abbrev pub InSpan : ℕ → ℕ → PlacedFrame → Type 0
InSpan first next (Whole place row) = (first ≤ place) × (place < next)
InSpan first next (Change place patch) = (first ≤ place) × (place < next)
InSpan first next (Alive n) = (first < n) × (n ≤ next)

-- each answer's place is one of the span
abbrev pub AreInSpan : Settings → List Answered → Type 0
AreInSpan s answered = (frame : PlacedFrame) → IsAnswer answered frame
    → InSpan s.first_number (next_place s answered) frame

-- the place is one of those that data frames have had
abbrev pub IsPlaced : Settings → List Answered → ℕ → Type 0
IsPlaced s answered place = (s.first_number ≤ place) × (place < next_place s answered)

-- each answer stands at such a place
abbrev pub ArePlaced : Settings → List Answered → Type 0
ArePlaced s answered = (frame : PlacedFrame) → IsAnswer answered frame
    → IsPlaced s answered (place_of frame)

-- where the turn behind these deeds is answered by a data frame, its place is the next one
abbrev pub TakesNextPlace : Settings → List WriterDeed → WriterTurn → Type 0
TakesNextPlace s before turn = (frame : PlacedFrame)
    → answer s (is_fresh before) (cadence s before) turn ≡ Some frame → is_silent frame ≡ false
    → place_of frame ≡ next_place s (cadence s before)

-- the next place moves on by the places that the last answer used up
abbrev pub MovesOn : Settings → Answered → List Answered → Type 0
MovesOn s last before = next_place s (last ∷ before) ≡ next_place s before + places_used last.answer

-- the turns' rows are rows of some meta from one refresh to the next, and since the last refresh
abbrev pub HaveRows : List WriterDeed → Type 0
HaveRows deeds = (meta : MetaData) × HasRowsOf meta deeds

-- ---- to a reader with numbering `message`

-- the item's frame is one of the answers, cut to a reader's fields
pub record IsAnswerCut (short : MetaData) (answered : List Answered) (item : Item) : Type 0 where
  pub frame : PlacedFrame
  pub answer : IsAnswer answered frame
  pub cut : item.frame ≡ placed_cut short frame

-- what is held is the row of the turn whose data frame has the place, cut to a reader's fields
pub record IsRowSent (short : MetaData) (answered : List Answered) (h : Held) : Type 0 where
  pub turn : Answered
  pub one_of : Contains answered turn
  pub place : is_data_at h.place turn ≡ true
  pub row : h.row ≡ row_cut short turn.turn.row

-- What a reader of any first fields holds, to which since its last cut nothing came but the answers to turns with rows of
-- a meta between refreshes, is a row that was sent.
abbrev pub HeldRowsWereSent : Settings → List WriterDeed → Type 0
HeldRowsWereSent s deeds = (short : MetaData) (arrivals : List Arrival) (h : Held)
    → HaveRows deeds → All (IsAnswerCut short (cadence s deeds)) (since_cut arrivals)
    → held arrivals ≡ Some h → IsRowSent short (cadence s deeds) h

-- ---- to a reader with numbering `none`

-- a frame without its place; a delta frame comes to nothing
abbrev pub without_place : PlacedFrame → Option PlacedFrame
without_place (Whole place row) = Some (Whole 0 row)
without_place (Change place patch) = None
without_place (Alive next) = Some (Alive 1)

-- the item's frame is one of the answers, cut to a reader's fields and without its place
pub record IsBareAnswer (short : MetaData) (answered : List Answered) (item : Item) : Type 0 where
  pub frame : PlacedFrame
  pub answer : IsAnswer answered frame
  pub bare : without_place (placed_cut short frame) ≡ Some item.frame

-- the row is that of some turn with a data frame, cut to a reader's fields
pub record IsSomeRowSent (short : MetaData) (answered : List Answered)
    (row : List DataValue) : Type 0 where
  pub place : ℕ
  pub sent : IsRowSent short answered (record { place = place; row = row })

-- What a reader of any first fields with no numbering holds, to which since its last cut nothing came but the answers to
-- turns with rows of a meta between refreshes, is a row that was sent.
abbrev pub UnnumberedRowsWereSent : Settings → List WriterDeed → Type 0
UnnumberedRowsWereSent s deeds = (short : MetaData) (arrivals : List Arrival) (row : List DataValue)
    → HaveRows deeds → All (IsBareAnswer short (cadence s deeds)) (since_cut arrivals)
    → unnumbered_row arrivals ≡ Some row → IsSomeRowSent short (cadence s deeds) row

-- ---- the log

-- the version that a writer's turn had
abbrev pub version_in : WriterDeed → Option ℕ
version_in Refreshed = None
version_in (HadTurn turn) = Some turn.version

-- the versions that a writer's turns had, the latest first
abbrev pub turn_versions : List WriterDeed → List ℕ
turn_versions deeds = filter_map version_in deeds

-- numbers that never fall, the latest first
abbrev pub NeverFall : List ℕ → Type 0
NeverFall [] = ⊤
NeverFall (number ∷ before) = All (λ earlier. earlier ≤ number) before × NeverFall before

-- the version of the data frame whose place has these 16 bits, the latest where several have them
abbrev pub version_of : List (ℕ × ℕ) → ℕ → Option ℕ
version_of log number =
    option_map (λ entry. entry.1) (find (λ entry. entry.0 % 65536 == number) (reverse log))

-- the log has the version at the place, and names it by the place's number
pub record IsLogged (s : Settings) (deeds : List WriterDeed) (place version : ℕ) : Type 0 where
  pub entry : Contains (log_of s deeds) (place, version)
  pub named : version_of (log_of s deeds) (place % 65536) ≡ Some version

-- where at most 65,536 data frames were sent, the log names by its number the version of each turn whose row is held
abbrev pub NumbersNameVersions : Settings → List WriterDeed → Type 0
NumbersNameVersions s deeds = (short : MetaData) (h : Held)
    → next_place s (cadence s deeds) ≤ s.first_number + 65536
    → (sent : IsRowSent short (cadence s deeds) h) → IsLogged s deeds h.place sent.turn.turn.version

-- where the versions of the turns never fall, those of the log don't
abbrev pub LogFollowsTurns : Settings → List WriterDeed → Type 0
LogFollowsTurns s deeds = NeverFall (turn_versions deeds)
    → IsNonDecreasingBy (λ entry. entry.1) (log_of s deeds)
