-- What a reader keeps is what Records of pubsub_model says of all that came to it. Lists have the latest first.
use Rattle.std.specs.Prelude.{◌≡◌, ◌≢◌, ◌⊎◌, ℕ, ◌+◌, ◌-◌, ◌^◌, ◌<◌, min, List, [], ◌∷◌, length, map, take, filter_map, Bool, false, not, ◌&&◌, nat_le, Option, Some, None, IfSome, option_map, if◌then◌else◌, ⊤}
use Rattle.seq_number.specs.Numbers.{number_of_place, greatest, IsNear}
use Rattle.pubsub_model.specs.declared.reading.Break.{Break}
use Rattle.pubsub_model.specs.declared.reading.Why.{Why}
use Rattle.pubsub_model.specs.declared.reading.Why.TheVariants.{Jump}
use Rattle.pubsub_model.specs.Frames.{PlacedFrame, IsPlacedFrame, carried}
use Rattle.pubsub_model.specs.Records.{Item, Arrival, Came, Cut, place_in, since_cut, cut_reason, records, held_in, reason_in, breaks, unnumbered_row, is_nothing}
use Rattle.frame_codec.specs.Frames.{Frame}
use Rattle.frame_codec.specs.Carrying.{content_of}
use Rattle.dataset_reader.specs.declared.took.Numbering.{Numbering}
use Rattle.dataset_reader.specs.declared.took.Numbering.TheVariants as numberings
use Rattle.dataset_reader.specs.Kept.{Kept, fresh, cut_kept}
use Rattle.dataset_reader.specs.Cases.{frame_case}
use Rattle.dataset_reader.specs.Answers.{IsChange}

-- ---- what came

-- the numbers of the nonces of these items
abbrev pub stamps : List Item → List ℕ
stamps items = filter_map (λ item. item.stamp) items

-- a nonce's number that is 16,384 or more above the greatest of these items'
abbrev pub jumps : List Item → Option ℕ → Bool
jumps items None = false
jumps items (Some stamp) =
    not (is_nothing (stamps items)) && nat_le (greatest (stamps items) + 16384) stamp

-- the arrivals with an item more; a jump cuts before it
abbrev pub came_on : List Arrival → Item → List Arrival
came_on before item =
    if jumps (since_cut before) item.stamp then Came item ∷ Cut Jump ∷ before
    else Came item ∷ before

-- what came, with the cuts that jumps make
abbrev pub with_jumps : List Arrival → List Arrival
with_jumps [] = []
with_jumps (Cut why ∷ before) = Cut why ∷ with_jumps before
with_jumps (Came item ∷ before) = came_on (with_jumps before) item

-- the places of the items since the last cut are near
abbrev pub AreNear : List Arrival → Type 0
AreNear arrivals = IsNear (map place_in (since_cut arrivals))

-- the places of the items are near in each stretch without a cut
abbrev pub AreNearInEach : List Arrival → Type 0
AreNearInEach [] = ⊤
AreNearInEach (Cut why ∷ before) = AreNearInEach before
AreNearInEach (Came item ∷ before) = AreNear (Came item ∷ before) × AreNearInEach before

-- ---- messages of frames

-- a message of a data set with this major version, or with none
abbrev pub IsOfMajor : ℕ → Option ℕ → Type 0
IsOfMajor major None = ⊤
IsOfMajor major (Some got) = got ≡ major

-- the message is the frame as it is sent
pub record IsMessageOf (major : ℕ) (frame : PlacedFrame) (message : Frame) : Type 0 where
  pub version : IsOfMajor major message.major
  pub number : message.number ≡ Some (carried frame)
  pub content : message.content ≡ content_of frame
  pub place : IsPlacedFrame frame

-- The message brings this frame to a reader with this numbering. With no numbering its number is nothing, and it may have none; a delta frame brings nothing.
abbrev pub Brings : Numbering → ℕ → PlacedFrame → Frame → Type 0
Brings numberings.Message major frame message = IsMessageOf major frame message
Brings numberings.Unnumbered major frame message =
    IsOfMajor major message.major × (message.content ≡ content_of frame)
    × ¬ IsChange message.content

-- a message of another major version
abbrev pub IsForeign : ℕ → Frame → Type 0
IsForeign major message = (got : ℕ) × (message.major ≡ Some got) × (got ≢ major)

-- The message is no item for a reader with this numbering: it is of another major version; it has no number, where the reader goes by numbers; it is a delta
-- frame, where the reader goes by none.
abbrev pub IsNoItem : Numbering → ℕ → Frame → Type 0
IsNoItem numberings.Message major message = IsForeign major message ⊎ (message.number ≡ None)
IsNoItem numberings.Unnumbered major message = IsForeign major message ⊎ IsChange message.content

-- ---- what is kept

-- the number at which the last of these records stands
abbrev pub last_number : List Item → Option ℕ
last_number [] = None
last_number (last ∷ before) = Some (number_of_place (place_in last))

-- these records since a cut of this reason, and these breaks in all
pub record KeepsOver (rs : List Item) (reason : Why) (all : List Break) (kept : Kept) : Type 0 where
  pub last : kept.last ≡ last_number rs
  pub number : kept.number ≡ option_map (λ h. number_of_place h.place) (held_in rs)
  pub row : kept.row ≡ option_map (λ h. h.row) (held_in rs)
  pub why : held_in rs ≡ None → kept.why ≡ reason_in rs reason
  pub count : kept.breaks ≡ min (length all) (2 ^ 64 - 1)
  pub recent : kept.recent ≡ take 8 all

abbrev pub greatest_of : List ℕ → Option ℕ
greatest_of [] = None
greatest_of (stamp ∷ before) = Some (greatest (stamp ∷ before))

-- What a reader with numbering by message keeps after these arrivals: the row that is held, with the number at which it stands; where nothing is held, why;
-- how many breaks there were, and the last eight.
pub record Keeps (arrivals : List Arrival) (kept : Kept) : Type 0 where
  pub over : KeepsOver (records (since_cut arrivals)) (cut_reason arrivals) (breaks arrivals) kept
  pub stamp : kept.stamp ≡ greatest_of (stamps (since_cut arrivals))

-- what a reader with no numbering keeps after these arrivals
pub record KeepsUnnumbered (arrivals : List Arrival) (kept : Kept) : Type 0 where
  pub row : kept.row ≡ unnumbered_row arrivals
  pub why : kept.why ≡ cut_reason arrivals
  pub number : kept.number ≡ None
  pub breaks : kept.breaks ≡ 0
  pub recent : kept.recent ≡ []

-- what a reader with this numbering keeps after these arrivals
abbrev pub KeepsBy : Numbering → List Arrival → Kept → Type 0
KeepsBy numberings.Message arrivals kept = Keeps arrivals kept
KeepsBy numberings.Unnumbered arrivals kept = KeepsUnnumbered arrivals kept

-- ---- one item more

-- the arrivals with an item more; by numbers a jump cuts before it
abbrev pub came_on_by : Numbering → List Arrival → Item → List Arrival
came_on_by numberings.Message before item = came_on before item
came_on_by numberings.Unnumbered before item = Came item ∷ before

-- by numbers the item's place is near to those before it
abbrev pub IsNearBy : Numbering → List Arrival → Item → Type 0
IsNearBy numberings.Message before item = AreNear (came_on before item)
IsNearBy numberings.Unnumbered before item = ⊤

-- behind these arrivals a message with this stamp is this item, near to those before, for a reader with this numbering of a data set with this major version
pub record IsNextItem (numbering : Numbering) (major : ℕ) (before : List Arrival) (item : Item)
    (message : Frame) (stamp : Option ℕ) : Type 0 where
  pub brings : Brings numbering major item.frame message
  pub stamp_is : item.stamp ≡ stamp
  pub near : IsNearBy numbering before item

-- ---- over lists

-- by numbers a number is kept exactly where a row is held
pub record NumbersItsRow (kept : Kept) : Type 0 where
  pub no_row : kept.number ≡ None → kept.row ≡ None
  pub no_number : kept.row ≡ None → kept.number ≡ None

-- What a reader with this numbering, for a data set with this major version, keeps after these arrivals, each of which came to it as a message of its frame,
-- or cut it.
abbrev pub IsReading : Numbering → ℕ → List Arrival → Kept → Type 0
IsReading numbering major [] kept = kept ≡ fresh
IsReading numbering major (Cut why ∷ before) kept =
    (old : Kept) × IsReading numbering major before old × (kept ≡ cut_kept why old)
IsReading numbering major (Came item ∷ before) kept =
    (old : Kept) × (message : Frame) × IsReading numbering major before old
    × Brings numbering major item.frame message
    × (kept ≡ (frame_case numbering major old message item.stamp).0)

-- what comes to a reader: a message with its stamp, or a cut
pub data Event : Type 0 where
  Framed : (message : Frame) (stamp : Option ℕ) → Event
  CutBy : Why → Event

-- numbers of 16 bits
abbrev pub AreShort : List Event → Type 0
AreShort [] = ⊤
AreShort (CutBy why ∷ before) = AreShort before
AreShort (Framed message stamp ∷ before) =
    IfSome message.number (λ number. number < 2 ^ 16) × AreShort before

-- what a new reader with this numbering, for a data set with this major version, keeps after all of this
abbrev pub kept_after : Numbering → ℕ → List Event → Kept
kept_after numbering major [] = fresh
kept_after numbering major (CutBy why ∷ before) = cut_kept why (kept_after numbering major before)
kept_after numbering major (Framed message stamp ∷ before) =
    (frame_case numbering major (kept_after numbering major before) message stamp).0

-- what comes are these arrivals, and between them messages that are no items
abbrev pub AreArrivals : Numbering → ℕ → List Event → List Arrival → Type 0
AreArrivals numbering major [] arrivals = arrivals ≡ []
AreArrivals numbering major (CutBy why ∷ before) arrivals =
    (earlier : List Arrival) × (arrivals ≡ Cut why ∷ earlier)
    × AreArrivals numbering major before earlier
AreArrivals numbering major (Framed message stamp ∷ before) arrivals =
    (IsNoItem numbering major message × AreArrivals numbering major before arrivals)
    ⊎ ((item : Item) × (earlier : List Arrival) × (arrivals ≡ Came item ∷ earlier)
    × (item.stamp ≡ stamp)
    × Brings numbering major item.frame message × AreArrivals numbering major before earlier)

-- the breaks with the one of an answer, if it tells of one
abbrev pub and_broken : Option Break → List Break → List Break
and_broken None breaks = breaks
and_broken (Some broke) breaks = broke ∷ breaks
