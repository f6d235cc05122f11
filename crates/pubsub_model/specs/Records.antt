-- Records: records, breaks and what a reader holds, from all that came to it (OPC 10000-14 6.2.9, DataSetReader). Lists have the latest first.
use Rattle.std.specs.Prelude.{ℕ, ◌+◌, List, [], ◌∷◌, ◌++◌, map, find, Bool, true, false, not, ◌&&◌, ◌||◌, nat_lt, ◌==◌, Option, Some, None, if◌then◌else◌}
use Rattle.std.specs.List.{list_any, list_all}
use Rattle.dataset_meta.specs.DataValues.{DataValue}
use Rattle.pubsub_model.specs.declared.reading.Break.{Break}
use Rattle.pubsub_model.specs.declared.reading.Why.{Why}
use Rattle.pubsub_model.specs.declared.reading.Why.TheVariants.{Start, Gap}
use Rattle.dataset_meta.specs.Rows.{cons_if}
use Rattle.seq_number.specs.Numbers.{number_of_place}
use Rattle.pubsub_model.specs.Frames.{PlacedFrame, place_of, carried, is_whole, is_silent, published}

-- a frame that came to a reader, when, and with which nonce number
pub record Item : Type 0 where
  pub moment : ℕ
  pub stamp : Option ℕ
  pub frame : PlacedFrame

-- a frame that came at this moment, with this nonce number
abbrev pub at : ℕ → Option ℕ → PlacedFrame → Item
at moment stamp frame = record { moment = moment; stamp = stamp; frame = frame }

-- what came to a reader, and what cut its run
pub data Arrival : Type 0 where
  Came : Item → Arrival
  Cut : Why → Arrival

-- what a reader holds: a row, and the place of the last frame that it was made of
pub record Held : Type 0 where
  pub place : ℕ
  pub row : List DataValue

-- where an item's frame stands
abbrev pub place_in : Item → ℕ
place_in item = place_of item.frame

-- the items since the last cut
abbrev pub since_cut : List Arrival → List Item
since_cut [] = []
since_cut (Cut why ∷ before) = []
since_cut (Came item ∷ before) = item ∷ since_cut before

-- the reason of the last cut, and Start before any
abbrev pub cut_reason : List Arrival → Why
cut_reason [] = Start
cut_reason (Cut why ∷ before) = why
cut_reason (Came item ∷ before) = cut_reason before

-- a record's place is greater than all before
abbrev pub is_record : List Item → Item → Bool
is_record before item = list_all (λ earlier. nat_lt (place_in earlier) (place_in item)) before

-- the records among these items
abbrev pub records : List Item → List Item
records [] = []
records (item ∷ before) = cons_if (is_record before item) item (records before)

-- a record breaks with the record before it where it is silent, or its place isn't the next
abbrev pub breaks_with : Item → Item → Bool
breaks_with last item = is_silent item.frame || not (place_in item == place_in last + 1)

-- the break of a record with the record before it, if it breaks: the number that was due, and the one that came
abbrev pub break_between : Item → Item → List Break
break_between last item =
    cons_if (breaks_with last item) (record {
      expected = number_of_place (place_in last + 1);
      got = carried item.frame;
    }) []

-- the breaks of these records
abbrev pub breaks_of : List Item → List Break
breaks_of [] = []
breaks_of (item ∷ []) = []
breaks_of (item ∷ last ∷ before) = break_between last item ++ breaks_of (last ∷ before)

-- the records from the last Whole on, or all where there is none
abbrev pub from_whole : List Item → List Item
from_whole [] = []
from_whole (item ∷ before) = if is_whole item.frame then item ∷ [] else item ∷ from_whole before

-- whether the list is empty
abbrev pub is_nothing : {X : Type 0} → List X → Bool
is_nothing [] = true
is_nothing (x ∷ xs) = false

-- the last of these records, with the row that they publish
abbrev pub last_with : List Item → Option Held
last_with [] = None
last_with (item ∷ before) =
    Some (record { place = place_in item; row = published (map (λ i. i.frame) (item ∷ before)) })

-- what the records hold: the last one, with the row published since the last Whole, where nothing after it breaks
abbrev pub held_in : List Item → Option Held
held_in records =
    if list_any (λ item. is_whole item.frame) records && is_nothing (breaks_of (from_whole records))
    then last_with (from_whole records) else None

-- what a reader holds, with numbering `message`
abbrev pub held : List Arrival → Option Held
held arrivals = held_in (records (since_cut arrivals))

-- why nothing is held: a break among the records, else the reason of the cut
abbrev pub reason_in : List Item → Why → Why
reason_in records reason = if is_nothing (breaks_of records) then reason else Gap

-- why a reader holds nothing
abbrev pub why : List Arrival → Why
why arrivals = reason_in (records (since_cut arrivals)) (cut_reason arrivals)

-- the break of a record with the last of the records before it
abbrev pub break_with : List Item → Item → List Break
break_with [] item = []
break_with (last ∷ before) item = break_between last item

-- all breaks, over all cuts
abbrev pub breaks : List Arrival → List Break
breaks [] = []
breaks (Cut why ∷ before) = breaks before
breaks (Came item ∷ before) =
    let earlier = since_cut before in
    (if is_record earlier item then break_with (records earlier) item else []) ++ breaks before

-- the row that an item publishes alone
abbrev pub row_alone : Option Item → Option (List DataValue)
row_alone None = None
row_alone (Some item) = Some (published (item.frame ∷ []))

-- what a reader holds, with numbering `none`: the row of the last Whole since the cut
abbrev pub unnumbered_row : List Arrival → Option (List DataValue)
unnumbered_row arrivals = row_alone (find (λ item. is_whole item.frame) (since_cut arrivals))

-- a record or an Alive: what counts for the receive timeout
abbrev pub counts : Bool → List Item → Item → Bool
counts numbered before item = not numbered || is_silent item.frame || is_record before item

-- the moment of the last item since the cut that counts
abbrev pub last_counting : Bool → List Item → Option ℕ
last_counting numbered [] = None
last_counting numbered (item ∷ before) =
    let earlier = last_counting numbered before in
    if counts numbered before item then Some item.moment else earlier
