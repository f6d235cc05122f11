-- A closing frame whose datagram came to a reader with no numbering, and behind which no other key frame came, is the last key frame that came to it.
use Rattle.std.proofs.Common.{◌≡◌, refl, sym, ap, ◌∙◌, subst, ℕ, Bool, true, false, List, [], ◌∷◌, ◌++◌, map, Option, All, Result, Ok, Err}
use Rattle.std.specs.Prelude.{◌&&◌, fold, slice_index_or, if◌then◌else◌}
use Rattle.std.proofs.lemmas.List.Elements.{All-cons, All-nil}
use Rattle.seq_number.specs.Numbers.{place_from}
use Rattle.dataset_meta.specs.DataValues.{DataValue}
use Rattle.ua_base.specs.Journal as entries_of
use Rattle.ua_base.specs.Journal.{Entry}
use Rattle.pubsub_model.specs.declared.reading.Why.TheVariants.{Jump, NewToken}
use Rattle.pubsub_model.specs.Frames.{Whole}
use Rattle.pubsub_model.specs.Records.{Arrival, Came, Cut, Item, since_cut}
use Rattle.dataset_reader.specs.Keeping.{jumps}
use Rattle.ps_config.specs.declared.parts.Config.{Config}
use Rattle.reader_group.specs.declared.refusal.Refusal.{Refusal}
use Rattle.message_guard.specs.Acceptance.{Accepted}
use Rattle.reader_group.specs.Arrivals.{Arrived, Mark, Way, accepted, arrivals, arrivals_in, comes, cut_on, goes_by_numbers, item_of, marks, piece_on, taken_in}
use Rattle.reader_group.specs.Opening.{Opened, verdict}
use Rattle.reader_group.specs.Payloads.{Piece, pieces}
use Rattle.reader_group.specs.Plain.{Event, Got, Setting, is_raised, stamp_by}
use Rattle.reader_group.specs.Settings.{setting_of}
use Rattle.reader_group.proofs.KeptParts.{IsKept, keep-pieces}
use Rattle.session_model.specs.Events.{readers_on, receives}
use Rattle.session_model.specs.Steps.{Step, Pump, moment_of}
use Rattle.session_laws.specs.Bare.{CameLast, IsNoOtherKey, NoOtherKeys}
use Rattle.session_laws.specs.Reading.{arrivals_at, way_of}
use Rattle.session_laws.proofs.HeldRows.BareHeld.{since-more}
use Rattle.session_laws.proofs.Closing.InPumps.{ends-with, got_at, kept-from, pumped, so_far}

-- ---- items alone are added

abbrev pub Adds : List Arrival → List Mark → Type 0
Adds base list = (items : List Item) × (arrivals_in list ≡ map Came items ++ base)

pub and-false : (a b : Bool) → a ≡ false → (a && b) ≡ false
and-false true b e = absurd (cc)
and-false false b e = refl

abbrev cut_if : Bool → Item → List Mark → List Mark
cut_if jump item before = if jump then Arrived (Came item) ∷ Arrived (Cut Jump) ∷ before else Arrived (Came item) ∷ before

pub comes-bare : (way : Way) (before : List Mark) (item : Item) → goes_by_numbers way ≡ false → comes way before item ≡ Arrived (Came item) ∷ before
comes-bare way before item bare = ap (λ (b : Bool). cut_if b item before) (and-false (goes_by_numbers way) (jumps (since_cut (arrivals_in before)) item.stamp) bare)

adds-kept : (base : List Arrival) (way : Way) (now : ℕ) (s : Option ℕ) → goes_by_numbers way ≡ false → IsKept (Adds base) way now s
adds-kept base way now s bare = record {
  item = λ before frame h. subst (Adds base) (sym (comes-bare way before (item_of now s frame) bare)) (item_of now s frame ∷ h.0, ap (λ (l : List Arrival). Came (item_of now s frame) ∷ l) h.1);
  chunk = λ before c h. h;
}

pub adds-taken : (base : List Arrival) (setting : Setting) (way : Way) (now : ℕ) (enabled : Bool) (pairs : Accepted) (list : List Mark) (answer : Result Opened Refusal) → goes_by_numbers way ≡ false
    → ((opened : Opened) → answer ≡ Ok opened → is_raised setting pairs opened ≡ false) → Adds base list → Adds base (taken_in setting way now enabled pairs list answer)
adds-taken base setting way now enabled pairs list (Err refusal) bare calm h = h
adds-taken base setting way now enabled pairs list (Ok opened) bare calm h =
    let s = stamp_by setting.setup.mode opened.pass.number in
    let parts = if enabled then pieces way.seat.part opened.payload else [] in
    subst (λ (b : Bool). Adds base (fold (piece_on way (way.place opened.pass.token opened.pass.number) now s) (cut_on b NewToken list) parts)) (sym (calm opened refl))
    (keep-pieces (Adds base) way (way.place opened.pass.token opened.pass.number) now s (adds-kept base way now s bare) parts list h)

all-other : (row : List DataValue) (items : List Item) → NoOtherKeys row (map Came items) → All (IsNoOtherKey row) items
all-other row [] none = All-nil (IsNoOtherKey row)
all-other row (item ∷ items) none = All-cons (IsNoOtherKey row) item items none.0 (all-other row items none.1)

-- a key frame with this row came last
pub record BringsKey (row : List DataValue) (arrived : List Arrival) : Type 0 where
  pub item : Item
  pub earlier : List Arrival
  pub frame_is : item.frame ≡ Whole 0 row
  pub is : arrived ≡ Came item ∷ earlier

-- ---- one of the pumps

-- it came in these pumps, and was opened so
pub record TakenAt (config : Config) (r : ℕ) (start : List Step) (datagram : List ℕ) (one : Opened) (pumps : List (List Entry)) : Type 0 where
  pub later : List (List Entry)
  pub before : List (List Entry)
  pub earlier : List Entry
  pub behind : List Entry
  pub is : pumps ≡ later ++ (earlier ++ entries_of.Got datagram ∷ behind) ∷ before
  pub opens : verdict (setting_of config r).group (setting_of config r).setup (accepted (setting_of config r) (so_far config r start before earlier)) datagram ≡ Ok one

module _ (config : Config) (r i first : ℕ) (start : List Step) (datagram : List ℕ) (one : Opened) where
  abbrev setting : Setting
  setting = setting_of config r

  abbrev way : Way
  way = way_of config r i first

  -- the datagram brings the key frame, where it is opened so, and has this part alone
  pub brings : (row : List DataValue) (bare : goes_by_numbers way ≡ false) (piece : Piece) → pieces way.seat.part one.payload ≡ piece ∷ []
      → ((now : ℕ) (o : Option ℕ) (list : List Mark) → piece_on way (place_from first) now o list piece ≡ comes way list (item_of now o (Whole 0 row))) → (now : ℕ) (on : List Bool) (before : List Event) → slice_index_or on i false ≡ true
      → verdict setting.group setting.setup (accepted setting before) datagram ≡ Ok one → BringsKey row (arrivals setting way (Got now on datagram ∷ before))
  brings row bare piece parts reads now on before enabled opens =
      let s = stamp_by setting.setup.mode one.pass.number in
      let pairs = accepted setting before in
      let list = cut_on (is_raised setting pairs one) NewToken (marks setting way before) in
      let all = λ (l : List Piece). fold (piece_on way (place_from first) now s) list l in
      record {
        item = item_of now s (Whole 0 row);
        earlier = arrivals_in list;
        frame_is = refl;
        is = ap arrivals_in (
            ap (λ (a : Result Opened Refusal). taken_in setting way now (slice_index_or on i false) pairs (marks setting way before) a) opens
            ∙ ap (λ (b : Bool). all (if b then pieces way.seat.part one.payload else [])) enabled
            ∙ ap all parts ∙ reads now s list ∙ comes-bare way list (item_of now s (Whole 0 row)) bare);
      }

-- Of what befalls a read group in the pumps behind a taken datagram: some of it stays so, and nothing raises the token.
pub record StaysCalm (config : Config) (r : ℕ) (start : List Step) (operational : receives config start r ≡ true) (pumps : List (List Entry)) (Calm : List Event → Type 0) : Type 0 where
  pub keeps : (now : ℕ) (on : List Bool) (other : List ℕ) (before : List Event) → Calm before → Calm (Got now on other ∷ before)
  pub quiet : (later before : List (List Entry)) (earlier behind : List Entry) (other : List ℕ) (opened : Opened) → pumps ≡ later ++ (earlier ++ entries_of.Got other ∷ behind) ∷ before
      → (let befell = so_far config r start before earlier in
      Calm befell → verdict (setting_of config r).group (setting_of config r).setup (accepted (setting_of config r) befell) other ≡ Ok opened → is_raised (setting_of config r) (accepted (setting_of config r) befell) opened ≡ false)

-- it stays the last, where nothing raises the token and no other key frame came
module _ (config : Config) (r i first : ℕ) (start : List Step) (datagram : List ℕ) (operational : receives config start r ≡ true) (row : List DataValue) (bare : goes_by_numbers (way_of config r i first) ≡ false)
    (pumps : List (List Entry)) (Calm : List Event → Type 0) (stays : StaysCalm config r start operational pumps Calm) where
  abbrev its_setting : Setting
  its_setting = setting_of config r

  abbrev its_way : Way
  its_way = way_of config r i first

  abbrev Kept : List Arrival → List Event → Type 0
  Kept base befell = Calm befell × Adds base (marks its_setting its_way befell)

  kept-got : (base : List Arrival) (later before : List (List Entry)) (earlier behind : List Entry) (other : List ℕ) → pumps ≡ later ++ (earlier ++ entries_of.Got other ∷ behind) ∷ before
      → Kept base (so_far config r start before earlier) → Kept base (got_at config r start operational before other (so_far config r start before earlier))
  kept-got base later before earlier behind other split h =
      let steps = map Pump before ++ start in
      let on = readers_on config steps r in
      let befell = so_far config r start before earlier in (
        stays.keeps (moment_of steps) on other befell h.0,
        adds-taken base its_setting its_way (moment_of steps) (slice_index_or on i false) (accepted its_setting befell) (marks its_setting its_way befell) (verdict its_setting.group its_setting.setup (accepted its_setting befell) other) bare
            (λ opened e. stays.quiet later before earlier behind other opened split h.0 e) h.1,
      )

  pub came-last : (later before : List (List Entry)) (earlier behind : List Entry) → pumps ≡ later ++ (earlier ++ entries_of.Got datagram ∷ behind) ∷ before → Calm (got_at config r start operational before datagram (so_far config r start before earlier))
      → BringsKey row (arrivals its_setting its_way (got_at config r start operational before datagram (so_far config r start before earlier)))
      → ((newer : List Arrival) → arrivals_at config r i first (map Pump pumps ++ start) ≡ newer ++ arrivals_at config r i first (Pump (earlier ++ entries_of.Got datagram ∷ []) ∷ map Pump before ++ start) → NoOtherKeys row newer)
      → CameLast (arrivals_at config r i first (map Pump pumps ++ start)) row
  came-last later before earlier behind is calm key silent =
      let here = got_at config r start operational before datagram (so_far config r start before earlier) in
      let base = arrivals its_setting its_way here in
      let base_is : arrivals_at config r i first (Pump (earlier ++ entries_of.Got datagram ∷ []) ∷ map Pump before ++ start) ≡ base =
      ap (arrivals its_setting its_way) (pumped config r start operational (earlier ++ entries_of.Got datagram ∷ []) before ∙ ends-with config r start operational before earlier datagram) in
      let all = (kept-from config r start operational pumps (Kept base) (kept-got base) later before earlier behind datagram is (calm, ([], refl))).1 in
      record {
        later = all.0;
        item = key.item;
        earlier = since_cut key.earlier;
        since = ap since_cut (all.1 ∙ ap (λ (l : List Arrival). map Came all.0 ++ l) key.is) ∙ since-more all.0 (Came key.item ∷ key.earlier);
        frame_is = key.frame_is;
        behind = all-other row all.0 (silent (map Came all.0) (all.1 ∙ ap (λ (l : List Arrival). map Came all.0 ++ l) (sym base_is)));
      }
