-- What a writer sends where every turn is answered by a key frame, what it sends of a change, and what its frames publish.
use Rattle.std.proofs.Common.{◌≡◌, ◌≢◌, ◌<◌, ◌≤◌, refl, sym, ap, ◌∙◌, arith, ℕ, ◌+◌, ◌-◌, Bool, true, false, not, ◌&&◌, ◌||◌, cond, List, [], ◌∷◌, ◌++◌, length, Option, Some, None}
use Rattle.std.specs.Prelude.{All, filter_map, count_by, nat_le, ◌==◌}
use Rattle.std.specs.List.{cons_option}
use Rattle.std.proofs.lemmas.Bool.Decides.{nat_tests}
use Rattle.std.proofs.lemmas.List.{reverse-append, length-reverse}
use Rattle.std.proofs.lemmas.List.Elements.{All-nil, All-cons}
use Rattle.std.proofs.lemmas.List.Sums.{sum_by-cons}
use Rattle.dataset_meta.specs.DataValues.{DataValue}
use Rattle.dataset_meta.specs.Metas.{MetaData}
use Rattle.dataset_meta.specs.Rows.{IsRow, patched, differs, differs_from, cons_if}
use Rattle.dataset_meta.specs.SameValues.{same_data_value}
use Rattle.dataset_meta.proofs.SameLaws.{same_data_value-refl}
use Rattle.dataset_meta.proofs.RowLaws.{patched-differs}
use Rattle.pubsub_model.specs.Frames.{PlacedFrame, Whole, Change, Alive, published}
use Rattle.pubsub_model.specs.Cadence.{Settings, WriterTurn, Answered, WriterDeed, Refreshed, HadTurn, cadence, answer, quiet_answer, change_answer, is_key_due, HasRowsOf, next_place, is_data, is_any, is_fresh, last_turn, log_entry, log_of, frames_of}

-- ---- every turn a key frame

any_turn : (fresh closing : Bool) (n : ℕ) → ((fresh || closing) || nat_le 1 (n + 1)) ≡ true
any_turn true closing n = refl
any_turn false true n = refl
any_turn false false n = grind (arith, nat_tests)

-- with a key frame count of 1 each turn is answered by a key frame
pub answer-key : (s : Settings) (fresh : Bool) (before : List Answered) (turn : WriterTurn) → s.key_frame_count ≡ 1 → answer s fresh before turn ≡ Some (Whole (next_place s before) turn.row)
answer-key s fresh before turn e = rw e (rw (any_turn fresh turn.closing _) refl)

-- ---- the log

pub counted_on : (turn : WriterTurn) (a : Option PlacedFrame) (before : List Answered) (d : Bool) → d ≡ is_data (record { turn = turn; answer = a })
    → count_by is_data (record { turn = turn; answer = a } ∷ before) ≡ cond d 1 0 + count_by is_data before
counted_on turn a before d e = rw e (sum_by-cons (λ (x : Answered). cond (is_data x) 1 0) (record { turn = turn; answer = a }) before)

counts_on : (turn : WriterTurn) (a : Option PlacedFrame) (before : List Answered) → length (filter_map log_entry before) ≡ count_by is_data before
    → length (filter_map log_entry (record { turn = turn; answer = a } ∷ before)) ≡ count_by is_data (record { turn = turn; answer = a } ∷ before)
counts_on turn None before e = omega (arith, e, counted_on turn None before false refl)
counts_on turn (Some (Whole place row)) before e = omega (arith, e, counted_on turn (Some (Whole place row)) before true refl)
counts_on turn (Some (Change place patch)) before e = omega (arith, e, counted_on turn (Some (Change place patch)) before true refl)
counts_on turn (Some (Alive next)) before e = omega (arith, e, counted_on turn (Some (Alive next)) before false refl)

counts : (s : Settings) (deeds : List WriterDeed) → length (filter_map log_entry (cadence s deeds)) ≡ count_by is_data (cadence s deeds)
counts s [] = refl
counts s (Refreshed ∷ before) = counts s before
counts s (HadTurn turn ∷ before) = counts_on turn _ (cadence s before) (counts s before)

-- the log has an entry for each data frame
pub length-log_of : (s : Settings) (deeds : List WriterDeed) → length (log_of s deeds) ≡ count_by is_data (cadence s deeds)
length-log_of s deeds = length-reverse (filter_map log_entry (cadence s deeds)) ∙ counts s deeds

-- a turn that is answered by a key frame adds its place and version
pub log_of-key : (s : Settings) (turn : WriterTurn) (before : List WriterDeed) → s.key_frame_count ≡ 1
    → log_of s (HadTurn turn ∷ before) ≡ log_of s before ++ (s.first_number + length (log_of s before), turn.version) ∷ []
log_of-key s turn before e =
    let earlier = cadence s before in
    let key = answer-key s (is_fresh before) earlier turn e in
    rw key (reverse-append ((next_place s earlier, turn.version) ∷ []) (filter_map log_entry earlier)
    ∙ ap (λ (n : ℕ). log_of s before ++ (s.first_number + n, turn.version) ∷ []) (sym (length-log_of s before)))

-- ---- what a turn sends of a change

differs_if : (same : Bool) (index : ℕ) (value : DataValue) (rest : List (ℕ × DataValue)) → same ≡ true → cons_if (not same) (index, value) rest ≡ rest
differs_if true index value rest e = refl
differs_if false index value rest e = absurd (grind arith)

-- nothing differs between a row and itself
pub differs_from-same : (index : ℕ) (row : List DataValue) → differs_from index row row ≡ []
differs_from-same index [] = refl
differs_from-same index (value ∷ row) =
    differs_if (same_data_value value value) index value (differs_from (index + 1) row row) (same_data_value-refl value) ∙ differs_from-same (index + 1) row

-- rows of the same meta between which nothing differs are equal
same_row : (meta : MetaData) (old new : List DataValue) → IsRow meta old → IsRow meta new → differs old new ≡ [] → old ≡ new
same_row meta old new is_old is_new e = sym (ap (λ (patch : List (ℕ × DataValue)). patched old patch) e) ∙ patched-differs meta.quality meta.fields old new is_old is_new

-- the answer where no key frame is due
answer-not_due : (s : Settings) (fresh : Bool) (before : List Answered) (turn : WriterTurn) → is_key_due s fresh before turn ≡ false
    → answer s fresh before turn ≡ change_answer s before turn (differs (last_turn is_data before).row turn.row)
answer-not_due s fresh before turn e =
    ap (λ (due : Bool). cond due (Some (Whole (next_place s before) turn.row)) (change_answer s before turn (differs (last_turn is_data before).row turn.row))) e

-- a turn with the row of the last data frame has the quiet answer
pub answer-same : (s : Settings) (fresh : Bool) (before : List Answered) (turn : WriterTurn) → is_key_due s fresh before turn ≡ false
    → (last_turn is_data before).row ≡ turn.row → answer s fresh before turn ≡ quiet_answer s before turn
answer-same s fresh before turn e same =
    answer-not_due s fresh before turn e
    ∙ ap (λ (patch : List (ℕ × DataValue)). change_answer s before turn patch)
    (ap (λ (row : List DataValue). differs row turn.row) same ∙ differs_from-same 0 turn.row)

no_change : (due : Bool) (next place : ℕ) (patch : List (ℕ × DataValue)) → cond due (Some (Alive next)) None ≢ Some (Change place patch)
no_change true next place patch e = cc
no_change false next place patch e = cc

-- the quiet answer is no delta frame
pub quiet_answer-no_change : (s : Settings) (before : List Answered) (turn : WriterTurn) (place : ℕ) (patch : List (ℕ × DataValue)) → quiet_answer s before turn ≢ Some (Change place patch)
quiet_answer-no_change s before turn place patch =
    no_change (not (s.keep_alive == 0) && nat_le s.keep_alive (turn.moment - (last_turn is_any before).moment)) (next_place s before) place patch

-- a patch that changes something is sent
change_answer-some : (s : Settings) (before : List Answered) (turn : WriterTurn) (patch : List (ℕ × DataValue)) → patch ≢ [] → change_answer s before turn patch ≡ Some (Change (next_place s before) patch)
change_answer-some s before turn [] some = absurd (some refl)
change_answer-some s before turn (change ∷ patch) some = refl

-- a turn with another row has the delta frame of what differs
pub answer-changed : (meta : MetaData) (s : Settings) (fresh : Bool) (before : List Answered) (turn : WriterTurn) → is_key_due s fresh before turn ≡ false
    → IsRow meta (last_turn is_data before).row → IsRow meta turn.row → (last_turn is_data before).row ≢ turn.row
    → answer s fresh before turn ≡ Some (Change (next_place s before) (differs (last_turn is_data before).row turn.row))
answer-changed meta s fresh before turn e is_old is_new apart =
    answer-not_due s fresh before turn e
    ∙ change_answer-some s before turn (differs (last_turn is_data before).row turn.row)
    (λ none. apart (same_row meta (last_turn is_data before).row turn.row is_old is_new none))

-- ---- what the frames publish

-- a frame that the cadence may answer with publishes the turn's row behind that of the last data frame
abbrev Fits : List Answered → WriterTurn → Option PlacedFrame → Type 0
Fits before turn None = Unit {0}
Fits before turn (Some (Whole place row)) = row ≡ turn.row
Fits before turn (Some (Change place patch)) = patched (last_turn is_data before).row patch ≡ turn.row
Fits before turn (Some (Alive next)) = Unit {0}

fits_quiet : (due : Bool) (before : List Answered) (turn : WriterTurn) (next : ℕ) → Fits before turn (cond due (Some (Alive next)) None)
fits_quiet true before turn next = tt
fits_quiet false before turn next = tt

fits_change : (meta : MetaData) (s : Settings) (before : List Answered) (turn : WriterTurn) (patch : List (ℕ × DataValue))
    → IsRow meta (last_turn is_data before).row → IsRow meta turn.row → differs (last_turn is_data before).row turn.row ≡ patch
    → Fits before turn (change_answer s before turn patch)
fits_change meta s before turn [] is_old is_new e =
    fits_quiet (not (s.keep_alive == 0) && nat_le s.keep_alive (turn.moment - (last_turn is_any before).moment)) before turn (next_place s before)
fits_change meta s before turn (change ∷ patch) is_old is_new e =
    let old = (last_turn is_data before).row in
    sym (ap (λ (p : List (ℕ × DataValue)). patched old p) e) ∙ patched-differs meta.quality meta.fields old turn.row is_old is_new

fits_case : (due : Bool) (before : List Answered) (turn : WriterTurn) (place : ℕ) (a : Option PlacedFrame) → Fits before turn a → Fits before turn (cond due (Some (Whole place turn.row)) a)
fits_case true before turn place a h = refl
fits_case false before turn place a h = h

-- each answer is such a frame
fits_answer : (meta : MetaData) (s : Settings) (fresh : Bool) (before : List Answered) (turn : WriterTurn) → IsRow meta (last_turn is_data before).row → IsRow meta turn.row
    → Fits before turn (answer s fresh before turn)
fits_answer meta s fresh before turn is_old is_new =
    let patch = differs (last_turn is_data before).row turn.row in
    fits_case (is_key_due s fresh before turn) before turn (next_place s before) (change_answer s before turn patch)
    (fits_change meta s before turn patch is_old is_new refl)

publishes_on : (before : List Answered) (turn : WriterTurn) (a : Option PlacedFrame) → Fits before turn a → published (frames_of before) ≡ (last_turn is_data before).row
    → published (frames_of (record { turn = turn; answer = a } ∷ before)) ≡ (last_turn is_data (record { turn = turn; answer = a } ∷ before)).row
publishes_on before turn None fits same = same
publishes_on before turn (Some (Whole place row)) fits same = fits
publishes_on before turn (Some (Change place patch)) fits same = rw same fits
publishes_on before turn (Some (Alive next)) fits same = same

-- one more turn with its answer
row_on : (meta : MetaData) (before : List Answered) (turn : WriterTurn) (a : Option PlacedFrame) → IsRow meta turn.row → IsRow meta (last_turn is_data before).row
    → IsRow meta (last_turn is_data (record { turn = turn; answer = a } ∷ before)).row
row_on meta before turn None is_new old = old
row_on meta before turn (Some (Whole place row)) is_new old = is_new
row_on meta before turn (Some (Change place patch)) is_new old = is_new
row_on meta before turn (Some (Alive next)) is_new old = old

-- the row of the last data frame up to a turn is a row of the turn's meta
pub data_row-fits : (meta : MetaData) (s : Settings) (turn : WriterTurn) (before : List WriterDeed) → HasRowsOf meta (HadTurn turn ∷ before)
    → IsRow meta (last_turn is_data (cadence s (HadTurn turn ∷ before))).row
data_row-fits meta s turn [] rows = rows.0
data_row-fits meta s turn (Refreshed ∷ before) rows = rows.0
data_row-fits meta s turn (HadTurn last ∷ before) rows = row_on meta (cadence s (HadTurn last ∷ before)) turn _ rows.0 (data_row-fits meta s last before rows.1)

-- what a writer's frames publish is the row of the last turn that had a data frame
pub cadence-publishes : (meta : MetaData) (s : Settings) (deeds : List WriterDeed) → HasRowsOf meta deeds → published (frames_of (cadence s deeds)) ≡ (last_turn is_data (cadence s deeds)).row
cadence-publishes meta s [] rows = refl
cadence-publishes meta s (Refreshed ∷ before) rows = cadence-publishes rows.0 s before rows.1
cadence-publishes meta s (HadTurn turn ∷ []) rows = refl
cadence-publishes meta s (HadTurn turn ∷ Refreshed ∷ before) rows = refl
cadence-publishes meta s (HadTurn turn ∷ HadTurn last ∷ before) rows =
    let earlier = cadence s (HadTurn last ∷ before) in
    publishes_on earlier turn _ (fits_answer meta s false earlier turn (data_row-fits meta s last before rows.1) rows.0)
    (cadence-publishes meta s (HadTurn last ∷ before) rows.1)

-- ---- keep-alives

key_counts : (turn : WriterTurn) (place : ℕ) (before : List Answered) → 1 ≤ count_by is_data (record { turn = turn; answer = Some (Whole place turn.row) } ∷ before)
key_counts turn place before = omega (arith, counted_on turn (Some (Whole place turn.row)) before true refl)

-- one more turn leaves the data frames before it
counts_before : (turn : WriterTurn) (a : Option PlacedFrame) (before : List Answered) → 1 ≤ count_by is_data before → 1 ≤ count_by is_data (record { turn = turn; answer = a } ∷ before)
counts_before turn a before some = omega (arith, some, counted_on turn a before (is_data (record { turn = turn; answer = a })) refl)

-- among the answers of some turns is a data frame: the first turn's
pub some_data : (s : Settings) (turn : WriterTurn) (before : List WriterDeed) → 1 ≤ count_by is_data (cadence s (HadTurn turn ∷ before))
some_data s turn [] = key_counts turn (next_place s []) []
some_data s turn (Refreshed ∷ before) = key_counts turn (next_place s (cadence s before)) (cadence s before)
some_data s turn (HadTurn last ∷ before) = counts_before turn _ (cadence s (HadTurn last ∷ before)) (some_data s last before)

alive_if : (due : Bool) (place next : ℕ) → cond due (Some (Alive place)) None ≡ Some (Alive next) → next ≡ place
alive_if true place next e = cc
alive_if false place next e = absurd (cc)

-- a keep-alive tells of the next data frame's place
alive_of : (s : Settings) (due : Bool) (before : List Answered) (turn : WriterTurn) (patch : List (ℕ × DataValue)) (next : ℕ)
    → cond due (Some (Whole (next_place s before) turn.row)) (change_answer s before turn patch) ≡ Some (Alive next) → next ≡ next_place s before
alive_of s true before turn patch next e = absurd (cc)
alive_of s false before turn (change ∷ patch) next e = absurd (cc)
alive_of s false before turn [] next e =
    alive_if (not (s.keep_alive == 0) && nat_le s.keep_alive (turn.moment - (last_turn is_any before).moment)) (next_place s before) next e

-- the place that a keep-alive tells of is above the first
pub alive-above : (s : Settings) (turn : WriterTurn) (before : List WriterDeed) (next : ℕ) → answer s (is_fresh before) (cadence s before) turn ≡ Some (Alive next) → s.first_number < next
alive-above s turn [] next e = absurd (cc)
alive-above s turn (Refreshed ∷ before) next e = absurd (cc)
alive-above s turn (HadTurn last ∷ before) next e =
    let earlier = cadence s (HadTurn last ∷ before) in
    omega (arith, some_data s last before, alive_of s (is_key_due s false earlier turn) earlier turn (differs (last_turn is_data earlier).row turn.row) next e)

all_on : (P : PlacedFrame → Type 0) (a : Option PlacedFrame) (rest : List PlacedFrame) → ((frame : PlacedFrame) → a ≡ Some frame → P frame) → All P rest → All P (cons_option a rest)
all_on P None rest new all = all
all_on P (Some frame) rest new all = All-cons P frame rest (new frame refl) all

-- each keep-alive of a cadence tells of a place above the first
pub all_alive-above : (s : Settings) (deeds : List WriterDeed) → All (λ frame. (next : ℕ) → frame ≡ Alive next → s.first_number < next) (frames_of (cadence s deeds))
all_alive-above s [] = All-nil (λ frame. (next : ℕ) → frame ≡ Alive next → s.first_number < next)
all_alive-above s (Refreshed ∷ before) = all_alive-above s before
all_alive-above s (HadTurn turn ∷ before) =
    let a = answer s (is_fresh before) (cadence s before) turn in
    all_on (λ frame. (next : ℕ) → frame ≡ Alive next → s.first_number < next) a (frames_of (cadence s before))
    (λ frame is next same. alive-above s turn before next (is ∙ ap (λ (f : PlacedFrame). Some f) same)) (all_alive-above s before)
