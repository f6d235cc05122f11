-- What an answer says of an item: whether it counts for the receive timeout, and whether a row is held by it.
use Rattle.std.proofs.Common.{◌≡◌, refl, sym, ap, ◌∙◌, ℕ, ◌+◌, ◌-◌, ◌<◌, ◌≤◌, Bool, true, false, not, ◌&&◌, ◌||◌, List, [], ◌∷◌, arith, Option, Some, None, subst, map}
use Rattle.std.specs.Prelude.{nat_lt, nat_le, ◌==◌, ◌%◌, max, option_map, unwrap_or, is_some, if◌then◌else◌}
use Rattle.std.proofs.lemmas.Bool.Decides.{nat_tests}
use Rattle.dataset_meta.specs.DataValues.{DataValue}
use Rattle.dataset_meta.specs.Rows.{cons_if}
use Rattle.seq_number.specs.Numbers.{number_of_place, newer, greatest, IsNear}
use Rattle.seq_number.proofs.NumberLaws.{newer-near, number-before}
use Rattle.pubsub_model.specs.declared.reading.Why.TheVariants.{Jump}
use Rattle.pubsub_model.specs.Frames.{PlacedFrame, IsPlacedFrame, Whole, Change, Alive, is_silent, place_of, carried}
use Rattle.pubsub_model.specs.Records.{Item, Arrival, Came, Cut, Held, at, since_cut, records, place_in, breaks_with, held_in, held, is_record, is_nothing, counts}
use Rattle.pubsub_model.proofs.RecordsLaws.{held-change, held-break, above_last, above_all-last, last_place, greatest-last}
use Rattle.frame_codec.specs.Frames as frames
use Rattle.frame_codec.specs.Frames.{Content, Frame}
use Rattle.frame_codec.specs.Carrying.{content_of}
use Rattle.dataset_reader.specs.declared.took.Numbering.{Numbering}
use Rattle.dataset_reader.specs.declared.took.Numbering.TheVariants as numberings
use Rattle.dataset_reader.specs.declared.took.Outcome.{Outcome}
use Rattle.dataset_reader.specs.declared.took.Outcome.TheVariants as outcomes
use Rattle.dataset_reader.specs.declared.took.Took.{Took}
use Rattle.dataset_reader.specs.Kept.{Kept, cut_kept}
use Rattle.dataset_reader.specs.Cases.{is_alive, change_case, placed_at, placed_case, is_jump, stamped, record_number, numbered_case, numbering_case, major_case, frame_case}
use Rattle.dataset_reader.specs.Keeping.{stamps, jumps, came_on, AreNear, IsOfMajor, IsMessageOf, Keeps, last_number, greatest_of}

-- ---- numbers of near places

next-number : (p g : ℕ) → g < p → p ≤ g + 16384 → (p % 65536 == (g % 65536 + 1) % 65536) ≡ (p == g + 1)
next-number p g a b = grind (arith, nat_tests)

abbrev IsNearTo : List Item → ℕ → Type 0
IsNearTo [] place = Unit {0}
IsNearTo (last ∷ before) place = (place ≤ place_in last + 16384) × (place_in last < place + 49152)

near_last : (rs : List Item) (g place : ℕ) → g ≡ last_place rs → place ≤ g + 16384 → g < place + 49152 → IsNearTo rs place
near_last [] g place e a b = tt
near_last (l ∷ rs) g place e a b = (omega (arith, e, a), omega (arith, e, b))

near_items : (items : List Item) (x : Item) → IsNear (map place_in (x ∷ items)) → IsNearTo (records items) (place_in x)
near_items [] x near = tt
near_items (y ∷ items) x near = near_last (records (y ∷ items)) (greatest (map place_in (y ∷ items))) (place_in x) (greatest-last (y ∷ items)) near.0 near.1

-- ---- a stamp

abbrev jumps_at : List ℕ → ℕ → Bool
jumps_at [] n = false
jumps_at (s ∷ before) n = nat_le (greatest (s ∷ before) + 16384) n

kept_jump : (list : List ℕ) (n : ℕ) → is_jump (greatest_of list) n ≡ jumps_at list n
kept_jump [] n = refl
kept_jump (s ∷ before) n = refl

list_jump : (items : List Item) (n : ℕ) → jumps items (Some n) ≡ jumps_at (stamps items) n
list_jump items n = by_list (stamps items)
  where
    by_list : (list : List ℕ) → (not (is_nothing list) && nat_le (greatest list + 16384) n) ≡ jumps_at list n
    by_list [] = refl
    by_list (s ∷ before) = refl

abbrev came_if : Bool → List Arrival → Item → List Arrival
came_if j before item = if j then Came item ∷ Cut Jump ∷ before else Came item ∷ before

abbrev stamped_if : Bool → Kept → ℕ → Kept
stamped_if j k n = if j then record (cut_kept Jump k) { stamp = Some n } else record k { stamp = Some (max n (unwrap_or k.stamp 0)) }

-- ---- a message of a frame

record_number-carried : (frame : PlacedFrame) → IsPlacedFrame frame → record_number (content_of frame) (carried frame) ≡ number_of_place (place_of frame)
record_number-carried (Whole place row) has = refl
record_number-carried (Change place patch) has = refl
record_number-carried (Alive next) has = number-before next has

major_of : (numbering : Numbering) (major : ℕ) (k : Kept) (message : Frame) (stamp carries : Option ℕ) → IsOfMajor major carries
    → major_case numbering major k message stamp carries ≡ numbering_case numbering k message stamp
major_of numbering major k message stamp None of = refl
major_of numbering major k message stamp (Some got) of = let same : (got == major) ≡ true = grind (arith, nat_tests) in rw same refl

-- ---- answers

-- an answer to an item that counts for the timeout, and one after which a row is held
abbrev pub is_counted : Outcome → Bool
is_counted outcomes.Held = true
is_counted outcomes.Alive = true
is_counted (outcomes.Waiting why) = true
is_counted outcomes.Older = false
is_counted (outcomes.WrongMajor got) = false
is_counted outcomes.Unnumbered = false

abbrev pub is_holding : Outcome → Bool
is_holding outcomes.Held = true
is_holding outcomes.Alive = false
is_holding (outcomes.Waiting why) = false
is_holding outcomes.Older = false
is_holding (outcomes.WrongMajor got) = false
is_holding outcomes.Unnumbered = false

pub record Counts (counts_it holds_it : Bool) (outcome : Outcome) : Type 0 where
  pub counted : is_counted outcome ≡ counts_it
  pub holding : is_holding outcome ≡ holds_it

abbrev placed_answer : Kept → PlacedFrame → Option ℕ → Outcome
placed_answer k frame last = (placed_case k (content_of frame) (carried frame) (number_of_place (place_of frame)) last).1.outcome

old_answer : (k : Kept) (c : Content) (n p last : ℕ) → newer p last ≡ false → Counts (is_alive c) false (placed_case k c n p (Some last)).1.outcome
old_answer k (frames.Whole row) n p last e = rw e (record { counted = refl; holding = refl })
old_answer k (frames.Change patch) n p last e = rw e (record { counted = refl; holding = refl })
old_answer k frames.Alive n p last e = rw e (record { counted = refl; holding = refl })

whole_answer : (t : Bool) (k : Kept) (row : List DataValue) (n p last : ℕ) → newer p last ≡ true → (n == (last + 1) % 65536) ≡ t → Counts true true (placed_case k (frames.Whole row) n p (Some last)).1.outcome
whole_answer true k row n p last new e = rw (new, e) (record { counted = refl; holding = refl })
whole_answer false k row n p last new e = rw (new, e) (record { counted = refl; holding = refl })

alive_answer : (k : Kept) (n p last : ℕ) → newer p last ≡ true → Counts true false (placed_case k frames.Alive n p (Some last)).1.outcome
alive_answer k n p last new = rw new (record { counted = refl; holding = refl })

delta_answer : (k : Kept) (n : ℕ) (patch : List (ℕ × DataValue)) (row : Option (List DataValue)) (h : Option Held) → row ≡ option_map (λ (h : Held). h.row) h → Counts true (is_some h) (change_case k n patch row).1
delta_answer k n patch row None e = rw e (record { counted = refl; holding = refl })
delta_answer k n patch row (Some h) e = rw e (record { counted = refl; holding = refl })

some_map : (f : Held → Held) (h : Option Held) → is_some (option_map f h) ≡ is_some h
some_map f None = refl
some_map f (Some h) = refl

change_answer : (t : Bool) (k : Kept) (m : ℕ) (s : Option ℕ) (place : ℕ) (patch : List (ℕ × DataValue)) (l : Item) (rs : List Item)
    → newer (number_of_place place) (number_of_place (place_in l)) ≡ true → (number_of_place place == (number_of_place (place_in l) + 1) % 65536) ≡ t → (place == place_in l + 1) ≡ t
    → k.row ≡ option_map (λ (h : Held). h.row) (held_in (l ∷ rs))
    → Counts true (is_some (held_in (at m s (Change place patch) ∷ l ∷ rs))) (placed_case k (frames.Change patch) (number_of_place place) (number_of_place place) (Some (number_of_place (place_in l)))).1.outcome
change_answer true k m s place patch l rs new e f row =
    let unbroken : breaks_with l (at m s (Change place patch)) ≡ false = rw f refl in
    let has : is_some (held_in (at m s (Change place patch) ∷ l ∷ rs)) ≡ is_some (held_in (l ∷ rs)) =
    ap (λ (h : Option Held). is_some h) (held-change m s place patch l rs unbroken) ∙ some_map _ (held_in (l ∷ rs)) in
    let before = delta_answer (placed_at k (number_of_place place)) (number_of_place place) patch k.row (held_in (l ∷ rs)) row in
    rw (has, new, e) before
change_answer false k m s place patch l rs new e f row =
    let broke : breaks_with l (at m s (Change place patch)) ≡ true = rw f refl in
    let has : is_some (held_in (at m s (Change place patch) ∷ l ∷ rs)) ≡ false = ap (λ (h : Option Held). is_some h) (held-break (at m s (Change place patch)) l rs refl broke) in
    rw (has, new, e) (record { counted = refl; holding = refl })

next_answer : (b : Bool) (k : Kept) (m : ℕ) (s : Option ℕ) (frame : PlacedFrame) (l : Item) (rs : List Item)
    → IsNearTo (l ∷ rs) (place_of frame) → nat_lt (place_in l) (place_of frame) ≡ b → k.row ≡ option_map (λ (h : Held). h.row) (held_in (l ∷ rs))
    → Counts (is_silent frame || b) (b && is_some (held_in (at m s frame ∷ l ∷ rs))) (placed_answer k frame (Some (number_of_place (place_in l))))
next_answer false k m s (Whole place row) l rs near e r = old_answer k (frames.Whole row) (number_of_place place) (number_of_place place) (number_of_place (place_in l)) (newer-near place (place_in l) near.0 near.1 ∙ e)
next_answer false k m s (Change place patch) l rs near e r = old_answer k (frames.Change patch) (number_of_place place) (number_of_place place) (number_of_place (place_in l)) (newer-near place (place_in l) near.0 near.1 ∙ e)
next_answer false k m s (Alive next) l rs near e r = old_answer k frames.Alive (number_of_place next) (number_of_place (next - 1)) (number_of_place (place_in l)) (newer-near (next - 1) (place_in l) near.0 near.1 ∙ e)
next_answer true k m s (Whole place row) l rs near e r = whole_answer _ k row (number_of_place place) (number_of_place place) (number_of_place (place_in l)) (newer-near place (place_in l) near.0 near.1 ∙ e) refl
next_answer true k m s (Change place patch) l rs near e r =
    let above : place_in l < place = grind (arith, nat_tests) in
    change_answer (place == place_in l + 1) k m s place patch l rs (newer-near place (place_in l) near.0 near.1 ∙ e) (next-number place (place_in l) above near.0) refl r
next_answer true k m s (Alive next) l rs near e r =
    let has : is_some (held_in (at m s (Alive next) ∷ l ∷ rs)) ≡ false = ap (λ (h : Option Held). is_some h) (held-break (at m s (Alive next)) l rs refl refl) in
    rw has (alive_answer k (number_of_place next) (number_of_place (next - 1)) (number_of_place (place_in l)) (newer-near (next - 1) (place_in l) near.0 near.1 ∙ e))

any_answer : (rs : List Item) (k : Kept) (m : ℕ) (s : Option ℕ) (frame : PlacedFrame) → IsNearTo rs (place_of frame) → k.row ≡ option_map (λ (h : Held). h.row) (held_in rs)
    → Counts (is_silent frame || above_last rs (place_of frame)) (above_last rs (place_of frame) && is_some (held_in (at m s frame ∷ rs))) (placed_answer k frame (last_number rs))
any_answer [] k m s (Whole place row) near r = record { counted = refl; holding = refl }
any_answer [] k m s (Change place patch) near r = delta_answer (placed_at k (number_of_place place)) (number_of_place place) patch k.row None r
any_answer [] k m s (Alive next) near r = record { counted = refl; holding = refl }
any_answer (l ∷ rs) k m s frame near r = next_answer _ k m s frame l rs near refl r

kept_answer : (b silent : Bool) (x : Item) (rs : List Item) (o : Outcome) → Counts (silent || b) (b && is_some (held_in (x ∷ rs))) o → Counts (silent || b) (b && is_some (held_in (cons_if b x rs))) o
kept_answer true silent x rs o h = h
kept_answer false silent x rs o h = h

-- what an answer to the item behind these arrivals says
abbrev pub Answers : List Arrival → Item → Outcome → Type 0
Answers before item outcome = Counts (counts true (since_cut before) item) (is_record (since_cut before) item && is_some (held (Came item ∷ before))) outcome

came_answer : (arrivals : List Arrival) (k : Kept) (m : ℕ) (s : Option ℕ) (frame : PlacedFrame) → AreNear (Came (at m s frame) ∷ arrivals) → k.last ≡ last_number (records (since_cut arrivals))
    → k.row ≡ option_map (λ (h : Held). h.row) (held arrivals) → Answers arrivals (at m s frame) (placed_answer k frame k.last)
came_answer arrivals k m s frame near last row =
    let rs = records (since_cut arrivals) in
    let b = above_last rs (place_of frame) in
    let said = kept_answer b (is_silent frame) (at m s frame) rs _ (any_answer rs k m s frame (near_items (since_cut arrivals) (at m s frame) near) row) in
    rw (above_all-last (since_cut arrivals) (place_of frame))
    (subst (λ (last : Option ℕ). Counts (is_silent frame || b) (b && is_some (held_in (cons_if b (at m s frame) rs))) (placed_answer k frame last)) (sym last) said)

-- what stands behind the item: a jump cuts first
abbrev pub behind_if : Bool → List Arrival → List Arrival
behind_if j before = if j then Cut Jump ∷ before else before

abbrev pub behind : List Arrival → Item → List Arrival
behind before item = behind_if (jumps (since_cut before) item.stamp) before

stamped_answer : (j : Bool) (arrivals : List Arrival) (k : Kept) (m n : ℕ) (frame : PlacedFrame) → AreNear (came_if j arrivals (at m (Some n) frame)) → Keeps arrivals k
    → Answers (behind_if j arrivals) (at m (Some n) frame) (placed_answer (stamped_if j k n) frame (stamped_if j k n).last)
stamped_answer true arrivals k m n frame near h = came_answer (Cut Jump ∷ arrivals) (stamped_if true k n) m (Some n) frame near refl refl
stamped_answer false arrivals k m n frame near h = came_answer arrivals (stamped_if false k n) m (Some n) frame near h.over.last h.over.row

item_answer : (arrivals : List Arrival) (k : Kept) (m : ℕ) (s : Option ℕ) (frame : PlacedFrame) → AreNear (came_on arrivals (at m s frame)) → Keeps arrivals k
    → Answers (behind arrivals (at m s frame)) (at m s frame) (placed_answer (stamped k s) frame (stamped k s).last)
item_answer arrivals k m None frame near h = came_answer arrivals k m None frame near h.over.last h.over.row
item_answer arrivals k m (Some n) frame near h =
    let list = stamps (since_cut arrivals) in
    let same : is_jump k.stamp n ≡ jumps (since_cut arrivals) (Some n) =
    ap (λ (o : Option ℕ). is_jump o n) h.stamp ∙ kept_jump list n ∙ sym (list_jump (since_cut arrivals) n) in
    subst (λ (j : Bool). Answers (behind arrivals (at m (Some n) frame)) (at m (Some n) frame) (placed_answer (stamped_if j k n) frame (stamped_if j k n).last)) (sym same)
    (stamped_answer (jumps (since_cut arrivals) (Some n)) arrivals k m n frame near h)

numbered_answer : (k : Kept) (frame : PlacedFrame) (message : Frame) (stamp : Option ℕ) → message.number ≡ Some (carried frame) → message.content ≡ content_of frame → IsPlacedFrame frame
    → (numbered_case k message.content stamp message.number).1.outcome ≡ placed_answer (stamped k stamp) frame (stamped k stamp).last
numbered_answer k frame message stamp number content has =
    ap (λ (n : Option ℕ). (numbered_case k message.content stamp n).1.outcome) number
    ∙ ap (λ (c : Content). (numbered_case k c stamp (Some (carried frame))).1.outcome) content
    ∙ ap (λ (p : ℕ). (placed_case (stamped k stamp) (content_of frame) (carried frame) p (stamped k stamp).last).1.outcome) (record_number-carried frame has)

answers_at : (major : ℕ) (arrivals : List Arrival) (k : Kept) (m : ℕ) (s : Option ℕ) (frame : PlacedFrame) (message : Frame) → IsMessageOf major frame message
    → AreNear (came_on arrivals (at m s frame)) → Keeps arrivals k
    → Answers (behind arrivals (at m s frame)) (at m s frame) (frame_case numberings.Message major k message s).1.outcome
answers_at major arrivals k m s frame message is near h =
    let same : (frame_case numberings.Message major k message s).1.outcome ≡ placed_answer (stamped k s) frame (stamped k s).last =
    ap (λ (taken : Kept × Took). taken.1.outcome) (major_of numberings.Message major k message s message.major is.version) ∙ numbered_answer k frame message s is.number is.content is.place in
    subst (λ (o : Outcome). Answers (behind arrivals (at m s frame)) (at m s frame) o) (sym same) (item_answer arrivals k m s frame near h)

-- an answer says whether its item counts for the receive timeout, and whether a row is held by it
pub answers-count : (major : ℕ) (arrivals : List Arrival) (k : Kept) (item : Item) (message : Frame) → IsMessageOf major item.frame message
    → AreNear (came_on arrivals item) → Keeps arrivals k
    → Answers (behind arrivals item) item (frame_case numberings.Message major k message item.stamp).1.outcome
answers-count major arrivals k item message is near h = answers_at major arrivals k item.moment item.stamp item.frame message is near h
