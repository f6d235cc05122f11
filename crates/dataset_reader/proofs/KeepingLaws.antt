-- One more frame with a place: what a reader keeps stays that of Records.
use Rattle.std.proofs.Common.{◌≡◌, refl, sym, ap, ◌∙◌, arith, ℕ, zero, suc, ◌+◌, ◌-◌, ◌<◌, ◌≤◌, ◌^◌, min, Bool, true, false, not, List, [], ◌∷◌, ◌++◌, map, take, length, Option, Some, None, subst}
use Rattle.std.specs.Prelude.{nat_lt, ◌==◌, option_map, ◌%◌, if◌then◌else◌}
use Rattle.std.proofs.lemmas.Bool.Decides.{nat_tests}
use Rattle.dataset_meta.specs.DataValues.{DataValue}
use Rattle.dataset_meta.specs.Rows.{cons_if}
use Rattle.seq_number.specs.Numbers.{number_of_place, newer, IsNear, greatest}
use Rattle.seq_number.proofs.NumberLaws.{newer-near}
use Rattle.pubsub_model.specs.declared.reading.Break.{Break}
use Rattle.pubsub_model.specs.declared.reading.Why.{Why}
use Rattle.pubsub_model.specs.declared.reading.Why.TheVariants.{Gap}
use Rattle.pubsub_model.specs.Frames.{PlacedFrame, Whole, Change, Alive, is_whole, carried, place_of}
use Rattle.pubsub_model.specs.Records.{Item, Arrival, Came, Held, at, since_cut, cut_reason, records, breaks, place_in, breaks_with, break_with, held_in}
use Rattle.pubsub_model.proofs.RecordsLaws.{held-change, held-break, above_last, above_all-last, last_place, greatest-last, laid}
use Rattle.frame_codec.specs.Frames as frames
use Rattle.frame_codec.specs.Frames.{Content}
use Rattle.dataset_reader.specs.Kept.{Kept}
use Rattle.dataset_reader.specs.Cases.{placed_case, change_case, noted, placed_at}
use Rattle.frame_codec.specs.Carrying.{content_of}
use Rattle.dataset_reader.specs.Keeping.{KeepsOver, AreNear, last_number}

pub next-number : (p g : ℕ) → g < p → p ≤ g + 16384 → (p % 65536 == (g % 65536 + 1) % 65536) ≡ (p == g + 1)
next-number p g a b = grind (arith, nat_tests)

-- what isn't a record leaves all
pub keeps-old : (k : Kept) (c : Content) (n p lw : ℕ) (rs : List Item) (reason : Why) (all : List Break) → newer p lw ≡ false → KeepsOver rs reason all k → KeepsOver rs reason all (placed_case k c n p (Some lw)).0
keeps-old k c n p lw rs reason all e h = rw e h

-- the first record since a cut
pub keeps-first_whole : (k : Kept) (m : ℕ) (s : Option ℕ) (place : ℕ) (row : List DataValue) (reason : Why) (all : List Break) → KeepsOver [] reason all k
    → KeepsOver (at m s (Whole place row) ∷ []) reason all (placed_case k (frames.Whole row) (number_of_place place) (number_of_place place) None).0
keeps-first_whole k m s place row reason all h = record { last = refl; number = refl; row = refl; why = λ e. absurd (grind arith); count = h.count; recent = h.recent }

take_less : (n : ℕ) (xs : List Break) → take n (take (suc n) xs) ≡ take n xs
take_less n [] = refl
take_less zero (x ∷ xs) = refl
take_less (suc n) (x ∷ xs) = ap (λ (l : List Break). x ∷ l) (take_less n xs)

-- one more break is counted and shown
count_more : (n : ℕ) (b : Break) (all : List Break) → n ≡ min (length all) (2 ^ 64 - 1) → min (n + 1) (2 ^ 64 - 1) ≡ min (length (b ∷ all)) (2 ^ 64 - 1)
count_more n b all e = omega arith

recent_more : (b : Break) (recent all : List Break) → recent ≡ take 8 all → take 8 (b ∷ recent) ≡ take 8 (b ∷ all)
recent_more b recent all e = ap (λ (l : List Break). b ∷ take 7 l) e ∙ ap (λ (l : List Break). b ∷ l) (take_less 7 all)

abbrev pub break_at : ℕ → ℕ → Break
break_at expected got = record { expected = expected; got = got }

pub same_break : (g n : ℕ) → break_at ((number_of_place g + 1) % 65536) n ≡ break_at (number_of_place (g + 1)) n
same_break g n = let e : (number_of_place g + 1) % 65536 ≡ number_of_place (g + 1) = omega arith in ap (λ (x : ℕ). break_at x n) e

-- the break that is noted is the one that Records sees
shown_more : (g n : ℕ) (recent all : List Break) → recent ≡ take 8 all → take 8 (break_at ((number_of_place g + 1) % 65536) n ∷ recent) ≡ take 8 (break_at (number_of_place (g + 1)) n ∷ all)
shown_more g n recent all e = recent_more _ recent all e ∙ ap (λ (b : Break). b ∷ take 7 all) (same_break g n)

whole_on : (t : Bool) (k : Kept) (m : ℕ) (s : Option ℕ) (place : ℕ) (row : List DataValue) (l : Item) (rs : List Item) (reason : Why) (all : List Break)
    → newer (number_of_place place) (number_of_place (place_in l)) ≡ true → (number_of_place place == (number_of_place (place_in l) + 1) % 65536) ≡ t → (place == place_in l + 1) ≡ t
    → KeepsOver (l ∷ rs) reason all k
    → KeepsOver (at m s (Whole place row) ∷ l ∷ rs) reason (break_with (l ∷ rs) (at m s (Whole place row)) ++ all) (placed_case k (frames.Whole row) (number_of_place place) (number_of_place place) (Some (number_of_place (place_in l)))).0
whole_on true k m s place row l rs reason all new e f h =
    rw (new, e, f) (record { last = refl; number = refl; row = refl; why = λ e. absurd (grind arith); count = h.count; recent = h.recent })
whole_on false k m s place row l rs reason all new e f h =
    rw (new, e, f) (record { last = refl; number = refl; row = refl; why = λ e. absurd (grind arith); count = count_more k.breaks (break_at (number_of_place (place_in l + 1)) (number_of_place place)) all h.count; recent = shown_more (place_in l) (number_of_place place) k.recent all h.recent })

pub keeps-whole : (k : Kept) (m : ℕ) (s : Option ℕ) (place : ℕ) (row : List DataValue) (l : Item) (rs : List Item) (reason : Why) (all : List Break)
    → newer (number_of_place place) (number_of_place (place_in l)) ≡ true → (number_of_place place == (number_of_place (place_in l) + 1) % 65536) ≡ (place == place_in l + 1)
    → KeepsOver (l ∷ rs) reason all k
    → KeepsOver (at m s (Whole place row) ∷ l ∷ rs) reason (break_with (l ∷ rs) (at m s (Whole place row)) ++ all) (placed_case k (frames.Whole row) (number_of_place place) (number_of_place place) (Some (number_of_place (place_in l)))).0
keeps-whole k m s place row l rs reason all new same h = whole_on (place == place_in l + 1) k m s place row l rs reason all new same refl h

-- after a break with a frame that is no Whole nothing is held, for the reason Gap
broken_on : (k : Kept) (x l : Item) (rs : List Item) (reason : Why) (all : List Break) → is_whole x.frame ≡ false → breaks_with l x ≡ true
    → KeepsOver (l ∷ rs) reason all k
    → KeepsOver (x ∷ l ∷ rs) reason (break_at (number_of_place (place_in l + 1)) (carried x.frame) ∷ all)
    (record (noted (placed_at k (number_of_place (place_in x))) (break_at ((number_of_place (place_in l) + 1) % 65536) (carried x.frame))) { number = None; row = None; why = Gap })
broken_on k x l rs reason all no_whole broke h =
    let nothing = held-break x l rs no_whole broke in
    record {
      last = refl;
      number = rw nothing refl;
      row = rw nothing refl;
      why = λ e. rw broke refl;
      count = count_more k.breaks (break_at (number_of_place (place_in l + 1)) (carried x.frame)) all h.count;
      recent = shown_more (place_in l) (carried x.frame) k.recent all h.recent;
    }

-- a Change that follows is laid into what is held, or nothing is held still
follows_on : (hold : Option Held) (k : Kept) (m : ℕ) (s : Option ℕ) (place : ℕ) (patch : List (ℕ × DataValue)) (l : Item) (rs : List Item) (reason : Why) (all : List Break)
    → held_in (l ∷ rs) ≡ hold → breaks_with l (at m s (Change place patch)) ≡ false
    → KeepsOver (l ∷ rs) reason all k
    → KeepsOver (at m s (Change place patch) ∷ l ∷ rs) reason all (change_case (record k { last = Some (number_of_place place) }) (number_of_place place) patch k.row).0
follows_on None k m s place patch l rs reason all e unbroken h =
    let now = held-change m s place patch l rs unbroken in
    let no_row : k.row ≡ None = h.row ∙ ap (option_map (λ (x : Held). x.row)) e in
    let no_number : k.number ≡ None = h.number ∙ ap (option_map (λ (x : Held). number_of_place x.place)) e in
    rw no_row (record {
      last = refl;
      number = rw (now, e) no_number;
      row = rw (now, e) refl;
      why = λ _. rw unbroken (h.why e);
      count = h.count;
      recent = h.recent;
    })
follows_on (Some hold) k m s place patch l rs reason all e unbroken h =
    let now = held-change m s place patch l rs unbroken in
    let a_row : k.row ≡ Some hold.row = h.row ∙ ap (option_map (λ (x : Held). x.row)) e in
    rw a_row (record {
      last = refl;
      number = rw (now, e) refl;
      row = rw (now, e) refl;
      why = λ none. let wrong : Some (laid place patch hold) ≡ None = sym (now ∙ ap (option_map (laid place patch)) e) ∙ none in absurd (grind arith);
      count = h.count;
      recent = h.recent;
    })

change_on : (t : Bool) (k : Kept) (m : ℕ) (s : Option ℕ) (place : ℕ) (patch : List (ℕ × DataValue)) (l : Item) (rs : List Item) (reason : Why) (all : List Break)
    → newer (number_of_place place) (number_of_place (place_in l)) ≡ true → (number_of_place place == (number_of_place (place_in l) + 1) % 65536) ≡ t → (place == place_in l + 1) ≡ t
    → KeepsOver (l ∷ rs) reason all k
    → KeepsOver (at m s (Change place patch) ∷ l ∷ rs) reason (break_with (l ∷ rs) (at m s (Change place patch)) ++ all) (placed_case k (frames.Change patch) (number_of_place place) (number_of_place place) (Some (number_of_place (place_in l)))).0
change_on true k m s place patch l rs reason all new e f h = rw (new, e, f) (follows_on (held_in (l ∷ rs)) k m s place patch l rs reason all refl (ap not f) h)
change_on false k m s place patch l rs reason all new e f h = rw (new, e, f) (broken_on k (at m s (Change place patch)) l rs reason all refl (ap not f) h)

pub keeps-change : (k : Kept) (m : ℕ) (s : Option ℕ) (place : ℕ) (patch : List (ℕ × DataValue)) (l : Item) (rs : List Item) (reason : Why) (all : List Break)
    → newer (number_of_place place) (number_of_place (place_in l)) ≡ true → (number_of_place place == (number_of_place (place_in l) + 1) % 65536) ≡ (place == place_in l + 1)
    → KeepsOver (l ∷ rs) reason all k
    → KeepsOver (at m s (Change place patch) ∷ l ∷ rs) reason (break_with (l ∷ rs) (at m s (Change place patch)) ++ all) (placed_case k (frames.Change patch) (number_of_place place) (number_of_place place) (Some (number_of_place (place_in l)))).0
keeps-change k m s place patch l rs reason all new same h = change_on (place == place_in l + 1) k m s place patch l rs reason all new same refl h

-- a silent record behind another breaks
pub keeps-alive : (k : Kept) (m : ℕ) (s : Option ℕ) (next : ℕ) (l : Item) (rs : List Item) (reason : Why) (all : List Break)
    → newer (number_of_place (next - 1)) (number_of_place (place_in l)) ≡ true → KeepsOver (l ∷ rs) reason all k
    → KeepsOver (at m s (Alive next) ∷ l ∷ rs) reason (break_with (l ∷ rs) (at m s (Alive next)) ++ all) (placed_case k frames.Alive (number_of_place next) (number_of_place (next - 1)) (Some (number_of_place (place_in l)))).0
keeps-alive k m s next l rs reason all new h = rw new (broken_on k (at m s (Alive next)) l rs reason all refl refl h)

pub keeps-first_change : (k : Kept) (m : ℕ) (s : Option ℕ) (place : ℕ) (patch : List (ℕ × DataValue)) (reason : Why) (all : List Break) → KeepsOver [] reason all k
    → KeepsOver (at m s (Change place patch) ∷ []) reason all (placed_case k (frames.Change patch) (number_of_place place) (number_of_place place) None).0
keeps-first_change k m s place patch reason all h = rw h.row (record { last = refl; number = h.number; row = refl; why = λ e. h.why refl; count = h.count; recent = h.recent })

pub keeps-first_alive : (k : Kept) (m : ℕ) (s : Option ℕ) (next : ℕ) (reason : Why) (all : List Break) → KeepsOver [] reason all k
    → KeepsOver (at m s (Alive next) ∷ []) reason all (placed_case k frames.Alive (number_of_place next) (number_of_place (next - 1)) None).0
keeps-first_alive k m s next reason all h = record { last = refl; number = h.number; row = h.row; why = λ e. h.why refl; count = h.count; recent = h.recent }

-- ---- reader fold: one more frame whose place is near

-- the place is near that of the last record
abbrev pub IsNearTo : List Item → ℕ → Type 0
IsNearTo [] place = Unit {0}
IsNearTo (last ∷ before) place = (place ≤ place_in last + 16384) × (place_in last < place + 49152)

near_last : (rs : List Item) (g place : ℕ) → g ≡ last_place rs → place ≤ g + 16384 → g < place + 49152 → IsNearTo rs place
near_last [] g place e a b = tt
near_last (last ∷ before) g place e a b = (omega (arith, e), omega (arith, e))

pub near_items : (items : List Item) (x : Item) → IsNear (map place_in (x ∷ items)) → IsNearTo (records items) (place_in x)
near_items [] x near = tt
near_items (y ∷ items) x near = near_last (records (y ∷ items)) (greatest (map place_in (y ∷ items))) (place_in x) (greatest-last (y ∷ items)) near.0 near.1

abbrev pub new_breaks : Bool → List Item → Item → List Break
new_breaks b rs x = if b then break_with rs x else []

-- what a frame is on the wire
abbrev pub placed : Kept → PlacedFrame → Option ℕ → Kept
placed k frame last = (placed_case k (content_of frame) (carried frame) (number_of_place (place_of frame)) last).0

whole_next : (b : Bool) (k : Kept) (m : ℕ) (s : Option ℕ) (place : ℕ) (row : List DataValue) (l : Item) (rs : List Item) (reason : Why) (all : List Break)
    → IsNearTo (l ∷ rs) place → nat_lt (place_in l) place ≡ b → KeepsOver (l ∷ rs) reason all k
    → KeepsOver (cons_if b (at m s (Whole place row)) (l ∷ rs)) reason (new_breaks b (l ∷ rs) (at m s (Whole place row)) ++ all) (placed k (Whole place row) (Some (number_of_place (place_in l))))
whole_next false k m s place row l rs reason all near e h = keeps-old k (frames.Whole row) (number_of_place place) (number_of_place place) (number_of_place (place_in l)) (l ∷ rs) reason all (newer-near place (place_in l) near.0 near.1 ∙ e) h
whole_next true k m s place row l rs reason all near e h =
    let above : place_in l < place = grind (arith, nat_tests) in
    keeps-whole k m s place row l rs reason all (newer-near place (place_in l) near.0 near.1 ∙ e) (next-number place (place_in l) above near.0) h

change_next : (b : Bool) (k : Kept) (m : ℕ) (s : Option ℕ) (place : ℕ) (patch : List (ℕ × DataValue)) (l : Item) (rs : List Item) (reason : Why) (all : List Break)
    → IsNearTo (l ∷ rs) place → nat_lt (place_in l) place ≡ b → KeepsOver (l ∷ rs) reason all k
    → KeepsOver (cons_if b (at m s (Change place patch)) (l ∷ rs)) reason (new_breaks b (l ∷ rs) (at m s (Change place patch)) ++ all) (placed k (Change place patch) (Some (number_of_place (place_in l))))
change_next false k m s place patch l rs reason all near e h = keeps-old k (frames.Change patch) (number_of_place place) (number_of_place place) (number_of_place (place_in l)) (l ∷ rs) reason all (newer-near place (place_in l) near.0 near.1 ∙ e) h
change_next true k m s place patch l rs reason all near e h =
    let above : place_in l < place = grind (arith, nat_tests) in
    keeps-change k m s place patch l rs reason all (newer-near place (place_in l) near.0 near.1 ∙ e) (next-number place (place_in l) above near.0) h

alive_next : (b : Bool) (k : Kept) (m : ℕ) (s : Option ℕ) (next : ℕ) (l : Item) (rs : List Item) (reason : Why) (all : List Break)
    → IsNearTo (l ∷ rs) (next - 1) → nat_lt (place_in l) (next - 1) ≡ b → KeepsOver (l ∷ rs) reason all k
    → KeepsOver (cons_if b (at m s (Alive next)) (l ∷ rs)) reason (new_breaks b (l ∷ rs) (at m s (Alive next)) ++ all) (placed k (Alive next) (Some (number_of_place (place_in l))))
alive_next false k m s next l rs reason all near e h = keeps-old k frames.Alive (number_of_place next) (number_of_place (next - 1)) (number_of_place (place_in l)) (l ∷ rs) reason all (newer-near (next - 1) (place_in l) near.0 near.1 ∙ e) h
alive_next true k m s next l rs reason all near e h = keeps-alive k m s next l rs reason all (newer-near (next - 1) (place_in l) near.0 near.1 ∙ e) h

keeps_next : (rs : List Item) (k : Kept) (m : ℕ) (s : Option ℕ) (frame : PlacedFrame) (reason : Why) (all : List Break) → IsNearTo rs (place_of frame) → KeepsOver rs reason all k
    → KeepsOver (cons_if (above_last rs (place_of frame)) (at m s frame) rs) reason (new_breaks (above_last rs (place_of frame)) rs (at m s frame) ++ all) (placed k frame (last_number rs))
keeps_next [] k m s (Whole place row) reason all near h = keeps-first_whole k m s place row reason all h
keeps_next [] k m s (Change place patch) reason all near h = keeps-first_change k m s place patch reason all h
keeps_next [] k m s (Alive next) reason all near h = keeps-first_alive k m s next reason all h
keeps_next (l ∷ rs) k m s (Whole place row) reason all near h = whole_next (nat_lt (place_in l) place) k m s place row l rs reason all near refl h
keeps_next (l ∷ rs) k m s (Change place patch) reason all near h = change_next (nat_lt (place_in l) place) k m s place patch l rs reason all near refl h
keeps_next (l ∷ rs) k m s (Alive next) reason all near h = alive_next (nat_lt (place_in l) (next - 1)) k m s next l rs reason all near refl h

-- a reader that keeps what Records says keeps it after one more near frame
pub keeps_over-came : (arrivals : List Arrival) (k : Kept) (m : ℕ) (s : Option ℕ) (frame : PlacedFrame) → AreNear (Came (at m s frame) ∷ arrivals)
    → KeepsOver (records (since_cut arrivals)) (cut_reason arrivals) (breaks arrivals) k
    → KeepsOver (records (since_cut (Came (at m s frame) ∷ arrivals))) (cut_reason arrivals) (breaks (Came (at m s frame) ∷ arrivals)) (placed k frame k.last)
keeps_over-came arrivals k m s frame near h =
    let rs = records (since_cut arrivals) in
    let b = above_last rs (place_of frame) in
    let next = keeps_next rs k m s frame (cut_reason arrivals) (breaks arrivals) (near_items (since_cut arrivals) (at m s frame) near) h in
    rw (above_all-last (since_cut arrivals) (place_of frame))
    (subst (λ (last : Option ℕ). KeepsOver (cons_if b (at m s frame) rs) (cut_reason arrivals) (new_breaks b rs (at m s frame) ++ breaks arrivals) (placed k frame last)) (sym h.last) next)
