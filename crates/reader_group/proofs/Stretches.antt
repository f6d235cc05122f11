-- In a secured group the guard and the cut Jump keep each number near the greatest before it.
use Rattle.std.proofs.Common.{◌≡◌, refl, sym, ap, ◌∙◌, arith, ℕ, ◌+◌, ◌-◌, ◌<◌, ◌≤◌, Bool, true, false, not, ◌&&◌, List, [], ◌∷◌, ◌++◌, length, drop, map, Some, None, subst}
use Rattle.std.specs.Prelude.{nat_lt, nat_le, ◌==◌, max, is_some, fold, Result, Ok, Err, slice_index_or, if◌then◌else◌}
use Rattle.std.proofs.lemmas.Bool.Decides.{nat_tests}
use Rattle.seq_number.specs.Numbers.{greatest, IsNear}
use Rattle.pubsub_model.specs.declared.reading.Why.{Why}
use Rattle.pubsub_model.specs.declared.reading.Why.TheVariants.{NewToken, Timeout}
use Rattle.pubsub_model.specs.Frames.{PlacedFrame}
use Rattle.pubsub_model.specs.Records.{Item, Arrival, Came, Cut, place_in, since_cut, is_nothing}
use Rattle.dataset_reader.specs.Keeping.{stamps, jumps, AreNearInEach}
use Rattle.chunker.specs.Chunks.{Chunk}
use Rattle.uadp_header.specs.declared.fault.HeaderFault.{HeaderFault}
use Rattle.uadp_header.specs.Headers.{HeaderValue}
use Rattle.uadp_header.specs.Layout.{header_at}
use Rattle.message_guard.specs.Modes.{is_secured}
use Rattle.message_guard.specs.Acceptance.{Accepted, highest, is_acceptable, numbers_of, raises}
use Rattle.message_guard.specs.Opening as guards
use Rattle.message_guard.specs.Protection.{keys_with}
use Rattle.message_guard.proofs.Telling.{passed_acceptable}
use Rattle.replay_window.specs.Taken as window
use Rattle.replay_window.specs.Taken.{is_taken, is_too_old}
use Rattle.reader_group.specs.declared.refusal.Refusal.{Refusal}
use Rattle.reader_group.specs.declared.refusal.Refusal.TheVariants as refusals
use Rattle.reader_group.specs.Payloads.{Piece, pieces}
use Rattle.reader_group.specs.Filter.{is_ours}
use Rattle.reader_group.specs.Opening.{Opened, opened_as, list_of, guard_refusals, payload_refusals, decrypted, verdict, verdict_of}
use Rattle.reader_group.specs.Arrivals.{Way, Mark, Arrived, Laid, goes_by_numbers, arrivals_in, item_of, piece_on, cut_on, taken_in, runs_out, marks, arrivals, accepted, accepted_with}
use Rattle.reader_group.specs.Agreeing.{RiseTogether, AreWithin, numbers_in, places_in, stamp_pair}
use Rattle.reader_group.specs.Plain.{Setting, Event, Got, Expired, Stopped}
use Rattle.message_guard.proofs.Judged.{judged-value, judged-more, judged_as-front}
use Rattle.reader_group.proofs.Answered.{marked_if}
use Rattle.reader_group.proofs.Pairs.{near-pairs}
use Rattle.reader_group.proofs.KeptParts.{items_in, IsKept, keep-pieces}

-- ---- near by numbers, in each stretch

-- the numbers and places of the items rise together in each stretch without a cut
abbrev pub AllRise : List Arrival → Type 0
AllRise [] = Unit {0}
AllRise (Cut why ∷ before) = AllRise before
AllRise (Came item ∷ before) = RiseTogether (map stamp_pair (since_cut (Came item ∷ before))) × AllRise before

-- and their numbers are near
abbrev AllWithin : List Arrival → Type 0
AllWithin [] = Unit {0}
AllWithin (Cut why ∷ before) = AllWithin before
AllWithin (Came item ∷ before) = AreWithin (numbers_in (map stamp_pair (since_cut (Came item ∷ before)))) × AllWithin before

places-in : (items : List Item) → places_in (map stamp_pair items) ≡ map place_in items
places-in [] = refl
places-in (item ∷ items) = ap (λ (l : List ℕ). place_in item ∷ l) (places-in items)

near-within : (arrivals : List Arrival) → AllRise arrivals → AllWithin arrivals → AreNearInEach arrivals
near-within [] rise within = tt
near-within (Cut why ∷ before) rise within = near-within before rise within
near-within (Came item ∷ before) rise within =
    let items = since_cut (Came item ∷ before) in
    (subst (λ (l : List ℕ). IsNear l) (places-in items) (near-pairs (map stamp_pair items) rise.0 within.0), near-within before rise.1 within.1)

-- ---- what a guard refuses

-- a datagram that a secured group takes isn't of an older token, and not too old
record IsFresh (pairs : Accepted) (token number : ℕ) : Type 0 where
  not_lower : nat_lt token (highest pairs) ≡ false
  not_old : is_too_old (numbers_of pairs token) number ≡ false

fresh_by : (a lower taken old : Bool) → (a && not lower && not taken && not old) ≡ true → (lower ≡ false) × (old ≡ false)
fresh_by true false false false e = (refl, refl)
fresh_by true false false true e = absurd (grind arith)
fresh_by true false true old e = absurd (grind arith)
fresh_by true true taken old e = absurd (grind arith)
fresh_by false lower taken old e = absurd (grind arith)

verdict_on : (setting : Setting) (pairs : Accepted) (datagram : List ℕ) (read : Result (HeaderValue × List ℕ) HeaderFault) (opened : Opened) → is_secured setting.setup.mode ≡ true
    → verdict_of setting.group setting.setup pairs datagram read ≡ Ok opened → is_acceptable setting.setup.keys pairs opened.pass.token opened.pass.number ≡ true
verdict_on setting pairs datagram (Err fault) opened secured e = absurd (no e)
  where
    no : {A E : Type 0} {x : A} {y : E} → Path (Result A E) (Err y) (Ok x) → ⊥
    no e = cc
verdict_on setting pairs datagram (Ok read) opened secured e =
    let setup = setting.setup in
    let payload = length datagram - length read.1 in
    let pass = guards.pass_of setup.mode read.0.security datagram in
    let value = opened_as setting.group setup datagram read.0 payload in
    let G = guards.refusals setup.mode setup.keys pairs read.0.security datagram payload in
    let P = payload_refusals setting.group.layout read.0.ids (drop payload (decrypted setup pass payload datagram)) in
    let behind = judged-more (not (is_ours setting.group read.0)) refusals.NotOurs (guard_refusals G ++ P) value opened e in
    let passed : guards.verdict setup.mode setup.keys pairs read.0.security datagram payload ≡ Ok pass = judged_as-front refusals.Guard G P value opened pass behind in
    let is : value ≡ opened = judged-value (list_of setting.group setup pairs datagram read.0 payload) value opened e in
    let acceptable = passed_acceptable setup.mode setup.keys pairs read.0.security datagram payload pass secured passed in
    subst (λ (o : Opened). is_acceptable setup.keys pairs o.pass.token o.pass.number ≡ true) is acceptable

pub verdict-acceptable : (setting : Setting) (pairs : Accepted) (datagram : List ℕ) (opened : Opened) → is_secured setting.setup.mode ≡ true
    → verdict setting.group setting.setup pairs datagram ≡ Ok opened → is_acceptable setting.setup.keys pairs opened.pass.token opened.pass.number ≡ true
verdict-acceptable setting pairs datagram opened secured e = verdict_on setting pairs datagram (header_at datagram) opened secured e

verdict-fresh : (setting : Setting) (pairs : Accepted) (datagram : List ℕ) (opened : Opened) → is_secured setting.setup.mode ≡ true
    → verdict setting.group setting.setup pairs datagram ≡ Ok opened → IsFresh pairs opened.pass.token opened.pass.number
verdict-fresh setting pairs datagram opened secured e =
    let token = opened.pass.token in
    let number = opened.pass.number in
    let fresh = fresh_by (is_some (keys_with setting.setup.keys token)) (nat_lt token (highest pairs)) (is_taken (numbers_of pairs token) number)
    (is_too_old (numbers_of pairs token) number) (verdict-acceptable setting pairs datagram opened secured e) in
    record { not_lower = fresh.0; not_old = fresh.1 }

-- the stamps of a stretch: none is above `bound`, and each was near the greatest before it
record Within (bound : ℕ) (list : List Mark) : Type 0 where
  same : stamps (items_in list) ≡ numbers_in (map stamp_pair (items_in list))
  bounded : greatest (stamps (items_in list)) ≤ bound
  within : AreWithin (numbers_in (map stamp_pair (items_in list)))
  all : AllWithin (arrivals_in list)

within_more : (numbers : List ℕ) (n : ℕ) → (not (is_nothing numbers) && nat_le (greatest numbers + 16384) n) ≡ false → greatest numbers < n + 1024 → AreWithin numbers → AreWithin (n ∷ numbers)
within_more [] n e a h = tt
within_more (m ∷ numbers) n e a h = let above : n < greatest (m ∷ numbers) + 16384 = grind (arith, nat_tests) in (above, a, h)

within_marked : (j : Bool) (bound : ℕ) (before : List Mark) (now n : ℕ) (frame : PlacedFrame) → jumps (items_in before) (Some n) ≡ j → n ≤ bound → bound < n + 1024 → Within bound before
    → Within bound (marked_if j before (item_of now (Some n) frame))
within_marked true bound before now n frame e a b h = record { same = refl; bounded = omega (arith, a); within = tt; all = (tt, h.all) }
within_marked false bound before now n frame e a b h =
    let numbers = numbers_in (map stamp_pair (items_in before)) in
    let quiet : (not (is_nothing numbers) && nat_le (greatest numbers + 16384) n) ≡ false = subst (λ (l : List ℕ). (not (is_nothing l) && nat_le (greatest l + 16384) n) ≡ false) h.same e in
    let near : greatest numbers < n + 1024 = subst (λ (l : List ℕ). greatest l < n + 1024) h.same (omega (arith, h.bounded, b)) in
    let more : AreWithin (n ∷ numbers) = within_more numbers n quiet near h.within in
    record { same = ap (λ (l : List ℕ). n ∷ l) h.same; bounded = omega (arith, h.bounded, a); within = more; all = (more, h.all) }

within_came : (numbered : Bool) (bound : ℕ) (before : List Mark) (now n : ℕ) (frame : PlacedFrame) → numbered ≡ true → n ≤ bound → bound < n + 1024 → Within bound before
    → Within bound (marked_if (numbered && jumps (items_in before) (Some n)) before (item_of now (Some n) frame))
within_came true bound before now n frame num a b h = within_marked (jumps (items_in before) (Some n)) bound before now n frame refl a b h
within_came false bound before now n frame num a b h = absurd (grind arith)

within_chunk : (bound : ℕ) (before : List Mark) (c : Chunk) → Within bound before → Within bound (Laid c ∷ before)
within_chunk bound before c h = record { same = h.same; bounded = h.bounded; within = h.within; all = h.all }

within_cut : (bound : ℕ) (before : List Mark) (why : Why) (new : ℕ) → Within bound before → Within new (Arrived (Cut why) ∷ before)
within_cut bound before why new h = record { same = refl; bounded = omega arith; within = tt; all = h.all }

within_bound : (bound new : ℕ) (before : List Mark) → bound ≤ new → Within bound before → Within new before
within_bound bound new before a h = record { same = h.same; bounded = omega (arith, a, h.bounded); within = h.within; all = h.all }

-- ---- one more datagram

abbrev top_number : Accepted → ℕ
top_number pairs = window.greatest (numbers_of pairs (highest pairs))

-- the stretch that a datagram of this token goes on with
within_start : (up : Bool) (pairs : Accepted) (token : ℕ) (list : List Mark) → raises pairs token ≡ up → nat_lt token (highest pairs) ≡ false → Within (top_number pairs) list
    → Within (window.greatest (numbers_of pairs token)) (cut_on up NewToken list)
within_start true pairs token list up not_lower h = within_cut (top_number pairs) list NewToken _ h
within_start false [] token list up not_lower h = within_bound (top_number []) _ list (omega arith) h
within_start false (pair ∷ pairs) token list up not_lower h =
    let same : highest (pair ∷ pairs) ≡ token = grind (arith, nat_tests) in
    subst (λ (t : ℕ). Within (window.greatest (numbers_of (pair ∷ pairs) t)) list) same h

top_more : (pairs : Accepted) (token number : ℕ) → nat_lt token (highest pairs) ≡ false → top_number ((token, number) ∷ pairs) ≡ max number (window.greatest (numbers_of pairs token))
top_more pairs token number e =
    let same : max token (highest pairs) ≡ token = grind (arith, nat_tests) in
    let is : (token == token) ≡ true = grind (arith, nat_tests) in
    ap (λ (t : ℕ). window.greatest (numbers_of ((token, number) ∷ pairs) t)) same ∙ rw is refl

within_taken : (secured : Bool) (way : Way) (pairs : Accepted) (list : List Mark) (now token number : ℕ) (parts : List Piece) → secured ≡ true → goes_by_numbers way ≡ true
    → IsFresh pairs token number → Within (top_number pairs) list
    → Within (top_number (if secured then (token, number) ∷ pairs else pairs))
    (fold (piece_on way (way.place token number) now (if secured then Some number else None)) (cut_on (secured && raises pairs token) NewToken list) parts)
within_taken false way pairs list now token number parts secured num fresh h = absurd (grind arith)
within_taken true way pairs list now token number parts secured num fresh h =
    let bound = max number (window.greatest (numbers_of pairs token)) in
    let start = cut_on (raises pairs token) NewToken list in
    let begun = within_start (raises pairs token) pairs token list refl fresh.not_lower h in
    let a : number ≤ bound = omega arith in
    let recent : window.greatest (numbers_of pairs token) < number + 1024 = grind (arith, nat_tests, fresh.not_old) in
    let b : bound < number + 1024 = omega (arith, recent) in
    let keeps : IsKept (Within bound) way now (Some number) = record {
      item = λ before frame h. within_came (goes_by_numbers way) bound before now number frame num a b h;
      chunk = within_chunk bound;
    } in
    subst (λ (top : ℕ). Within top (fold (piece_on way (way.place token number) now (Some number)) start parts)) (sym (top_more pairs token number fresh.not_lower))
    (keep-pieces (Within bound) way (way.place token number) now (Some number) keeps parts start
    (within_bound (window.greatest (numbers_of pairs token)) bound start (omega arith) begun))

within_got : (setting : Setting) (way : Way) (pairs : Accepted) (list : List Mark) (now : ℕ) (enabled : Bool) (datagram : List ℕ) (answer : Result Opened Refusal)
    → is_secured setting.setup.mode ≡ true → goes_by_numbers way ≡ true → verdict setting.group setting.setup pairs datagram ≡ answer → Within (top_number pairs) list
    → Within (top_number (accepted_with setting pairs answer)) (taken_in setting way now enabled pairs list answer)
within_got setting way pairs list now enabled datagram (Err refusal) secured num e h = h
within_got setting way pairs list now enabled datagram (Ok y) secured num e h =
    within_taken (is_secured setting.setup.mode) way pairs list now y.pass.token y.pass.number (if enabled then pieces way.seat.part y.payload else []) secured num
    (verdict-fresh setting pairs datagram y secured e) h

within_if : (cuts : Bool) (bound : ℕ) (list : List Mark) (why : Why) → Within bound list → Within bound (cut_on cuts why list)
within_if true bound list why h = within_cut bound list why bound h
within_if false bound list why h = h

marks-within : (setting : Setting) (way : Way) (events : List Event) → is_secured setting.setup.mode ≡ true → goes_by_numbers way ≡ true
    → Within (top_number (accepted setting events)) (marks setting way events)
marks-within setting way [] secured num = record { same = refl; bounded = omega arith; within = tt; all = tt }
marks-within setting way (Got now on datagram ∷ before) secured num =
    let pairs = accepted setting before in
    within_got setting way pairs (marks setting way before) now (slice_index_or on way.index false) datagram (verdict setting.group setting.setup pairs datagram) secured num refl
    (marks-within setting way before secured num)
marks-within setting way (Expired now ∷ before) secured num =
    let list = marks setting way before in within_if (runs_out way now (arrivals_in list)) _ list Timeout (marks-within setting way before secured num)
marks-within setting way (Stopped reader why ∷ before) secured num =
    let list = marks setting way before in within_if (reader == way.index) _ list why (marks-within setting way before secured num)

-- so its places are near, where they rise with their numbers
pub secured-near : (setting : Setting) (way : Way) (events : List Event) → is_secured setting.setup.mode ≡ true → goes_by_numbers way ≡ true
    → AllRise (arrivals setting way events) → AreNearInEach (arrivals setting way events)
secured-near setting way events secured num rise = near-within (arrivals setting way events) rise (marks-within setting way events secured num).all
