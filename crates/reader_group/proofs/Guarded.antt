-- In a secured group places that rise with their numbers are near.
use Rattle.std.proofs.Common.{◌≡◌, refl, arith, ℕ, ◌+◌, ◌<◌, ◌≤◌, Bool, true, false, not, ◌&&◌, List, [], ◌∷◌, map, Some, None, ◌⊎◌, inl, inr}
use Rattle.std.specs.Prelude.{nat_le, ◌==◌, fold, Contains, Result, Ok, Err, slice_index_or, if◌then◌else◌}
use Rattle.std.proofs.lemmas.Bool.Decides.{nat_tests}
use Rattle.seq_number.specs.Numbers.{greatest}
use Rattle.pubsub_model.specs.declared.reading.Why.{Why}
use Rattle.pubsub_model.specs.declared.reading.Why.TheVariants.{NewToken, Timeout}
use Rattle.pubsub_model.specs.Frames.{PlacedFrame}
use Rattle.pubsub_model.specs.Records.{Item, Arrival, since_cut, is_nothing}
use Rattle.dataset_reader.specs.Keeping.{stamps, jumps, AreNearInEach}
use Rattle.chunker.specs.Chunks.{Chunk}
use Rattle.message_guard.specs.Modes.{is_secured}
use Rattle.message_guard.specs.Acceptance.{Accepted, highest}
use Rattle.reader_group.specs.declared.refusal.Refusal.{Refusal}
use Rattle.reader_group.specs.Payloads.{Piece, pieces}
use Rattle.reader_group.specs.Opening.{Opened, verdict}
use Rattle.reader_group.specs.Arrivals.{Way, Mark, Laid, goes_by_numbers, arrivals_in, item_of, piece_on, cut_on, taken_in, runs_out, marks, arrivals, accepted}
use Rattle.reader_group.specs.Agreeing.{NearBy, RisesWith, RiseTogether, stamp_pair, SendsRise, AreSent, AllSent, SecuredAgrees}
use Rattle.reader_group.specs.Plain.{Setting, Event, Got, Expired, Stopped, is_raised}
use Rattle.reader_group.proofs.Answered.{StepKeeps, marked_if}
use Rattle.reader_group.proofs.Agreed.{agrees}
use Rattle.reader_group.proofs.Pairs.{together-rise}
use Rattle.reader_group.proofs.KeptParts.{items_in, IsKept, keep-pieces}
use Rattle.reader_group.proofs.Stretches.{AllRise, secured-near}

-- ---- a stretch is of one token

rises_with : (sent : List (ℕ × ℕ)) → RiseTogether sent → (pair : ℕ × ℕ) (items : List Item) → Contains sent pair → AreSent sent items → RisesWith pair (map stamp_pair items)
rises_with sent rise pair [] is all = tt
rises_with sent rise pair (item ∷ items) is all =
    (together-rise sent rise pair (stamp_pair item) is all.0, together-rise sent rise (stamp_pair item) pair all.0 is, rises_with sent rise pair items is all.1)

sent-rise : (sent : List (ℕ × ℕ)) → RiseTogether sent → (items : List Item) → AreSent sent items → RiseTogether (map stamp_pair items)
sent-rise sent rise [] all = tt
sent-rise sent rise (item ∷ items) all = (rises_with sent rise (stamp_pair item) items all.0 all.1, sent-rise sent rise items all.1)

-- within a datagram of this number: earlier stretches rise, and this one where it does; only the first item can jump
record Rising (number : ℕ) (list : List Mark) : Type 0 where
  rise : RiseTogether (map stamp_pair (items_in list)) → AllRise (arrivals_in list)
  begun : AllRise (arrivals_in list) ⊎ (number ≤ greatest (stamps (items_in list)))

jump_above : (list : List ℕ) (n : ℕ) → (not (is_nothing list) && nat_le (greatest list + 16384) n) ≡ true → greatest list < n
jump_above [] n e = absurd (grind arith)
jump_above (m ∷ list) n e = grind (arith, nat_tests)

rising_marked : (j : Bool) (before : List Mark) (now n : ℕ) (frame : PlacedFrame) → jumps (items_in before) (Some n) ≡ j → Rising n before → Rising n (marked_if j before (item_of now (Some n) frame))
rising_marked true before now n frame e h =
    let earlier : AllRise (arrivals_in before) = elim h.begun [ inl all ↦ all | inr a ↦ (let above = jump_above (stamps (items_in before)) n e in absurd (omega (arith, above, a))) ] in
    record { rise = λ together. (together, earlier); begun = inr (omega arith) }
rising_marked false before now n frame e h = record { rise = λ together. (together, h.rise together.1); begun = inr (omega arith) }

rising_came : (numbered : Bool) (before : List Mark) (now n : ℕ) (frame : PlacedFrame) → numbered ≡ true → Rising n before
    → Rising n (marked_if (numbered && jumps (items_in before) (Some n)) before (item_of now (Some n) frame))
rising_came true before now n frame num h = rising_marked (jumps (items_in before) (Some n)) before now n frame refl h
rising_came false before now n frame num h = absurd (grind arith)

rising_chunk : (n : ℕ) (before : List Mark) (c : Chunk) → Rising n before → Rising n (Laid c ∷ before)
rising_chunk n before c h = record { rise = h.rise; begun = h.begun }

rise_cut : (cuts : Bool) (why : Why) (before : List Mark) → AllRise (arrivals_in before) → AllRise (arrivals_in (cut_on cuts why before))
rise_cut true why before h = h
rise_cut false why before h = h

rise_taken : (secured : Bool) (way : Way) (now : ℕ) (higher : Bool) (list : List Mark) (token number : ℕ) (parts : List Piece) → secured ≡ true → goes_by_numbers way ≡ true
    → AllRise (arrivals_in list)
    → (let after = fold (piece_on way (way.place token number) now (if secured then Some number else None)) (cut_on higher NewToken list) parts in
    RiseTogether (map stamp_pair (items_in after)) → AllRise (arrivals_in after))
rise_taken false way now higher list token number parts secured num h = absurd (grind arith)
rise_taken true way now higher list token number parts secured num h =
    let start = cut_on higher NewToken list in
    let begun : AllRise (arrivals_in start) = rise_cut higher NewToken list h in
    let keeps : IsKept (Rising number) way now (Some number) = record {
      item = λ before frame h. rising_came (goes_by_numbers way) before now number frame num h;
      chunk = rising_chunk number;
    } in
    (keep-pieces (Rising number) way (way.place token number) now (Some number) keeps parts start (record { rise = λ together. begun; begun = inl begun })).rise

rise_got : (setting : Setting) (way : Way) (now : ℕ) (enabled : Bool) (pairs : Accepted) (list : List Mark) (answer : Result Opened Refusal) → is_secured setting.setup.mode ≡ true
    → goes_by_numbers way ≡ true → AllRise (arrivals_in list)
    → RiseTogether (map stamp_pair (items_in (taken_in setting way now enabled pairs list answer))) → AllRise (arrivals_in (taken_in setting way now enabled pairs list answer))
rise_got setting way now enabled pairs list (Err refusal) secured num h together = h
rise_got setting way now enabled pairs list (Ok y) secured num h together =
    rise_taken (is_secured setting.setup.mode) way now (is_raised setting pairs y) list y.pass.token y.pass.number (if enabled then pieces way.seat.part y.payload else []) secured num h together

-- what the sender's numbers and places do, those of each stretch do
all-rise : (sent : ℕ → List (ℕ × ℕ)) (setting : Setting) (way : Way) (events : List Event) → is_secured setting.setup.mode ≡ true → goes_by_numbers way ≡ true → SendsRise sent
    → AllSent sent setting way events → AllRise (arrivals setting way events)
all-rise sent setting way [] secured num rise are = tt
all-rise sent setting way (Got now on datagram ∷ before) secured num rise are =
    let pairs = accepted setting before in
    let answer = verdict setting.group setting.setup pairs datagram in
    let top = highest (accepted setting (Got now on datagram ∷ before)) in
    rise_got setting way now (slice_index_or on way.index false) pairs (marks setting way before) answer secured num (all-rise sent setting way before secured num rise are.1)
    (sent-rise (sent top) (rise top) (since_cut (arrivals setting way (Got now on datagram ∷ before))) are.0)
all-rise sent setting way (Expired now ∷ before) secured num rise are =
    let list = marks setting way before in rise_cut (runs_out way now (arrivals_in list)) Timeout list (all-rise sent setting way before secured num rise are.1)
all-rise sent setting way (Stopped reader why ∷ before) secured num rise are =
    let list = marks setting way before in rise_cut (reader == way.index) why list (all-rise sent setting way before secured num rise are.1)

near_by : (b : Bool) (arrivals : List Arrival) → b ≡ true → AreNearInEach arrivals → NearBy b arrivals
near_by true arrivals e h = h
near_by false arrivals e h = tt

-- THE LAW of a secured group
pub secured-agrees : StepKeeps → (sent : ℕ → List (ℕ × ℕ)) (setting : Setting) (way : Way) (events : List Event) → SecuredAgrees sent setting way events
secured-agrees laws sent setting way events secured num rise are h chunks =
    let near = secured-near setting way events secured num (all-rise sent setting way events secured num rise are) in
    agrees laws setting way events h (near_by (goes_by_numbers way) (arrivals setting way events) num near) chunks
