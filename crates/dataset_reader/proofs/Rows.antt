-- The tables of arrivals of the tests, computed from Records of pubsub_model: what is held after each arrival, or why nothing is, and the breaks. The latest
-- stand first.
use Rattle.std.proofs.Common.{◌≡◌, refl, ℕ, ◌⊎◌, inl, inr, List, [], ◌∷◌, Option, Some, None}
use Rattle.ua_values.specs.declared.value.Value.{Value}
use Rattle.dataset_meta.specs.DataValues.{DataValue}
use Rattle.ua_values.specs.declared.value.Value.TheVariants.{UInt32}
use Rattle.seq_number.specs.Numbers.{number_of_place}
use Rattle.pubsub_model.specs.declared.reading.Break.{Break}
use Rattle.pubsub_model.specs.declared.reading.Why.{Why}
use Rattle.pubsub_model.specs.declared.reading.Why.TheVariants.{Start, Gap, Timeout, NewToken, Jump, Restarted}
use Rattle.pubsub_model.specs.Frames.{Whole, Change, Alive}
use Rattle.pubsub_model.specs.Records.{Arrival, Came, Cut, Held, at, held, why, breaks}
use Rattle.dataset_reader.specs.Keeping.{with_jumps}

abbrev good : Value → DataValue
good value = record { value = value; status = 0 }

abbrev row : ℕ → List DataValue
row value = good (UInt32 value) ∷ []

abbrev patch : ℕ → List (ℕ × DataValue)
patch value = (0, good (UInt32 value)) ∷ []

abbrev whole : ℕ → ℕ → Option ℕ → Arrival
whole place value stamp = Came (at 0 stamp (Whole place (row value)))

abbrev change : ℕ → ℕ → Option ℕ → Arrival
change place value stamp = Came (at 0 stamp (Change place (patch value)))

abbrev alive : ℕ → Option ℕ → Arrival
alive next stamp = Came (at 0 stamp (Alive next))

-- the number and the row that are held, or why none is
abbrev View : Type 0
View = (ℕ × List DataValue) ⊎ Why

abbrev holds : ℕ → ℕ → View
holds number value = inl (number, row value)

abbrev waits : Why → View
waits reason = inr reason

abbrev viewed : Option Held → Why → View
viewed None reason = inr reason
viewed (Some h) reason = inl (number_of_place h.place, h.row)

abbrev view : List Arrival → View
view arrivals = viewed (held arrivals) (why arrivals)

abbrev views : List Arrival → List View
views [] = []
views (arrival ∷ before) = view (with_jumps (arrival ∷ before)) ∷ views before

abbrev break_of : ℕ → ℕ → Break
break_of expected got = record { expected = expected; got = got }

-- losses, repeats and old frames
abbrev losses_repeats_and_old_frames : List Arrival
losses_repeats_and_old_frames =
    change 18 53 None ∷ change 17 52 None ∷ whole 15 51 None ∷ whole 13 60 None ∷ whole 14 50 None ∷
    change 12 40 None ∷ change 11 32 None ∷ alive 12 None ∷ alive 7 None ∷ alive 11 None ∷ whole 9 99 None ∷
    change 9 99 None ∷ change 10 99 None ∷ change 10 31 None ∷ whole 9 30 None ∷ whole 8 30 None ∷ change 8 10 None ∷
    change 7 10 None ∷ change 5 10 None ∷ alive 5 None ∷ []

losses_repeats_and_old_frames-views : views losses_repeats_and_old_frames ≡
    waits Gap ∷ waits Gap ∷ holds 15 51 ∷ holds 14 50 ∷ holds 14 50 ∷ waits Gap ∷ waits Gap ∷ waits Gap ∷
    holds 10 31 ∷ holds 10 31 ∷ holds 10 31 ∷ holds 10 31 ∷ holds 10 31 ∷ holds 10 31 ∷ holds 9 30 ∷ waits Gap ∷
    waits Gap ∷ waits Gap ∷ waits Start ∷ waits Start ∷ []
losses_repeats_and_old_frames-views = refl

losses_repeats_and_old_frames-breaks : breaks (with_jumps losses_repeats_and_old_frames) ≡
    break_of 16 17 ∷ break_of 13 14 ∷ break_of 11 12 ∷ break_of 6 7 ∷ []
losses_repeats_and_old_frames-breaks = refl

-- numbers that wrap
abbrev numbers_that_wrap : List Arrival
numbers_that_wrap =
    whole 131072 7 None ∷ alive 131072 None ∷ whole 131070 6 None ∷ whole 114688 5 None ∷ whole 98304 4 None ∷
    whole 81920 3 None ∷ whole 16385 9 None ∷ change 65535 9 None ∷ alive 65536 None ∷ alive 65537 None ∷
    change 65536 2 None ∷ whole 65535 1 None ∷ change 65534 1 None ∷ []

numbers_that_wrap-views : views numbers_that_wrap ≡
    holds 0 7 ∷ waits Gap ∷ holds 65534 6 ∷ holds 49152 5 ∷ holds 32768 4 ∷ holds 16384 3 ∷ holds 0 2 ∷ holds 0 2 ∷
    holds 0 2 ∷ holds 0 2 ∷ holds 0 2 ∷ holds 65535 1 ∷ waits Start ∷ []
numbers_that_wrap-views = refl

numbers_that_wrap-breaks : breaks (with_jumps numbers_that_wrap) ≡
    break_of 65535 0 ∷ break_of 49153 65534 ∷ break_of 32769 49152 ∷ break_of 16385 32768 ∷ break_of 1 16384 ∷ []
numbers_that_wrap-breaks = refl

-- cuts of each reason
abbrev cuts : List Arrival
cuts =
    Cut Jump ∷ whole 7 1 None ∷ change 6 1 None ∷ Cut Start ∷ change 5 1 None ∷ whole 3 1 None ∷ Cut Restarted ∷
    alive 9 None ∷ Cut NewToken ∷ whole 3 1 None ∷ change 2 2 None ∷ Cut Timeout ∷ whole 3 1 None ∷ []

cuts-views : views cuts ≡
    waits Jump ∷ holds 7 1 ∷ waits Start ∷ waits Start ∷ waits Gap ∷ holds 3 1 ∷ waits Restarted ∷ waits NewToken ∷
    waits NewToken ∷ holds 3 1 ∷ waits Timeout ∷ waits Timeout ∷ holds 3 1 ∷ []
cuts-views = refl

cuts-breaks : breaks (with_jumps cuts) ≡
    break_of 4 5 ∷ []
cuts-breaks = refl

-- stamps that jump
abbrev stamps_that_jump : List Arrival
stamps_that_jump =
    change 8 9 (Some 0) ∷ whole 7 8 (Some 4294967295) ∷ Cut NewToken ∷ whole 1 9 (Some 66384) ∷
    change 6 7 (Some 50000) ∷ whole 1 9 (Some 40000) ∷ whole 5 6 (Some 32868) ∷ change 4 5 (Some 32867) ∷
    change 3 4 None ∷ change 2 3 (Some 50) ∷ change 1 2 (Some 16483) ∷ whole 0 1 (Some 100) ∷ []

stamps_that_jump-views : views stamps_that_jump ≡
    holds 8 9 ∷ holds 7 8 ∷ waits NewToken ∷ holds 1 9 ∷ holds 6 7 ∷ holds 5 6 ∷ holds 5 6 ∷ waits Jump ∷ holds 3 4 ∷
    holds 2 3 ∷ holds 1 2 ∷ holds 0 1 ∷ []
stamps_that_jump-views = refl

stamps_that_jump-breaks : breaks (with_jumps stamps_that_jump) ≡
    []
stamps_that_jump-breaks = refl

-- ten breaks
abbrev the_last_eight_breaks : List Arrival
the_last_eight_breaks =
    whole 20 10 None ∷ whole 18 9 None ∷ whole 16 8 None ∷ whole 14 7 None ∷ whole 12 6 None ∷ whole 10 5 None ∷
    whole 8 4 None ∷ whole 6 3 None ∷ whole 4 2 None ∷ whole 2 1 None ∷ whole 0 0 None ∷ []

the_last_eight_breaks-views : views the_last_eight_breaks ≡
    holds 20 10 ∷ holds 18 9 ∷ holds 16 8 ∷ holds 14 7 ∷ holds 12 6 ∷ holds 10 5 ∷ holds 8 4 ∷ holds 6 3 ∷ holds 4 2 ∷
    holds 2 1 ∷ holds 0 0 ∷ []
the_last_eight_breaks-views = refl

the_last_eight_breaks-breaks : breaks (with_jumps the_last_eight_breaks) ≡
    break_of 19 20 ∷ break_of 17 18 ∷ break_of 15 16 ∷ break_of 13 14 ∷ break_of 11 12 ∷ break_of 9 10 ∷
    break_of 7 8 ∷ break_of 5 6 ∷ break_of 3 4 ∷ break_of 1 2 ∷ []
the_last_eight_breaks-breaks = refl
