-- What one frame does to a reader, and what it is answered (OPC 10000-14 6.2.9, DataSetReader and DataSetMessageSequenceNumber).
use Rattle.std.specs.Prelude.{ℕ, ◌+◌, ◌-◌, ◌%◌, ◌^◌, min, max, List, ◌∷◌, take, Bool, true, false, not, ◌||◌, nat_le, ◌==◌, Option, Some, None, unwrap_or, if◌then◌else◌}
use Rattle.std.specs.Option.{option_map_or}
use Rattle.dataset_meta.specs.DataValues.{DataValue}
use Rattle.dataset_meta.specs.Rows.{patched}
use Rattle.seq_number.specs.Numbers.{newer}
use Rattle.pubsub_model.specs.declared.reading.Break.{Break}
use Rattle.pubsub_model.specs.declared.reading.Why.TheVariants.{Gap, Jump}
use Rattle.frame_codec.specs.Frames as frames
use Rattle.frame_codec.specs.Frames.{Content, Frame}
use Rattle.dataset_reader.specs.declared.took.Took.{Took}
use Rattle.dataset_reader.specs.declared.took.Outcome.{Outcome}
use Rattle.dataset_reader.specs.declared.took.Outcome.TheVariants as outcomes
use Rattle.dataset_reader.specs.declared.took.Numbering.{Numbering}
use Rattle.dataset_reader.specs.declared.took.Numbering.TheVariants as numberings
use Rattle.dataset_reader.specs.Kept.{Kept, cut_kept}

-- an answer that tells of no break
abbrev pub unbroken : Outcome → Took
unbroken outcome = record { outcome = outcome; broke = None }

-- a delta frame that follows the last record is laid into the row that is held
abbrev pub change_case : Kept → ℕ → List (ℕ × DataValue) → Option (List DataValue) → Kept × Outcome
change_case kept number patch None = (kept, outcomes.Waiting kept.why)
change_case kept number patch (Some row) =
    (record kept { number = Some number; row = Some (patched row patch) }, outcomes.Held)

-- what a record does: a key frame is held, and after a break nothing else is
abbrev pub record_case : Kept → Content → ℕ → Bool → Kept × Outcome
record_case kept (frames.Whole row) number broke =
    (record kept { number = Some number; row = Some row }, outcomes.Held)
record_case kept (frames.Change patch) number true =
    (record kept { number = None; row = None; why = Gap }, outcomes.Waiting Gap)
record_case kept frames.Alive number true =
    (record kept { number = None; row = None; why = Gap }, outcomes.Waiting Gap)
record_case kept frames.Alive number false = (kept, outcomes.Waiting kept.why)
record_case kept (frames.Change patch) number false = change_case kept number patch kept.row

-- a keep-alive
abbrev pub is_alive : Content → Bool
is_alive (frames.Whole row) = false
is_alive (frames.Change patch) = false
is_alive frames.Alive = true

-- what isn't a record changes nothing
abbrev pub older : Content → Outcome
older content = if is_alive content then outcomes.Alive else outcomes.Older

-- the number that is due behind this one
abbrev pub due : ℕ → ℕ
due last = (last + 1) % 65536

-- a record behind the last one breaks where it is silent, or has another number than the one that is due
abbrev pub breaks_run : Content → ℕ → ℕ → Bool
breaks_run content number last = is_alive content || not (number == due last)

-- a break is counted and shown
abbrev pub noted : Kept → Break → Kept
noted kept broke =
    record kept {
      breaks = min (kept.breaks + 1) (2 ^ 64 - 1);
      recent = take 8 (broke ∷ kept.recent);
    }

abbrev pub placed_at : Kept → ℕ → Kept
placed_at kept place = record kept { last = Some place }

abbrev pub with_break : Option Break → Kept × Outcome → Kept × Took
with_break broke taken = (taken.0, record { outcome = taken.1; broke = broke })

-- a record behind the last one, and whether it breaks
abbrev pub following_case : Kept → Content → ℕ → ℕ → ℕ → Bool → Kept × Took
following_case kept content number place last true =
    let broke : Break = record { expected = due last; got = number } in
    with_break (Some broke) (record_case (noted (placed_at kept place) broke) content number true)
following_case kept content number place last false =
    with_break None (record_case (placed_at kept place) content number false)

-- a frame with its place, and the last record's
abbrev pub placed_case : Kept → Content → ℕ → ℕ → Option ℕ → Kept × Took
placed_case kept content number place None =
    with_break None (record_case (placed_at kept place) content number false)
placed_case kept content number place (Some last) =
    if newer place last
    then following_case kept content number place last (breaks_run content number last)
    else (kept, unbroken (older content))

-- a frame that stands here isn't newer than the last record
abbrev pub has_passed : ℕ → Option ℕ → Bool
has_passed place None = false
has_passed place (Some last) = not (newer place last)

-- the break at a record behind the last one, where it breaks
abbrev pub break_at : Content → ℕ → Option ℕ → Option Break
break_at content number None = None
break_at content number (Some last) =
    if breaks_run content number last then Some (record { expected = due last; got = number }) else None

abbrev pub noted_if : Kept → Option Break → Kept
noted_if kept None = kept
noted_if kept (Some broke) = noted kept broke

-- whether a stamp is 16,384 or more above the greatest one
abbrev pub is_jump : Option ℕ → ℕ → Bool
is_jump greatest stamp = option_map_or (λ high. nat_le (high + 16384) stamp) greatest false

-- the greatest stamp is kept, and a jump cuts the reader
abbrev pub stamped : Kept → Option ℕ → Kept
stamped kept None = kept
stamped kept (Some stamp) =
    if is_jump kept.stamp stamp
    then record (cut_kept Jump kept) { stamp = Some stamp }
    else record kept { stamp = Some (max stamp (unwrap_or kept.stamp 0)) }

-- where a frame with this number stands: a keep-alive carries the number of the next data frame
abbrev pub record_number : Content → ℕ → ℕ
record_number content number = if is_alive content then (number + 65535) % 65536 else number

-- with numbering by message
abbrev pub numbered_case : Kept → Content → Option ℕ → Option ℕ → Kept × Took
numbered_case kept content stamp None = (kept, unbroken outcomes.Unnumbered)
numbered_case kept content stamp (Some number) =
    let now = stamped kept stamp in
    placed_case now content number (record_number content number) now.last

-- with no numbering
abbrev pub unnumbered_case : Kept → Content → Kept × Took
unnumbered_case kept (frames.Whole row) = (record kept { row = Some row }, unbroken outcomes.Held)
unnumbered_case kept (frames.Change patch) = (kept, unbroken outcomes.Unnumbered)
unnumbered_case kept frames.Alive = (kept, unbroken outcomes.Alive)

abbrev pub numbering_case : Numbering → Kept → Frame → Option ℕ → Kept × Took
numbering_case numberings.Message kept message stamp =
    numbered_case kept message.content stamp message.number
numbering_case numberings.Unnumbered kept message stamp = unnumbered_case kept message.content

-- a carried major version
abbrev pub major_case : Numbering → ℕ → Kept → Frame → Option ℕ → Option ℕ → Kept × Took
major_case numbering major kept message stamp None = numbering_case numbering kept message stamp
major_case numbering major kept message stamp (Some got) =
    if got == major then numbering_case numbering kept message stamp
    else (kept, unbroken (outcomes.WrongMajor got))

-- what a reader keeps after a message, for a data set with this major version, and what it answers
abbrev pub frame_case : Numbering → ℕ → Kept → Frame → Option ℕ → Kept × Took
frame_case numbering major kept message stamp =
    major_case numbering major kept message stamp message.major
