-- What each answer tells of the message, and of what the reader keeps.
use Rattle.std.specs.Prelude.{◌≡◌, ◌≢◌, ◌⊎◌, ℕ, ◌+◌, ◌-◌, ◌%◌, ◌^◌, ◌≤◌, min, List, ◌∷◌, take, false, Option, Some, None}
use Rattle.dataset_meta.specs.DataValues.{DataValue}
use Rattle.dataset_meta.specs.Rows.{patched}
use Rattle.seq_number.specs.Numbers.{newer}
use Rattle.pubsub_model.specs.declared.reading.Break.{Break}
use Rattle.pubsub_model.specs.declared.reading.Why.{Why}
use Rattle.pubsub_model.specs.declared.reading.Why.TheVariants.{Gap, Jump}
use Rattle.frame_codec.specs.Frames as frames
use Rattle.frame_codec.specs.Frames.{Content, Frame}
use Rattle.dataset_reader.specs.declared.took.Outcome.{Outcome}
use Rattle.dataset_reader.specs.declared.took.Outcome.TheVariants as outcomes
use Rattle.dataset_reader.specs.declared.took.Numbering.{Numbering}
use Rattle.dataset_reader.specs.declared.took.Numbering.TheVariants as numberings
use Rattle.dataset_reader.specs.Kept.{Kept}
use Rattle.dataset_reader.specs.Cases.{is_alive, record_number}

-- before any record no row is held
abbrev pub BeginsEmpty : Kept → Type 0
BeginsEmpty kept = kept.last ≡ None → kept.row ≡ None

-- the message is a delta frame
abbrev pub IsChange : Content → Type 0
IsChange content = (patch : List (ℕ × DataValue)) × (content ≡ frames.Change patch)

-- the message's place isn't newer than that of the last record
abbrev pub IsOlder : Kept → Frame → Type 0
IsOlder old message =
    (number : ℕ) × (last : ℕ) × (message.number ≡ Some number) × (old.last ≡ Some last)
    × (newer (record_number message.content number) last ≡ false)

-- all but the stamp stays
pub record IsPassed (old new : Kept) : Type 0 where
  pub last : new.last ≡ old.last
  pub number : new.number ≡ old.number
  pub row : new.row ≡ old.row
  pub why : new.why ≡ old.why
  pub breaks : new.breaks ≡ old.breaks
  pub recent : new.recent ≡ old.recent

-- the row that is held is the message's, or the one that was held with the message's changes
abbrev pub HoldsRow : Kept → Content → Kept → Type 0
HoldsRow old (frames.Whole row) new = new.row ≡ Some row
HoldsRow old (frames.Change patch) new =
    (row : List DataValue) × (old.row ≡ Some row) × (new.row ≡ Some (patched row patch))
HoldsRow old frames.Alive new = ⊥

-- the stamp is 16,384 or more above the greatest one, which cuts the reader
abbrev pub IsJump : Kept → Option ℕ → Type 0
IsJump old stamp =
    (high : ℕ) × (number : ℕ) × (old.stamp ≡ Some high) × (stamp ≡ Some number)
    × (high + 16384 ≤ number)

-- Why a reader that kept `old` waits after a message with this stamp: for a gap where the message showed a break, for a jump where the stamp cut the reader,
-- and else for what it waited for.
abbrev pub WaitsFor : Kept → Option ℕ → Option Break → Why → Type 0
WaitsFor old stamp (Some broke) why = why ≡ Gap
WaitsFor old stamp None why =
    (IsJump old stamp × (why ≡ Jump)) ⊎ ((¬ IsJump old stamp) × (why ≡ old.why))

-- the message has another number than the one that is due behind the last record
abbrev pub IsBreakOf : Kept → Frame → Break → Type 0
IsBreakOf old message broke =
    (last : ℕ) × (old.last ≡ Some last) × (broke.expected ≡ (last + 1) % 65536)
    × (message.number ≡ Some broke.got)

-- the break that a message shows, if it shows one, is counted up to 2^64 - 1, and is the latest of the last eight
abbrev pub CountsBreak : Frame → Kept → Kept → Option Break → Type 0
CountsBreak message old new None = (new.breaks ≡ old.breaks) × (new.recent ≡ old.recent)
CountsBreak message old new (Some broke) =
    IsBreakOf old message broke × (new.breaks ≡ min (old.breaks + 1) (2 ^ 64 - 1))
    × (new.recent ≡ take 8 (broke ∷ old.recent))

-- what an answer tells, by a reader that kept `old` and now keeps `new`
abbrev pub TellsCause : Numbering → ℕ → Frame → Kept → Kept → Outcome → Type 0
TellsCause numberings.Message major message old new outcomes.Held =
    HoldsRow old message.content new × (new.number ≡ message.number)
TellsCause numberings.Unnumbered major message old new outcomes.Held =
    (row : List DataValue) × (message.content ≡ frames.Whole row)
    × (new ≡ record old { row = Some row })
TellsCause numberings.Message major message old new outcomes.Alive =
    (message.content ≡ frames.Alive) × IsOlder old message × IsPassed old new
TellsCause numberings.Unnumbered major message old new outcomes.Alive =
    (message.content ≡ frames.Alive) × (new ≡ old)
TellsCause numbering major message old new outcomes.Older =
    (numbering ≡ numberings.Message) × (is_alive message.content ≡ false) × IsOlder old message
    × IsPassed old new
TellsCause numbering major message old new (outcomes.Waiting why) =
    (numbering ≡ numberings.Message) × (new.why ≡ why) × (BeginsEmpty old → new.row ≡ None)
TellsCause numbering major message old new (outcomes.WrongMajor got) =
    (message.major ≡ Some got) × (got ≢ major) × (new ≡ old)
TellsCause numberings.Message major message old new outcomes.Unnumbered =
    (message.number ≡ None) × (new ≡ old)
TellsCause numberings.Unnumbered major message old new outcomes.Unnumbered =
    IsChange message.content × (new ≡ old)
