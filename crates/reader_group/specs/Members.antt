-- What a read group keeps for each of its readers, and what befalls it beside messages.
use Rattle.std.specs.Prelude.{ℕ, ◌-◌, ◌==◌, nat_le, Bool, true, false, List, [], ◌∷◌, Option, Some, None, slice_index_or, if◌then◌else◌}
use Rattle.dataset_meta.specs.Metas.{MetaData, no_meta}
use Rattle.pubsub_model.specs.declared.reading.Why.{Why}
use Rattle.pubsub_model.specs.declared.reading.Why.TheVariants.{Timeout}
use Rattle.dataset_reader.specs.Kept.{Kept, fresh, cut_kept}
use Rattle.dataset_reader.specs.Cases.{due}
use Rattle.dataset_reader.specs.declared.passed.Passed.{Passed}
use Rattle.dataset_reader.specs.Passed.{none_passed}
use Rattle.dataset_reader.specs.declared.took.Outcome.{Outcome}
use Rattle.dataset_reader.specs.declared.took.Outcome.TheVariants as outcomes
use Rattle.dataset_reader.specs.declared.took.Numbering.{Numbering}
use Rattle.dataset_reader.specs.declared.took.Numbering.TheVariants as numberings
use Rattle.receive_timer.specs.Told.{Told, Seen, Cleared, is_due}
use Rattle.chunker.specs.Joining.{Joining, empty}
use Rattle.config_tables.specs.declared.words.NumberingWord.{NumberingWord}
use Rattle.config_tables.specs.declared.words.NumberingWord.TheVariants as words
use Rattle.ps_config.specs.declared.parts.ReaderPart.{ReaderPart}

-- a reader of the configuration, with the meta of its data set
pub record Seat : Type 0 where
  pub part : ReaderPart
  pub meta : MetaData

abbrev pub seat_of : ReaderPart → MetaData → Seat
seat_of part meta = record { part = part; meta = meta }

-- where there is none
abbrev pub no_seat : Seat
no_seat = record {
  part = record {
    name = [];
    writer = 0;
    dataset = 0;
    timeout = 0;
    numbering = words.Message;
    offset = 0;
    size = 0;
  };
  meta = no_meta;
}

abbrev pub seat_at : List Seat → ℕ → Seat
seat_at seats k = slice_index_or seats k no_seat

abbrev pub numbering_of : NumberingWord → Numbering
numbering_of words.Message = numberings.Message
numbering_of words.None = numberings.Unnumbered

-- What the reader keeps, and how many frames it passed over; the message whose chunks are joined; what its timer was told, the latest first; whether it timed out and no message came since;
-- whether it held a row, with neither a timeout nor a cut by hand since; where it holds a row, the moment of the last message that was taken with none missing up to it.
pub record MemberValue : Type 0 where
  pub kept : Kept
  pub passed : Passed
  pub joining : Joining
  pub told : List Told
  pub late : Bool
  pub ready : Bool
  pub confirmed : Option ℕ

-- before anything
abbrev pub new_member : MemberValue
new_member = record {
  kept = fresh;
  passed = none_passed;
  joining = empty;
  told = [];
  late = false;
  ready = false;
  confirmed = None;
}

-- a cut forgets the chunks, and when the last message came; no row is held, and so none is confirmed
abbrev pub cut_member : Why → MemberValue → MemberValue
cut_member why member =
    record member { kept = cut_kept why member.kept; joining = empty; told = Cleared ∷ member.told; confirmed = None }

-- a cut by hand ends readiness
abbrev pub stopped : Why → MemberValue → MemberValue
stopped why member = record (cut_member why member) { ready = false }

-- where its timer has run out it is cut, isn't ready, and is late
abbrev pub expired : ℕ → ℕ → MemberValue → MemberValue
expired timeout now member =
    if is_due timeout member.told now
    then record (cut_member Timeout member) { late = true; ready = false }
    else member

abbrev pub seen : ℕ → MemberValue → MemberValue
seen now member = record member { told = Seen now ∷ member.told; late = false }

-- after what the reader made of a message: a row that is held, a keep-alive and a record are seen
abbrev pub noted : ℕ → Outcome → MemberValue → MemberValue
noted now outcomes.Held member = record (seen now member) { ready = true }
noted now outcomes.Alive member = seen now member
noted now (outcomes.Waiting why) member = seen now member
noted now outcomes.Older member = member
noted now (outcomes.WrongMajor got) member = member
noted now outcomes.Unnumbered member = member

-- a keep-alive that carries this number says that the message with the held one is the last: the carried one is due then
abbrev pub names_last : Option ℕ → Option ℕ → Bool
names_last None held = false
names_last (Some carried) None = false
names_last (Some carried) (Some held) = carried == due held

-- When the row was confirmed, after a message came with this number; `held` is the number of the row that is held then. What is held is confirmed, and so is a
-- row whose message a keep-alive names as the last. Where none is held none is confirmed. What is passed over changes nothing.
abbrev pub confirmed_on : ℕ → Outcome → Option ℕ → Option ℕ → Option ℕ → Option ℕ
confirmed_on now outcomes.Held carried held before = Some now
confirmed_on now outcomes.Alive carried held before = if names_last carried held then Some now else before
confirmed_on now (outcomes.Waiting why) carried held before = None
confirmed_on now outcomes.Older carried held before = before
confirmed_on now (outcomes.WrongMajor got) carried held before = before
confirmed_on now outcomes.Unnumbered carried held before = before

abbrev pub confirmed_by : ℕ → Outcome → Option ℕ → MemberValue → MemberValue
confirmed_by now outcome carried member =
    record member { confirmed = confirmed_on now outcome carried member.kept.number member.confirmed }

-- a row is held, and isn't older than this bound; a moment before it was confirmed counts as the same
abbrev pub is_fresh : ℕ → ℕ → Option ℕ → Bool
is_fresh now bound None = false
is_fresh now bound (Some moment) = nat_le (now - moment) bound
