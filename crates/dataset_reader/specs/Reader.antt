-- What clauses see of a reader.
use Rattle.std.specs.Prelude.{ℕ, List, Option}
use Rattle.dataset_meta.specs.declared.field.Field.{Field}
use Rattle.dataset_meta.specs.Metas.{MetaData}
use Rattle.pubsub_model.specs.Records.{Item, Arrival}
use Rattle.frame_codec.specs.declared.frame.Frame.{Frame}
use Rattle.frame_codec.specs.Words.{frame_in}
use Rattle.dataset_reader.specs.declared.passed.Passed.{Passed}
use Rattle.dataset_reader.specs.declared.reader.Reader.{Reader}
use Rattle.dataset_reader.specs.declared.took.Numbering.{Numbering}
use Rattle.dataset_reader.specs.declared.took.Took.{Took}
use Rattle.dataset_reader.specs.Kept.{Kept}
use Rattle.dataset_reader.specs.Cases.{frame_case}
use Rattle.dataset_reader.specs.Keeping.{KeepsBy, IsNextItem, came_on_by}
use Rattle.dataset_reader.specs.Progress.{kept_in, IsStateOf}

-- how it finds its place in the run of messages
abbrev pub numbering_of : Reader → Numbering
numbering_of reader = reader.numbering

-- what it keeps, its words being those of a row of these fields
abbrev pub kept_by : List Field → Reader → Kept
kept_by fields reader = kept_in fields reader.state

-- how many frames it passed over
abbrev pub passed_of : Reader → Passed
passed_of reader = reader.passed

-- what a frame does to it, for a data set with this meta, and what it answers
abbrev pub after_frame : MetaData → Reader → Frame → Option ℕ → Kept × Took
after_frame meta reader frame stamp =
    frame_case (numbering_of reader) meta.major (kept_by meta.fields reader)
    (frame_in meta.fields frame) stamp

-- the row that it holds is one of this meta
abbrev pub IsReaderOf : MetaData → Reader → Type 0
IsReaderOf meta reader = IsStateOf meta reader.state

-- it keeps what *Records* says of these arrivals
abbrev pub HasRecords : MetaData → List Arrival → Reader → Type 0
HasRecords meta arrivals reader =
    KeepsBy (numbering_of reader) arrivals (kept_by meta.fields reader)

-- behind these arrivals the frame with this stamp is this item, near to those before
abbrev pub IsNext : MetaData → Reader → List Arrival → Item → Frame → Option ℕ → Type 0
IsNext meta reader arrivals item frame stamp =
    IsNextItem (numbering_of reader) meta.major arrivals item (frame_in meta.fields frame) stamp

-- the arrivals with this item more
abbrev pub came_on_to : Reader → List Arrival → Item → List Arrival
came_on_to reader arrivals item = came_on_by (numbering_of reader) arrivals item
