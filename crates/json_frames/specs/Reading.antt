-- Which JSON values are read as which parts (OPC 10000-14 section 7.2.5). Members that aren't named here
-- are ignored.
use Rattle.std.specs.Prelude.{◌≡◌, ◌<◌, ℕ, Bool, ◌+◌, ◌%◌, ◌^◌, ◌⊎◌, ◌==◌, if◌then◌else◌, List, [], ◌∷◌, codes, length, Option, Some, None, IsSome, option_map, option_and_then}
use Rattle.std.specs.List.{All}
use Rattle.serde_json.specs.Data.{Data, Items, item, no_items}
use Rattle.serde_json.specs.Find.{get, as_object}
use Rattle.dataset_meta.specs.declared.field.Field.{Field}
use Rattle.dataset_meta.specs.DataValues.{DataValue}
use Rattle.dataset_meta.specs.Metas.{MetaData}
use Rattle.frame_codec.specs.Frames.{Content, Whole, Change, Alive, Frame}
use Rattle.json_values.specs.Numbers.{number_at, text_at}
use Rattle.json_values.specs.Reading.{ReadsField}
use Rattle.json_frames.specs.Parts.{Part, IsPart, meta_at, numbered}

-- of these fields, of which the first has this index, exactly those that the payload has as members are
-- named, each with a value of its own that fits
abbrev pub Names : Bool → Data → ℕ → List Field → List (ℕ × DataValue) → Type 0
Names quality payload index [] changes = changes ≡ []
Names quality payload index (field ∷ fields) changes =
    ((get field.name payload ≡ None) × Names quality payload (index + 1) fields changes)
    ⊎ ((d : Data) × (x : DataValue) × (rest : List (ℕ × DataValue))
    × (get field.name payload ≡ Some d) × (changes ≡ (index, x) ∷ rest)
    × ReadsField quality field d x × Names quality payload (index + 1) fields rest)

-- the payload of a message, an object that names these fields
pub record HasPayload (meta : MetaData) (element : Data) (changes : List (ℕ × DataValue)) : Type 0
  where
    pub payload : Data
    pub here : get (codes "Payload") element ≡ Some payload
    pub object : IsSome (as_object payload)
    pub names : Names meta.quality payload 0 meta.fields changes

-- the type of a message
abbrev pub HasWord : Data → List ℕ → Type 0
HasWord element word = text_at (codes "MessageType") element ≡ Some word

-- a key frame names every field, a delta frame some of them, and a keep-alive none
abbrev pub HasContent : MetaData → Data → Content → Type 0
HasContent meta element (Whole row) =
    HasWord element (codes "ua-keyframe") × (length row ≡ length meta.fields)
    × HasPayload meta element (numbered 0 row)
HasContent meta element (Change patch) =
    HasWord element (codes "ua-deltaframe") × HasPayload meta element patch
HasContent meta element Alive = HasWord element (codes "ua-keepalive")

-- a pair, where both are there
abbrev pub both : Option ℕ → Option ℕ → Option (ℕ × ℕ)
both (Some m) (Some n) = Some (m, n)
both (Some m) None = None
both None n = None

-- the major and the minor version of an object, where it has both
abbrev pub versions_in : Data → Option (ℕ × ℕ)
versions_in d =
    both (number_at 32 (codes "MajorVersion") d) (number_at 32 (codes "MinorVersion") d)

-- the versions of a message, where it has both
abbrev pub versions_at : Data → Option (ℕ × ℕ)
versions_at element = option_and_then versions_in (get (codes "MetaDataVersion") element)

-- the number of a frame: the sequence number modulo 65536
abbrev pub sequence_at : Data → Option ℕ
sequence_at element = option_map (λ n. n % 2 ^ 16) (number_at 32 (codes "SequenceNumber") element)

-- an element of the messages is read as this frame
pub record GivesFrame (meta : MetaData) (element : Data) (frame : Frame) : Type 0 where
  pub numbered : IsSome frame.number
  pub number : frame.number ≡ sequence_at element
  pub major : frame.major ≡ option_map (λ v. v.0) (versions_at element)
  pub minor : frame.minor ≡ option_map (λ v. v.1) (versions_at element)
  pub content : HasContent meta element frame.content

-- the writer of a message
abbrev pub writer_at : Data → Option ℕ
writer_at element = number_at 16 (codes "DataSetWriterId") element

-- the data set that is named for a writer
abbrev pub set_of : List (ℕ × ℕ) → ℕ → Option ℕ
set_of [] writer = None
set_of (pair ∷ sets) writer = if pair.0 == writer then Some pair.1 else set_of sets writer

-- an element of a writer for which no data set is named
abbrev pub IsOther : List (ℕ × ℕ) → Data → Type 0
IsOther sets element =
    (writer : ℕ) × (writer_at element ≡ Some writer) × (set_of sets writer ≡ None)

-- an element is read as this part, where the data set of its writer is named
pub record GivesPart (metas : List MetaData) (sets : List (ℕ × ℕ)) (element : Data) (part : Part)
    : Type 0 where
  pub writer : writer_at element ≡ Some part.writer
  pub set : set_of sets part.writer ≡ Some part.set
  pub frame : GivesFrame (meta_at metas part.set) element part.frame

-- an element that should give a part, and gives none
pub record IsBad (metas : List MetaData) (sets : List (ℕ × ℕ)) (element : Data) : Type 0 where
  pub ours : ¬ IsOther sets element
  pub no_part : (part : Part) → ¬ GivesPart metas sets element part

-- the elements are read as these parts, in their order, and so many of them are bad
abbrev pub ReadAs : List MetaData → List (ℕ × ℕ) → Items → List Part → ℕ → Type 0
ReadAs metas sets no_items parts bad = (parts ≡ []) × (bad ≡ 0)
ReadAs metas sets (item d ds) parts bad =
    (IsOther sets d × ReadAs metas sets ds parts bad)
    ⊎ ((part : Part) × (rest : List Part) × (parts ≡ part ∷ rest) × GivesPart metas sets d part
    × ReadAs metas sets ds rest bad)
    ⊎ ((left : ℕ) × (bad ≡ left + 1) × IsBad metas sets d × ReadAs metas sets ds parts left)

-- the data sets that are named for writers have the places of metas
abbrev pub HavePlaces : List MetaData → List (ℕ × ℕ) → Type 0
HavePlaces metas sets = All (λ pair. pair.1 < length metas) sets

-- a part that can be written, whose data set is the one that is named for its writer
abbrev pub IsNamedPart : List MetaData → List (ℕ × ℕ) → Part → Type 0
IsNamedPart metas sets part = IsPart metas part × (set_of sets part.writer ≡ Some part.set)
