-- How a message is written in the JSON mapping (OPC 10000-14 section 7.2.5). Members stand in the order
-- of their names. The names of the members and the words of a message's type are this library's choice.
use Rattle.std.specs.Prelude.{ℕ, List, [], ◌∷◌, codes, map, slice_index_or, Option, Some, None, unwrap_or}
use Rattle.std.specs.Fmt.{decimal}
use Rattle.serde_json.specs.Data.{Data, number, string, array, object, unsigned, Items, Members, member, no_members, put}
use Rattle.serde_json.specs.View.{items_of}
use Rattle.dataset_meta.specs.declared.field.Field.{Field}
use Rattle.dataset_meta.specs.DataValues.{DataValue}
use Rattle.dataset_meta.specs.Metas.{MetaData, names}
use Rattle.frame_codec.specs.Frames.{Content, Whole, Change, Alive}
use Rattle.json_values.specs.Spelled.{field_json}
use Rattle.json_frames.specs.Parts.{Part, meta_at, numbered}

-- the type of a message
abbrev pub kind_word : Content → List ℕ
kind_word (Whole row) = codes "ua-keyframe"
kind_word (Change patch) = codes "ua-deltaframe"
kind_word Alive = codes "ua-keepalive"

-- the name of the field at an index
abbrev pub name_at : List Field → ℕ → List ℕ
name_at fields index = slice_index_or (names fields) index []

-- the members, and one for each of these fields
abbrev pub with_fields : MetaData → List (ℕ × DataValue) → Members → Members
with_fields meta [] ms = ms
with_fields meta (change ∷ changes) ms =
    with_fields meta changes
    (put (name_at meta.fields change.0) (field_json meta.quality change.1) ms)

-- a payload with these fields
abbrev pub fields_json : MetaData → List (ℕ × DataValue) → Data
fields_json meta changes = object (with_fields meta changes no_members)

-- the payload of a message, which a keep-alive doesn't have
abbrev pub payload_json : MetaData → Content → Option Data
payload_json meta (Whole row) = Some (fields_json meta (numbered 0 row))
payload_json meta (Change patch) = Some (fields_json meta patch)
payload_json meta Alive = None

-- a number under a name, in front of members
abbrev pub with_number : List ℕ → ℕ → Members → Members
with_number name n ms = member name (number (unsigned n)) ms

-- the versions of a message, where its frame carries both
abbrev pub versions_json : Option ℕ → Option ℕ → Option Data
versions_json (Some major) (Some minor) =
    Some (object (with_number (codes "MajorVersion") major
    (with_number (codes "MinorVersion") minor no_members)))
versions_json (Some major) None = None
versions_json None minor = None

-- a value under a name in front of members, where it is there
abbrev pub with_member : List ℕ → Option Data → Members → Members
with_member name None ms = ms
with_member name (Some d) ms = member name d ms

-- a message of a writer, with its type, its number n and what else is there
abbrev pub element_of : ℕ → List ℕ → Option Data → Option Data → ℕ → Data
element_of writer word versions payload n =
    object (with_number (codes "DataSetWriterId") writer (member (codes "MessageType") (string word)
    (with_member (codes "MetaDataVersion") versions (with_member (codes "Payload") payload
    (with_number (codes "SequenceNumber") n no_members)))))

-- the members of every message
abbrev pub fixed_members : ℕ → List ℕ → ℕ → Members
fixed_members writer word n =
    with_number (codes "DataSetWriterId") writer (member (codes "MessageType") (string word)
    (with_number (codes "SequenceNumber") n no_members))

-- a value in its place among members, where it is there
abbrev pub put_if : List ℕ → Option Data → Members → Members
put_if name None ms = ms
put_if name (Some d) ms = put name d ms

-- the message of a part
abbrev pub element_json : List MetaData → Part → Data
element_json metas part =
    element_of part.writer (kind_word part.frame.content)
    (versions_json part.frame.major part.frame.minor)
    (payload_json (meta_at metas part.set) part.frame.content) (unwrap_or part.frame.number 0)

abbrev pub elements_json : List MetaData → List Part → Items
elements_json metas parts = items_of (map (element_json metas) parts)

-- the whole message
unfoldable pub message_json : List MetaData → ℕ → List ℕ → List Part → Data
message_json metas id publisher parts =
    object (member (codes "MessageId") (string (decimal id))
    (member (codes "MessageType") (string (codes "ua-data"))
    (member (codes "Messages") (array (elements_json metas parts))
    (member (codes "PublisherId") (string publisher) no_members))))
