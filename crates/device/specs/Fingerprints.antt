-- What tells one configuration from another, for which stored numbers aren't.
use Rattle.std.specs.Prelude.{ℕ, ◌+◌, List, ◌++◌, length, flat_map, Option, Some, None}
use Rattle.std.specs.Int.{to_le_bytes, w32, w64}
use Rattle.sha2.specs.declared.Sha256.{Sha256}
use Rattle.sha2.specs.Hashers.{Holds256}
use Rattle.sha2.specs.Sha256.{sha256}
use Rattle.ua_values.specs.declared.kind.Kind.{Kind}
use Rattle.ua_values.specs.declared.kind.Kind.TheVariants as kinds
use Rattle.dataset_meta.specs.declared.field.Field.{Field}
use Rattle.dataset_meta.specs.Metas.{MetaData}
use Rattle.config_tables.specs.declared.publisher.Publisher.{Publisher}
use Rattle.config_tables.specs.declared.publisher.Publisher.TheVariants as publisher
use Rattle.config_tables.specs.declared.words.Policy.{Policy}
use Rattle.config_tables.specs.declared.words.Policy.TheVariants as policies
use Rattle.ps_config.specs.declared.parts.Config.{Config}
use Rattle.ps_config.specs.declared.parts.GroupPart.{GroupPart}
use Rattle.ps_config.specs.declared.parts.KeyGroupPart.{KeyGroupPart}
use Rattle.ps_config.specs.declared.parts.WriterPart.{WriterPart}

-- ---- bytes

-- a number of 32 bits, little-endian
abbrev pub number : ℕ → List ℕ
number n = to_le_bytes w32 n

-- one of 64
abbrev pub wide : ℕ → List ℕ
wide n = to_le_bytes w64 n

-- a text behind its length
abbrev pub text : List ℕ → List ℕ
text bytes = wide (length bytes) ++ bytes

-- the elements behind their count
abbrev pub listed : {X : Type 0} → (X → List ℕ) → List X → List ℕ
listed spelled items = wide (length items) ++ flat_map spelled items

-- a place that may be none
abbrev pub place_number : Option ℕ → ℕ
place_number None = 0
place_number (Some place) = place + 1

-- a hasher holds these bytes more
abbrev pub Adds : List ℕ → Sha256 → Sha256 → Type 0
Adds bytes old new = (before : List ℕ) → Holds256 old before → Holds256 new (before ++ bytes)

-- ---- parts

-- the PublisherId behind the bits of its type, 0 for a text
abbrev pub id_bytes : Publisher → List ℕ
id_bytes (publisher.U8 id) = number 8 ++ wide id
id_bytes (publisher.U16 id) = number 16 ++ wide id
id_bytes (publisher.U32 id) = number 32 ++ wide id
id_bytes (publisher.U64 id) = number 64 ++ wide id
id_bytes (publisher.Text id) = number 0 ++ text id

abbrev pub key_bits : Policy → ℕ
key_bits policies.Aes128 = 128
key_bits policies.Aes256 = 256

-- a key group: its name, and how long its keys are
abbrev pub keygroup_bytes : KeyGroupPart → List ℕ
keygroup_bytes part = text part.name ++ number (key_bits part.policy)

-- a writer: its id, and its data set
abbrev pub writer_bytes : WriterPart → List ℕ
writer_bytes part = number part.id ++ number part.dataset

-- a group: its id, its key group, and its writers
abbrev pub group_bytes : GroupPart → List ℕ
group_bytes part = number part.id ++ number (place_number part.keygroup) ++ listed writer_bytes part.writer

-- the number of a kind: that of its built-in type (OPC 10000-6 5.1.2)
abbrev pub kind_number : Kind → ℕ
kind_number kinds.Boolean = 1
kind_number kinds.SByte = 2
kind_number kinds.Byte = 3
kind_number kinds.Int16 = 4
kind_number kinds.UInt16 = 5
kind_number kinds.Int32 = 6
kind_number kinds.UInt32 = 7
kind_number kinds.Int64 = 8
kind_number kinds.UInt64 = 9
kind_number kinds.Float = 10
kind_number kinds.Double = 11
kind_number kinds.String = 12
kind_number kinds.DateTime = 13
kind_number kinds.Guid = 14
kind_number kinds.ByteString = 15
kind_number kinds.StatusCode = 19

abbrev pub field_bytes : Field → List ℕ
field_bytes field = number (kind_number field.kind)

-- a data set: its name, its versions, and the kinds of its fields
abbrev pub dataset_bytes : MetaData → List ℕ
dataset_bytes meta = text meta.name ++ number meta.major ++ number meta.minor ++ listed field_bytes meta.fields

-- ---- a configuration

-- who publishes, with which key groups, groups and data sets: no keys, no addresses, and no first numbers
abbrev pub identity : Config → List ℕ
identity config =
    id_bytes config.publisher.id ++ listed keygroup_bytes config.keygroup ++ listed group_bytes config.group ++ listed dataset_bytes config.dataset

abbrev pub fingerprint_of : Config → List ℕ
fingerprint_of config = sha256 (identity config)
