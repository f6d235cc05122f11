-- What a configuration has by the types of its fields: how far its numbers go, and how long its arrays are.
use Rattle.std.specs.Prelude.{◌≡◌, ℕ, ◌<◌, ◌^◌, List, length, All, Option, IfSome}
use Rattle.dataset_meta.specs.Metas.{MetaData}
use Rattle.uadp_header.specs.Spelling.{IsPublisher}
use Rattle.config_tables.specs.declared.publisher.Publisher.{Publisher}
use Rattle.ps_config.specs.declared.parts.Config.{Config}
use Rattle.ps_config.specs.declared.parts.GroupPart.{GroupPart}
use Rattle.ps_config.specs.declared.parts.KeyGroupPart.{KeyGroupPart}
use Rattle.ps_config.specs.declared.parts.KeyPart.{KeyPart}
use Rattle.ps_config.specs.declared.parts.ReadGroupPart.{ReadGroupPart}
use Rattle.ps_config.specs.declared.parts.ReaderPart.{ReaderPart}
use Rattle.ps_config.specs.declared.parts.WriterPart.{WriterPart}
use Rattle.ps_config.specs.Headers.{publisher_value}

-- a DataSetClassId, if there is one, has 16 bytes
abbrev pub IsClassId : Option (List ℕ) → Type 0
IsClassId class_id = IfSome class_id (λ guid. length guid ≡ 16)

-- a publisher's number is of its width, a text is UTF-8
abbrev pub HasPublisherTypes : Publisher → Type 0
HasPublisherTypes publisher = IsPublisher (publisher_value publisher)

pub record HasMetaTypes (meta : MetaData) : Type 0 where
  pub major : meta.major < 2 ^ 32
  pub minor : meta.minor < 2 ^ 32

pub record HasKeyTypes (key : KeyPart) : Type 0 where
  pub token : key.token < 2 ^ 32
  pub from : key.from < 2 ^ 64
  pub signing : length key.signing ≡ 32
  pub nonce : length key.nonce ≡ 4

pub record HasKeyGroupTypes (group : KeyGroupPart) : Type 0 where
  pub random : length group.random ≡ 4
  pub first_block : group.first_block < 2 ^ 32
  pub used : group.used < 2 ^ 32
  pub keys : All HasKeyTypes group.key

pub record HasWriterTypes (writer : WriterPart) : Type 0 where
  pub id : writer.id < 2 ^ 16
  pub key_frame_count : writer.key_frame_count < 2 ^ 32
  pub keep_alive : writer.keep_alive < 2 ^ 64
  pub first_number : writer.first_number < 2 ^ 16
  pub offset : writer.offset < 2 ^ 32
  pub size : writer.size < 2 ^ 32

pub record HasGroupTypes (group : GroupPart) : Type 0 where
  pub id : group.id < 2 ^ 16
  pub interval : group.interval < 2 ^ 32
  pub max_size : group.max_size < 2 ^ 32
  pub version : group.version < 2 ^ 32
  pub class_id : IsClassId group.class_id
  pub writers : All HasWriterTypes group.writer

pub record HasReaderTypes (reader : ReaderPart) : Type 0 where
  pub writer : reader.writer < 2 ^ 16
  pub timeout : reader.timeout < 2 ^ 64
  pub offset : reader.offset < 2 ^ 32
  pub size : reader.size < 2 ^ 32

pub record HasReadGroupTypes (group : ReadGroupPart) : Type 0 where
  pub publisher : HasPublisherTypes group.publisher
  pub group_id : group.group < 2 ^ 16
  pub version : group.version < 2 ^ 32
  pub class_id : IsClassId group.class_id
  pub readers : All HasReaderTypes group.reader

-- each configuration of a program has these, refused or not
pub record HasTypes (config : Config) : Type 0 where
  pub publisher : HasPublisherTypes config.publisher.id
  pub port : config.publisher.port < 2 ^ 16
  pub metas : All HasMetaTypes config.dataset
  pub keygroups : All HasKeyGroupTypes config.keygroup
  pub groups : All HasGroupTypes config.group
  pub readgroups : All HasReadGroupTypes config.readgroup
