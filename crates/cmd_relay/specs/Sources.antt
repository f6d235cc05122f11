-- Which data sets of a second configuration have a source: what C26 asks.
use Rattle.std.specs.Prelude.{◌≡◌, ◌⊎◌, ℕ, ◌<◌, List, length, None, true}
use Rattle.dataset_meta.specs.Metas.{MetaData}
use Rattle.config_tables.specs.declared.words.Layout.{Layout}
use Rattle.config_tables.specs.declared.words.Layout.TheVariants as layouts
use Rattle.config_tables.specs.declared.words.NumberingWord.TheVariants as words
use Rattle.ps_config.specs.declared.parts.Config.{Config}
use Rattle.ps_config.specs.declared.parts.GroupPart.{GroupPart}
use Rattle.ps_config.specs.declared.parts.ReadGroupPart.{ReadGroupPart}
use Rattle.ps_config.specs.declared.parts.ReaderPart.{ReaderPart}
use Rattle.ps_config.specs.declared.parts.WriterPart.{WriterPart}
use Rattle.ps_config.specs.Rooms.{is_fixed}
use Rattle.group_laws.specs.Matching.{IsMatchedTo}
use Rattle.reader_group.specs.Members.{seat_at}
use Rattle.reader_group.specs.Settings.{setting_of, group_at as read_group_at}
use Rattle.writer_group.specs.Parts.{group_at}
use Rattle.session_model.specs.Sets.{meta_in}
use Rattle.gateway_core.specs.Sources.{HaveSources, IsSourceOf}

-- a reader of the first configuration is the source of a data set
abbrev pub HasSource : Config → MetaData → Type 0
HasSource first meta = (source : ℕ) × IsSourceOf first meta source

-- each data set of the second configuration has one
abbrev pub AreSourced : Config → Config → Type 0
AreSourced first second = (sources : List ℕ) × HaveSources first second sources

-- this is the first data set of the second configuration that has none
pub record IsUnsourced (first second : Config) (set : ℕ) : Type 0 where
  pub there : set < length second.dataset
  pub none : HasSource first (meta_in second.dataset set) → ⊥
  pub before : (k : ℕ) → k < set → HasSource first (meta_in second.dataset k)

-- ---- filters

-- the read group's filter takes the group's id, version and class id
pub record AsksFor (group : GroupPart) (readers : ReadGroupPart) : Type 0 where
  pub group_id : (readers.group ≡ group.id) ⊎ ((readers.group ≡ 0) × (readers.layout ≡ layouts.Dynamic))
  pub version : (readers.version ≡ 0) ⊎ (readers.version ≡ group.version)
  pub class_id : (readers.class_id ≡ None) ⊎ (readers.class_id ≡ group.class_id)

-- the reader has the writer's id and data set, and in a fixed layout its slot
pub record IsRead (layout : Layout) (writer : WriterPart) (reader : ReaderPart) : Type 0 where
  pub id : reader.writer ≡ writer.id
  pub dataset : reader.dataset ≡ writer.dataset
  pub offset : is_fixed layout ≡ true → reader.offset ≡ writer.offset
  pub size : is_fixed layout ≡ true → reader.size ≡ writer.size

-- ---- readers by their places

-- two data sets have the same fields, major version and quality
pub record AreAlike (own meta : MetaData) : Type 0 where
  pub fields : own.fields ≡ meta.fields
  pub major : own.major ≡ meta.major
  pub quality : own.quality ≡ meta.quality

-- the reader has the data set's name, and goes by the numbers of messages
pub record IsNamed (reader : ReaderPart) (meta : MetaData) : Type 0 where
  pub name : reader.name ≡ meta.name
  pub numbering : reader.numbering ≡ words.Message

-- the reader is matched to some writer
pub record IsMatchedSomewhere (config : Config) (r i : ℕ) : Type 0 where
  pub group : ℕ
  pub writer : ℕ
  pub there : group < length config.group
  pub matched : IsMatchedTo config (read_group_at config r) i (group_at config group) writer

-- the reader with index i of the read group r is the data set's source
pub record IsSourceAt (first : Config) (r i : ℕ) (meta : MetaData) : Type 0 where
  pub named : IsNamed (seat_at (setting_of first r).seats i).part meta
  pub alike : AreAlike (seat_at (setting_of first r).seats i).meta meta
  pub matched : IsMatchedSomewhere first r i

abbrev pub HasSourceIn : Config → ℕ → MetaData → Type 0
HasSourceIn first r meta = (i : ℕ) × (i < length (read_group_at first r).reader) × IsSourceAt first r i meta
