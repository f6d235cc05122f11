-- What holds of every accepted configuration.
use Rattle.std.specs.Prelude.{◌≡◌, ◌≢◌, ◌⊎◌, ℕ, ◌<◌, ◌≤◌, Bool, false, List, ◌∷◌, ◌++◌, length, map, flat_map, codes, is_some, slice_index, All, AllPairs, Option, IfSome}
use Rattle.std.specs.List.Sorted.{IsStrictlyIncreasing}
use Rattle.dataset_meta.specs.Metas.{IsMeta}
use Rattle.group_keys.specs.KeySets.{encrypting_length}
use Rattle.ps_config.specs.declared.parts.Config.{Config}
use Rattle.ps_config.specs.declared.parts.KeyGroupPart.{KeyGroupPart}
use Rattle.ps_config.specs.declared.parts.GroupPart.{GroupPart}
use Rattle.ps_config.specs.declared.parts.WriterPart.{WriterPart}
use Rattle.ps_config.specs.declared.parts.ReadGroupPart.{ReadGroupPart}
use Rattle.ps_config.specs.declared.parts.ReaderPart.{ReaderPart}
use Rattle.ps_config.specs.Configs.{is_long}
use Rattle.ps_config.specs.Headers.{is_secured, IsShortId}
use Rattle.ps_config.specs.Rooms.{lacks_room}

-- none stands twice
abbrev pub AreDistinct : {X : Type 0} → List X → Type 0
AreDistinct items = AllPairs (λ one other. one ≢ other) items

-- from the first to the second
abbrev pub IsWithin : ℕ → ℕ → ℕ → Type 0
IsWithin least most n = (least ≤ n) × (n ≤ most)

abbrev pub tokens : KeyGroupPart → List ℕ
tokens group = map (λ key. key.token) group.key

abbrev pub moments : KeyGroupPart → List ℕ
moments group = map (λ key. key.from) group.key

-- the keys of a group make a ring: one or more, the first from moment 0, tokens and moments rise
pub record IsKeyGroup (group : KeyGroupPart) : Type 0 where
  pub has_key : 0 < length group.key
  pub few : length group.key ≤ 16
  pub first_at_zero : slice_index (moments group) 0 ≡ 0
  pub tokens_rise : IsStrictlyIncreasing (tokens group)
  pub moments_rise : IsStrictlyIncreasing (moments group)
  pub lengths_fit : All (λ key. length key.encrypting ≡ encrypting_length (is_long group.policy)) group.key

-- a group has a key group where it is secured, and that is there
pub record IsKeyed (config : Config) (secured : Bool) (keygroup : Option ℕ) : Type 0 where
  pub keyed : secured ≡ is_some keygroup
  pub there : IfSome keygroup (λ index. index < length config.keygroup)

pub record IsWriter (config : Config) (group : GroupPart) (writer : WriterPart) : Type 0 where
  pub id : IsWithin 1 65535 writer.id
  pub dataset : writer.dataset < length config.dataset
  pub key_frame_count : IsWithin 1 65535 writer.key_frame_count
  pub keep_alive : (writer.keep_alive ≡ 0) ⊎ (group.interval ≤ writer.keep_alive)
  pub keep_alive_most : writer.keep_alive ≤ 3600000
  pub offset : writer.offset ≤ 65000
  pub size : writer.size ≤ 65000

pub record IsGroup (config : Config) (group : GroupPart) : Type 0 where
  pub id : IsWithin 1 65535 group.id
  pub interval : IsWithin 1 3600000 group.interval
  pub max_size : IsWithin 128 65000 group.max_size
  pub keys : IsKeyed config (is_secured group.security) group.keygroup
  pub room : lacks_room config.publisher.id config.dataset group ≡ false
  pub writers : All (IsWriter config group) group.writer

pub record IsReader (config : Config) (reader : ReaderPart) : Type 0 where
  pub writer : IsWithin 1 65535 reader.writer
  pub dataset : reader.dataset < length config.dataset
  pub timeout : reader.timeout ≤ 3600000
  pub offset : reader.offset ≤ 65000
  pub size : reader.size ≤ 65000

-- the writers' ids that a group's readers read, one each
abbrev pub read_ids : ReadGroupPart → List ℕ
read_ids group = map (λ reader. reader.writer) group.reader

pub record IsReadGroup (config : Config) (group : ReadGroupPart) : Type 0 where
  pub publisher : IsShortId group.publisher
  pub keys : IsKeyed config (is_secured group.security) group.keygroup
  pub readers : All (IsReader config) group.reader
  pub one_reader : AreDistinct (read_ids group)

-- the writers of all groups, in order
abbrev pub writers : Config → List WriterPart
writers config = flat_map (λ group. group.writer) config.group

-- the readers of all read groups, in order
abbrev pub readers : Config → List ReaderPart
readers config = flat_map (λ group. group.reader) config.readgroup

abbrev pub writer_ids : Config → List ℕ
writer_ids config = map (λ writer. writer.id) (writers config)

abbrev pub group_ids : Config → List ℕ
group_ids config = map (λ group. group.id) config.group

-- the names of components (OPC 10000-14 6.2.1, PubSubState): a group's before its writers', a read group's before its readers'
abbrev pub group_names : GroupPart → List (List ℕ)
group_names group = group.name ∷ map (λ writer. writer.name) group.writer

abbrev pub read_group_names : ReadGroupPart → List (List ℕ)
read_group_names group = group.name ∷ map (λ reader. reader.name) group.reader

-- the two that aren't in the document are first
abbrev pub component_names : Config → List (List ℕ)
component_names config =
    codes "root" ∷ codes "connection" ∷ flat_map group_names config.group ++ flat_map read_group_names config.readgroup

abbrev pub data_set_names : Config → List (List ℕ)
data_set_names config = map (λ meta. meta.name) config.dataset

abbrev pub key_group_names : Config → List (List ℕ)
key_group_names config = map (λ group. group.name) config.keygroup

-- no more of each than there may be
pub record IsFew (config : Config) : Type 0 where
  pub datasets : length config.dataset ≤ 8
  pub keygroups : length config.keygroup ≤ 4
  pub groups : length config.group ≤ 4
  pub readgroups : length config.readgroup ≤ 4
  pub writers : length (writers config) ≤ 16
  pub readers : length (readers config) ≤ 16

pub record IsSound (config : Config) : Type 0 where
  pub publisher : IsShortId config.publisher.id
  pub few : IsFew config
  pub metas : All (λ meta. IsMeta meta.fields) config.dataset
  pub keygroups : All IsKeyGroup config.keygroup
  pub groups : All (IsGroup config) config.group
  pub readgroups : All (IsReadGroup config) config.readgroup
  pub one_group : AreDistinct (group_ids config)
  pub one_writer : AreDistinct (writer_ids config)
  pub one_component : AreDistinct (component_names config)
  pub one_data_set : AreDistinct (data_set_names config)
  pub one_key_group : AreDistinct (key_group_names config)
