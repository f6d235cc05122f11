-- What belongs together: a read group and a group of writers, a reader and a writer, a sender and a key group.
use Rattle.std.specs.Prelude.{◌≡◌, ◌⊎◌, ℕ, ◌+◌, ◌<◌, ◌≤◌, ◌^◌, true, false, List, length, map, Contains, Option, Some, None, IfSome, option_map, slice_index_or}
use Rattle.dataset_meta.specs.Metas.{MetaData, HasGrown}
use Rattle.group_keys.specs.KeySets.{current}
use Rattle.message_guard.specs.Protection.{keys_in, keys_with}
use Rattle.message_guard.specs.Senders.{SenderState, IsSender}
use Rattle.config_tables.specs.declared.words.Layout.TheVariants as layouts
use Rattle.ps_config.specs.declared.parts.Config.{Config}
use Rattle.ps_config.specs.declared.parts.GroupPart.{GroupPart}
use Rattle.ps_config.specs.declared.parts.KeyGroupPart.{KeyGroupPart}
use Rattle.ps_config.specs.declared.parts.ReadGroupPart.{ReadGroupPart}
use Rattle.ps_config.specs.declared.parts.ReaderPart.{ReaderPart}
use Rattle.ps_config.specs.declared.parts.WriterPart.{WriterPart}
use Rattle.ps_config.specs.BuiltIn.{built_in_config, built_in_group}
use Rattle.ps_config.specs.Headers.{is_secured}
use Rattle.ps_config.specs.Rings.{key_set}
use Rattle.ps_config.specs.Rooms.{is_fixed}
use Rattle.ps_config.specs.Sound.{IsKeyGroup, IsSound}
use Rattle.ps_config.specs.Types.{HasKeyGroupTypes, HasTypes}
use Rattle.writer_group.specs.Payloads.{writer_at, meta_at, payloads_of}
use Rattle.writer_group.specs.Sealing.{AreWritten}
use Rattle.writer_group.specs.Turning.{CanGiveFronts, HasHeaderTypes}
use Rattle.writer_group.specs.Turns.{GroupDeed, TurnInput, envelope_of, frames_in}
use Rattle.reader_group.specs.Members.{no_seat, seat_at}
use Rattle.reader_group.specs.Settings.{keygroup_at, setting_by, token_keys}

-- the read group asks for the program's publisher, for the group's id or in a dynamic layout for any, for its version and class id or for any, and has
-- its layout, security and key group
pub record IsMatched (config : Config) (group : GroupPart) (readers : ReadGroupPart) : Type 0 where
  pub publisher : readers.publisher ≡ config.publisher.id
  pub group_id : (readers.group ≡ group.id) ⊎ ((readers.group ≡ 0) × (readers.layout ≡ layouts.Dynamic))
  pub version : (readers.version ≡ 0) ⊎ (readers.version ≡ group.version)
  pub class_id : (readers.class_id ≡ None) ⊎ (readers.class_id ≡ group.class_id)
  pub layout : readers.layout ≡ group.layout
  pub security : readers.security ≡ group.security
  pub keygroup : readers.keygroup ≡ group.keygroup

-- the reader has the id and the data set of the writer with this index in the group; in a fixed layout its slot is the writer's
pub record ReadsWriter (group : GroupPart) (writer : ℕ) (reader : ReaderPart) : Type 0 where
  pub within : writer < length group.writer
  pub id : reader.writer ≡ (writer_at group writer).id
  pub dataset : reader.dataset ≡ (writer_at group writer).dataset
  pub offset : is_fixed group.layout ≡ true → reader.offset ≡ (writer_at group writer).offset
  pub size : is_fixed group.layout ≡ true → reader.size ≡ (writer_at group writer).size

-- the reader with this index in the read group
abbrev pub reader_at : ReadGroupPart → ℕ → ReaderPart
reader_at readers reader = slice_index_or readers.reader reader no_seat.part

-- the reader with this index in the read group is matched to the writer with this index in the group
pub record IsMatchedTo (config : Config) (readers : ReadGroupPart) (reader : ℕ) (group : GroupPart) (writer : ℕ) : Type 0 where
  pub groups : IsMatched config group readers
  pub within : reader < length readers.reader
  pub reads : ReadsWriter group writer (reader_at readers reader)

-- fields were appended to a writer's data set after this meta, and its frames tell it by a greater minor version
pub record HasGrownSince (writer : WriterPart) (before now : MetaData) : Type 0 where
  pub fields : HasGrown before now
  pub versions : writer.versions ≡ true
  pub minor : before.minor < now.minor

-- the frames of the writer with this index, which has one of these metas, can be read with this meta: it is the writer's own, or what that was before fields
-- were appended
abbrev pub ReadsFrames : GroupPart → List MetaData → ℕ → MetaData → Type 0
ReadsFrames group metas writer meta =
    (meta ≡ meta_at group metas writer) ⊎ HasGrownSince (writer_at group writer) meta (meta_at group metas writer)

-- the sender has a key set of the key group, and its first block counter
pub record IsSenderOf (ring : KeyGroupPart) (s : SenderState) : Type 0 where
  pub sender_is : IsSender s
  pub keys : keys_with (map token_keys ring.key) s.keys.token ≡ Some s.keys
  pub first_block : s.first_block ≡ ring.first_block

-- the sender was made of the key group's ring, and has the keys of a moment
pub record IsRingSender (ring : KeyGroupPart) (now : ℕ) (s : SenderState) : Type 0 where
  pub sender_is : IsSender s
  pub sets : s.sets ≡ map key_set ring.key
  pub keys : option_map keys_in (current s.sets now) ≡ Some s.keys
  pub first_block : s.first_block ≡ ring.first_block

-- a group that isn't secured has no sender; one that is has one of its key group, with so many numbers left
abbrev pub MaySend : Config → GroupPart → ℕ → Option SenderState → Type 0
MaySend config group count None = is_secured group.security ≡ false
MaySend config group count (Some s) =
    (is_secured group.security ≡ true) × (s.used + count < 2 ^ 32)
    × IfSome group.keygroup (λ index. IsSenderOf (keygroup_at config index) s)

-- a turn of a group of a sound configuration, after these deeds, with numbers left for its datagrams and headers that can be written
pub record IsGroupTurn (config : Config) (group : GroupPart) (past : List GroupDeed) (input : TurnInput) : Type 0 where
  pub sound : IsSound config
  pub group_is : Contains config.group group
  pub on : length input.on ≤ length group.writer
  pub sender : MaySend config group (length (payloads_of config group (frames_in group past input))) input.sender
  pub written : AreWritten (envelope_of config group past) input.sender 0 (payloads_of config group (frames_in group past input))

-- ---- the laws of it

-- the reader that is matched to a writer reads that writer
abbrev pub ReadsItsWriter : Config → Type 0
ReadsItsWriter config =
    (readers : ReadGroupPart) (reader : ℕ) (group : GroupPart) (writer : ℕ)
    → IsMatchedTo config readers reader group writer
    → ReadsWriter group writer (seat_at (setting_by config readers).seats reader).part

-- the reader that is matched to a writer has the meta that the writer's data set has in the configuration
abbrev pub HasItsMeta : Config → Type 0
HasItsMeta config =
    (readers : ReadGroupPart) (reader : ℕ) (group : GroupPart) (writer : ℕ)
    → IsMatchedTo config readers reader group writer
    → (seat_at (setting_by config readers).seats reader).meta ≡ meta_at group config.dataset writer

-- a meta that the frames of a writer of the group can be read with has the major version that they have
abbrev pub HasTheirMajor : GroupPart → Type 0
HasTheirMajor group =
    (metas : List MetaData) (writer : ℕ) (meta : MetaData) → ReadsFrames group metas writer meta
    → meta.major ≡ (meta_at group metas writer).major

-- a sender that was made of the key group's ring, and has the keys of whichever moment, is a sender of the key group
abbrev pub MakesItsSenders : KeyGroupPart → Type 0
MakesItsSenders ring =
    (now : ℕ) (s : SenderState) → IsKeyGroup ring → IsRingSender ring now s → IsSenderOf ring s

-- any turn of the built-in group in which it has no sender is one that the laws speak of
abbrev pub IsBuiltInTurn : List GroupDeed → TurnInput → Type 0
IsBuiltInTurn past input =
    length input.on ≤ 1 → input.sender ≡ None → IsGroupTurn built_in_config built_in_group past input

-- ---- what follows from the types of a configuration

-- A turn of a group of a configuration that was read, after these deeds, with numbers left for its datagrams. That their headers can be written isn't asked.
pub record IsAllowedTurn (config : Config) (group : GroupPart) (past : List GroupDeed) (input : TurnInput) : Type 0 where
  pub sound : IsSound config
  pub types : HasTypes config
  pub group_is : Contains config.group group
  pub on : length input.on ≤ length group.writer
  pub sender : MaySend config group (length (payloads_of config group (frames_in group past input))) input.sender

-- each turn of a group of the configuration that is allowed is one that the laws speak of
abbrev pub AllowsGroupTurns : Config → Type 0
AllowsGroupTurns config =
    (group : GroupPart) (past : List GroupDeed) (input : TurnInput) → IsAllowedTurn config group past input
    → IsGroupTurn config group past input

-- the headers of each group of the configuration have what their types say, where the configuration has
abbrev pub GivesHeaderTypes : Config → Type 0
GivesHeaderTypes config =
    (group : GroupPart) → HasTypes config → Contains config.group group → HasHeaderTypes config group

-- the fronts of a sender of the key group have what their types say, where the key group has
abbrev pub GivesFronts : KeyGroupPart → Type 0
GivesFronts ring = (s : SenderState) → HasKeyGroupTypes ring → IsSenderOf ring s → CanGiveFronts s
