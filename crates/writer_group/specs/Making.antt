-- Making the datagrams of a turn that was planned.
use Rattle.std.specs.Prelude.{◌≡◌, ℕ, ◌+◌, ◌%◌, ◌≤◌, Bool, List, [], ◌∷◌, length, map, nat_lt, All, Option, vec_capacity, vec_len, if◌then◌else◌}
use Rattle.message_guard.specs.Senders.{SenderState}
use Rattle.config_tables.specs.declared.publisher.Publisher.{Publisher}
use Rattle.config_tables.specs.declared.words.Layout.{Layout}
use Rattle.config_tables.specs.declared.words.Layout.TheVariants as layout
use Rattle.ps_config.specs.declared.parts.Config.{Config}
use Rattle.ps_config.specs.declared.parts.GroupPart.{GroupPart}
use Rattle.ps_config.specs.Rooms.{chunk_room}
use Rattle.writer_group.specs.declared.datagrams.Datagrams.{Datagrams}
use Rattle.writer_group.specs.declared.group.Group.{Group}
use Rattle.writer_group.specs.declared.load.Load.{Load}
use Rattle.writer_group.specs.declared.posting.Range.{Range}
use Rattle.ua_binary.specs.Writing.{laid}
use Rattle.writer_group.specs.declared.spelled.Frames.{Frames}
use Rattle.writer_group.specs.declared.load.Load.TheVariants as loads
use Rattle.dataset_meta.specs.Metas.{MetaData}
use Rattle.writer_group.specs.Answering.{AreAnswers}
use Rattle.writer_group.specs.declared.settings.Rooms.{Rooms}
use Rattle.writer_group.specs.Setup.{rooms_of}
use Rattle.writer_group.specs.Payloads.{Spelled}
use Rattle.writer_group.specs.Sealing.{AreWritten, envelope_with}
use Rattle.writer_group.specs.Holding.{AreSpelledIn, CargoValue, frames_at, listed, payload_in}
use Rattle.writer_group.specs.Loading.{IsLoad}
use Rattle.writer_group.specs.Planning.{planned}
use Rattle.writer_group.specs.Posting.{joined, ranges_of, made_of}
use Rattle.writer_group.specs.Standing.{AreWithin, IsMadeFor, IsSenderFor, KeepsRoom, datagrams_in}
use Rattle.writer_group.specs.Limits.{frames_bytes, most_datagrams}

-- what a dynamic turn plans for frames of these sizes
abbrev pub planned_in : Rooms → List ℕ → List Load
planned_in rooms sizes = planned rooms.frame rooms.chunk sizes

abbrev pub planned_for : Publisher → GroupPart → List ℕ → List Load
planned_for publisher part sizes = planned_in (rooms_of publisher part) sizes

-- what a turn plans, by the layout, for frames of these sizes
abbrev pub loads_in : Layout → Rooms → GroupPart → List ℕ → List Load
loads_in layout.Dynamic rooms part sizes = planned_in rooms sizes
loads_in layout.Fixed rooms part sizes = if nat_lt 0 (length part.writer) then loads.Slots ∷ [] else []

abbrev pub loads_by : Layout → Publisher → GroupPart → List ℕ → List Load
loads_by layout publisher part sizes = loads_in layout (rooms_of publisher part) part sizes

abbrev pub loads_for : Publisher → GroupPart → List ℕ → List Load
loads_for publisher part sizes = loads_by part.layout publisher part sizes

-- what datagrams of frames that stand in these bytes carry, and the datagrams with these loads
abbrev pub cargo_from : Config → GroupPart → Group → List ℕ → Frames → CargoValue
cargo_from config part group bytes frames = record {
  frames = frames_at bytes frames;
  room = chunk_room config.publisher.id part;
  start = group.slots.start;
  slots = group.slots.slots;
}

abbrev pub made_from : Config → GroupPart → Option SenderState → Group → List ℕ → Frames → List Load → List (List ℕ)
made_from config part sender group bytes frames loads = made_of (envelope_with config part group.made) sender (cargo_from config part group bytes frames) loads

-- the frames stand in their own bytes
abbrev pub cargo_with : Config → GroupPart → Group → Datagrams → CargoValue
cargo_with config part group out = cargo_from config part group out.spelled.items out.frames

-- the frames of a turn
abbrev pub spelled_in : Datagrams → List Spelled
spelled_in out = frames_at out.spelled.items out.frames

-- they were spelled, and nothing was planned yet
pub record AreSpelled (part : GroupPart) (metas : List MetaData) (out : Datagrams) : Type 0 where
  pub no_loads : out.loads.items ≡ []
  pub no_ranges : out.ranges.items ≡ []
  pub spelled : AreSpelledIn out.spelled.items out.frames
  pub few : length (listed out.frames) ≤ length part.writer
  pub answers : AreAnswers part metas (length part.writer) (spelled_in out)

-- the datagrams that these loads make
abbrev pub made_with : Config → GroupPart → Option SenderState → Group → Datagrams → List (List ℕ)
made_with config part sender group out =
    made_from config part sender group out.spelled.items out.frames out.loads.items

-- the loads are of what the frames are, and the sender has numbers for them
pub record MayMakeOf (config : Config) (part : GroupPart) (sender : Option SenderState) (group : Group) (bytes : List ℕ) (frames : Frames)
    (loads : List Load) : Type 0 where
  pub made_for : IsMadeFor config part group
  pub loads_are : All (IsLoad (cargo_from config part group bytes frames)) loads
  pub few : length loads ≤ most_datagrams
  pub spelled : AreSpelledIn bytes frames
  pub small : length bytes ≤ frames_bytes
  pub frames_few : length (listed frames) ≤ 16
  pub sender_is : IsSenderFor part sender

-- the planned datagrams have room, and the sender has numbers for them
pub record MayMake (config : Config) (part : GroupPart) (sender : Option SenderState) (group : Group) (out : Datagrams) : Type 0 where
  pub within : AreWithin out
  pub none : out.ranges.items ≡ []
  pub left : length out.loads.items ≤ vec_capacity out.ranges
  pub may : MayMakeOf config part sender group out.spelled.items out.frames out.loads.items
  pub room : length (joined (made_with config part sender group out)) ≤ vec_len out.bytes

-- they were made, with headers that can be written, and there is as much room as before
pub record IsPosted (config : Config) (part : GroupPart) (sender : Option SenderState) (group : Group) (out after : Datagrams) : Type 0 where
  pub made : datagrams_in after ≡ made_with config part sender group out
  pub written : AreWritten (envelope_with config part group.made) sender 0 (map (payload_in (cargo_with config part group out)) out.loads.items)
  pub room : KeepsRoom out after

-- the datagrams with these loads, of frames in these bytes, have room in the free bytes, and the sender has numbers for them
pub record MayFill (config : Config) (part : GroupPart) (sender : Option SenderState) (group : Group) (bytes free : List ℕ) (frames : Frames)
    (loads : List Load) : Type 0 where
  pub may : MayMakeOf config part sender group bytes frames loads
  pub room : length (joined (made_from config part sender group bytes frames loads)) ≤ length free

pub record IsFilled (config : Config) (part : GroupPart) (sender : Option SenderState) (group : Group) (bytes free : List ℕ) (frames : Frames)
    (loads : List Load) (after : List ℕ) (ranges : List Range) : Type 0 where
  pub laid_is : after ≡ laid free 0 (joined (made_from config part sender group bytes frames loads))
  pub ranges_are : ranges ≡ ranges_of 0 (made_from config part sender group bytes frames loads)
  pub written : AreWritten (envelope_with config part group.made) sender 0 (map (payload_in (cargo_from config part group bytes frames)) loads)

-- the group after a turn with so many datagrams
abbrev pub passed : ℕ → Bool → ℕ → Group → Group
passed now closing count group =
    record group { made = (group.made + count) % 65536; turned_at = if closing then group.turned_at else now }
