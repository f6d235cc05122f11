-- Which loads the datagrams of a turn may have.
use Rattle.std.specs.Prelude.{◌≡◌, ℕ, ◌*◌, ◌+◌, ◌<◌, ◌≤◌, List, length}
use Rattle.fixed_layout.specs.Slots.{AreApart}
use Rattle.fixed_layout.specs.Datagrams.{AreFrames}
use Rattle.writer_group.specs.declared.laying.Cargo.{Cargo}
use Rattle.writer_group.specs.declared.load.Load.{Load}
use Rattle.writer_group.specs.declared.load.Load.TheVariants as loads
use Rattle.writer_group.specs.Payloads.{in_slots}
use Rattle.writer_group.specs.Holding.{AreSpelledIn, CargoValue, frame_at, listed}
use Rattle.writer_group.specs.Limits.{frames_bytes}

pub record IsCargo (cargo : Cargo) : Type 0 where
  pub spelled : AreSpelledIn cargo.bytes.now cargo.frames.now
  pub few : length (listed cargo.frames.now) ≤ 16
  pub small : length cargo.bytes.now ≤ frames_bytes

pub record AreSomeFrames (cargo : CargoValue) (first count : ℕ) : Type 0 where
  pub some : 0 < count
  pub within : first + count ≤ length cargo.frames

pub record IsChunkOf (cargo : CargoValue) (frame index : ℕ) : Type 0 where
  pub within : frame < length cargo.frames
  pub room : 1 ≤ cargo.room
  pub begins : index * cargo.room < length (frame_at cargo frame).bytes

pub record AreInSlots (cargo : CargoValue) : Type 0 where
  pub apart : AreApart cargo.start cargo.slots
  pub frames : AreFrames cargo.slots (in_slots cargo.frames)

abbrev pub IsLoad : CargoValue → Load → Type 0
IsLoad cargo (loads.Frames first count) = AreSomeFrames cargo first count
IsLoad cargo (loads.Chunk frame index) = IsChunkOf cargo frame index
IsLoad cargo loads.Slots = AreInSlots cargo

-- the header of a fixed datagram is as long as its slots leave room for
abbrev pub HasHeaderOf : CargoValue → Load → List ℕ → Type 0
HasHeaderOf cargo (loads.Frames first count) header = Unit {0}
HasHeaderOf cargo (loads.Chunk frame index) header = Unit {0}
HasHeaderOf cargo loads.Slots header = length header ≡ cargo.start
