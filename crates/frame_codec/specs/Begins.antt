-- What bytes begin with, or are.
use Rattle.std.specs.Prelude.{◌≡◌, ℕ, Bool, true, List, ◌++◌, replicate, if◌then◌else◌}
use Rattle.dataset_meta.specs.Metas.{MetaData}
use Rattle.frame_codec.specs.declared.front.Front.{Front}
use Rattle.frame_codec.specs.Frames.{Frame}
use Rattle.frame_codec.specs.Spelling.{is_key}
use Rattle.frame_codec.specs.Wire.{WireFront, IsWireFront, wire_front_bytes, front_read, WireFrame, IsWireFrame, wire_bytes, frame_read}

-- a front that tells this stands in front of this rest
pub record BeginsWithFront (fixed : Bool) (bytes : List ℕ) (front : Front)
    (rest : List ℕ) : Type 0 where
  pub wire : WireFront
  pub is_wire : IsWireFront fixed wire
  pub meaning : front_read wire ≡ front
  pub split : bytes ≡ wire_front_bytes wire ++ rest

-- a message that is this frame, and zeros
pub record IsSpelled (meta : MetaData) (bytes : List ℕ) (frame : Frame) : Type 0 where
  pub wire : WireFrame
  pub is_wire : IsWireFrame meta wire
  pub meaning : frame_read meta wire ≡ frame
  pub zeros : ℕ
  pub split : bytes ≡ wire_bytes wire ++ replicate zeros 0

-- what the front of a frame with RawData tells
abbrev pub raw_front : Frame → Front
raw_front frame = record {
  valid = true;
  encoding = 1;
  kind = if is_key frame.content then 0 else 3;
  number = frame.number;
  major = frame.major;
  minor = frame.minor;
}
