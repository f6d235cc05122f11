-- The frame that carries a model frame, with the configuration version where frames have it (OPC 10000-14 7.2.4.5, DataSetMessage).
use Rattle.std.specs.Prelude.{ℕ, Bool, Option, Some, None, if◌then◌else◌}
use Rattle.pubsub_model.specs.Frames.{PlacedFrame, carried}
use Rattle.pubsub_model.specs.Frames as model
use Rattle.frame_codec.specs.Frames.{Content, Whole, Change, Alive, Frame}

abbrev pub content_of : PlacedFrame → Content
content_of (model.Whole place row) = Whole row
content_of (model.Change place patch) = Change patch
content_of (model.Alive next) = Alive

-- a part of the configuration version, where frames carry it
abbrev pub version_if : Bool → ℕ → Option ℕ
version_if versions part = if versions then Some part else None

-- a frame with its number and, where frames carry it, the configuration version
abbrev pub frame_of : Bool → ℕ → ℕ → PlacedFrame → Frame
frame_of versions major minor placed =
    record {
      number = Some (carried placed);
      major = version_if versions major;
      minor = version_if versions minor;
      content = content_of placed;
    }
