-- How a DataSetMessage is read: the frame, or the first fault from left to right. Zeros may follow it, as padding.
use Rattle.std.specs.Prelude.{ℕ, ◌==◌, Bool, false, List, Result, Ok, Err, if◌then◌else◌}
use Rattle.std.specs.List.{list_all}
use Rattle.ua_binary.specs.Reading.{◌>>=◌}
use Rattle.dataset_meta.specs.Metas.{MetaData}
use Rattle.frame_codec.specs.declared.fault.FrameFault.{FrameFault}
use Rattle.frame_codec.specs.declared.fault.FrameFault.TheVariants.{Trailing}
use Rattle.frame_codec.specs.declared.front.Front.{Front}
use Rattle.frame_codec.specs.Frames.{Content, Frame}
use Rattle.frame_codec.specs.Fronts.{front_at}
use Rattle.frame_codec.specs.Contents.{is_newer, content_at}

abbrev pub frame_with : Front → Content → Frame
frame_with front content =
    record { number = front.number; major = front.major; minor = front.minor; content = content }

-- the frame whose front this is
unfoldable pub behind_front : MetaData → Front → List ℕ → Result (Frame × List ℕ) FrameFault
behind_front meta front bytes = do
  content ← content_at meta (is_newer meta front.minor) front.encoding front.kind bytes
  Ok (frame_with front content.0, content.1)

-- the frame that the bytes begin with, for a data set with this meta, and the bytes behind it
unfoldable pub message_at : MetaData → List ℕ → Result (Frame × List ℕ) FrameFault
message_at meta bytes = do
  front ← front_at false bytes
  behind_front meta front.0 front.1

abbrev pub are_zero : List ℕ → Bool
are_zero bytes = list_all (λ byte. byte == 0) bytes

-- no more than padding is left
abbrev pub ended : Frame × List ℕ → Result Frame FrameFault
ended message = if are_zero message.1 then Ok message.0 else Err Trailing

unfoldable pub frame_at : MetaData → List ℕ → Result Frame FrameFault
frame_at meta bytes = message_at meta bytes >>= ended
