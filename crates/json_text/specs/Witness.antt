-- A datagram of the built-in configuration's writer, the message that is transcoded of it, and the message's line.
use Rattle.std.specs.Prelude.{ℕ, List, [], ◌∷◌, ◌++◌, codes, Some, None}
use Rattle.ua_values.specs.declared.value.Value.TheVariants.{UInt32}
use Rattle.dataset_meta.specs.DataValues.{DataValue}
use Rattle.frame_codec.specs.Frames.{Frame, Whole}
use Rattle.json_frames.specs.Parts.{Part}
use Rattle.json_tap.specs.Transcoding.{Message}

-- a header with the writer's id, and a key frame with the number 0 and four values, of which the first is 7
abbrev pub small_datagram : List ℕ
small_datagram =
    (113 ∷ 5 ∷ 9 ∷ 1 ∷ 0 ∷ 0 ∷ 0 ∷ 1 ∷ 1 ∷ 0 ∷ [])
    ++ (9 ∷ 0 ∷ 0 ∷ 4 ∷ 0 ∷ 7 ∷ 7 ∷ 0 ∷ 0 ∷ 0 ∷ 7 ∷ 0 ∷ 0 ∷ 0 ∷ 0 ∷ 7 ∷ 0 ∷ 0 ∷ 0 ∷ 0 ∷ 7 ∷ 0 ∷ 0 ∷ 0 ∷ 0 ∷ [])

abbrev pub number_value : ℕ → DataValue
number_value n = record { value = UInt32 n; status = 0 }

-- the row a=7 b=0 c=0 d=0
abbrev pub small_row : List DataValue
small_row = number_value 7 ∷ number_value 0 ∷ number_value 0 ∷ number_value 0 ∷ []

abbrev pub small_frame : Frame
small_frame = record { number = Some 0; major = None; minor = None; content = Whole small_row }

abbrev pub small_part : Part
small_part = record { writer = 1; set = 0; frame = small_frame }

abbrev pub small_message : Message
small_message = record { publisher = codes "5"; parts = small_part ∷ [] }

-- its line
abbrev pub small_line : List ℕ
small_line =
    codes "{\"MessageId\":\"0\",\"MessageType\":\"ua-data\",\"Messages\":[{\"DataSetWriterId\":1,\"MessageType\":\"ua-keyframe\","
    ++ codes "\"Payload\":{\"a\":7,\"b\":0,\"c\":0,\"d\":0},\"SequenceNumber\":0}],\"PublisherId\":\"5\"}"
