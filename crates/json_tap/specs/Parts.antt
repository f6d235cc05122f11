-- What calls answer of what is transcoded.
use Rattle.std.specs.Prelude.{◌≡◌, ℕ, List, IsSome, Option, Some, None}
use Rattle.std.specs.List.{All}
use Rattle.dataset_meta.specs.Metas.{MetaData}
use Rattle.frame_codec.specs.declared.frame.Frame.{Frame as FrameWords}
use Rattle.frame_codec.specs.Frames.{Frame}
use Rattle.frame_codec.specs.Words.{IsFrameOf, frame_in}
use Rattle.ps_config.specs.declared.parts.Config.{Config}
use Rattle.json_frames.specs.declared.message.JsonMessage.{JsonMessage}
use Rattle.json_frames.specs.declared.message.JsonPart.{JsonPart}
use Rattle.json_frames.specs.Parts.{Part, HasVersions, IsPartOf, part_in, parts_in}
use Rattle.json_tap.specs.Transcoding.{Message}

-- the frame that is read, which can be written
abbrev pub IsFrameIf : MetaData → Option FrameWords → Option Frame → Type 0
IsFrameIf meta None read = read ≡ None
IsFrameIf meta (Some frame) read =
    (read ≡ Some (frame_in meta.fields frame)) × IsFrameOf meta frame × IsSome frame.number × HasVersions frame.major frame.minor

abbrev pub IsPartIf : Config → Option JsonPart → Option Part → Type 0
IsPartIf config None read = read ≡ None
IsPartIf config (Some part) read = (read ≡ Some (part_in config.dataset part)) × IsPartOf config.dataset part

abbrev pub ArePartsIf : Config → Option (List JsonPart) → Option (List Part) → Type 0
ArePartsIf config None read = read ≡ None
ArePartsIf config (Some parts) read = (read ≡ Some (parts_in config.dataset parts)) × All (IsPartOf config.dataset) parts

abbrev pub meant : Config → JsonMessage → Message
meant config message = record { publisher = message.publisher; parts = parts_in config.dataset message.parts }

-- the message that is transcoded, with this number
abbrev pub IsMessageIf : Config → ℕ → Option JsonMessage → Option Message → Type 0
IsMessageIf config number None read = read ≡ None
IsMessageIf config number (Some message) read =
    (read ≡ Some (meant config message)) × (message.id ≡ number) × All (IsPartOf config.dataset) message.parts
