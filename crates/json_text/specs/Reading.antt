-- What is read of the lines of a session.
use Rattle.std.specs.Prelude.{◌≡◌, ℕ, List, [], ◌∷◌, ◌++◌, flat_map}
use Rattle.ps_config.specs.declared.parts.Config.{Config}
use Rattle.json_frames.specs.declared.message.JsonRead.{JsonRead}
use Rattle.json_frames.specs.Documents.{IsRead}
use Rattle.json_frames.specs.Parts.{Part, parts_in}
use Rattle.json_tap.specs.Transcoding.{Message, sets_of}

-- a line is read as these parts, by the data sets of the configuration's writers
abbrev pub ReadsLine : Config → List ℕ → List Part → Type 0
ReadsLine config line parts =
    (found : JsonRead) × IsRead config.dataset (sets_of config) line found × (parts ≡ parts_in config.dataset found.parts)

-- the lines are read as these parts, in their order
abbrev pub ReadsLines : Config → List (List ℕ) → List Part → Type 0
ReadsLines config [] parts = parts ≡ []
ReadsLines config (line ∷ lines) parts =
    (first : List Part) × (rest : List Part) × ReadsLine config line first × ReadsLines config lines rest
    × (parts ≡ first ++ rest)

-- the parts of messages, in order
abbrev pub parts_of : List Message → List Part
parts_of messages = flat_map (λ message. message.parts) messages
