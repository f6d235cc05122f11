-- What a line adds to the parts that are read.
use Rattle.std.specs.Prelude.{◌≡◌, ℕ, List, ◌++◌, All}
use Rattle.ps_config.specs.declared.parts.Config.{Config}
use Rattle.json_frames.specs.declared.message.JsonPart.{JsonPart}
use Rattle.json_frames.specs.Parts.{IsPartOf, parts_in}
use Rattle.json_text.specs.Reading.{ReadsLine}

-- the line is read as the parts that stand after the old ones, each of which can be written again
pub record AddsLine (config : Config) (line : List ℕ) (old new : List JsonPart) : Type 0 where
  pub added : List JsonPart
  pub new_is : new ≡ old ++ added
  pub read : ReadsLine config line (parts_in config.dataset added)
  pub writable : All (IsPartOf config.dataset) added
