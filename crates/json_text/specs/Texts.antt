-- The text of the command: a line for each message in the JSON mapping, one for each reader, and how many lines there are.
use Rattle.std.specs.Prelude.{◌≡◌, ℕ, List, ◌++◌, length, codes, flat_map, Option, Some, None}
use Rattle.std.specs.Fmt.{decimal}
use Rattle.dataset_meta.specs.declared.field.Field.{Field}
use Rattle.dataset_meta.specs.DataValues.{DataValue}
use Rattle.dataset_reader.specs.Kept.{Kept}
use Rattle.ps_config.specs.declared.parts.Config.{Config}
use Rattle.ps_config.specs.declared.parts.ReaderPart.{ReaderPart}
use Rattle.ps_report.specs.Lines.{feed, fields_text, number_or_dash, waits_text}
use Rattle.ps_report.specs.Reports.{end_line}
use Rattle.json_frames.specs.Parts.{Part, meta_at}
use Rattle.json_text.specs.Matching.{json_readers}
use Rattle.json_text.specs.Reading.{ReadsLines}
use Rattle.json_text.specs.Readers.{kept_for}

-- each line ends with a line feed
abbrev pub lines_text : List (List ℕ) → List ℕ
lines_text lines = flat_map (λ line. line ++ feed) lines

-- ` number N:`
abbrev pub number_text : Option ℕ → List ℕ
number_text number = codes " number " ++ number_or_dash number ++ codes ":"

-- ` number N: F=X ..` where a row is kept, else ` waits WHY`
abbrev pub row_text : List Field → Kept → Option (List DataValue) → List ℕ
row_text fields kept None = waits_text kept.why
row_text fields kept (Some row) = number_text kept.number ++ fields_text fields row

abbrev pub kept_text : List Field → Kept → List ℕ
kept_text fields kept = row_text fields kept kept.row

-- `jsonreader NAME number N: F=X ..` or `jsonreader NAME waits WHY`
unfoldable pub reader_line : Config → List Part → ReaderPart → List ℕ
reader_line config parts reader =
    codes "jsonreader " ++ reader.name ++ kept_text (meta_at config.dataset reader.dataset).fields (kept_for config parts reader)
    ++ feed

abbrev pub readers_text : Config → List Part → List ReaderPart → List ℕ
readers_text config parts readers = flat_map (reader_line config parts) readers

-- `json lines A skipped B`
unfoldable pub count_line : ℕ → ℕ → List ℕ
count_line lines skipped = codes "json lines " ++ decimal lines ++ codes " skipped " ++ decimal skipped ++ feed

-- the lines, what the readers keep of the parts that are read of them, and the numbers of the lines and of the datagrams without one
abbrev pub json_text : Config → List (List ℕ) → List Part → ℕ → List ℕ
json_text config lines parts skipped =
    lines_text lines ++ readers_text config parts (json_readers config) ++ count_line (length lines) skipped ++ end_line

-- the text tells these lines, and what is kept of the parts that are read of them
pub record TellsLines (config : Config) (lines : List (List ℕ)) (skipped : ℕ) (text : List ℕ) : Type 0 where
  pub parts : List Part
  pub read : ReadsLines config lines parts
  pub text_is : text ≡ json_text config lines parts skipped
