-- What private steps of writing and reading say.
use Rattle.std.specs.Prelude.{◌≡◌, ℕ, ◌==◌, List, Bool, Option, Some, None, Result, Ok, Err, option_map, length}
use Rattle.std.specs.List.{All}
use Rattle.serde_json.specs.Data.{Data, Items}
use Rattle.serde_json.specs.View.{view}
use Rattle.serde_json.specs.declared.value.Value.{Value as Json}
use Rattle.dataset_meta.specs.Metas.{MetaData}
use Rattle.dataset_meta.specs.DataValues.{DataValue}
use Rattle.row_words.specs.declared.patch.Patch.{Patch}
use Rattle.row_words.specs.Patches.{IsPatchOf, patch_in}
use Rattle.frame_codec.specs.declared.frame.Frame.{Frame as FrameWords}
use Rattle.frame_codec.specs.declared.frame.FrameKind.{FrameKind}
use Rattle.frame_codec.specs.Frames.{Content, Frame}
use Rattle.frame_codec.specs.Words.{content_in, frame_in, IsKindOf, IsFrameOf}
use Rattle.json_frames.specs.declared.message.JsonPart.{JsonPart}
use Rattle.json_frames.specs.declared.reading.Element.{Element}
use Rattle.json_frames.specs.declared.reading.Element.TheVariants.{Other, Gives, Bad}
use Rattle.json_frames.specs.declared.json_end.JsonEnd.{JsonEnd}
use Rattle.json_frames.specs.declared.json_end.JsonEnd.TheVariants.{NotJson, Memory}
use Rattle.json_frames.specs.Parts.{meta_at, part_in, parts_in, IsPartOf}
use Rattle.json_frames.specs.Documents.{value_of, counted}
use Rattle.json_frames.specs.Reading.{HasPayload, HasContent, GivesFrame, IsOther, GivesPart, IsBad, ReadAs}

-- what an element of the messages is
abbrev pub IsElement : List MetaData → List (ℕ × ℕ) → Data → Element → Type 0
IsElement metas sets d Other = IsOther sets d
IsElement metas sets d (Gives part) =
    GivesPart metas sets d (part_in metas part) × IsFrameOf (meta_at metas part.set) part.frame
IsElement metas sets d Bad = IsBad metas sets d

-- the value that a call made, where it made one
abbrev pub view_if : Option Json → Option Data
view_if made = option_map view made

-- whether a payload is read: as the changes of a patch, and whether these are all fields
abbrev pub IsPayload : MetaData → Data → Option (Patch × Bool) → Type 0
IsPayload meta element None = (changes : List (ℕ × DataValue)) → ¬ HasPayload meta element changes
IsPayload meta element (Some found) =
    IsPatchOf meta found.0 × HasPayload meta element (patch_in meta.fields found.0)
    × (found.1 ≡ (length (patch_in meta.fields found.0) == length meta.fields))

-- whether the content of an element is read
abbrev pub IsContentRead : MetaData → Data → Option FrameKind → Type 0
IsContentRead meta element None = (content : Content) → ¬ HasContent meta element content
IsContentRead meta element (Some kind) =
    IsKindOf meta kind × HasContent meta element (content_in meta.fields kind)

-- whether the frame of an element is read
abbrev pub IsFrameRead : MetaData → Data → Option FrameWords → Type 0
IsFrameRead meta element None = (frame : Frame) → ¬ GivesFrame meta element frame
IsFrameRead meta element (Some frame) =
    IsFrameOf meta frame × GivesFrame meta element (frame_in meta.fields frame)

-- whether bytes are JSON
abbrev pub Parses : List ℕ → Result Json JsonEnd → Type 0
Parses bytes (Ok json) = value_of bytes ≡ Some (view json)
Parses bytes (Err NotJson) = value_of bytes ≡ None
Parses bytes (Err Memory) = Unit {0}
Parses bytes (Err end) = ⊥

-- what the elements of the messages are read as
abbrev pub IsPartsRead : List MetaData → List (ℕ × ℕ) → Items → List JsonPart → ℕ → Type 0
IsPartsRead metas sets items parts count =
    (bad : ℕ) × (count ≡ counted bad) × ReadAs metas sets items (parts_in metas parts) bad
    × All (IsPartOf metas) parts
