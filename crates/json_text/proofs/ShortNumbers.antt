-- The frames that are read of lines have numbers of 16 bits.
use Rattle.std.proofs.Common.{inl, inr, ℕ, ◌%◌, ◌<◌, List, [], ◌∷◌, ◌++◌, reverse, Bool, true, false, cond, Option, Some, None, sym, subst, arith}
use Rattle.std.specs.Prelude.{◌^◌, IfSome, option_map, ⊤}
use Rattle.std.specs.List.{cons_option, filter_map}
use Rattle.std.proofs.lemmas.List.{reverse-append}
use Rattle.serde_json.specs.Data.{Data, Items, item, no_items}
use Rattle.dataset_meta.specs.Metas.{MetaData}
use Rattle.frame_codec.specs.Frames.{Frame}
use Rattle.dataset_reader.specs.Keeping.{AreShort, Event, Framed}
use Rattle.ps_config.specs.declared.parts.Config.{Config}
use Rattle.ps_config.specs.declared.parts.ReaderPart.{ReaderPart}
use Rattle.json_frames.specs.Parts.{Part, parts_in}
use Rattle.json_frames.specs.Reading.{GivesFrame, ReadAs}
use Rattle.json_tap.specs.Transcoding.{sets_of}
use Rattle.json_text.specs.Reading.{ReadsLine, ReadsLines}
use Rattle.json_text.specs.Readers.{brought, came, is_for}

abbrev IsShort : Option ℕ → Type 0
IsShort number = IfSome number (λ n. n < 2 ^ 16)

abbrev AreShortParts : List Part → Type 0
AreShortParts [] = ⊤
AreShortParts (part ∷ parts) = IsShort part.frame.number × AreShortParts parts

short_of : (number : Option ℕ) → IsShort (option_map (λ n. n % 2 ^ 16) number)
short_of None = tt
short_of (Some n) = omega arith

frame_short : (meta : MetaData) (element : Data) (frame : Frame) → GivesFrame meta element frame → IsShort frame.number
frame_short meta element frame gives = subst IsShort (sym gives.number) (short_of _)

parts_short : (metas : List MetaData) (sets : List (ℕ × ℕ)) (items : Items) (parts : List Part) (bad : ℕ) → ReadAs metas sets items parts bad → AreShortParts parts
parts_short metas sets no_items parts bad read = subst AreShortParts (sym read.0) tt
parts_short metas sets (item d ds) parts bad (inl other) = parts_short metas sets ds parts bad other.1
parts_short metas sets (item d ds) parts bad (inr (inl gives)) =
    subst AreShortParts (sym gives.2) (frame_short _ d gives.0.frame gives.3.frame, parts_short metas sets ds gives.1 bad gives.4)
parts_short metas sets (item d ds) parts bad (inr (inr none)) = parts_short metas sets ds parts none.0 none.3

short_append : (one other : List Part) → AreShortParts one → AreShortParts other → AreShortParts (one ++ other)
short_append [] other first second = second
short_append (part ∷ one) other first second = (first.0, short_append one other first.1 second)

line_short : (config : Config) (line : List ℕ) (parts : List Part) → ReadsLine config line parts → AreShortParts parts
line_short config line parts read =
    subst AreShortParts (sym read.2) (parts_short config.dataset (sets_of config) read.1.items (parts_in config.dataset read.0.parts) read.1.bad read.1.parts)

lines_short : (config : Config) (lines : List (List ℕ)) (parts : List Part) → ReadsLines config lines parts → AreShortParts parts
lines_short config [] parts read = subst AreShortParts (sym read) tt
lines_short config (line ∷ lines) parts read =
    subst AreShortParts (sym read.4) (short_append read.0 read.1 (line_short config line read.0 read.2) (lines_short config lines read.1 read.3))

short_reverse : (parts : List Part) → AreShortParts parts → AreShortParts (reverse parts)
short_reverse [] short = tt
short_reverse (part ∷ parts) short =
    subst AreShortParts (sym (reverse-append (part ∷ []) parts)) (short_append (reverse parts) (part ∷ []) (short_reverse parts short.1) (short.0, tt))

event_short : (b : Bool) (frame : Frame) (rest : List Event) → IsShort frame.number → AreShort rest → AreShort (cons_option (cond b (Some (Framed frame None)) None) rest)
event_short true frame rest short all = (short, all)
event_short false frame rest short all = all

events_short : (reader : ReaderPart) (parts : List Part) → AreShortParts parts → AreShort (filter_map (brought reader) parts)
events_short reader [] short = tt
events_short reader (part ∷ parts) short =
    event_short (is_for reader part.writer part.set) part.frame (filter_map (brought reader) parts) short.0 (events_short reader parts short.1)

pub came-short : (config : Config) (lines : List (List ℕ)) (parts : List Part) (reader : ReaderPart) → ReadsLines config lines parts → AreShort (came reader parts)
came-short config lines parts reader read = events_short reader (reverse parts) (short_reverse parts (lines_short config lines parts read))
