-- Which bytes are a message, and what refuses the others.
use Rattle.std.specs.Prelude.{◌≡◌, ℕ, ◌^◌, ◌-◌, min, nat_lt, if◌then◌else◌, Bool, List, codes, Option, Some, None, option_and_then, unwrap_or, length, Result, Ok, Err}
use Rattle.std.specs.Str.{is_utf8, bytes_eq}
use Rattle.std.specs.List.{All}
use Rattle.serde_json.specs.Data.{Data, Items}
use Rattle.serde_json.specs.Find.{get, as_array}
use Rattle.serde_json.specs.Read.{read}
use Rattle.dataset_meta.specs.Metas.{MetaData}
use Rattle.json_values.specs.Numbers.{text_at}
use Rattle.json_frames.specs.declared.message.JsonRead.{JsonRead}
use Rattle.json_frames.specs.declared.json_end.JsonEnd.{JsonEnd}
use Rattle.json_frames.specs.declared.json_end.JsonEnd.TheVariants.{NotJson, NotData, BadPublisher, NoMessages, Memory}
use Rattle.json_frames.specs.Parts.{Part, IsPartOf, parts_in}
use Rattle.json_frames.specs.Reading.{ReadAs}

-- an object whose type is that of data
abbrev pub is_data : Data → Bool
is_data d = bytes_eq (codes "ua-data") (unwrap_or (text_at (codes "MessageType") d) (codes ""))

-- a text, where it has at most 256 bytes
abbrev pub short_text : List ℕ → Option (List ℕ)
short_text text = if nat_lt 256 (length text) then None else Some text

-- the publisher, a text of at most 256 bytes
abbrev pub publisher_in : Data → Option (List ℕ)
publisher_in d = option_and_then short_text (text_at (codes "PublisherId") d)

-- the elements of the messages, which are an array
abbrev pub messages_in : Data → Option Items
messages_in d = option_and_then as_array (get (codes "Messages") d)

-- the elements behind a publisher
abbrev pub ended : List ℕ → Option Items → Result (List ℕ × Items) JsonEnd
ended publisher None = Err NoMessages
ended publisher (Some items) = Ok (publisher, items)

-- the elements, where there is a publisher
abbrev pub published : Option (List ℕ) → Data → Result (List ℕ × Items) JsonEnd
published None d = Err BadPublisher
published (Some publisher) d = ended publisher (messages_in d)

-- the publisher and the elements of a JSON value, or the first refusal
unfoldable pub judged : Data → Result (List ℕ × Items) JsonEnd
judged d = if is_data d then published (publisher_in d) d else Err NotData

-- the publisher and the elements, where there is a JSON value
abbrev pub judged_read : Option Data → Result (List ℕ × Items) JsonEnd
judged_read None = Err NotJson
judged_read (Some d) = judged d

-- the JSON value of bytes in UTF-8, where they are the text of one
abbrev pub value_of : List ℕ → Option Data
value_of bytes = if is_utf8 bytes then read bytes else None

-- the publisher and the elements of bytes, or the first refusal
abbrev pub document : List ℕ → Result (List ℕ × Items) JsonEnd
document bytes = judged_read (value_of bytes)

-- a count that stands still at the end of 32 bits
abbrev pub counted : ℕ → ℕ
counted n = min n (2 ^ 32 - 1)

-- what is read of bytes: its publisher, the parts that the elements give, each of which can be written
-- again, and how many elements are bad
pub record IsRead (metas : List MetaData) (sets : List (ℕ × ℕ)) (bytes : List ℕ) (found : JsonRead)
    : Type 0 where
  pub items : Items
  pub bad : ℕ
  pub judged : document bytes ≡ Ok (found.publisher, items)
  pub parts : ReadAs metas sets items (parts_in metas found.parts) bad
  pub count : found.bad ≡ counted bad
  pub writable : All (IsPartOf metas) found.parts

-- what is read is this publisher and these parts, with no bad element
pub record HasMessage (metas : List MetaData) (publisher : List ℕ) (parts : List Part)
    (found : JsonRead) : Type 0 where
  pub same_publisher : found.publisher ≡ publisher
  pub same_parts : parts_in metas found.parts ≡ parts
  pub none_bad : found.bad ≡ 0

-- what is read of the bytes, or the first thing that refuses them; want of memory is free
abbrev pub Gives : List MetaData → List (ℕ × ℕ) → List ℕ → Result JsonRead JsonEnd → Type 0
Gives metas sets bytes (Ok found) = IsRead metas sets bytes found
Gives metas sets bytes (Err Memory) = Unit {0}
Gives metas sets bytes (Err end) = document bytes ≡ Err end
