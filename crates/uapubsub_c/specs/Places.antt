-- Where a configuration that is refused is at fault.
use Rattle.std.specs.Prelude.{◌≡◌, ◌≢◌, ◌⊎◌, ℕ, ◌+◌, ◌<◌, ◌≤◌, ◌==◌, Bool, true, false, List, length, take, count_by, Option, None, Some, IsOk, Result, Ok, Err}
use Rattle.std.specs.List.{HoldsAt, list_any}
use Rattle.std.specs.Str.{bytes_eq}
use Rattle.toml.specs.Data.{Members}
use Rattle.config_tables.specs.Paths.{path_text}
use Rattle.config_tables.specs.Tables.{tables}
use Rattle.ps_config.specs.Reading.{configuration, document_of}
use Rattle.uapubsub_c.specs.Answers.{Answers}
use Rattle.uapubsub_c.specs.declared.placing.PlaceWords.{PlaceWords}
use Rattle.uapubsub_c.specs.declared.placing.TheConstants.{BAD_TOML, LINE_FEED}
use Rattle.uapubsub_c.specs.declared.status.Status.{Status}
use Rattle.uapubsub_c.specs.declared.status.Status.TheVariants.{Memory, Nothing}

-- how many lines end in the text
abbrev pub line_feeds : List ℕ → ℕ
line_feeds text = count_by (λ byte. byte == LINE_FEED) text

-- the number of the line, from 1, in which the byte with this index stands
abbrev pub line_at : List ℕ → ℕ → ℕ
line_at text index = 1 + line_feeds (take index text)

-- the text has such a line
pub record IsLineOf (text : List ℕ) (line : ℕ) : Type 0 where
  pub end : ℕ
  pub within : end ≤ length text
  pub line_is : line ≡ line_at text end

-- the document has a table at this path
abbrev pub shows_in : List ℕ → Option Members → Bool
shows_in path None = false
shows_in path (Some document) = list_any (λ t. bytes_eq (path_text t.place) path) (tables document)

-- the text is a document that has one
abbrev pub shows : List ℕ → List ℕ → Bool
shows path text = shows_in path (document_of text)

-- a line ends at this index, and the text in front of that shows the table
abbrev pub ShowsAt : List ℕ → List ℕ → ℕ → Type 0
ShowsAt path text end = HoldsAt (λ byte. byte ≡ LINE_FEED) text end × (shows path (take end text) ≡ true)

-- the first line with which the text shows the table, or the last line of all
pub record IsFirstShown (path text : List ℕ) (line : ℕ) : Type 0 where
  pub end : ℕ
  pub within : end ≤ length text
  pub line_is : line ≡ line_at text end
  pub shown : (end ≡ length text) ⊎ ShowsAt path text end
  pub before : (k : ℕ) → k < end → ¬ ShowsAt path text k

-- of a text that is no TOML document a line; else the first one with which the table is there
pub record IsFaultLine (code : ℕ) (path text : List ℕ) (line : ℕ) : Type 0 where
  pub unread : code ≡ BAD_TOML → IsLineOf text line
  pub shown : code ≢ BAD_TOML → IsFirstShown path text line

-- the text is refused with this code, at a table that begins to stand there
pub record IsPlace (text : List ℕ) (place : PlaceWords) : Type 0 where
  pub path : List ℕ
  pub refused : configuration text ≡ Err (place.code, path)
  pub line : IsFaultLine place.code path text place.line

-- the text is a configuration; or memory ran out
abbrev pub HasNoPlace : List ℕ → Status → Type 0
HasNoPlace text Nothing = IsOk (configuration text)
HasNoPlace text Memory = Unit {0}
HasNoPlace text other = ⊥

abbrev pub TellsPlace : List ℕ → Result PlaceWords Status → Type 0
TellsPlace text answer = Answers (IsPlace text) (HasNoPlace text) answer
