-- What the ends of a closed session tell of its readers' numbers and versions, and in which order its watches stand. A report
-- prints what it is given: that it is given these is for the session that closes.
use Rattle.std.specs.Prelude.{◌≡◌, ◌≢◌, ℕ, ◌<◌, ◌==◌, List, [], map, find, zip, flat_map, Option, None, IfSome, IsSomeAnd, option_and_then}
use Rattle.std.specs.List.{AllZip}
use Rattle.std.specs.List.Sorted.{IsNonDecreasing}
use Rattle.std.specs.Option.{option_map_or}
use Rattle.pubsub_model.specs.Answers.{version_of}
use Rattle.ps_config.specs.declared.NumberingWord.{NumberingWord}
use Rattle.ps_config.specs.declared.NumberingWord.TheVariants as numbering
use Rattle.ps_config.specs.declared.parts.Config.{Config}
use Rattle.ps_config.specs.declared.parts.ReadGroupPart.{ReadGroupPart}
use Rattle.ps_config.specs.declared.parts.ReaderPart.{ReaderPart}
use Rattle.ps_config.specs.declared.parts.WriterPart.{WriterPart}
use Rattle.ps_report.specs.declared.closed.Closed.{Closed}
use Rattle.ps_report.specs.declared.closed.HeldEnd.{HeldEnd}
use Rattle.ps_report.specs.declared.closed.ReaderEnd.{ReaderEnd}
use Rattle.ps_report.specs.declared.closed.WriterEnd.{WriterEnd}
use Rattle.ps_report.specs.Conditions.{writers_of}

-- the log of this program's writer with an id, empty where there is no such writer
abbrev pub log_of : List WriterPart → List WriterEnd → ℕ → List (ℕ × ℕ)
log_of parts ends id = option_map_or (λ at. at.1.log) (find (λ at. at.0.id == id) (zip parts ends)) []

-- with numbering `none` there is no number, else it is the 16 bits of the message that the row was last made of
abbrev pub TellsNumber : NumberingWord → Option ℕ → Type 0
TellsNumber numbering.None number = number ≡ None
TellsNumber numbering.Message number = IsSomeAnd number (λ n. n < 65536)

-- Where the read group's publisher is this program, the version is the one that the writer with the reader's writer id logged
-- at the number, whatever else the reader asks for. Without a number there is none, nor where the log has no such place.
pub record TellsHeld (config : Config) (writers : List WriterEnd) (group : ReadGroupPart) (part : ReaderPart) (held : HeldEnd) : Type 0 where
  pub number : TellsNumber part.numbering held.number
  pub own : group.publisher ≡ config.publisher.id →
      held.version ≡ option_and_then (version_of (log_of (writers_of config.group) writers part.writer)) held.number
  pub other : group.publisher ≢ config.publisher.id → held.version ≡ None

-- each reader after its read group, over all read groups in order
abbrev pub grouped_readers : List ReadGroupPart → List (ReadGroupPart × ReaderPart)
grouped_readers groups = flat_map (λ group. map (λ part. (group, part)) group.reader) groups

-- what a reader holds, if anything, is told so
abbrev pub TellsReader : Config → List WriterEnd → ReadGroupPart × ReaderPart → ReaderEnd → Type 0
TellsReader config writers at end = IfSome end.held (λ held. TellsHeld config writers at.0 at.1 held)

-- numbers and versions of what the readers hold, and the watches in the order of their threads
pub record TellsEnds (config : Config) (closed : Closed) : Type 0 where
  pub readers : AllZip (TellsReader config closed.writers) (grouped_readers config.readgroup) closed.readers
  pub watches : IsNonDecreasing (map (λ end. end.thread) closed.watches)
