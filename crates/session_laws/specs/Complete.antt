-- Completeness: in which ways the frame of a closing turn comes to a reader, and what is told of it then.
use Rattle.std.specs.Prelude.{◌≡◌, ℕ, List, Some}
use Rattle.dataset_meta.specs.DataValues.{DataValue}
use Rattle.dataset_meta.specs.Rows.{row_cut}
use Rattle.row_words.specs.Belonging.{row_in}
use Rattle.config_tables.specs.declared.words.NumberingWord.TheVariants as words
use Rattle.ps_report.specs.declared.closed.Closed.{Closed}
use Rattle.ps_report.specs.declared.closed.HeldEnd.{HeldEnd}
use Rattle.ps_report.specs.declared.closed.ReaderEnd.{ReaderEnd}
use Rattle.pubsub_model.specs.Cadence.{WriterDeed, WriterTurn}
use Rattle.reader_group.specs.Members.{seat_at}
use Rattle.reader_group.specs.Settings.{setting_of}
use Rattle.writer_group.specs.Parts.{group_at}
use Rattle.writer_group.specs.Payloads.{writer_at}
use Rattle.writer_group.specs.Turns.{GroupDeed, GroupTurn}
use Rattle.session_model.specs.Steps.{Plan, Step}
use Rattle.session_laws.specs.Bare.{ClosingCameLast, ClosingGotLast, ClosingGotSinceLast, ClosingTookLast}
use Rattle.session_laws.specs.Headline.{meta_of}
use Rattle.session_laws.specs.Newest.{ClosingCame, ClosingGot, ClosingGotSecured, ClosingTook}
use Rattle.session_laws.specs.Printed.{EndsReader}

-- The writer with index w of the group g had a closing turn, and its frame came to the reader with index i of the read group r.
pub data ClosingComes (p : Plan) (r i g w : ℕ) (steps : List Step) (own : WriterTurn) : Type 0 where
  -- to one that goes by numbers: it came since the last cut
  Came : (before : List WriterDeed) → ClosingCame p r i g w steps before own → ClosingComes p r i g w steps own
  -- each of its datagrams came, to a read group that isn't secured
  Got : (before : List GroupDeed) (turn : GroupTurn) → ClosingGot p r i g w steps before turn own → ClosingComes p r i g w steps own
  -- each came, to a secured one that names the writer's group
  GotSecured : ClosingGotSecured p r i g w steps own → ClosingComes p r i g w steps own
  -- a secured one took each
  Took : ClosingTook p r i g w steps own → ClosingComes p r i g w steps own
  -- to one with no numbering, with no other key frame after it: it came since the last cut
  CameLast : (before : List WriterDeed) → ClosingCameLast p r i g w steps before own → ClosingComes p r i g w steps own
  -- its datagram came whole, to a read group that isn't secured
  GotLast : (before : List GroupDeed) (turn : GroupTurn) → ClosingGotLast p r i g w steps before turn own → ClosingComes p r i g w steps own
  -- each came after the closing tick, to a read group that isn't secured, or that names the writer's group
  GotSinceLast : ClosingGotSinceLast p r i g w steps own → ClosingComes p r i g w steps own
  -- a secured one took each
  TookLast : ClosingTookLast p r i g w steps own → ClosingComes p r i g w steps own

-- The reader is told to hold this version of its writer's data set: the version's row, cut to the reader's fields, and by numbers the version itself.
pub record IsNewestTold (p : Plan) (r i g w : ℕ) (rows : ℕ → ℕ → List DataValue) (closed : Closed) (version : ℕ) : Type 0 where
  pub reader : ReaderEnd
  pub ends : EndsReader p.config closed r i reader
  pub told : HeldEnd
  pub held : reader.held ≡ Some told
  pub row : row_in (meta_of p r i).fields told.row.words ≡ row_cut (meta_of p r i) (rows (writer_at (group_at p.config g) w).dataset version)
  pub version_is : (seat_at (setting_of p.config r).seats i).part.numbering ≡ words.Message → told.version ≡ Some version
