-- What a session and a gateway show while they run.
use Rattle.std.specs.Prelude.{◌≡◌, ℕ, List, count_by}
use Rattle.dataset_reader.specs.declared.reader.Reader.{Reader as DataSetReader}
use Rattle.dataset_reader.specs.Reader.{IsReaderOf, kept_by, passed_of}
use Rattle.message_guard.specs.Senders.{SenderState}
use Rattle.reader_group.specs.Members.{seat_at}
use Rattle.reader_group.specs.Settings.{setting_of}
use Rattle.session_model.specs.Steps.{Plan, Step}
use Rattle.session_model.specs.Deeds.{deeds, sender_after}
use Rattle.session_model.specs.Events.{reader_at}
use Rattle.ua_base.specs.Journal.{Entry}
use Rattle.ps_report.specs.declared.closed.LinkEnd.{LinkEnd}
use Rattle.reader_group.specs.Plain.{member_at}
use Rattle.session_model.specs.Answers.{counted}
use Rattle.session_model.specs.Lives.{Lived, account_in}
use Rattle.session_model.specs.Readings.{Reading}
use Rattle.session_model.specs.Closing.{MemberPlace, is_broken, is_got, is_long, is_send_failed, is_sent, limits}

-- the reader with this place: it holds rows of its data set alone, and keeps, and has passed over, what the plain reading of its read
-- group has
pub record IsReaderAt (p : Plan) (steps : List Step) (place : MemberPlace) (reader : DataSetReader) : Type 0 where
  pub made : IsReaderOf (seat_at (setting_of p.config place.0).seats place.1).meta reader
  pub kept : kept_by (seat_at (setting_of p.config place.0).seats place.1).meta.fields reader ≡ (reader_at p.config place.0 place.1 steps).kept
  pub passed : passed_of reader ≡ (reader_at p.config place.0 place.1 steps).passed

-- the token that a sender uses, and the last number that it used under it
abbrev pub standing_of : SenderState → ℕ × ℕ
standing_of sender = (sender.keys.token, sender.used)

abbrev pub standing_at : Plan → List Step → ℕ → ℕ × ℕ
standing_at p steps k = standing_of (sender_after p.config k (deeds p steps))

-- ---- by what became of a session

-- the reader with this place, where the read groups stand so
pub record IsReaderIn (p : Plan) (readings : ℕ → Reading) (place : MemberPlace) (reader : DataSetReader) : Type 0 where
  pub made : IsReaderOf (seat_at (setting_of p.config place.0).seats place.1).meta reader
  pub kept : kept_by (seat_at (setting_of p.config place.0).seats place.1).meta.fields reader ≡ (member_at (readings place.0).value.members place.1).kept
  pub passed : passed_of reader ≡ (member_at (readings place.0).value.members place.1).passed

-- the sender of a key group in a life
abbrev pub sender_in : Plan → List Lived → ℕ → SenderState
sender_in p life k = sender_after p.config k (account_in p life).deeds

-- what came of the sends and receives of a journal, and of the steps' pumps
abbrev pub link_of : List Entry → List Step → LinkEnd
link_of entries steps = record {
  sent = counted (count_by is_sent entries);
  failed = counted (count_by is_send_failed entries);
  received = counted (count_by is_got entries);
  broken = counted (count_by is_broken entries);
  long = counted (count_by is_long entries);
  limit = counted (limits steps);
}
