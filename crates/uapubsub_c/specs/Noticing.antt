-- What C sees of what readers couldn't read or passed over, and of what read groups refused.
use Rattle.std.specs.Prelude.{◌≡◌, ℕ, Option, None, Some, Result, is_some, unwrap_or}
use Rattle.config_tables.specs.declared.publisher.Publisher.{Publisher}
use Rattle.config_tables.specs.declared.publisher.Publisher.TheVariants as publishers
use Rattle.dataset_reader.specs.declared.passed.Passed.{Passed}
use Rattle.dataset_reader.specs.declared.reader.Reader.{Reader}
use Rattle.dataset_reader.specs.Reader.{passed_of}
use Rattle.frame_codec.specs.declared.fault.FrameFault.TheVariants as frames
use Rattle.frame_codec.specs.declared.faulty.FieldFault.{FieldFault}
use Rattle.message_guard.specs.declared.open_fault.OpenFault.TheVariants as guards
use Rattle.reader_group.specs.declared.notice.Notice.{Notice}
use Rattle.reader_group.specs.declared.notice.PartFault.{PartFault}
use Rattle.reader_group.specs.declared.notice.PartFault.TheVariants.{BadRange, Differs, Frame, TooLong}
use Rattle.reader_group.specs.declared.refusal.Refusal.{Refusal}
use Rattle.reader_group.specs.declared.refusal.Refusal.TheVariants as refusals
use Rattle.reader_group.specs.declared.refused.LastRefusal.{LastRefusal}
use Rattle.reader_group.specs.declared.refused.Refused.{Refused}
use Rattle.reader_group.specs.declared.refused.Sender.{Sender}
use Rattle.device.specs.Readings.{HasNumber, HasRefused, IsNoticeFor, IsReaderAt}
use Rattle.device.specs.declared.subscriber.Subscriber.{Subscriber}
use Rattle.uapubsub_c.specs.Answers.{Answers, Does}
use Rattle.uapubsub_c.specs.Listing.{truth_number}
use Rattle.uapubsub_c.specs.Numbers.{fault_number, refusal_number}
use Rattle.uapubsub_c.specs.Reading.{HasNoReadGroup, IsAbsent}
use Rattle.uapubsub_c.specs.declared.noticing.FaultWords.{FaultWords}
use Rattle.uapubsub_c.specs.declared.noticing.PassedWords.{PassedWords}
use Rattle.uapubsub_c.specs.declared.noticing.RefusedWords.{RefusedWords}
use Rattle.uapubsub_c.specs.declared.status.Status.{Status}
use Rattle.uapubsub_c.specs.declared.status.Status.TheVariants.{Index}

-- ---- faults

-- what a fault got: an index, a count, bytes, or where bytes begin
abbrev pub fault_got : PartFault → ℕ
fault_got (Frame (frames.BadIndex got)) = got
fault_got (Frame (frames.WrongCount got)) = got
fault_got (TooLong total) = total
fault_got (BadRange offset total) = offset
fault_got (Differs first now) = now
fault_got other = 0

-- of how many bytes, where it tells that
abbrev pub fault_of : PartFault → ℕ
fault_of (BadRange offset total) = total
fault_of (Differs first now) = first
fault_of other = 0

-- the same, and 0 where there is no fault
abbrev pub number_if : Option PartFault → ℕ
number_if None = 0
number_if (Some fault) = fault_number fault

abbrev pub got_if : Option PartFault → ℕ
got_if None = 0
got_if (Some fault) = fault_got fault

abbrev pub of_if : Option PartFault → ℕ
of_if None = 0
of_if (Some fault) = fault_of fault

-- the field that is at fault, or none
abbrev pub field_or_none : Option FieldFault → FieldFault
field_or_none field = unwrap_or field (record { index = 0; type_byte = None })

-- how many parts couldn't be read, and why the last one couldn't, at which field
abbrev pub fault_words : Notice → FaultWords
fault_words notice = record {
  bad = notice.bad;
  fault = number_if notice.fault;
  got = got_if notice.fault;
  of = of_if notice.fault;
  field = (field_or_none notice.field).index;
  has_field = truth_number (is_some notice.field);
  kind = unwrap_or (field_or_none notice.field).type_byte 0;
  has_kind = truth_number (is_some (field_or_none notice.field).type_byte);
}

-- what is noted of the reader
pub record HasFaults (group reader : ℕ) (subscriber : Subscriber) (words : FaultWords) : Type 0 where
  pub notice : Notice
  pub noted : IsNoticeFor group reader subscriber notice
  pub words_are : words ≡ fault_words notice

abbrev pub TellsFault : ℕ → ℕ → Subscriber → Result FaultWords Status → Type 0
TellsFault group reader subscriber answer = Answers (HasFaults group reader subscriber) (IsAbsent group reader subscriber) answer

-- ---- what is passed over

abbrev pub passed_words : Passed → Notice → PassedWords
passed_words passed notice = record {
  other_major = passed.wrong_major;
  unnumbered = passed.unnumbered;
  older = passed.older;
  major = unwrap_or notice.major 0;
  has_major = truth_number (is_some notice.major);
}

-- what the reader passed over, and the other major version that is noted of it
pub record HasPassed (group reader : ℕ) (subscriber : Subscriber) (words : PassedWords) : Type 0 where
  pub value : Reader
  pub is : IsReaderAt group reader subscriber value
  pub notice : Notice
  pub noted : IsNoticeFor group reader subscriber notice
  pub words_are : words ≡ passed_words (passed_of value) notice

abbrev pub TellsPassed : ℕ → ℕ → Subscriber → Result PassedWords Status → Type 0
TellsPassed group reader subscriber answer = Answers (HasPassed group reader subscriber) (IsAbsent group reader subscriber) answer

-- ---- what is refused

-- the token of a refusal that is for its token
abbrev pub token_in : Refusal → Option ℕ
token_in (refusals.Guard (guards.UnknownToken got)) = Some got
token_in (refusals.Guard (guards.OldToken got high)) = Some got
token_in other = None

-- what the header told of the sender: nothing where it isn't kept
abbrev pub sender_or_none : Option Sender → Sender
sender_or_none (Some sender) = sender
sender_or_none None = record { publisher = None; group = None; version = None; number = None; class_id = None }

abbrev pub sender_in : LastRefusal → Sender
sender_in last = sender_or_none last.sender

-- the built-in type of a PublisherId, 0 where there is none
abbrev pub type_in : Option Publisher → ℕ
type_in None = 0
type_in (Some (publishers.U8 id)) = 3
type_in (Some (publishers.U16 id)) = 5
type_in (Some (publishers.U32 id)) = 7
type_in (Some (publishers.U64 id)) = 9
type_in (Some (publishers.Text id)) = 12

-- a PublisherId that is a number; else 0
abbrev pub word_in : Option Publisher → ℕ
word_in (Some (publishers.U8 id)) = id
word_in (Some (publishers.U16 id)) = id
word_in (Some (publishers.U32 id)) = id
word_in (Some (publishers.U64 id)) = id
word_in other = 0

abbrev pub last_words : ℕ → LastRefusal → RefusedWords
last_words count last = record {
  count = count;
  publisher = word_in (sender_in last).publisher;
  status = refusal_number last.refusal;
  publisher_type = type_in (sender_in last).publisher;
  group = unwrap_or (sender_in last).group 0;
  has_group = truth_number (is_some (sender_in last).group);
  version = unwrap_or (sender_in last).version 0;
  has_version = truth_number (is_some (sender_in last).version);
  number = unwrap_or (sender_in last).number 0;
  has_number = truth_number (is_some (sender_in last).number);
  token = unwrap_or (token_in last.refusal) 0;
  has_token = truth_number (is_some (token_in last.refusal));
}

abbrev pub refused_seen : ℕ → Option LastRefusal → RefusedWords
refused_seen count (Some last) = last_words count last
refused_seen count None = record {
  count = count;
  publisher = 0;
  status = 0;
  publisher_type = 0;
  group = 0;
  has_group = 0;
  version = 0;
  has_version = 0;
  number = 0;
  has_number = 0;
  token = 0;
  has_token = 0;
}

-- how many datagrams were refused, why the last one was, and what its header told
abbrev pub refused_words : Refused → RefusedWords
refused_words refused = refused_seen refused.count refused.last

-- there is no such read group
abbrev pub IsNoReadGroup : ℕ → Subscriber → Status → Type 0
IsNoReadGroup group subscriber Index = HasNoReadGroup group subscriber
IsNoReadGroup group subscriber other = ⊥

-- what the read group refused
pub record HasRefusals (group : ℕ) (subscriber : Subscriber) (words : RefusedWords) : Type 0 where
  pub refused : Refused
  pub is : HasRefused group subscriber refused
  pub words_are : words ≡ refused_words refused

abbrev pub TellsRefused : ℕ → Subscriber → Result RefusedWords Status → Type 0
TellsRefused group subscriber answer = Answers (HasRefusals group subscriber) (IsNoReadGroup group subscriber) answer

-- ---- which NetworkMessages are taken

abbrev pub TakesOnly : ℕ → ℕ → Subscriber → Result Unit Status → Subscriber → Type 0
TakesOnly group number old answer new = Does (HasNumber group number) (IsNoReadGroup group) old answer new
