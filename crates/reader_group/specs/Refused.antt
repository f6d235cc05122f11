-- What a read group tells of the datagrams that it refused, beside its plain reading.
use Rattle.std.specs.Prelude.{◌≡◌, ℕ, List, Option, Some, None, Result, Ok, Err}
use Rattle.ua_values.specs.declared.text.TextFault.{TextFault}
use Rattle.ua_values.specs.Texts.{text_of}
use Rattle.uadp_header.specs.declared.fault.HeaderFault.{HeaderFault}
use Rattle.uadp_header.specs.Headers.{PublisherValue, U8, U16, U32, U64, Text, HeaderValue}
use Rattle.uadp_header.specs.Layout.{header_at}
use Rattle.config_tables.specs.declared.publisher.Publisher.{Publisher}
use Rattle.config_tables.specs.declared.publisher.Publisher.TheVariants as publisher
use Rattle.dataset_reader.specs.Passed.{one_more}
use Rattle.reader_group.specs.declared.refusal.Refusal.{Refusal}
use Rattle.reader_group.specs.declared.refusal.Refusal.TheVariants as refusals
use Rattle.reader_group.specs.declared.refusal.Taken.{Taken}
use Rattle.reader_group.specs.declared.refused.LastRefusal.{LastRefusal}
use Rattle.reader_group.specs.declared.refused.Refused.{Refused}
use Rattle.reader_group.specs.declared.refused.Sender.{Sender}

-- a text that is too long isn't kept
abbrev pub text_kept : Result (List ℕ) TextFault → Option Publisher
text_kept (Ok text) = Some (publisher.Text text)
text_kept (Err fault) = None

abbrev pub publisher_kept : PublisherValue → Option Publisher
publisher_kept (U8 id) = Some (publisher.U8 id)
publisher_kept (U16 id) = Some (publisher.U16 id)
publisher_kept (U32 id) = Some (publisher.U32 id)
publisher_kept (U64 id) = Some (publisher.U64 id)
publisher_kept (Text text) = text_kept (text_of text)

abbrev pub kept_if : Option PublisherValue → Option Publisher
kept_if None = None
kept_if (Some id) = publisher_kept id

-- whose datagram it is, as its header tells
abbrev pub sender_in : HeaderValue → Sender
sender_in header = record {
  publisher = kept_if header.publisher;
  group = header.group;
  version = header.version;
  number = header.message_number;
  class_id = header.class_id;
}

abbrev pub sender_read : Result (HeaderValue × List ℕ) HeaderFault → Option Sender
sender_read (Err fault) = None
sender_read (Ok read) = Some (sender_in read.0)

-- told of a datagram that is another's
abbrev pub sender_of : Refusal → List ℕ → Option Sender
sender_of (refusals.Header fault) datagram = None
sender_of refusals.NotOurs datagram = sender_read (header_at datagram)
sender_of refusals.NoIds datagram = None
sender_of (refusals.Guard fault) datagram = None
sender_of refusals.BadSizes datagram = None

abbrev pub last_refusal_of : Refusal → List ℕ → LastRefusal
last_refusal_of refusal datagram = record { refusal = refusal; sender = sender_of refusal datagram }

-- before anything
abbrev pub none_refused : Refused
none_refused = record { last = None; count = 0 }

-- after the answer to a datagram: one that is taken changes nothing
abbrev pub refused_on : Refused → Result Taken Refusal → List ℕ → Refused
refused_on before (Ok taken) datagram = before
refused_on before (Err refusal) datagram = record { last = Some (last_refusal_of refusal datagram); count = one_more before.count }

-- these bytes of a datagram that is refused tell of the same sender
abbrev pub KeepsSender : List ℕ → List ℕ → Refusal → Type 0
KeepsSender datagram bytes refusal = sender_of refusal bytes ≡ sender_of refusal datagram
