-- Whose datagrams a read group takes: its filter (OPC 10000-14 6.2.9.1, PublisherId, WriterGroupId and GroupVersion of a DataSetReader; DataSetClassId).
use Rattle.std.specs.Prelude.{ℕ, List, Bool, true, false, ◌&&◌, ◌||◌, ◌==◌, bytes_eq, Option, Some, None, Result, Ok, Err}
use Rattle.uadp_header.specs.declared.fault.HeaderFault.{HeaderFault}
use Rattle.uadp_header.specs.Headers.{PublisherValue, U8, U16, U32, U64, Text, HeaderValue}
use Rattle.uadp_header.specs.Layout.{header_at}
use Rattle.config_tables.specs.declared.publisher.Publisher.{Publisher}
use Rattle.config_tables.specs.declared.publisher.Publisher.TheVariants as publisher
use Rattle.ps_config.specs.declared.parts.ReadGroupPart.{ReadGroupPart}

-- the same type of id, and the same id
abbrev pub is_same_publisher : Publisher → PublisherValue → Bool
is_same_publisher (publisher.U8 id) (U8 other) = id == other
is_same_publisher (publisher.U16 id) (U16 other) = id == other
is_same_publisher (publisher.U32 id) (U32 other) = id == other
is_same_publisher (publisher.U64 id) (U64 other) = id == other
is_same_publisher (publisher.Text text) (Text other) = bytes_eq text other
is_same_publisher asked carried = false

abbrev pub is_publisher : Publisher → Option PublisherValue → Bool
is_publisher asked None = false
is_publisher asked (Some id) = is_same_publisher asked id

-- the number that is asked for, where 0 asks for any, also for none
abbrev pub is_carried : ℕ → Option ℕ → Bool
is_carried asked None = false
is_carried asked (Some number) = number == asked

abbrev pub is_any_or : ℕ → Option ℕ → Bool
is_any_or asked carried = asked == 0 || is_carried asked carried

-- the class id that is asked for, where none asks for any
abbrev pub has_class : Option (List ℕ) → Option (List ℕ) → Bool
has_class None carried = true
has_class (Some id) None = false
has_class (Some id) (Some other) = bytes_eq id other

abbrev pub is_ours : ReadGroupPart → HeaderValue → Bool
is_ours group header =
    is_publisher group.publisher header.publisher && is_any_or group.group header.group
    && is_any_or group.version header.version && has_class group.class_id header.class_id

-- what was read carries the NetworkMessageNumber that is asked for; a header that can't be read isn't another's
abbrev pub is_of_number : ℕ → Result (HeaderValue × List ℕ) HeaderFault → Bool
is_of_number asked (Err fault) = true
is_of_number asked (Ok read) = is_any_or asked read.0.message_number

abbrev pub takes_number : ℕ → List ℕ → Bool
takes_number asked datagram = is_of_number asked (header_at datagram)
