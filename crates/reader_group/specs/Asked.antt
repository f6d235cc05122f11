-- What a read group asks of the header of a datagram, told apart from its filter (OPC 10000-14 6.2.9.1, PublisherId, WriterGroupId and GroupVersion of a
-- DataSetReader; DataSetClassId). Of group and version 0 asks for any, and so does no class id.
use Rattle.std.specs.Prelude.{◌≡◌, ◌≢◌, ℕ, List, Some, Ok, Err}
use Rattle.uadp_header.specs.Headers.{HeaderValue}
use Rattle.uadp_header.specs.Layout.{header_at}
use Rattle.message_guard.specs.Acceptance.{Accepted}
use Rattle.message_guard.specs.Guards.{Setup}
use Rattle.ps_config.specs.declared.parts.ReadGroupPart.{ReadGroupPart}
use Rattle.ps_config.specs.Headers.{publisher_value}
use Rattle.reader_group.specs.declared.refusal.Refusal.TheVariants as refusals
use Rattle.reader_group.specs.Opening.{verdict}

-- it carries another publisher, or none
abbrev pub HasOtherPublisher : ReadGroupPart → HeaderValue → Type 0
HasOtherPublisher group header = header.publisher ≢ Some (publisher_value group.publisher)

-- a group is asked for, and it carries another, or none
pub record HasOtherGroup (group : ReadGroupPart) (header : HeaderValue) : Type 0 where
  pub asked : group.group ≢ 0
  pub other : header.group ≢ Some group.group

-- a version of the group is asked for, and it carries another, or none
pub record HasOtherVersion (group : ReadGroupPart) (header : HeaderValue) : Type 0 where
  pub asked : group.version ≢ 0
  pub other : header.version ≢ Some group.version

-- a class id is asked for, and it carries another, or none
pub record HasOtherClass (group : ReadGroupPart) (header : HeaderValue) : Type 0 where
  pub id : List ℕ
  pub asked : group.class_id ≡ Some id
  pub other : header.class_id ≢ Some id

-- it is refused as another's, whichever keys the group has and whatever it accepted
abbrev pub IsNotOurs : ReadGroupPart → List ℕ → Type 0
IsNotOurs group datagram =
    (setup : Setup) (accepted : Accepted) → verdict group setup accepted datagram ≡ Err refusals.NotOurs

-- Whichever header is read of whichever datagram, where it is such a one for a read group, the group refuses the datagram as another's.
abbrev pub RefusesOthers : (ReadGroupPart → HeaderValue → Type 0) → Type 0
RefusesOthers IsOther =
    (group : ReadGroupPart) (datagram : List ℕ) (header : HeaderValue) (rest : List ℕ)
    → header_at datagram ≡ Ok (header, rest) → IsOther group header → IsNotOurs group datagram

-- it carries all that is asked for
pub record IsAskedFor (group : ReadGroupPart) (header : HeaderValue) : Type 0 where
  pub publisher : header.publisher ≡ Some (publisher_value group.publisher)
  pub group_is : group.group ≢ 0 → header.group ≡ Some group.group
  pub version : group.version ≢ 0 → header.version ≡ Some group.version
  pub class_id : (id : List ℕ) → group.class_id ≡ Some id → header.class_id ≡ Some id

-- a datagram whose header carries all that is asked for isn't refused as another's
abbrev pub PassesAsked : Type 0
PassesAsked =
    (group : ReadGroupPart) (datagram : List ℕ) (header : HeaderValue) (rest : List ℕ)
    → header_at datagram ≡ Ok (header, rest) → IsAskedFor group header
    → (setup : Setup) (accepted : Accepted) → verdict group setup accepted datagram ≢ Err refusals.NotOurs
