-- What is read of bytes is in range, as what stands on the wire is.
use Rattle.std.proofs.Common.{◌≡◌, ℕ, ◌<◌, ◌^◌, List, drop, Option, Some, None, Ok, subst, arith}
use Rattle.std.specs.Prelude.{IfSome, length}
use Rattle.ua_binary.specs.Wire.{AreBytes}
use Rattle.uadp_header.specs.Headers.{SecurityValue, GroupValue, HeaderValue, if_there}
use Rattle.uadp_header.specs.Layout.{header_at}
use Rattle.uadp_header.specs.Reading.{IsSecured}
use Rattle.uadp_header.specs.Spelling.{IsPublisher, IsShortText, IsIds, AreIds, IsRead}
use Rattle.uadp_header.specs.Wire.{WireIds, NoPayloadHeader, Listed, OfChunk, WireHeader, publisher_read, group_read, ids_read, security_read, header_read, IsWirePublisher, IsWireGroup, AreWireIds, IsWireSecurity, IsWireHeader}
use Rattle.uadp_header.proofs.WireAgain.{ids_long}
use Rattle.uadp_header.proofs.WireBack.{wire-back}

mapped : {A B : Type 0} (P : A → Type 0) (Q : B → Type 0) (make : A → B) (o : Option A) → IfSome o P → ((a : A) → P a → Q (make a)) → IfSome (if_there make o) Q
mapped P Q make None is more = tt
mapped P Q make (Some a) is more = more a is

group_is : (o : Option GroupValue) → IfSome o IsWireGroup → IsWireGroup (group_read o)
group_is None is = record { id = tt; version = tt; message_number = tt; sequence = tt }
group_is (Some group) is = is

ids_are : (ids : WireIds) → AreWireIds ids → IsIds (ids_read ids) × AreIds (ids_read ids)
ids_are NoPayloadHeader are = (tt, tt)
ids_are (Listed ids) are = let long = ids_long ids in let few = are.0 in (tt, (omega arith, omega arith))
ids_are (OfChunk id) are = (are, tt)

wire_is_read : (wire : WireHeader) → IsWireHeader wire → IsRead (header_read wire)
wire_is_read wire is =
    let group = group_is wire.group is.group in
    let ids = ids_are wire.ids is.ids in
    record {
      header = record {
        publisher = mapped IsWirePublisher IsPublisher publisher_read wire.publisher is.publisher (λ id is. is.0);
        class_id = is.class_id;
        group = group.id;
        version = group.version;
        message_number = group.message_number;
        sequence = group.sequence;
        ids = ids.0;
        security = mapped IsWireSecurity (λ (s : SecurityValue). s.token < 2 ^ 32) security_read wire.security is.security (λ s is. is.token);
      };
      text = mapped IsWirePublisher IsShortText publisher_read wire.publisher is.publisher (λ id is. is.1);
      ids = ids.1;
      nonce = mapped IsWireSecurity (λ (s : SecurityValue). length s.nonce < 2 ^ 8) security_read wire.security is.security (λ s is. is.nonce);
    }

pub header-is_read : (bytes rest : List ℕ) (h : HeaderValue) → AreBytes bytes → header_at bytes ≡ Ok (h, rest) → IsRead h
header-is_read bytes rest h are e = let found = wire-back bytes rest h are e in subst IsRead found.meaning (wire_is_read found.wire found.is_wire)

pub nonce-short : (bytes : List ℕ) (security : SecurityValue) (payload : ℕ) → AreBytes bytes → IsSecured bytes (Some security) payload → length security.nonce < 2 ^ 8
nonce-short bytes security payload are is =
    let read = header-is_read bytes (drop payload bytes) is.header are is.begins.read in
    subst (λ (o : Option SecurityValue). IfSome o (λ s. length s.nonce < 2 ^ 8)) is.has read.nonce
