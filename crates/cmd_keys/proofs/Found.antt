-- A guard that has the key finds the four zero bytes that were protected under it.
use Rattle.std.proofs.Common.{◌≡◌, ℕ, ◌+◌, ◌-◌, ◌<◌, ◌^◌, Bool, true, false, not, ◌&&◌, nat_lt, List, [], ◌++◌, length, take, drop, Option, Some, None, Ok, Err, refl, sym, ap, subst, ◌∙◌, append_assoc, arith}
use Rattle.std.specs.Prelude.{is_some, slice_range, nat_le}
use Rattle.std.specs.Borrow.{Bor}
use Rattle.std.specs.Option.{option_copied, option_map}
use Rattle.std.proofs.lemmas.Bool.Decides.{nat_tests}
use Rattle.std.proofs.lemmas.List.{length-append}
use Rattle.std.proofs.Math.Seq.{take-append_seam, drop-append_seam}
use Rattle.group_keys.specs.KeySets.{current}
use Rattle.group_keys.specs.declared.key_set.KeySet.{KeySet}
use Rattle.uadp_header.specs.Headers.{SecurityValue, header_in, if_there, security_in}
use Rattle.uadp_header.specs.declared.header.Header.{Header}
use Rattle.uadp_header.specs.declared.header.SecurityPart.{SecurityPart}
use Rattle.uadp_header.specs.Reading.{BeginsWith, IsSecured}
use Rattle.uadp_header.specs.Spelling.{IsSendersSecurity, IsWritten, header_bytes, header_len}
use Rattle.message_guard.specs.declared.guard.Guard.{Guard}
use Rattle.message_guard.specs.declared.keys.TokenKeys.{TokenKeys}
use Rattle.message_guard.specs.declared.mode.Mode.TheVariants.{Encrypt}
use Rattle.message_guard.specs.declared.open_fault.OpenFault.{OpenFault}
use Rattle.message_guard.specs.declared.pass.Pass1.{Pass1}
use Rattle.message_guard.specs.Acceptance.{is_acceptable}
use Rattle.message_guard.specs.Guards.{Setup, opened_by, security_told, setup_of}
use Rattle.message_guard.specs.Opened.{MayOpen, sent_pass}
use Rattle.message_guard.specs.Opening.{verdict}
use Rattle.message_guard.specs.Protection.{keys_in, keys_with, payload_in, signature_of}
use Rattle.message_guard.specs.Senders.{IsSender, MayProtect, SenderState, advanced, front_value, made_of, sent}
use Rattle.message_guard.proofs.Carrying.{front_is_senders, one_place, one_security, written_carries}
use Rattle.message_guard.proofs.Restoring.{payload_restored, sent_is_passed}
use Rattle.cmd_keys.specs.Opening.{CanOpen, Finds, FindsZeros, IsPlain, IsProtected, alone, found_by, header_with, is_zeros, payload_by, zeros}

-- ---- parts of lists

middle : (front mid back : List ℕ) (at end : ℕ) → at ≡ length front → end ≡ length front + length mid → slice_range (front ++ (mid ++ back)) at end ≡ mid
middle front mid back at end at_is end_is =
    let behind : drop at (front ++ (mid ++ back)) ≡ mid ++ back = ap (λ (n : ℕ). drop n (front ++ (mid ++ back))) at_is ∙ drop-append_seam front (mid ++ back) in
    let long : end - at ≡ length mid = omega (arith, at_is, end_is) in
    ap (λ (xs : List ℕ). take (end - at) xs) behind ∙ ap (λ (n : ℕ). take n (mid ++ back)) long ∙ take-append_seam mid back

-- ---- the datagram before it is protected

-- a sender with the keys of the set, whose last front decrypts
pub record IsFirstFront (set : KeySet) (s : SenderState) : Type 0 where
  pub fronted : s.fronted ≡ Some Encrypt
  pub sender : IsSender s
  pub keys : s.keys ≡ keys_in set
  pub first_block : s.first_block ≡ 1

pub header_len_is : (security : SecurityValue) → length security.nonce ≡ 8 → header_len (header_with security) ≡ 20
unfolding header_len
header_len_is security eight = omega (arith, eight)

is_written : (security : SecurityValue) → IsSendersSecurity security → security.token < 2 ^ 32 → IsWritten (header_with security)
is_written security senders token = record {
  senders = record {
    publisher = refl;
    text = tt;
    group = refl;
    version = λ e. cc;
    ids = tt;
    security = senders;
  };
  header = record {
    publisher = omega arith;
    class_id = tt;
    group = omega arith;
    version = tt;
    message_number = tt;
    sequence = tt;
    ids = tt;
    security = token;
  };
}

plain_length : (security : SecurityValue) (datagram : List ℕ) (payload : ℕ) → IsPlain security datagram payload → length datagram ≡ payload + 36
plain_length security datagram payload plain =
    omega (arith, ap length plain.bytes, length-append (header_bytes (header_with security)) (zeros ++ plain.behind), length-append zeros plain.behind, plain.long, plain.begins)

pub may_protect : (set : KeySet) (s : SenderState) (datagram : List ℕ) (payload : ℕ) → IsFirstFront set s → set.token < 2 ^ 32
    → IsPlain (front_value Encrypt s) datagram payload → MayProtect Encrypt s datagram payload
may_protect set s datagram payload first small plain =
    let token : s.keys.token < 2 ^ 32 = subst (λ (k : TokenKeys). k.token < 2 ^ 32) (sym first.keys) small in
    let front = front_value Encrypt s in
    let bytes = header_bytes (header_with front) in
    let carried : IsSecured (bytes ++ (zeros ++ plain.behind)) (Some front) (length bytes) =
    written_carries (header_with front) (Some front) (zeros ++ plain.behind) (is_written front (front_is_senders Encrypt s first.sender) token) refl in
    record {
      fronted = first.fronted;
      header = subst (λ (n : ℕ). IsSecured datagram (Some front) n) (sym plain.begins) (subst (λ (xs : List ℕ). IsSecured xs (Some front) (length bytes)) (sym plain.bytes) carried);
      room = omega (arith, plain_length front datagram payload plain);
    }

-- ---- the protected datagram

header_is : (security : SecurityValue) (datagram : List ℕ) (payload : ℕ) → IsPlain security datagram payload → take payload datagram ≡ header_bytes (header_with security)
header_is security datagram payload plain =
    let bytes = header_bytes (header_with security) in
    ap (λ (n : ℕ). take n datagram) plain.begins ∙ ap (λ (xs : List ℕ). take (length bytes) xs) plain.bytes ∙ take-append_seam bytes (zeros ++ plain.behind)

zeros_are : (security : SecurityValue) (datagram : List ℕ) (payload : ℕ) → IsPlain security datagram payload → payload_in datagram payload ≡ zeros
zeros_are security datagram payload plain =
    let bytes = header_bytes (header_with security) in
    ap (λ (xs : List ℕ). slice_range xs payload (length datagram - 32)) plain.bytes
    ∙ middle bytes zeros plain.behind payload (length datagram - 32) plain.begins (omega (arith, plain_length security datagram payload plain, plain.begins))

pub protected_is : (set : KeySet) (s : SenderState) (old new : List ℕ) (payload : ℕ) → IsPlain (front_value Encrypt s) old payload → IsFirstFront set s
    → new ≡ made_of Encrypt s old payload → IsSecured new (Some (front_value Encrypt s)) payload → IsProtected set new
protected_is set s old new payload plain first made secured =
    let front = front_value Encrypt s in
    let header = header_bytes (header_with front) in
    record {
      sender = s;
      header = header;
      whole = first.sender;
      keys = first.keys;
      first_block = first.first_block;
      sent = made ∙ ap (λ (xs : List ℕ). sent Encrypt s xs (payload_in old payload)) (header_is front old payload plain) ∙ ap (λ (xs : List ℕ). sent Encrypt s header xs) (zeros_are front old payload plain);
      secured = subst (λ (n : ℕ). IsSecured new (Some front) n) plain.begins secured;
    }

-- a sender of a set alone has its keys
pub keys_of_alone : (set : KeySet) (sets : List KeySet) (keys : TokenKeys) → sets ≡ alone set → option_map keys_in (current sets 0) ≡ Some keys → keys ≡ keys_in set
keys_of_alone set sets keys is found =
    let same : Some (keys_in set) ≡ Some keys = ap (λ (l : List KeySet). option_map keys_in (current l 0)) (sym is) ∙ found in cc

-- the new sender, once it gave a front
pub first_front : (set : KeySet) (s t : SenderState) → s ≡ advanced Encrypt t → IsSender t → t.used ≡ 0 → t.keys ≡ keys_in set → t.first_block ≡ 1 → IsFirstFront set s
first_front set s t is sender used keys first_block = subst (IsFirstFront set) (sym is) (record {
  fronted = refl;
  sender = record { random = sender.random; used = omega (arith, used) };
  keys = keys;
  first_block = first_block;
})

-- ---- what a guard finds

-- a security part that is lent is the header's
security_lent : (lent : Option (Bor SecurityPart)) (security : Option SecurityPart) → option_copied lent ≡ security → security_told lent ≡ if_there security_in security
security_lent None security is = ap (if_there security_in) is
security_lent (Some part) security is = ap (if_there security_in) is

pub read_secured : (datagram : List ℕ) (header : Header) (payload : ℕ) (lent : Option (Bor SecurityPart)) → BeginsWith datagram (header_in header) payload
    → option_copied lent ≡ header.security → IsSecured datagram (security_told lent) payload
read_secured datagram header payload lent begins is = record { header = header_in header; begins = begins; has = sym (security_lent lent header.security is) }

same_verdict : (setup : Setup) (datagram : List ℕ) (found : Option SecurityValue) (at : ℕ) (security : SecurityValue) (payload : ℕ) → IsSecured datagram found at
    → IsSecured datagram (Some security) payload → verdict setup.mode setup.keys [] found datagram at ≡ verdict setup.mode setup.keys [] (Some security) datagram payload
same_verdict setup datagram found at security payload read is =
    ap (λ (o : Option SecurityValue). verdict setup.mode setup.keys [] o datagram at) (one_security datagram found (Some security) at payload read is)
    ∙ ap (λ (n : ℕ). verdict setup.mode setup.keys [] (Some security) datagram n) (one_place datagram found (Some security) at payload read is)

pub finds_refused : (setup : Setup) (datagram : List ℕ) (found : Option SecurityValue) (at : ℕ) (fault : OpenFault) → IsSecured datagram found at
    → Err fault ≡ verdict setup.mode setup.keys [] found datagram at → Finds setup datagram None
finds_refused setup datagram found at fault read refused security payload is =
    ap (payload_by setup datagram payload) (refused ∙ same_verdict setup datagram found at security payload read is)

pub finds_passed : (setup : Setup) (datagram new bytes : List ℕ) (found : Option SecurityValue) (at : ℕ) (pass : Pass1) → IsSecured datagram found at
    → Ok pass ≡ verdict setup.mode setup.keys [] found datagram at → new ≡ opened_by setup pass at datagram → bytes ≡ slice_range new at pass.end → Finds setup datagram (Some bytes)
finds_passed setup datagram new bytes found at pass read passed new_is bytes_is security payload is =
    ap Some bytes_is ∙ ap (λ (xs : List ℕ). Some (slice_range xs at pass.end)) new_is
    ∙ ap (λ (n : ℕ). Some (slice_range (opened_by setup pass n datagram) n pass.end)) (one_place datagram found (Some security) at payload read is)
    ∙ ap (payload_by setup datagram payload) (passed ∙ same_verdict setup datagram found at security payload read is)

-- ---- what was protected is found

first_of_all : (known : Bool) (token number : ℕ) → known ≡ true → (known && not (nat_lt token 0) && not false && not (nat_le (number + 1024) 0)) ≡ true
first_of_all known token number is = grind (arith, nat_tests)

acceptable : (keys : List TokenKeys) (k : TokenKeys) (number : ℕ) → keys_with keys k.token ≡ Some k → is_acceptable keys [] k.token number ≡ true
acceptable keys k number known = first_of_all (is_some (keys_with keys k.token)) k.token number (ap is_some known)

found_zeros : (s : SenderState) (keys : List TokenKeys) (header : List ℕ) → MayOpen Encrypt s keys []
    → found_by (record { keys = keys; mode = Encrypt; first_block = s.first_block }) (front_value Encrypt s) (sent Encrypt s header zeros) (length header) ≡ Some zeros
found_zeros s keys header may =
    let setup : Setup = record { keys = keys; mode = Encrypt; first_block = s.first_block } in
    let datagram = sent Encrypt s header zeros in
    let pass = sent_pass s header zeros in
    let restored : opened_by setup pass (length header) datagram ≡ header ++ (zeros ++ signature_of datagram) =
    payload_restored Encrypt s keys header zeros may.known ∙ append_assoc header zeros (signature_of datagram) in
    ap (payload_by setup datagram (length header)) (sent_is_passed Encrypt s keys [] header zeros may)
    ∙ ap (λ (xs : List ℕ). Some (slice_range xs (length header) pass.end)) restored
    ∙ ap Some (middle header zeros (signature_of datagram) (length header) pass.end refl refl)

found_protected : (setup : Setup) (set : KeySet) (datagram : List ℕ) → setup.mode ≡ Encrypt → setup.first_block ≡ 1 → keys_with setup.keys set.token ≡ Some (keys_in set)
    → (is : IsProtected set datagram) → found_by setup (front_value Encrypt is.sender) datagram (length is.header) ≡ Some zeros
found_protected setup set datagram mode first_block known is =
    let s = is.sender in
    let has : keys_with setup.keys s.keys.token ≡ Some s.keys = subst (λ (k : TokenKeys). keys_with setup.keys k.token ≡ Some k) (sym is.keys) known in
    let may : MayOpen Encrypt s setup.keys [] =
    record { secured = refl; random = is.whole.random; number = is.whole.used; known = has; acceptable = acceptable setup.keys s.keys s.used has } in
    let of_guard : setup ≡ record { keys = setup.keys; mode = Encrypt; first_block = s.first_block } =
    ap (λ m. record { keys = setup.keys; mode = m; first_block = setup.first_block }) mode
    ∙ ap (λ (n : ℕ). record { keys = setup.keys; mode = Encrypt; first_block = n }) (first_block ∙ sym is.first_block) in
    ap (λ (xs : List ℕ). found_by setup (front_value Encrypt s) xs (length is.header)) is.sent
    ∙ ap (λ (g : Setup). found_by g (front_value Encrypt s) (sent Encrypt s is.header zeros) (length is.header)) of_guard
    ∙ found_zeros s setup.keys is.header may

-- whichever header is read of it
pub protected_is_found : (guard : Guard) (set : KeySet) (datagram : List ℕ) → CanOpen guard set → IsProtected set datagram → FindsZeros (setup_of guard) datagram true
protected_is_found guard set datagram can is security payload read =
    let setup = setup_of guard in
    let front = front_value Encrypt is.sender in
    let found : found_by setup front datagram (length is.header) ≡ Some zeros = found_protected setup set datagram can.mode can.first_block can.known is in
    let same_place : length is.header ≡ payload = one_place datagram (Some front) (Some security) (length is.header) payload is.secured read in
    let one_verdict : verdict setup.mode setup.keys [] (Some front) datagram (length is.header) ≡ verdict setup.mode setup.keys [] (Some security) datagram payload =
    same_verdict setup datagram (Some front) (length is.header) security payload is.secured read in
    sym (ap is_zeros
    (ap (payload_by setup datagram payload) (sym one_verdict)
    ∙ ap (λ (n : ℕ). payload_by setup datagram n (verdict setup.mode setup.keys [] (Some front) datagram (length is.header))) (sym same_place)
    ∙ found))

-- a datagram of four zero bytes that was protected under a key that the guard has: it finds these
pub finds_zeros : (setup : Setup) (set : KeySet) (datagram : List ℕ) (found : Option (List ℕ)) → setup.mode ≡ Encrypt → setup.first_block ≡ 1
    → keys_with setup.keys set.token ≡ Some (keys_in set) → IsProtected set datagram → Finds setup datagram found → found ≡ Some zeros
finds_zeros setup set datagram found mode first_block known is finds =
    finds (front_value Encrypt is.sender) (length is.header) is.secured ∙ found_protected setup set datagram mode first_block known is
