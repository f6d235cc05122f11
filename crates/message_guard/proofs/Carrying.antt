-- The security header that a datagram is read with.
use Rattle.std.proofs.Common.{◌≡◌, ℕ, ◌+◌, ◌-◌, ◌≤◌, List, ◌++◌, length, take, drop, refl, sym, ◌∙◌, ap, subst, arith, append_assoc, Option, Some, Result, Ok}
use Rattle.std.proofs.lemmas.List.{length-append, length-drop, length-take-le, take-append-drop}
use Rattle.std.proofs.Math.Seq.{take-append_seam, drop-append_seam}
use Rattle.uadp_header.specs.Formats.{Spells, joined}
use Rattle.uadp_header.specs.Headers.{HeaderValue, SecurityValue, header_in}
use Rattle.uadp_header.specs.declared.header.Header.{Header}
use Rattle.uadp_header.specs.Layout.{header, header_at}
use Rattle.uadp_header.specs.Reading.{BeginsWith, GivesHeader, IsSecured}
use Rattle.uadp_header.specs.Spelling.{IsWritten, IsSendersSecurity, header_bytes}
use Rattle.uadp_header.specs.declared.fault.HeaderFault.{HeaderFault}
use Rattle.uadp_header.proofs.Again.{header_again}
use Rattle.uadp_header.proofs.FormatLaws.{read-spells, spells-read}
use Rattle.message_guard.specs.declared.mode.Mode.{Mode}
use Rattle.message_guard.specs.Protection.{payload_in}
use Rattle.message_guard.specs.Senders.{SenderState, IsSender, MayProtect, front_value, sent, made_of}
use Rattle.message_guard.proofs.Restoring.{length-nonce, sent_payload, tail}

-- a header is read of the bytes before the payload alone
spelled_again : (datagram tail : List ℕ) (h : HeaderValue) (payload : ℕ) → payload ≤ length datagram → Spells header datagram h (drop payload datagram)
    → Spells header (take payload datagram ++ tail) h tail
spelled_again datagram tail h payload within spelled =
    let parts = spelled.parts in
    let sizes : length datagram ≡ length (joined parts) + length (drop payload datagram) = ap length spelled.bytes_are ∙ length-append (joined parts) (drop payload datagram) in
    let halves : length datagram ≡ length (take payload datagram) + length (drop payload datagram) =
    sym (ap length (take-append-drop payload datagram)) ∙ length-append (take payload datagram) (drop payload datagram) in
    let taken : length (take payload datagram) ≡ payload = length-take-le payload datagram within in
    let len : payload ≡ length (joined parts) = omega (arith, sizes, halves, taken) in
    let front : take payload datagram ≡ joined parts =
    ap (λ (xs : List ℕ). take payload xs) spelled.bytes_are ∙ ap (λ (n : ℕ). take n (joined parts ++ drop payload datagram)) len
    ∙ take-append_seam (joined parts) (drop payload datagram) in
    record { parts = parts; stand = spelled.stand; bytes_are = ap (λ (xs : List ℕ). xs ++ tail) front }

read_again : (datagram tail : List ℕ) (h : HeaderValue) (payload : ℕ) → payload ≤ length datagram → header_at datagram ≡ Ok (h, drop payload datagram)
    → header_at (take payload datagram ++ tail) ≡ Ok (h, tail)
unfolding header_at
read_again datagram tail h payload within read =
    spells-read header (take payload datagram ++ tail) h tail
    (spelled_again datagram tail h payload within (read-spells header datagram h (drop payload datagram) read))

pub still_secured : (datagram tail : List ℕ) (security : Option SecurityValue) (payload : ℕ) → IsSecured datagram security payload
    → IsSecured (take payload datagram ++ tail) security payload
still_secured datagram tail security payload is =
    let len : length (take payload datagram) ≡ payload = length-take-le payload datagram is.begins.within in
    let behind : drop payload (take payload datagram ++ tail) ≡ tail =
    ap (λ (n : ℕ). drop n (take payload datagram ++ tail)) (sym len) ∙ drop-append_seam (take payload datagram) tail in
    record {
      header = is.header;
      begins = record {
        within = omega (arith, len, length-append (take payload datagram) tail);
        read = read_again datagram tail is.header payload is.begins.within is.begins.read ∙ ap (λ (xs : List ℕ). Ok (is.header, xs)) (sym behind);
      };
      has = is.has;
    }

-- bytes are read with one security header
pub one_security : (datagram : List ℕ) (a b : Option SecurityValue) (at end : ℕ) → IsSecured datagram a at → IsSecured datagram b end → a ≡ b
one_security datagram a b at end first second =
    let both : Path (Result (HeaderValue × List ℕ) HeaderFault) (Ok (first.header, drop at datagram)) (Ok (second.header, drop end datagram)) = sym first.begins.read ∙ second.begins.read in
    let pair : Path (HeaderValue × List ℕ) (first.header, drop at datagram) (second.header, drop end datagram) = cc in
    sym first.has ∙ ap (λ (p : HeaderValue × List ℕ). p.0.security) pair ∙ second.has

-- and up to one place
same_rest : (xs : List ℕ) (at end : ℕ) → at ≤ length xs → end ≤ length xs → drop at xs ≡ drop end xs → at ≡ end
same_rest xs at end one other same =
    let left : length xs - at ≡ length xs - end = sym (length-drop at xs) ∙ ap length same ∙ length-drop end xs in
    omega (arith, left, one, other)

pub one_place : (datagram : List ℕ) (a b : Option SecurityValue) (at end : ℕ) → IsSecured datagram a at → IsSecured datagram b end → at ≡ end
one_place datagram a b at end first second =
    let both : Path (Result (HeaderValue × List ℕ) HeaderFault) (Ok (first.header, drop at datagram)) (Ok (second.header, drop end datagram)) = sym first.begins.read ∙ second.begins.read in
    let pair : Path (HeaderValue × List ℕ) (first.header, drop at datagram) (second.header, drop end datagram) = cc in
    same_rest datagram at end first.begins.within second.begins.within (ap (λ (p : HeaderValue × List ℕ). p.1) pair)

-- where a read header ends, there ends the one that a sender may protect
pub place_read : (result : Result (Header × ℕ) HeaderFault) (found : Header × ℕ) (datagram : List ℕ) (mode : Mode) (s : SenderState) (payload : ℕ)
    → GivesHeader result datagram → result ≡ Ok found → MayProtect mode s datagram payload → found.1 ≡ payload
place_read result found datagram mode s payload gives is may =
    let begins : BeginsWith datagram (header_in found.0) found.1 = subst (λ (r : Result (Header × ℕ) HeaderFault). GivesHeader r datagram) is gives in
    one_place datagram (header_in found.0).security (Some (front_value mode s)) found.1 payload (record { header = header_in found.0; begins = begins; has = refl }) may.header

-- a written header tells its security header, whatever follows it
pub written_tells : (h : HeaderValue) (rest : List ℕ) → IsWritten h → IsSecured (header_bytes h ++ rest) h.security (length (header_bytes h))
written_tells h rest is =
    let behind : drop (length (header_bytes h)) (header_bytes h ++ rest) ≡ rest = drop-append_seam (header_bytes h) rest in
    record {
      header = h;
      begins = record {
        within = omega (arith, length-append (header_bytes h) rest);
        read = header_again h rest is ∙ ap (λ (xs : List ℕ). Ok (h, xs)) (sym behind);
      };
      has = refl;
    }

pub written_carries : (h : HeaderValue) (security : Option SecurityValue) (rest : List ℕ) → IsWritten h → h.security ≡ security
    → IsSecured (header_bytes h ++ rest) security (length (header_bytes h))
written_carries h security rest is has =
    subst (λ (o : Option SecurityValue). IsSecured (header_bytes h ++ rest) o (length (header_bytes h))) has (written_tells h rest is)

-- a sent datagram is its header and what follows
pub sent_parts : (mode : Mode) (s : SenderState) (header payload : List ℕ)
    → sent mode s header payload ≡ header ++ (sent_payload mode s header payload ++ tail mode s header payload)
sent_parts mode s header payload = append_assoc header (sent_payload mode s header payload) (tail mode s header payload)

pub sent_carries : (mode : Mode) (s : SenderState) (h : HeaderValue) (payload : List ℕ) → IsWritten h → h.security ≡ Some (front_value mode s)
    → IsSecured (sent mode s (header_bytes h) payload) (Some (front_value mode s)) (length (header_bytes h))
sent_carries mode s h payload is has =
    subst (λ (bytes : List ℕ). IsSecured bytes (Some (front_value mode s)) (length (header_bytes h))) (sym (sent_parts mode s (header_bytes h) payload))
    (written_carries h (Some (front_value mode s)) (sent_payload mode s (header_bytes h) payload ++ tail mode s (header_bytes h) payload) is has)

pub made_carries : (mode : Mode) (s : SenderState) (datagram : List ℕ) (payload : ℕ) → IsSecured datagram (Some (front_value mode s)) payload
    → IsSecured (made_of mode s datagram payload) (Some (front_value mode s)) payload
made_carries mode s datagram payload is =
    let header = take payload datagram in
    let bytes = payload_in datagram payload in
    subst (λ (made : List ℕ). IsSecured made (Some (front_value mode s)) payload) (sym (sent_parts mode s header bytes))
    (still_secured datagram (sent_payload mode s header bytes ++ tail mode s header bytes) (Some (front_value mode s)) payload is)

pub front_is_senders : (mode : Mode) (s : SenderState) → IsSender s → IsSendersSecurity (front_value mode s)
front_is_senders mode s is = record { no_footer = refl; no_reset = refl; nonce = length-nonce s.random s.used is.random }
