-- A read group hands on what a sender spelled.
use Rattle.std.proofs.Common.{◌≡◌, refl, sym, ap, ap₂, ◌∙◌, arith, ℕ, ◌+◌, ◌-◌, ◌≤◌, Bool, true, false, not, List, [], ◌∷◌, ◌++◌, length, take, append_assoc, length-append, Option, Some, None}
use Rattle.std.specs.Prelude.{Result, Ok, replicate}
use Rattle.std.proofs.lemmas.List.Elements.{All-contains}
use Rattle.std.specs.Int.{w16, to_le_bytes}
use Rattle.std.specs.List.{flat_map}
use Rattle.std.proofs.Math.Seq.{take-length, take-append_seam, drop-append_seam}
use Rattle.uadp_header.specs.Headers.{HeaderValue, IdsValue, SecurityValue, ids_of}
use Rattle.uadp_header.specs.Layout.{header_at}
use Rattle.uadp_header.specs.Spelling.{header_bytes}
use Rattle.uadp_header.proofs.Again.{header_again}
use Rattle.uadp_header.proofs.IdLaws.{ids-again}
use Rattle.payload_layout.specs.Payloads as layout
use Rattle.payload_layout.specs.Payloads.{ids_in, frames_in, parts_of}
use Rattle.payload_layout.proofs.Again.{parts-again}
use Rattle.fixed_layout.specs.declared.slot.Slot.{Slot}
use Rattle.fixed_layout.specs.Slots.{AreApart}
use Rattle.fixed_layout.specs.Datagrams.{AreFrames, filled, slot_of, slot_at, datagram_of, fixed_payload}
use Rattle.fixed_layout.proofs.DatagramLaws.{held-datagram, free-datagram, datagram-split}
use Rattle.hmac_sign.specs.Hmac.{hmac_sha256}
use Rattle.message_guard.specs.declared.keys.TokenKeys.{TokenKeys}
use Rattle.message_guard.specs.declared.mode.Mode.{Mode}
use Rattle.message_guard.specs.declared.mode.Mode.TheVariants as modes
use Rattle.message_guard.specs.declared.pass.Pass1.{Pass1}
use Rattle.message_guard.specs.Modes.{is_secured}
use Rattle.message_guard.specs.Protection.{message_nonce, with_stream, signature_of}
use Rattle.message_guard.specs.Acceptance.{Accepted}
use Rattle.message_guard.specs.Guards.{Setup}
use Rattle.message_guard.specs.Opening as guards
use Rattle.message_guard.specs.Opened.{sent_pass}
use Rattle.message_guard.specs.Senders.{SenderState, front_value}
use Rattle.message_guard.proofs.Plain.{open_is_left}
use Rattle.message_guard.proofs.Restoring.{sent_is_found, payload_restored}
use Rattle.ps_config.specs.declared.parts.ReadGroupPart.{ReadGroupPart}
use Rattle.ps_config.specs.declared.parts.ReaderPart.{ReaderPart}
use Rattle.reader_group.specs.declared.refusal.Refusal.{Refusal}
use Rattle.reader_group.specs.declared.refusal.Refusal.TheVariants as refusals
use Rattle.reader_group.specs.Filter.{is_ours}
use Rattle.reader_group.specs.Payloads.{Chunk, Messages, Slotted, payload_of, pieces, slot_piece, reader_slot}
use Rattle.reader_group.specs.Opening.{Opened, Refusals, decrypted, list_of, opened_as, verdict, verdict_of}
use Rattle.reader_group.specs.Handing.{IsLaid, HasSpelled, HandsOn, MessagesComeBack, ChunkComesBack, HasSlotAt, in_slots, SlotsComeBack}
use Rattle.message_guard.specs.Opening.{judged}
use Rattle.message_guard.proofs.Judged.{ok_err, judged-value}
use Rattle.reader_group.proofs.Opened.{behind_filter}

-- ---- a datagram that is taken

-- behind its header this rest
record IsTaken (group : ReadGroupPart) (setup : Setup) (header : HeaderValue) (datagram : List ℕ) (opened : Opened) : Type 0 where
  ours : is_ours group header ≡ true
  is : opened_as group setup datagram header (length (header_bytes header)) ≡ opened

ours-passed : {X : Type 0} (ours : Bool) (P : Refusals) (x y : X) → judged ((not ours, refusals.NotOurs) ∷ P) x ≡ Ok y → ours ≡ true
ours-passed true P x y e = refl
ours-passed false P x y e = ok_err (sym e)

taken-with : (group : ReadGroupPart) (setup : Setup) (accepted : Accepted) (header : HeaderValue) (datagram rest : List ℕ) (opened : Opened) → datagram ≡ header_bytes header ++ rest
    → header_at (header_bytes header ++ rest) ≡ Ok (header, rest) → verdict group setup accepted datagram ≡ Ok opened → IsTaken group setup header datagram opened
taken-with group setup accepted header datagram rest opened is read taken =
    let at : length datagram - length rest ≡ length (header_bytes header) = omega (arith, ap length is, length-append (header_bytes header) rest) in
    let judged_at : ℕ → Result Opened Refusal = λ n. judged (list_of group setup accepted datagram header n) (opened_as group setup datagram header n) in
    let passed : judged_at (length (header_bytes header)) ≡ Ok opened =
    sym (ap judged_at at) ∙ sym (ap (λ (bytes : List ℕ). verdict_of group setup accepted datagram (header_at bytes)) is ∙ ap (verdict_of group setup accepted datagram) read) ∙ taken in
    record {
      ours = ours-passed (is_ours group header) (behind_filter group setup accepted datagram header (length (header_bytes header))) (opened_as group setup datagram header (length (header_bytes header))) opened passed;
      is = judged-value (list_of group setup accepted datagram header (length (header_bytes header))) (opened_as group setup datagram header (length (header_bytes header))) opened passed;
    }

-- what it has for the readers, by what it is once it is decrypted
handed : (group : ReadGroupPart) (setup : Setup) (header : HeaderValue) (payload datagram : List ℕ) (opened : Opened) → IsTaken group setup header datagram opened
    → decrypted setup (guards.pass_of setup.mode header.security datagram) (length (header_bytes header)) datagram ≡ header_bytes header ++ payload → HasSpelled group header payload opened
handed group setup header payload datagram opened taken clear = record {
  ours = taken.ours;
  payload_is = sym (ap (λ (o : Opened). o.payload) taken.is) ∙ ap (payload_of group.layout header.ids (length (header_bytes header))) clear;
}

-- ---- without security

abbrev clear_bytes : (mode : Mode) (keys : List TokenKeys) (first_block : ℕ) → Option SecurityValue → ℕ → List ℕ → List ℕ
clear_bytes mode keys first_block security payload datagram =
    let pass = guards.pass_of mode security datagram in take pass.end (guards.opened mode keys first_block pass payload datagram)

open-clear : (keys : List TokenKeys) (first_block : ℕ) (security : Option SecurityValue) (payload : ℕ) (datagram : List ℕ) → payload ≤ length datagram
    → clear_bytes modes.None keys first_block security payload datagram ≡ datagram
open-clear keys first_block None payload datagram within = ap (take (length datagram)) (open_is_left keys first_block payload datagram within) ∙ take-length datagram
open-clear keys first_block (Some part) payload datagram within = ap (take (length datagram)) (open_is_left keys first_block payload datagram within) ∙ take-length datagram

none_mode : (mode : Mode) → is_secured mode ≡ false → mode ≡ modes.None
none_mode modes.None e = refl
none_mode modes.Sign e = absurd (let wrong : Path Bool true false = e in cc)
none_mode modes.Encrypt e = absurd (let wrong : Path Bool true false = e in cc)

-- ---- with security

sent-clear : (mode : Mode) (sender : SenderState) (keys : List TokenKeys) (header payload datagram : List ℕ) → is_secured mode ≡ true
    → guards.signed_pass (front_value mode sender) datagram ≡ sent_pass sender header payload
    → guards.opened mode keys sender.first_block (sent_pass sender header payload) (length header) datagram ≡ header ++ payload ++ signature_of datagram
    → clear_bytes mode keys sender.first_block (Some (front_value mode sender)) (length header) datagram ≡ header ++ payload
sent-clear mode sender keys header payload datagram secured found restored =
    let pass_is : guards.pass_of mode (Some (front_value mode sender)) datagram ≡ sent_pass sender header payload = rw secured found in
    let size : length header + length payload ≡ length (header ++ payload) = sym (length-append header payload) in
    ap (λ (pass : Pass1). take pass.end (guards.opened mode keys sender.first_block pass (length header) datagram)) pass_is
    ∙ ap (take (length header + length payload)) restored
    ∙ ap (λ (n : ℕ). take n ((header ++ payload) ++ signature_of datagram)) size
    ∙ take-append_seam (header ++ payload) (signature_of datagram)

-- what stands behind the header of a datagram that was sent
abbrev rest_of : Setup → SenderState → List ℕ → List ℕ → List ℕ
rest_of setup sender header payload =
    let spread = with_stream setup.mode sender.keys (message_nonce sender.random sender.used) sender.first_block payload in
    spread ++ hmac_sha256 sender.keys.signing (header ++ spread)

-- ---- the laws

hands_by : (secured : Bool) (group : ReadGroupPart) (setup : Setup) (accepted : Accepted) (header : HeaderValue) (payload datagram : List ℕ) (opened : Opened)
    → is_secured setup.mode ≡ secured → ((rest : List ℕ) → header_at (header_bytes header ++ rest) ≡ Ok (header, rest)) → IsLaid secured setup header payload datagram
    → verdict group setup accepted datagram ≡ Ok opened → HasSpelled group header payload opened
hands_by false group setup accepted header payload datagram opened unsecured read laid taken =
    let within : length (header_bytes header) ≤ length datagram = omega (arith, ap length laid, length-append (header_bytes header) payload) in
    let clear : decrypted setup (guards.pass_of setup.mode header.security datagram) (length (header_bytes header)) datagram ≡ datagram =
    ap (λ (mode : Mode). clear_bytes mode setup.keys setup.first_block header.security (length (header_bytes header)) datagram) (none_mode setup.mode unsecured)
    ∙ open-clear setup.keys setup.first_block header.security (length (header_bytes header)) datagram within in
    handed group setup header payload datagram opened (taken-with group setup accepted header datagram payload opened laid (read payload) taken) (clear ∙ laid)
hands_by true group setup accepted header payload datagram opened secured read laid taken =
    let sender = laid.sender in
    let bytes = header_bytes header in
    let rest = rest_of setup sender bytes payload in
    let spread = with_stream setup.mode sender.keys (message_nonce sender.random sender.used) sender.first_block payload in
    let split : datagram ≡ bytes ++ rest = laid.bytes ∙ append_assoc bytes spread (hmac_sha256 sender.keys.signing (bytes ++ spread)) in
    let found = ap (guards.signed_pass (front_value setup.mode sender)) laid.bytes ∙ sent_is_found setup.mode sender bytes payload laid.is_sender in
    let opened_at : List ℕ → List ℕ = λ d. guards.opened setup.mode setup.keys sender.first_block (sent_pass sender bytes payload) (length bytes) d in
    let restored = ap opened_at laid.bytes ∙ payload_restored setup.mode sender setup.keys bytes payload laid.known ∙ ap (λ (d : List ℕ). bytes ++ payload ++ signature_of d) (sym laid.bytes) in
    let clear : decrypted setup (guards.pass_of setup.mode header.security datagram) (length bytes) datagram ≡ bytes ++ payload =
    ap (λ (security : Option SecurityValue). clear_bytes setup.mode setup.keys setup.first_block security (length bytes) datagram) laid.front
    ∙ ap (λ (n : ℕ). clear_bytes setup.mode setup.keys n (Some (front_value setup.mode sender)) (length bytes) datagram) (sym laid.first_block)
    ∙ sent-clear setup.mode sender setup.keys bytes payload datagram secured found restored in
    handed group setup header payload datagram opened (taken-with group setup accepted header datagram rest opened split (read rest) taken) clear

pub hands-on : (group : ReadGroupPart) (setup : Setup) (accepted : Accepted) (header : HeaderValue) (payload datagram : List ℕ) → HandsOn group setup accepted header payload datagram
hands-on group setup accepted header payload datagram spelled opened taken =
    hands_by (is_secured setup.mode) group setup accepted header payload datagram opened refl (λ rest. header_again header rest spelled.written) spelled.laid taken

pub messages-back : (header : List ℕ) (parts : List (ℕ × List ℕ)) → MessagesComeBack header parts
messages-back header parts ids short =
    ap (λ (bytes : List ℕ). Messages (parts_of (ids_of (flat_map (to_le_bytes w16) (ids_in parts))) bytes)) (drop-append_seam header (layout.dynamic_payload (frames_in parts)))
    ∙ ap (λ (l : List ℕ). Messages (parts_of l (layout.dynamic_payload (frames_in parts)))) (ids-again (ids_in parts) ids)
    ∙ ap Messages (parts-again parts short)

pub chunk-back : (header : List ℕ) (writer : ℕ) (bytes : List ℕ) → ChunkComesBack header writer bytes
chunk-back header writer bytes = ap (Chunk writer) (drop-append_seam header bytes)

-- ---- slots

-- what stands in a slot goes by where it begins, and by its size
slot-same : (datagram : List ℕ) (slots : List Slot) (index : ℕ) (reader : ReaderPart) → HasSlotAt slots index reader
    → slot_of datagram (reader_slot reader) ≡ slot_of datagram (slot_at slots index)
slot-same datagram slots index reader has =
    ap₂ (λ (offset size : ℕ). slot_of datagram (record { offset = offset; size = size; need = 0 })) has.offset has.size

piece-is : (ids : IdsValue) (header : List ℕ) (slots : List Slot) (frames : List (ℕ × List ℕ)) (reader : ReaderPart) (index : ℕ) (bytes : List ℕ)
    → AreApart (length header) slots → AreFrames slots frames → HasSlotAt slots index reader
    → slot_of (datagram_of header slots frames) (slot_at slots index) ≡ Some bytes → pieces reader (in_slots ids header slots frames) ≡ Slotted bytes ∷ []
piece-is ids header slots frames reader index bytes apart are has holds =
    let here : slot_of (header ++ fixed_payload (length header) slots frames) (reader_slot reader) ≡ Some bytes =
    slot-same (header ++ fixed_payload (length header) slots frames) slots index reader has
    ∙ ap (λ (datagram : List ℕ). slot_of datagram (slot_at slots index)) (sym (datagram-split header slots frames apart are)) ∙ holds in
    ap (λ (found : Option (List ℕ)). slot_piece found ∷ []) here

pub slots-back : (ids : IdsValue) (header : List ℕ) (slots : List Slot) (frames : List (ℕ × List ℕ)) (reader : ReaderPart) → SlotsComeBack ids header slots frames reader
slots-back ids header slots frames reader apart are = record {
  laid = λ frame has slot.
      let holds = All-contains (λ (f : ℕ × List ℕ). slot_of (datagram_of header slots frames) (slot_at slots f.0) ≡ Some (filled (slot_at slots f.0) f.1)) frames frame
      (held-datagram header slots frames apart are) has in
      piece-is ids header slots frames reader frame.0 (filled (slot_at slots frame.0) frame.1) apart are slot holds
      ∙ ap (λ (size : ℕ). Slotted (frame.1 ++ replicate (size - length frame.1) 0) ∷ []) (sym slot.size);
  free = λ index slot other.
      piece-is ids header slots frames reader index (replicate (slot_at slots index).size 0) apart are slot (free-datagram header slots frames index apart are slot.within other)
      ∙ ap (λ (size : ℕ). Slotted (replicate size 0) ∷ []) (sym slot.size);
}
