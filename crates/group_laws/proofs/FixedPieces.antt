-- What the datagram of a fixed turn has for a reader: what stands in its writer's slot.
use Rattle.std.proofs.Common.{◌≡◌, ◌≢◌, refl, sym, ap, ◌∙◌, subst, arith, ℕ, suc, ◌+◌, Bool, true, false, List, [], ◌∷◌, ◌++◌, length, map, replicate, All, Contains, Option, Some, None, IfSome, is_some}
use Rattle.std.specs.Prelude.{nat_lt, option_map, slice_index_or, if◌then◌else◌}
use Rattle.std.specs.List.{flat_map}
use Rattle.std.proofs.lemmas.Bool.{lt-ltb}
use Rattle.std.proofs.lemmas.List.{length-map}
use Rattle.std.proofs.lemmas.List.Elements.{All-contains, All-map}
use Rattle.uadp_header.specs.Headers.{IdsValue, NoIds, SecurityValue}
use Rattle.uadp_header.specs.Spelling.{IsWritten, header_bytes, len_if, security_len}
use Rattle.ua_binary.specs.Wire.{flag}
use Rattle.uadp_header.proofs.Lengths.{length-header}
use Rattle.message_guard.specs.Senders.{SenderState, IsSender, front_value}
use Rattle.message_guard.proofs.Restoring.{length-nonce}
use Rattle.fixed_layout.specs.declared.slot.Slot.{Slot}
use Rattle.fixed_layout.specs.Datagrams.{AreFrames, datagram_of, filled, fixed_payload, slot_at, slot_of}
use Rattle.fixed_layout.specs.Slots.{AreApart}
use Rattle.fixed_layout.proofs.DatagramLaws.{datagram-split, held-datagram, free-datagram}
use Rattle.config_tables.specs.declared.words.Layout.{Layout}
use Rattle.config_tables.specs.declared.words.Layout.TheVariants as layouts
use Rattle.config_tables.specs.declared.words.Security.{Security}
use Rattle.config_tables.specs.declared.words.Security.TheVariants as security
use Rattle.ps_config.specs.declared.header.HeaderSettings.{HeaderSettings}
use Rattle.ps_config.specs.declared.parts.Config.{Config}
use Rattle.ps_config.specs.declared.parts.GroupPart.{GroupPart}
use Rattle.ps_config.specs.FixedSound.{IsFixedGroup, writer_slot}
use Rattle.ps_config.specs.Headers.{is_secured, publisher_value, security_value, mode_of}
use Rattle.ps_config.specs.Rooms.{header_settings, is_fixed}
use Rattle.writer_group.specs.Envelopes.{Numbering, IsSecuredAs, numbered_header}
use Rattle.writer_group.specs.Payloads.{Spelled, fixed_header, fixed_payloads, payloads_by, slots_of, writer_at, meta_at}
use Rattle.writer_group.specs.Sealing.{AreWritten, envelope_with, Payload, header_at}
use Rattle.writer_group.specs.Turns.{GroupDeed, TurnInput, envelope_of, frame_of_writer, frames_in, frames_from, made_in, turns_from, frame_by}
use Rattle.writer_group.proofs.HeaderLengths.{numbered-len}
use Rattle.reader_group.specs.Members.{Seat}
use Rattle.reader_group.specs.Opening.{Opened}
use Rattle.reader_group.specs.Payloads.{slot_piece, reader_slot, pieces}
use Rattle.reader_group.specs.Settings.{keygroup_at}
use Rattle.group_laws.specs.Matching.{ReadsWriter, IsSenderOf, IsGroupTurn, MaySend}
use Rattle.group_laws.specs.TurnOpened.{sender_at, opened_from, turn_opened}
use Rattle.group_laws.specs.TurnPieces.{fixed_pieces, turn_pieces, writer_pieces}
use Rattle.group_laws.specs.TurnReading.{IsFixedTurn}
use Rattle.writer_group.proofs.RisingFrames.{frames-rise}
use Rattle.group_laws.proofs.FixedFrames.{IsAnswered, IsSlotted, are-frames, frames-slotted, has-frame, has-none, in_slot, own-slot}
use Rattle.group_laws.proofs.TurnTaken.{advanced-random}
use Rattle.writer_group.proofs.SmallIds.{group-sound}

-- ---- the header is as long as the slots leave room for

class-len : (class_id : Option (List ℕ)) → IfSome class_id (λ guid. length guid ≡ 16) → len_if length class_id ≡ flag (is_some class_id) 16
class-len None is = refl
class-len (Some guid) is = is

class-of : (config : Config) (group : GroupPart) (made index : ℕ) (sender : Option SenderState) (ids : IdsValue) → IsWritten (header_at (envelope_with config group made) sender index ids) → IfSome group.class_id (λ guid. length guid ≡ 16)
class-of config group made index None ids is = is.header.class_id
class-of config group made index (Some s) ids is = is.header.class_id

numbered-long : (config : Config) (group : GroupPart) (n : Numbering) → IfSome group.class_id (λ guid. length guid ≡ 16) → IsSecuredAs (header_settings group) n.security
    → length (header_bytes (numbered_header (publisher_value config.publisher.id) (header_settings group) n NoIds)) ≡ fixed_header config.publisher.id group
numbered-long config group n guid secured =
    length-header (numbered_header (publisher_value config.publisher.id) (header_settings group) n NoIds) (class-len group.class_id guid)
    ∙ numbered-len config.publisher.id (header_settings group) n NoIds NoIds secured refl refl

secured-none : (settings : HeaderSettings) (s : Security) → settings.security ≡ s → is_secured s ≡ false → IsSecuredAs settings None
secured-none settings security.None at unsecured = record {
  there = sym (ap (λ (s : Security). is_some (security_value s)) at);
  long = sym (ap (λ (s : Security). len_if security_len (security_value s)) at);
}
secured-none settings security.Sign at unsecured = absurd (let wrong : Path Bool true false = unsecured in cc)
secured-none settings security.Encrypt at unsecured = absurd (let wrong : Path Bool true false = unsecured in cc)

secured-some : (settings : HeaderSettings) (s : Security) (front : SecurityValue) → settings.security ≡ s → is_secured s ≡ true → length front.nonce ≡ 8 → IsSecuredAs settings (Some front)
secured-some settings security.None front at secured eight = absurd (let wrong : Path Bool false true = secured in cc)
secured-some settings security.Sign front at secured eight = record {
  there = sym (ap (λ (s : Security). is_some (security_value s)) at);
  long = ap (λ (n : ℕ). 6 + n) eight ∙ sym (ap (λ (s : Security). len_if security_len (security_value s)) at);
}
secured-some settings security.Encrypt front at secured eight = record {
  there = sym (ap (λ (s : Security). is_some (security_value s)) at);
  long = ap (λ (n : ℕ). 6 + n) eight ∙ sym (ap (λ (s : Security). len_if security_len (security_value s)) at);
}

sender-there : (config : Config) (s : SenderState) (keygroup : Option ℕ) → is_some keygroup ≡ true → IfSome keygroup (λ index. IsSenderOf (keygroup_at config index) s) → IsSender s
sender-there config s None there is = absurd (let wrong : Path Bool false true = there in cc)
sender-there config s (Some index) there is = is.sender_is

pub header-long : (config : Config) (group : GroupPart) (made index count : ℕ) (sender : Option SenderState) → IfSome group.class_id (λ guid. length guid ≡ 16) → is_secured group.security ≡ is_some group.keygroup → MaySend config group count sender
    → length (header_bytes (header_at (envelope_with config group made) sender index NoIds)) ≡ fixed_header config.publisher.id group
header-long config group made index count None guid keyed may =
    numbered-long config group (record { sequence = made + index; message = index + 1; security = None }) guid (secured-none (header_settings group) group.security refl may)
header-long config group made index count (Some s) guid keyed may =
    let now = sender_at (envelope_with config group made) s index in
    let sender_is = sender-there config s group.keygroup (sym keyed ∙ may.0) may.2 in
    let eight : length (front_value (mode_of group.security) now).nonce ≡ 8 = length-nonce now.random now.used (ap length (advanced-random (mode_of group.security) s (suc index)) ∙ sender_is.random) in
    numbered-long config group (record { sequence = made + index; message = index + 1; security = Some (front_value (mode_of group.security) now) }) guid
    (secured-some (header_settings group) group.security (front_value (mode_of group.security) now) refl may.0 eight)

-- ---- what stands in a slot

same-slot : (datagram : List ℕ) (one other : Slot) → one.offset ≡ other.offset → one.size ≡ other.size → slot_of datagram one ≡ slot_of datagram other
same-slot datagram one other offset size =
    ap (λ (o : ℕ). slot_of datagram (record { offset = o; size = one.size; need = one.need })) offset
    ∙ ap (λ (z : ℕ). slot_of datagram (record { offset = other.offset; size = z; need = other.need })) size

module _ (config : Config) (group : GroupPart) (past : List GroupDeed) (input : TurnInput) (writer : ℕ) (seat : Seat) (is : group.layout ≡ layouts.Fixed) (turn : IsGroupTurn config group past input)
    (fixed : IsFixedTurn config group past input) (reader : ReadsWriter group writer seat.part) where
  abbrev frames : List Spelled
  frames = frames_in group past input

  abbrev slots : List Slot
  slots = slots_of config group

  abbrev tooks : List (Option Rattle.pubsub_model.specs.Cadence.WriterTurn)
  tooks = turns_from group input.told 0 input.on

  group_fixed : IsFixedGroup config group
  group_fixed = All-contains (λ (g : GroupPart). is_fixed g.layout ≡ true → IsFixedGroup config g) config.group group fixed.fixed.groups turn.group_is (ap is_fixed is)

  many : (from : ℕ) (on : List Bool) → length (turns_from group input.told from on) ≡ length on
  many from [] = refl
  many from (b ∷ on) = ap suc (many (from + 1) on)

  slotted : All (IsSlotted config group) frames
  slotted =
      let few = turn.on in
      let long = many 0 input.on in
      frames-slotted config group past input is group_fixed (group-sound config group turn.sound turn.group_is) (fixed.metas.fixed (ap is_fixed is)) 0 tooks (omega (arith, few, long))
      (λ k below. let here : 0 + k ≡ k = omega arith in subst (λ (w : ℕ). IsAnswered group past input w (slice_index_or tooks k None)) (sym here) (fixed.sampled k (omega (arith, below, few, long))).frame)

  are : AreFrames slots (map in_slot frames)
  are = are-frames config group frames slotted (frames-rise group input.told.metas past 0 tooks)

  abbrev header : List ℕ
  header = header_bytes (header_at (envelope_of config group past) input.sender 0 NoIds)

  abbrev payload : Payload
  payload = (NoIds, fixed_payload (fixed_header config.publisher.id group) slots (map in_slot frames))

  some : nat_lt 0 (length group.writer) ≡ true
  some = lt-ltb 0 (length group.writer) (let below = reader.within in omega (arith, below))

  written : AreWritten (envelope_of config group past) input.sender 0 (payload ∷ [])
  written =
      subst (λ (b : Bool). AreWritten (envelope_of config group past) input.sender 0 (if b then payload ∷ [] else [])) some
      (subst (λ (l : Layout). AreWritten (envelope_of config group past) input.sender 0 (payloads_by l config group frames)) is turn.written)

  guid : IfSome group.class_id (λ guid. length guid ≡ 16)
  guid = class-of config group (made_in past) 0 input.sender NoIds written.0

  long : length header ≡ fixed_header config.publisher.id group
  long = header-long config group (made_in past) 0 _ input.sender guid (group-sound config group turn.sound turn.group_is).keys.keyed turn.sender

  apart : AreApart (length header) slots
  apart = subst (λ (n : ℕ). AreApart n slots) (sym long) group_fixed.slots.apart

  abbrev datagram : List ℕ
  datagram = header ++ fixed_payload (fixed_header config.publisher.id group) slots (map in_slot frames)

  datagram-is : datagram ≡ datagram_of header slots (map in_slot frames)
  datagram-is = ap (λ (n : ℕ). header ++ fixed_payload n slots (map in_slot frames)) (sym long) ∙ sym (datagram-split header slots (map in_slot frames) apart are)

  slot-same : slot_of datagram (reader_slot seat.part) ≡ slot_of (datagram_of header slots (map in_slot frames)) (slot_at slots writer)
  slot-same =
      let own = own-slot config group writer reader.within in
      let fixed_is : is_fixed group.layout ≡ true = ap is_fixed is in
      ap (λ (d : List ℕ). slot_of d (reader_slot seat.part)) datagram-is
      ∙ same-slot (datagram_of header slots (map in_slot frames)) (reader_slot seat.part) (slot_at slots writer) (reader.offset fixed_is ∙ sym (ap (λ (s : Slot). s.offset) own)) (reader.size fixed_is ∙ sym (ap (λ (s : Slot). s.size) own))

  in-slots : (frame : Spelled) → Contains frames frame → Contains (map in_slot frames) (in_slot frame)
  in-slots frame has =
      let below = has.1 in
      let size = length-map frames in_slot in
      (has.0, omega (arith, below, size), Rattle.std.proofs.lemmas.List.get_or-map in_slot frames has.0 frame (in_slot frame) below ∙ ap in_slot has.2)

  held : (frame : Spelled) → Contains frames frame → frame.writer ≡ writer → slot_of datagram (reader_slot seat.part) ≡ Some (filled (writer_slot config (writer_at group writer)) frame.bytes)
  held frame has own =
      let at = All-contains (λ (f : ℕ × List ℕ). slot_of (datagram_of header slots (map in_slot frames)) (slot_at slots f.0) ≡ Some (filled (slot_at slots f.0) f.1)) (map in_slot frames) (in_slot frame)
      (held-datagram header slots (map in_slot frames) apart are) (in-slots frame has) in
      slot-same ∙ ap (λ (w : ℕ). slot_of (datagram_of header slots (map in_slot frames)) (slot_at slots w)) (sym own) ∙ at
      ∙ ap (λ (w : ℕ). Some (filled (slot_at slots w) frame.bytes)) own
      ∙ ap (λ (s : Slot). Some (filled s frame.bytes)) (own-slot config group writer reader.within)

  free : All (λ frame. frame.writer ≢ writer) frames → slot_of datagram (reader_slot seat.part) ≡ Some (replicate (writer_slot config (writer_at group writer)).size 0)
  free none =
      slot-same
      ∙ free-datagram header slots (map in_slot frames) writer apart are (let size = length-map group.writer (writer_slot config) in let below = reader.within in omega (arith, size, below))
      (All-map (λ (f : ℕ × List ℕ). f.0 ≢ writer) in_slot frames none)
      ∙ ap (λ (s : Slot). Some (replicate s.size 0)) (own-slot config group writer reader.within)

  frame-own : (took : Option Rattle.pubsub_model.specs.Cadence.WriterTurn) (frame : Spelled) → frame_of_writer group input.told.metas past writer took ≡ Some frame → frame.writer ≡ writer
  frame-own None frame e = absurd (let wrong : Path (Option Spelled) None (Some frame) = e in cc)
  frame-own (Some turn) frame e = on (Rattle.writer_group.specs.Turns.answer_of group past writer turn) e
    where
      on : (answer : Option Rattle.pubsub_model.specs.Frames.PlacedFrame) → option_map (Rattle.writer_group.specs.Payloads.spelled_by group input.told.metas writer) answer ≡ Some frame → frame.writer ≡ writer
      on None e = absurd (let wrong : Path (Option Spelled) None (Some frame) = e in cc)
      on (Some placed) e = let same : Rattle.writer_group.specs.Payloads.spelled_by group input.told.metas writer placed ≡ frame = cc in sym (ap (λ (f : Spelled). f.writer) same)

  slot-has : (frame : Option Spelled) → frame_by group past input writer ≡ frame → slot_piece (slot_of datagram (reader_slot seat.part)) ∷ [] ≡ fixed_pieces config group writer frame
  slot-has None e =
      ap (λ (o : Option (List ℕ)). slot_piece o ∷ []) (free (has-none group input.told.metas past 0 writer writer tooks (omega arith) e))
  slot-has (Some frame) e =
      ap (λ (o : Option (List ℕ)). slot_piece o ∷ []) (held frame (has-frame group input.told.metas past 0 writer writer tooks frame (omega arith) e) (frame-own (slice_index_or tooks writer None) frame e))

  pub fixed-turn : flat_map (λ opened. pieces seat.part opened.payload) (turn_opened config group past input) ≡ turn_pieces config group past input writer
  fixed-turn =
      let e = envelope_of config group past in
      ap (λ (l : Layout). flat_map (λ (opened : Opened). pieces seat.part opened.payload) (opened_from l e input.sender 0 (payloads_by l config group frames))) is
      ∙ ap (λ (b : Bool). flat_map (λ (opened : Opened). pieces seat.part opened.payload) (opened_from layouts.Fixed e input.sender 0 (if b then payload ∷ [] else []))) some
      ∙ slot-has (frame_by group past input writer) refl
      ∙ ap (λ (l : Layout). writer_pieces l config group writer (frame_by group past input writer)) (sym is)
