-- No datagram of a group's turn is longer than its largest may be: of slots, and of a whole turn.
use Rattle.std.proofs.Common.{◌≡◌, ℕ, ◌+◌, ◌-◌, ◌<◌, ◌≤◌, Bool, true, false, List, [], ◌∷◌, length, get_or, is_some, nat_lt, refl, sym, ap, subst, arith, inl, inr, Option, All}
use Rattle.std.specs.Prelude.{if◌then◌else◌}
use Rattle.std.proofs.lemmas.Bool.{ltb-true}
use Rattle.std.proofs.lemmas.List.{length-map}
use Rattle.std.proofs.lemmas.List.Elements.{All-cons, All-nil, All-weaker}
use Rattle.dataset_meta.specs.Metas.{MetaData}
use Rattle.ua_binary.specs.Wire.{flag}
use Rattle.uadp_header.specs.Headers.{NoIds}
use Rattle.uadp_header.specs.Spelling.{len_if}
use Rattle.payload_layout.specs.Packing.{packs_of}
use Rattle.payload_layout.proofs.Packs.{packs-frames, packs-sound}
use Rattle.fixed_layout.specs.declared.slot.Slot.{Slot}
use Rattle.fixed_layout.specs.Datagrams.{AreFrames, fixed_payload, last_end, slot_at}
use Rattle.fixed_layout.specs.Slots.{end_of}
use Rattle.fixed_layout.proofs.DatagramLaws.{ends-last, header-apart, last-within, length-payload}
use Rattle.fixed_layout.proofs.SlotLaws.{apart-header}
use Rattle.message_guard.specs.Senders.{SenderState}
use Rattle.config_tables.specs.declared.words.Layout.{Layout}
use Rattle.config_tables.specs.declared.words.Layout.TheVariants as layout
use Rattle.ps_config.specs.declared.parts.Config.{Config}
use Rattle.ps_config.specs.declared.parts.GroupPart.{GroupPart}
use Rattle.ps_config.specs.declared.parts.WriterPart.{WriterPart}
use Rattle.ps_config.specs.FixedSound.{IsFixedGroup, front_size, writer_slot}
use Rattle.ps_config.specs.Headers.{signature_len}
use Rattle.ps_config.specs.Rooms.{chunk_room, is_fixed, lacks_room}
use Rattle.ps_config.proofs.Roomy.{chunk_roomy}
use Rattle.writer_group.specs.Answering.{AreAnswers, IsAnswerOf}
use Rattle.writer_group.specs.Envelopes.{frame_room}
use Rattle.writer_group.specs.Payloads.{Spelled, fixed_header, meta_at, payloads_by, payloads_of, size_of, slots_of, writer_at, in_slots}
use Rattle.writer_group.specs.Sealing.{datagrams_from, envelope_with}
use Rattle.ps_config.specs.Sound.{IsGroup as IsSoundGroup}
use Rattle.writer_group.specs.Standing.{AreMetas, IsGood, IsSenderFor}
use Rattle.writer_group.proofs.FixedTurns.{are-frames, own-slot}
use Rattle.writer_group.proofs.TurnPlans.{configured-answer}
use Rattle.writer_group.proofs.LongestDatagrams.{IsSealedBy, KeepsTo, all-keep, datagram-long, packs-keep}
use Rattle.writer_group.proofs.Totals.{HasByte}

-- ---- slots

front-some : (versions : Bool) → 3 ≤ front_size versions
front-some true = omega arith
front-some false = omega arith

-- a writer's slot is behind the header, and has a byte
behind-start : (config : Config) (part : GroupPart) → IsFixedGroup config part → 0 < length part.writer → fixed_header config.publisher.id part + 3 ≤ last_end (slots_of config part)
behind-start config part group some =
    let start : ℕ = fixed_header config.publisher.id part in
    let slots = slots_of config part in
    let within : 0 < length slots = omega (arith, length-map part.writer (writer_slot config), some) in
    let own : slot_at slots 0 ≡ writer_slot config (writer_at part 0) = own-slot config part 0 some in
    let large : (slot_at slots 0).need ≤ (slot_at slots 0).size = group.slots.large 0 (record { offset = 0; size = 0; need = 0 }) within in
    let size : 3 ≤ (slot_at slots 0).size = omega (arith, large, ap (λ (slot : Slot). slot.need) own, front-some (writer_at part 0).versions) in
    let ends : end_of (slot_at slots 0) ≤ last_end slots = ends-last slots 0 within in
    elim (apart-header start (slot_at slots 0) (header-apart start slots 0 group.slots.apart within)) [
      | inl none ↦ absurd (omega (arith, none, size))
      | inr behind ↦ omega (arith, behind, size, ends)
    ]

slots-keep : (config : Config) (part : GroupPart) (made : ℕ) (sender : Option SenderState) (frames : List Spelled) → IsSealedBy part sender → IsFixedGroup config part → 0 < length part.writer
    → AreFrames (slots_of config part) (in_slots frames)
    → KeepsTo config part made sender (NoIds, fixed_payload (fixed_header config.publisher.id part) (slots_of config part) (in_slots frames))
slots-keep config part made sender frames is group some are =
    let start : ℕ = fixed_header config.publisher.id part in
    let slots = slots_of config part in
    record {
      keeps = λ index.
          omega (
            arith,
            datagram-long config part made sender index (NoIds, fixed_payload start slots (in_slots frames)) NoIds is refl refl,
            length-payload start slots (in_slots frames) are,
            behind-start config part group some,
            last-within (part.max_size - signature_len part.security) slots group.slots.within,
          );
    }

-- ---- turns

-- frames of its writers, with the metas of a turn
pub record IsTurn (config : Config) (part : GroupPart) (metas : List MetaData) (frames : List Spelled) (sender : Option SenderState) : Type 0 where
  pub sealed : IsSealedBy part sender
  pub answers : AreAnswers part metas (length part.writer) frames
  pub roomy : lacks_room config.publisher.id metas part ≡ false
  pub known : All (λ (writer : WriterPart). writer.dataset < length config.dataset) part.writer
  pub fixed_metas : is_fixed part.layout ≡ true → (writer : ℕ) → writer < length part.writer → meta_at part metas writer ≡ meta_at part config.dataset writer
  pub fixed : is_fixed part.layout ≡ true → IsFixedGroup config part

turn-keeps : (config : Config) (part : GroupPart) (made : ℕ) (metas : List MetaData) (frames : List Spelled) (sender : Option SenderState) → IsTurn config part metas frames sender
    → All (KeepsTo config part made sender) (payloads_of config part frames)
turn-keeps config part made metas frames sender turn = by_layout part.layout refl
  where
    by_layout : (l : Layout) → part.layout ≡ l → All (KeepsTo config part made sender) (payloads_by l config part frames)
    by_layout layout.Dynamic same =
        let big = frame_room config.publisher.id part in
        let some : 1 ≤ chunk_room config.publisher.id part = chunk_roomy config.publisher.id metas part (record { dynamic = ap is_fixed same; room = turn.roomy }) in
        let each : All HasByte frames = All-weaker (IsAnswerOf part metas) HasByte (λ (f : Spelled) (is : IsAnswerOf part metas f). is.some) frames turn.answers.each in
        packs-keep config part made sender (packs_of size_of big frames) turn.sealed some (packs-sound size_of big frames)
        (subst (All HasByte) (sym (packs-frames size_of big frames)) each)
    by_layout layout.Fixed same = by_writers (nat_lt 0 (length part.writer)) refl
      where
        by_writers : (b : Bool) → nat_lt 0 (length part.writer) ≡ b
            → All (KeepsTo config part made sender) (if b then (NoIds, fixed_payload (fixed_header config.publisher.id part) (slots_of config part) (in_slots frames)) ∷ [] else [])
        by_writers false none = All-nil (KeepsTo config part made sender)
        by_writers true some =
            let fixed : is_fixed part.layout ≡ true = ap is_fixed same in
            let answers : AreAnswers part config.dataset (length part.writer) frames = record {
              each = configured-answer config part metas frames turn.answers (turn.fixed_metas fixed);
              below = turn.answers.below;
              rise = turn.answers.rise;
            } in
            All-cons (KeepsTo config part made sender) (NoIds, fixed_payload (fixed_header config.publisher.id part) (slots_of config part) (in_slots frames)) []
            (slots-keep config part made sender frames turn.sealed (turn.fixed fixed) (ltb-true 0 (length part.writer) some) (are-frames config part frames fixed (turn.fixed fixed) turn.known answers))
            (All-nil (KeepsTo config part made sender))

pub none-longer : (config : Config) (part : GroupPart) (made : ℕ) (metas : List MetaData) (frames : List Spelled) (sender : Option SenderState) → IsTurn config part metas frames sender
    → All (λ (datagram : List ℕ). length datagram ≤ part.max_size) (datagrams_from (envelope_with config part made) sender 0 (payloads_of config part frames))
none-longer config part made metas frames sender turn =
    all-keep config part made sender 0 (payloads_of config part frames) (turn-keeps config part made metas frames sender turn)

-- a group of a good configuration
pub turn-of : (config : Config) (index : ℕ) (metas : List MetaData) (frames : List Spelled) (sender : Option SenderState) (d : GroupPart) → IsGood config → index < length config.group
    → len_if length (get_or config.group index d).class_id ≡ flag (is_some (get_or config.group index d).class_id) 16 → IsSenderFor (get_or config.group index d) sender
    → AreMetas config (get_or config.group index d) metas → AreAnswers (get_or config.group index d) metas (length (get_or config.group index d).writer) frames
    → IsTurn config (get_or config.group index d) metas frames sender
turn-of config index metas frames sender d good within class_id is_sender are_metas answers =
    let part = get_or config.group index d in
    let sound : IsSoundGroup config part = good.sound.groups index d within in
    record {
      sealed = record { there = is_sender.there; sender_is = is_sender.sender_is; class_id = class_id };
      answers = answers;
      roomy = are_metas.room;
      known = λ k writer below. (sound.writers k writer below).dataset;
      fixed_metas = are_metas.fixed;
      fixed = good.fixed.groups index d within;
    }
