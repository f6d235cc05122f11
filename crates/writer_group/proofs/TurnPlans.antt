-- What a turn plans: its loads are of its frames, are few, and their datagrams have room.
use Rattle.std.proofs.Common.{◌≡◌, ℕ, ◌<◌, ◌≤◌, Bool, true, false, List, [], ◌∷◌, get_or, length, map, nat_lt, refl, sym, ap, subst, ◌∙◌, arith, Option, All}
use Rattle.std.specs.Prelude.{IfSome, if◌then◌else◌}
use Rattle.std.proofs.lemmas.List.{length-map}
use Rattle.std.proofs.lemmas.List.Elements.{All-cons, All-nil, All-weaker}
use Rattle.dataset_meta.specs.Metas.{MetaData}
use Rattle.message_guard.specs.Senders.{SenderState, IsSender}
use Rattle.config_tables.specs.declared.words.Layout.{Layout}
use Rattle.config_tables.specs.declared.words.Layout.TheVariants as layout
use Rattle.ps_config.specs.declared.parts.Config.{Config}
use Rattle.ps_config.specs.declared.parts.GroupPart.{GroupPart}
use Rattle.ps_config.specs.declared.parts.WriterPart.{WriterPart}
use Rattle.ps_config.specs.FixedSound.{IsFixedGroup}
use Rattle.ps_config.specs.Rooms.{IsRoomy, chunk_room, datagrams_in, is_fixed, lacks_room}
use Rattle.ps_config.proofs.Roomy.{chunk_roomy, turn_roomy}
use Rattle.fixed_layout.specs.declared.slot.Slot.{Slot}
use Rattle.fixed_layout.specs.Datagrams.{AreFrames, fixed_payload}
use Rattle.fixed_layout.specs.Slots.{AreApart}
use Rattle.writer_group.specs.declared.load.Load.{Load}
use Rattle.writer_group.specs.declared.load.Load.TheVariants as loads
use Rattle.writer_group.specs.Answering.{AreAnswers, IsAnswerOf, IsFrameBy}
use Rattle.writer_group.specs.Envelopes.{frame_room}
use Rattle.writer_group.specs.Holding.{CargoValue, payload_in}
use Rattle.writer_group.specs.Loading.{AreInSlots, IsLoad}
use Rattle.writer_group.specs.Making.{loads_by}
use Rattle.writer_group.specs.Payloads.{Spelled, fixed_header, meta_at, size_of, slots_of, writer_at, in_slots}
use Rattle.writer_group.specs.Needs.{datagrams_need}
use Rattle.writer_group.specs.Planning.{planned}
use Rattle.writer_group.specs.Posting.{joined}
use Rattle.writer_group.specs.Sealing.{Envelope, Payload, datagrams_from}
use Rattle.writer_group.proofs.DatagramSizes.{IsBrief, dynamic-bytes, fixed-bytes}
use Rattle.writer_group.proofs.FixedTurns.{are-frames, fixed-size}
use Rattle.writer_group.proofs.LoadPayloads.{planned-are}
use Rattle.writer_group.proofs.Needs.{need-one, need-some}
use Rattle.writer_group.proofs.TickLaws.{IsCargoOf, dynamic-payloads}
use Rattle.writer_group.proofs.Totals.{needs-few, planned-need}

-- the frames of a turn, whose writers and metas keep the conditions
pub record IsReady (config : Config) (part : GroupPart) (metas : List MetaData) (cargo : CargoValue) (frames : List Spelled) (sender : Option SenderState) (e : Envelope) : Type 0 where
  pub cargo_is : IsCargoOf config part cargo frames
  pub answers : AreAnswers part metas (length part.writer) frames
  pub known : All (λ (writer : WriterPart). writer.dataset < length metas) part.writer
  pub roomy : lacks_room config.publisher.id metas part ≡ false
  pub count : length metas ≡ length config.dataset
  pub fixed_metas : is_fixed part.layout ≡ true → (writer : ℕ) → writer < length part.writer → meta_at part metas writer ≡ meta_at part config.dataset writer
  pub fixed : is_fixed part.layout ≡ true → IsFixedGroup config part
  pub max_size : part.max_size ≤ 65000
  pub few : length frames ≤ 16
  pub brief : IsBrief e
  pub sender_is : IfSome sender IsSender

pub record Plans (most : ℕ) (cargo : CargoValue) (sender : Option SenderState) (e : Envelope) (planned_loads : List Load) : Type 0 where
  pub loads_are : All (IsLoad cargo) planned_loads
  pub few : length planned_loads ≤ most
  pub room : length (joined (datagrams_from e sender 0 (map (payload_in cargo) planned_loads))) ≤ 229376

dynamic-plans : (config : Config) (part : GroupPart) (metas : List MetaData) (cargo : CargoValue) (frames : List Spelled) (sender : Option SenderState) (e : Envelope) → is_fixed part.layout ≡ false
    → IsReady config part metas cargo frames sender e → Plans (datagrams_need config.publisher.id metas part) cargo sender e (planned (frame_room config.publisher.id part) (chunk_room config.publisher.id part) (map size_of frames))
dynamic-plans config part metas cargo frames sender e dynamic ready =
    let roomy : IsRoomy config.publisher.id metas part = record { dynamic = dynamic; room = ready.roomy } in
    let big = frame_room config.publisher.id part in
    let room = chunk_room config.publisher.id part in
    let some : 1 ≤ room = chunk_roomy config.publisher.id metas part roomy in
    let all = planned big room (map size_of frames) in
    let bytes : All (λ (f : Spelled). 1 ≤ size_of f) frames = All-weaker (IsAnswerOf part metas) (λ (f : Spelled). 1 ≤ size_of f) (λ (f : Spelled) (is : IsAnswerOf part metas f). is.some) frames ready.answers.each in
    let short : All (λ (f : Spelled). size_of f ≤ 2048) frames = All-weaker (IsAnswerOf part metas) (λ (f : Spelled). size_of f ≤ 2048) (λ (f : Spelled) (is : IsAnswerOf part metas f). is.short) frames ready.answers.each in
    let fewer : length all ≤ datagrams_in room metas part.writer =
    omega (
      arith,
      planned-need frames big room some bytes,
      needs-few room part metas frames some dynamic ready.known ready.answers,
    ) in
    let count : length all ≤ 1024 = omega (arith, fewer, turn_roomy config.publisher.id metas part roomy) in
    let payloads = dynamic-payloads config part cargo frames ready.cargo_is in
    let are : All (IsLoad cargo) all =
    subst (λ (n : ℕ). All (IsLoad cargo) (planned big n (map size_of frames))) ready.cargo_is.room
    (subst (λ (l : List Spelled). All (IsLoad cargo) (planned big cargo.room (map size_of l))) ready.cargo_is.frames_are
    (planned-are cargo big (omega (arith, some, ready.cargo_is.room)))) in
    record {
      loads_are = are;
      few = need-some config.publisher.id metas part (length all) dynamic count fewer;
      room = subst (λ (l : List Payload). length (joined (datagrams_from e sender 0 l)) ≤ 229376) (sym payloads)
          (dynamic-bytes e sender big room frames ready.brief ready.sender_is ready.few short (omega (arith, sym (ap length payloads) ∙ length-map all (payload_in cargo), count)));
    }

-- a frame of a writer whose meta is the configuration's
pub configured-answer : (config : Config) (part : GroupPart) (metas : List MetaData) (frames : List Spelled) → AreAnswers part metas (length part.writer) frames
    → ((writer : ℕ) → writer < length part.writer → meta_at part metas writer ≡ meta_at part config.dataset writer) → All (IsAnswerOf part config.dataset) frames
configured-answer config part metas frames answers same k d within =
    let frame = get_or frames k d in
    subst (λ (meta : MetaData). IsFrameBy (writer_at part frame.writer) frame.writer part.layout meta frame) (same frame.writer (answers.below k d within)) (answers.each k d within)

-- of a group with writers
slots-plan : (config : Config) (part : GroupPart) (metas : List MetaData) (cargo : CargoValue) (frames : List Spelled) (sender : Option SenderState) (e : Envelope) → is_fixed part.layout ≡ true
    → IsReady config part metas cargo frames sender e → Plans (datagrams_need config.publisher.id metas part) cargo sender e (loads.Slots ∷ [])
slots-plan config part metas cargo frames sender e fixed ready =
    let group = ready.fixed fixed in
    let start = ready.cargo_is.start in
    let slots = ready.cargo_is.slots fixed in
    let known : All (λ (writer : WriterPart). writer.dataset < length config.dataset) part.writer =
    subst (λ (n : ℕ). All (λ (writer : WriterPart). writer.dataset < n) part.writer) ready.count ready.known in
    let answers : AreAnswers part config.dataset (length part.writer) frames = record {
      each = configured-answer config part metas frames ready.answers (ready.fixed_metas fixed);
      below = ready.answers.below;
      rise = ready.answers.rise;
    } in
    let own : AreFrames (slots_of config part) (in_slots cargo.frames) =
    subst (λ (l : List Spelled). AreFrames (slots_of config part) (map (λ (f : Spelled). (f.writer, f.bytes)) l)) (sym ready.cargo_is.frames_are) (are-frames config part frames fixed group known answers) in
    let apart : AreApart cargo.start cargo.slots = subst (λ (n : ℕ). AreApart n cargo.slots) (sym start) (subst (AreApart (fixed_header config.publisher.id part)) (sym slots) group.slots.apart) in
    let laid : AreInSlots cargo = record { apart = apart; frames = subst (λ (l : List Slot). AreFrames l (in_slots cargo.frames)) (sym slots) own } in
    let small : length (payload_in cargo loads.Slots).1 ≤ 65000 =
    subst (λ (n : ℕ). length (fixed_payload n cargo.slots (in_slots cargo.frames)) ≤ 65000) (sym start)
    (subst (λ (l : List Slot). length (fixed_payload (fixed_header config.publisher.id part) l (in_slots cargo.frames)) ≤ 65000) (sym slots) (fixed-size config part (in_slots cargo.frames) group ready.max_size own)) in
    record {
      loads_are = All-cons (IsLoad cargo) loads.Slots [] laid (All-nil (IsLoad cargo));
      few = need-one config.publisher.id metas part fixed;
      room = fixed-bytes e sender (payload_in cargo loads.Slots) ready.brief ready.sender_is (omega (arith, small));
    }

no-plan : (most : ℕ) (cargo : CargoValue) (sender : Option SenderState) (e : Envelope) → Plans most cargo sender e []
no-plan most cargo sender e = record { loads_are = All-nil (IsLoad cargo); few = omega arith; room = omega arith }

pub turn-plans : (config : Config) (part : GroupPart) (metas : List MetaData) (cargo : CargoValue) (frames : List Spelled) (sender : Option SenderState) (e : Envelope)
    → IsReady config part metas cargo frames sender e → Plans (datagrams_need config.publisher.id metas part) cargo sender e (loads_by part.layout config.publisher.id part (map size_of frames))
turn-plans config part metas cargo frames sender e ready = by_layout part.layout refl
  where
    by_layout : (l : Layout) → part.layout ≡ l → Plans (datagrams_need config.publisher.id metas part) cargo sender e (loads_by l config.publisher.id part (map size_of frames))
    by_layout layout.Dynamic same = dynamic-plans config part metas cargo frames sender e (ap is_fixed same) ready
    by_layout layout.Fixed same = by_writers (nat_lt 0 (length part.writer))
      where
        by_writers : (b : Bool) → Plans (datagrams_need config.publisher.id metas part) cargo sender e (if b then loads.Slots ∷ [] else [])
        by_writers true = slots-plan config part metas cargo frames sender e (ap is_fixed same) ready
        by_writers false = no-plan (datagrams_need config.publisher.id metas part) cargo sender e
