-- What a read group makes of datagrams of groups that aren't matched, where nothing is asked of a sender's keys but that the headers can be written.
use Rattle.std.proofs.Common.{◌≡◌, ◌≢◌, refl, sym, ap, ◌∙◌, subst, arith, ℕ, zero, suc, ◌+◌, ◌<◌, ◌≤◌, ◌^◌, Bool, true, false, not, ◌&&◌, List, [], ◌∷◌, ◌++◌, length, map, All, Contains, Option, Some, None, Result, Ok, Err}
use Rattle.std.specs.Prelude.{◌==◌, IsErr, drop, filter, nat_lt, slice_index_or, if◌then◌else◌}
use Rattle.std.specs.Int.{w16, to_le_bytes}
use Rattle.std.specs.List.{flat_map}
use Rattle.std.proofs.lemmas.Bool.{ne_eqb}
use Rattle.std.proofs.lemmas.List.Elements.{All-cons, All-contains, All-head, All-map, All-nil, All-tail, All-append}
use Rattle.uadp_header.specs.Headers.{IdsValue, NoIds, ListOf, ChunkOf, HeaderValue, ids_list, ids_of}
use Rattle.uadp_header.specs.Spelling.{IsWritten, header_bytes}
use Rattle.uadp_header.proofs.IdLaws.{ids-again}
use Rattle.payload_layout.specs.Packing.{Packed, packs_of}
use Rattle.payload_layout.specs.Payloads.{frames_of}
use Rattle.payload_layout.proofs.Packs.{packs-frames}
use Rattle.chunker.specs.Chunks.{Chunk, cuts}
use Rattle.message_guard.specs.Acceptance.{Accepted}
use Rattle.message_guard.specs.Guards.{Setup}
use Rattle.message_guard.specs.Opening as guards
use Rattle.message_guard.specs.Senders.{SenderState}
use Rattle.config_tables.specs.declared.words.Layout.{Layout}
use Rattle.config_tables.specs.declared.words.Layout.TheVariants as layouts
use Rattle.ps_config.specs.declared.parts.Config.{Config}
use Rattle.ps_config.specs.declared.parts.GroupPart.{GroupPart}
use Rattle.ps_config.specs.declared.parts.ReadGroupPart.{ReadGroupPart}
use Rattle.ps_config.specs.declared.parts.ReaderPart.{ReaderPart}
use Rattle.ps_config.specs.Rooms.{chunk_room}
use Rattle.ps_config.specs.Headers.{mode_of}
use Rattle.writer_group.specs.Envelopes.{frame_room}
use Rattle.writer_group.specs.Payloads.{Spelled, size_of, chunk_payload, chunk_payloads, frames_payload, pack_payloads, payloads_by, payloads_of}
use Rattle.writer_group.specs.Sealing.{AreWritten, Payload, advanced_by, datagram_at, datagrams_from, envelope_with, header_at}
use Rattle.writer_group.specs.Turns.{GroupDeed, TurnInput, envelope_of, frames_in, made_in, turn_datagrams, turns_from}
use Rattle.reader_group.specs.declared.refusal.Refusal.{Refusal}
use Rattle.reader_group.specs.declared.refusal.Refusal.TheVariants as refusals
use Rattle.reader_group.specs.Filter.{is_any_or, is_ours}
use Rattle.reader_group.specs.Opening.{Opened, Refusals, decrypted, guard_refusals, list_of, opened_as, payload_refusals, verdict}
use Rattle.reader_group.specs.Payloads as readers
use Rattle.reader_group.specs.Payloads.{Piece, Message, Chunked, payload_of, pieces}
use Rattle.message_guard.specs.Opening.{judged}
use Rattle.message_guard.proofs.Judged.{judged-value}
use Rattle.ps_config.specs.Sound.{IsGroup}
use Rattle.group_laws.proofs.Lists.{All-left, All-right}
use Rattle.group_laws.proofs.OtherReaders.{no-writer-has}
use Rattle.group_laws.proofs.Taking.{behind, rest_of, sent-split, tests, verdict-written}
use Rattle.writer_group.proofs.SmallIds.{frames-by, turn-small}

-- ---- a datagram of a turn begins with a header of its group, and has the ids of one of the payloads

pub record IsOfTurn (group : GroupPart) (payloads : List Payload) (datagram : List ℕ) : Type 0 where
  pub header : HeaderValue
  pub rest : List ℕ
  pub bytes : datagram ≡ header_bytes header ++ rest
  pub written : IsWritten header
  pub group_is : header.group ≡ Some group.id
  pub payload : Payload
  pub one_of : Contains payloads payload
  pub ids : header.ids ≡ payload.0

one-of-turn : (config : Config) (group : GroupPart) (made index : ℕ) (sender : Option SenderState) (payload : Payload) (payloads : List Payload) (datagram : List ℕ) → IsWritten (header_at (envelope_with config group made) sender index payload.0)
    → datagram_at (envelope_with config group made) sender index payload ≡ datagram → IsOfTurn group (payload ∷ payloads) datagram
one-of-turn config group made index None payload payloads datagram written same =
    record { header = header_at (envelope_with config group made) None index payload.0; rest = payload.1; bytes = sym same; written = written; group_is = refl; payload = payload; one_of = (0, omega arith, refl); ids = refl }
one-of-turn config group made index (Some s) payload payloads datagram written same =
    let mode = mode_of group.security in
    let now = advanced_by mode s (suc index) in
    let header = header_at (envelope_with config group made) (Some s) index payload.0 in
    record {
      header = header;
      rest = rest_of mode now (header_bytes header) payload.1;
      bytes = sym same ∙ sent-split mode now (header_bytes header) payload.1;
      written = written;
      group_is = refl;
      payload = payload;
      one_of = (0, omega arith, refl);
      ids = refl;
    }

of-turn : (config : Config) (group : GroupPart) (made index : ℕ) (sender : Option SenderState) (payloads : List Payload) (datagram : List ℕ) → AreWritten (envelope_with config group made) sender index payloads
    → Contains (datagrams_from (envelope_with config group made) sender index payloads) datagram → IsOfTurn group payloads datagram
of-turn config group made index sender [] datagram written has = absurd (let below = has.1 in omega (arith, below))
of-turn config group made index sender (payload ∷ payloads) datagram written (zero, below, same) = one-of-turn config group made index sender payload payloads datagram written.0 same
of-turn config group made index sender (payload ∷ payloads) datagram written (suc k, below, same) =
    let later = of-turn config group made (index + 1) sender payloads datagram written.1 (k, omega (arith, below), same) in
    let place = later.one_of in
    let far = place.1 in
    record { header = later.header; rest = later.rest; bytes = later.bytes; written = later.written; group_is = later.group_is; payload = later.payload; one_of = (suc place.0, omega (arith, far), place.2); ids = later.ids }

read-as : (reads : ReadGroupPart) (setup : Setup) (accepted : Accepted) (group : GroupPart) (payloads : List Payload) (datagram : List ℕ) (is : IsOfTurn group payloads datagram)
    → verdict reads setup accepted datagram ≡ tests reads setup accepted (header_bytes is.header ++ is.rest) is.header (length (header_bytes is.header))
read-as reads setup accepted group payloads datagram is = ap (verdict reads setup accepted) is.bytes ∙ verdict-written reads setup accepted is.header is.rest is.written

-- ---- a read group that asks for another group

not-third : (a b c d : Bool) → b ≡ false → (a && b && c && d) ≡ false
not-third true b c d is = ap (λ (t : Bool). t && c && d) is
not-third false b c d is = refl

other-id : (asked id : ℕ) → asked ≢ 0 → asked ≢ id → is_any_or asked (Some id) ≡ false
other-id asked id some differ = rw (ne_eqb asked 0 some, ne_eqb id asked (λ same. differ (sym same))) refl

refused-first : (ours : Bool) (list : Refusals) (x : Opened) → ours ≡ false → judged ((not ours, refusals.NotOurs) ∷ list) x ≡ Err refusals.NotOurs
refused-first false list x is = refl
refused-first true list x is = absurd (let wrong : Path Bool true false = is in cc)

pub not-named : (readers : ReadGroupPart) (setup : Setup) (accepted : Accepted) (group : GroupPart) (payloads : List Payload) (datagram : List ℕ) → IsOfTurn group payloads datagram → readers.group ≢ 0 → readers.group ≢ group.id
    → verdict readers setup accepted datagram ≡ Err refusals.NotOurs
not-named readers setup accepted group payloads datagram is some differ =
    let bytes = header_bytes is.header ++ is.rest in
    let at = length (header_bytes is.header) in
    let other : is_any_or readers.group is.header.group ≡ false = ap (is_any_or readers.group) is.group_is ∙ other-id readers.group group.id some differ in
    read-as readers setup accepted group payloads datagram is
    ∙ refused-first (is_ours readers is.header) (behind readers setup accepted bytes is.header at) (opened_as readers setup bytes is.header at) (not-third _ _ _ _ other)

-- ---- a read group of a dynamic layout, and a fixed group

err-behind : (list others : Refusals) (x : Opened) → IsErr (judged others x) → IsErr (judged (list ++ others) x)
err-behind [] others x is = is
err-behind ((true, refusal) ∷ list) others x is = refl
err-behind ((false, refusal) ∷ list) others x is = err-behind list others x is

no-ids-refused : (layout : Layout) (ids : IdsValue) (bytes : List ℕ) (x : Opened) → layout ≡ layouts.Dynamic → ids ≡ NoIds → IsErr (judged (payload_refusals layout ids bytes) x)
no-ids-refused layout ids bytes x dynamic none =
    subst (λ (l : Layout). IsErr (judged (payload_refusals l ids bytes) x)) (sym dynamic) (subst (λ (i : IdsValue). IsErr (judged (payload_refusals layouts.Dynamic i bytes) x)) (sym none) refl)

fixed-ids : (config : Config) (group : GroupPart) (frames : List Spelled) (payload : Payload) → group.layout ≡ layouts.Fixed → Contains (payloads_of config group frames) payload → payload.0 ≡ NoIds
fixed-ids config group frames payload is has = on (nat_lt 0 (length group.writer)) (subst (λ (l : Layout). Contains (payloads_by l config group frames) payload) is has)
  where
    on : (b : Bool) → Contains (if b then (NoIds, Rattle.fixed_layout.specs.Datagrams.fixed_payload (Rattle.writer_group.specs.Payloads.fixed_header config.publisher.id group) (Rattle.writer_group.specs.Payloads.slots_of config group) (Rattle.writer_group.specs.Payloads.in_slots frames)) ∷ [] else []) payload → payload.0 ≡ NoIds
    on true (zero, below, same) = ap (λ (p : Payload). p.0) (sym same)
    on true (suc k, below, same) = absurd (omega (arith, below))
    on false here = absurd (let below = here.1 in omega (arith, below))

pub fixed-refused : (config : Config) (group : GroupPart) (frames : List Spelled) (readers : ReadGroupPart) (setup : Setup) (accepted : Accepted) (datagram : List ℕ) → IsOfTurn group (payloads_of config group frames) datagram
    → group.layout ≡ layouts.Fixed → readers.layout ≡ layouts.Dynamic → IsErr (verdict readers setup accepted datagram)
fixed-refused config group frames readers setup accepted datagram is fixed dynamic =
    let none : is.header.ids ≡ NoIds = is.ids ∙ fixed-ids config group frames is.payload fixed is.one_of in
    let bytes = header_bytes is.header ++ is.rest in
    let at = length (header_bytes is.header) in
    let found = guards.pass_of setup.mode is.header.security bytes in
    let first = (not (is_ours readers is.header), refusals.NotOurs) ∷ guard_refusals (guards.refusals setup.mode setup.keys accepted is.header.security bytes at) in
    let x = opened_as readers setup bytes is.header at in
    subst (λ (answer : Result Opened Refusal). IsErr answer) (sym (read-as readers setup accepted group (payloads_of config group frames) datagram is))
    (err-behind first (payload_refusals readers.layout is.header.ids (drop at (decrypted setup found at bytes))) x
    (no-ids-refused readers.layout is.header.ids (drop at (decrypted setup found at bytes)) x dynamic none))

-- ---- a reader of a writer that isn't of the group, both dynamic

abbrev IsNo : ℕ → ℕ → Type 0
IsNo writer id = id ≢ writer

zip-none : (writer : ℕ) (ids : List ℕ) (frames : List (List ℕ)) → All (IsNo writer) ids → map (λ (part : ℕ × List ℕ). Message part.1) (filter (λ (part : ℕ × List ℕ). part.0 == writer) (Rattle.std.specs.Prelude.zip ids frames)) ≡ []
zip-none writer [] frames none = refl
zip-none writer (id ∷ ids) [] none = refl
zip-none writer (id ∷ ids) (frame ∷ frames) none =
    rw (ne_eqb id writer (All-head (IsNo writer) id ids none)) (zip-none writer ids frames (All-tail (IsNo writer) id ids none))

no-piece : (reader : ReaderPart) (ids : IdsValue) (bytes : List ℕ) → All (IsNo reader.writer) (ids_list ids) → pieces reader (readers.dynamic_payload ids bytes) ≡ []
no-piece reader NoIds bytes none = refl
no-piece reader (ListOf ids) bytes none = zip-none reader.writer (ids_of ids) (frames_of (length (ids_of ids)) bytes) none
no-piece reader (ChunkOf id) bytes none = ap (λ (b : Bool). if b then Chunked bytes ∷ [] else []) (ne_eqb id reader.writer (All-head (IsNo reader.writer) id [] none))

-- the ids of a payload aren't this one
abbrev HasNo : ℕ → Payload → Type 0
HasNo writer payload = All (IsNo writer) (ids_list payload.0)

-- nor is a frame's
pub record IsOther (writer : ℕ) (frame : Spelled) : Type 0 where
  pub small : frame.id < 2 ^ 16
  pub other : frame.id ≢ writer

chunks-none : (writer : ℕ) (frame : Spelled) (chunks : List Chunk) → IsOther writer frame → All (HasNo writer) (map (chunk_payload frame) chunks)
chunks-none writer frame [] is = All-nil (HasNo writer)
chunks-none writer frame (chunk ∷ chunks) is =
    All-cons (HasNo writer) (chunk_payload frame chunk) (map (chunk_payload frame) chunks) (All-cons (IsNo writer) frame.id [] is.other (All-nil (IsNo writer))) (chunks-none writer frame chunks is)

cut-none : (writer room : ℕ) (frames : List Spelled) → All (IsOther writer) frames → All (HasNo writer) (flat_map (chunk_payloads room) frames)
cut-none writer room [] all = All-nil (HasNo writer)
cut-none writer room (frame ∷ frames) all =
    All-append (HasNo writer) (chunk_payloads room frame) (flat_map (chunk_payloads room) frames)
    (chunks-none writer frame (cuts room frame.number frame.bytes) (All-head (IsOther writer) frame frames all))
    (cut-none writer room frames (All-tail (IsOther writer) frame frames all))

whole-none : (writer : ℕ) (frames : List Spelled) → All (IsOther writer) frames → HasNo writer (frames_payload frames)
whole-none writer frames all =
    let id : Spelled → ℕ = λ frame. frame.id in
    subst (λ (l : List ℕ). All (IsNo writer) l) (sym (ids-again (map id frames) (All-map (λ (n : ℕ). n < 2 ^ 16) id frames (λ k d below. (all k d below).small))))
    (All-map (IsNo writer) id frames (λ k d below. (all k d below).other))

pack-none : (writer room : ℕ) (pack : Packed Spelled) (cut : Bool) → pack.cut ≡ cut → All (IsOther writer) pack.frames → All (HasNo writer) (pack_payloads room pack)
pack-none writer room pack true is all =
    subst (λ (b : Bool). All (HasNo writer) (if b then flat_map (chunk_payloads room) pack.frames else frames_payload pack.frames ∷ [])) (sym is) (cut-none writer room pack.frames all)
pack-none writer room pack false is all =
    subst (λ (b : Bool). All (HasNo writer) (if b then flat_map (chunk_payloads room) pack.frames else frames_payload pack.frames ∷ [])) (sym is)
    (All-cons (HasNo writer) (frames_payload pack.frames) [] (whole-none writer pack.frames all) (All-nil (HasNo writer)))

packs-none : (writer room : ℕ) (packs : List (Packed Spelled)) → All (IsOther writer) (flat_map (λ pack. pack.frames) packs) → All (HasNo writer) (flat_map (pack_payloads room) packs)
packs-none writer room [] all = All-nil (HasNo writer)
packs-none writer room (pack ∷ packs) all =
    All-append (HasNo writer) (pack_payloads room pack) (flat_map (pack_payloads room) packs)
    (pack-none writer room pack pack.cut refl (All-left (IsOther writer) pack.frames (flat_map (λ (p : Packed Spelled). p.frames) packs) all))
    (packs-none writer room packs (All-right (IsOther writer) pack.frames (flat_map (λ (p : Packed Spelled). p.frames) packs) all))

module _ (config : Config) (group : GroupPart) (past : List GroupDeed) (input : TurnInput) (sound : IsGroup config group) where
  abbrev payloads : List Payload
  payloads = payloads_of config group (frames_in group past input)

  -- of each datagram of a turn, whose headers can be written
  pub turn-of : (datagram : List ℕ) → AreWritten (envelope_of config group past) input.sender 0 payloads → Contains (turn_datagrams config group past input) datagram → IsOfTurn group payloads datagram
  turn-of datagram written has = of-turn config group (made_in past) 0 input.sender payloads datagram written has

  dynamic-none : (writer : ℕ) → group.layout ≡ layouts.Dynamic → 1 ≤ writer → All (λ w. w.id ≢ writer) group.writer → All (HasNo writer) payloads
  dynamic-none writer is some all =
      let frames = frames_in group past input in
      let small = turn-small config group past input sound in
      let by = frames-by group input.told.metas past 0 (turns_from group input.told 0 input.on) in
      let others : All (IsOther writer) frames = λ k d below. record { small = (small k d below).id; other = λ same. no-writer-has group writer (slice_index_or frames k d).writer some all (sym (by k d below).id ∙ same) } in
      let room = frame_room config.publisher.id group in
      subst (λ (l : Layout). All (HasNo writer) (payloads_by l config group frames)) (sym is)
      (packs-none writer (chunk_room config.publisher.id group) (packs_of size_of room frames) (subst (λ (l : List Spelled). All (IsOther writer) l) (sym (packs-frames size_of room frames)) others))

  pub others-pieces : (readers : ReadGroupPart) (setup : Setup) (accepted : Accepted) (datagram : List ℕ) (opened : Opened) (reader : ReaderPart) → IsOfTurn group payloads datagram → group.layout ≡ layouts.Dynamic
      → readers.layout ≡ layouts.Dynamic → 1 ≤ reader.writer → All (λ w. w.id ≢ reader.writer) group.writer → verdict readers setup accepted datagram ≡ Ok opened → pieces reader opened.payload ≡ []
  others-pieces readers setup accepted datagram opened reader is dynamic reads_dynamic some all taken =
      let bytes = header_bytes is.header ++ is.rest in
      let at = length (header_bytes is.header) in
      let x = opened_as readers setup bytes is.header at in
      let same : x ≡ opened = judged-value (list_of readers setup accepted bytes is.header at) x opened (sym (read-as readers setup accepted group payloads datagram is) ∙ taken) in
      let found = guards.pass_of setup.mode is.header.security bytes in
      let clear = decrypted setup found at bytes in
      let none : All (IsNo reader.writer) (ids_list is.header.ids) = subst (λ (i : IdsValue). All (IsNo reader.writer) (ids_list i)) (sym is.ids)
      (All-contains (HasNo reader.writer) payloads is.payload (dynamic-none reader.writer dynamic some all) is.one_of) in
      ap (λ (o : Opened). pieces reader o.payload) (sym same)
      ∙ ap (λ (l : Layout). pieces reader (payload_of l is.header.ids at clear)) reads_dynamic
      ∙ no-piece reader is.header.ids (drop at clear) none
