-- The frames of the lines are what the session's writers answered: what is transcoded of a datagram is what a read group that asks for any group opens of it.
use Rattle.std.proofs.Common.{◌≡◌, ◌⊎◌, inl, inr, refl, sym, ap, ◌∙◌, subst, arith, ℕ, zero, suc, ◌+◌, ◌<◌, Bool, true, false, cond, List, [], ◌∷◌, ◌++◌, length, drop, map, Option, Some, None, Result, Ok, Err, All, Contains}
use Rattle.std.specs.Prelude.{◌==◌, not, ◌&&◌, is_some, filter, filter_map, reverse, option_map, option_and_then, slice_get, slice_index_or, IsSome, ⊤}
use Rattle.std.specs.List.{cons_option}
use Rattle.std.proofs.lemmas.Bool.{eqb-true, eq-eqb, false≢true}
use Rattle.std.proofs.lemmas.Bool.Decides.{nat_tests}
use Rattle.std.proofs.lemmas.List.{drop_at}
use Rattle.std.proofs.lemmas.List.Elements.{All-head, All-tail}
use Rattle.std.proofs.lemmas.Option.{get_or_from_slice_get, slice_get-get_or}
use Rattle.ua_base.specs.Journal.{Entry, Sent, SendFailed, Got, Empty, Long, ReceiveFailed, LinkState, sent_list}
use Rattle.dataset_meta.specs.Metas.{MetaData, no_meta}
use Rattle.pubsub_model.specs.Cadence.{Answered}
use Rattle.frame_codec.specs.declared.fault.FrameFault.{FrameFault}
use Rattle.frame_codec.specs.Frames.{Frame}
use Rattle.frame_codec.specs.Reading.{frame_at}
use Rattle.dataset_reader.specs.Keeping.{IsOfMajor}
use Rattle.uadp_header.specs.declared.fault.HeaderFault.{HeaderFault}
use Rattle.uadp_header.specs.Headers.{HeaderValue, IdsValue, NoIds, ListOf, ChunkOf, PublisherValue, SecurityValue, ids_of}
use Rattle.uadp_header.specs.Layout.{header_at as header_read}
use Rattle.uadp_header.specs.Spelling.{IsWritten, header_bytes}
use Rattle.uadp_header.proofs.Again.{header_again}
use Rattle.payload_layout.specs.Payloads.{parts_of as listed_parts}
use Rattle.chunker.specs.Chunks.{Chunk}
use Rattle.message_guard.specs.Opening.{judged, open_pass}
use Rattle.message_guard.specs.Senders.{SenderState}
use Rattle.config_tables.specs.declared.words.Layout.{Layout}
use Rattle.config_tables.specs.declared.words.Layout.TheVariants as layouts
use Rattle.config_tables.specs.declared.words.NumberingWord.TheVariants as words
use Rattle.config_tables.specs.declared.words.Security.{Security}
use Rattle.config_tables.specs.declared.words.Security.TheVariants as securities
use Rattle.ps_config.specs.declared.parts.Config.{Config}
use Rattle.ps_config.specs.declared.parts.GroupPart.{GroupPart}
use Rattle.ps_config.specs.declared.parts.ReadGroupPart.{ReadGroupPart}
use Rattle.ps_config.specs.declared.parts.ReaderPart.{ReaderPart}
use Rattle.ps_config.specs.Headers.{is_secured, mode_of, publisher_value}
use Rattle.ps_config.specs.Sound.{IsSound}
use Rattle.writer_group.specs.Parts.{group_at, no_group}
use Rattle.writer_group.specs.Payloads.{meta_at as meta_of_writer, payloads_of, writer_at}
use Rattle.writer_group.specs.Sealing.{AreWritten, Payload, advanced_by, datagram_at, datagrams_from, envelope_with, header_at}
use Rattle.writer_group.specs.Turns.{GroupDeed, GroupTurn, HadGroupTurn, RefreshedWriter, TurnInput, frames_in, made_in, turn_datagrams}
use Rattle.reader_group.specs.declared.refusal.Refusal.TheVariants as refusals
use Rattle.reader_group.specs.Filter.{is_ours, is_publisher}
use Rattle.reader_group.specs.Opening.{Opened, payload_refusals, verdict}
use Rattle.reader_group.specs.Payloads as readers
use Rattle.reader_group.specs.Payloads.{Messages, Message as Whole, Piece, dynamic_payload, payload_of, pieces}
use Rattle.reader_group.specs.Settings.{setup_by}
use Rattle.reader_group.proofs.KeptParts.{IsPieceOf, OfRead}
use Rattle.group_laws.specs.Matching.{IsMatchedTo}
use Rattle.group_laws.proofs.PayloadsGood.{IsGood}
use Rattle.group_laws.proofs.Taking.{rest_of, sent-split, taken-open}
use Rattle.session_model.specs.Counts.{most_ticks}
use Rattle.session_model.specs.Deeds.{answered_at, deeds}
use Rattle.session_model.specs.Keeping.{AreSteps, IsPlan}
use Rattle.session_model.specs.Sends.{IsRun, TellsRun, journal}
use Rattle.session_model.specs.Sets.{metas_at}
use Rattle.session_model.specs.Steps.{Plan, Step}
use Rattle.session_laws.specs.Below.{Laws, TurnLaws}
use Rattle.session_laws.specs.Pasts.{AreTurns, IsMade, IsPast, WasMade, answered_by}
use Rattle.session_laws.specs.Sessions.{SamplesRise, pasts_at}
use Rattle.session_laws.proofs.Versions.Distinct.{IsAt}
use Rattle.session_laws.proofs.Versions.Living.{past-of}
use Rattle.session_laws.proofs.HeldRows.Pieces.{made-pieces}
use Rattle.session_laws.proofs.HeldRows.Sending.{sent-made}
use Rattle.session_laws.proofs.Versions.Answering.{spelled_at}
use Rattle.session_laws.proofs.HeldRows.Sources.{IsChunkOf, IsOfAnswer}
use Rattle.json_frames.specs.Parts.{Part}
use Rattle.json_frames.specs.Reading.{set_of}
use Rattle.json_tap.specs.Transcoding.{Message, all_of, are_past, frame_if, is_spelled, message_in, message_of, message_read, messages_of, part_for, part_of, parts_for, publisher_of, sets_of, transcoded}
use Rattle.json_text.specs.Matching.{is_plain}
use Rattle.json_text.specs.Reading.{parts_of}
use Rattle.cmd_json.specs.Owned.{HasOwnFrames, HaveOwnFrames, IsAnsweredFrame, IsOfWriter, IsPlainWriter}
use Rattle.reader_group.proofs.Asked.{publisher-same}

none-some : {X Y : Type 0} (x : X) → Path (Option X) None (Some x) → Y
none-some x e = absurd cc

some-same : {X : Type 0} (x y : X) → Path (Option X) (Some x) (Some y) → x ≡ y
some-same x y e = cc

ok-same : (x y : Frame) → Path (Result Frame FrameFault) (Ok x) (Ok y) → x ≡ y
ok-same x y e = cc

err-ok : {Y : Type 0} (fault : FrameFault) (x : Frame) → Path (Result Frame FrameFault) (Err fault) (Ok x) → Y
err-ok fault x e = absurd cc

-- ---- a datagram that a group made begins with a header that names the publisher

record IsNamed (config : Config) (datagram : List ℕ) : Type 0 where
  pub header : HeaderValue
  pub rest : List ℕ
  pub bytes : datagram ≡ header_bytes header ++ rest
  pub written : IsWritten header
  pub publisher : header.publisher ≡ Some (publisher_value config.publisher.id)

one-named : (config : Config) (group : GroupPart) (made index : ℕ) (sender : Option SenderState) (payload : Payload) (datagram : List ℕ) → IsWritten (header_at (envelope_with config group made) sender index payload.0)
    → datagram_at (envelope_with config group made) sender index payload ≡ datagram → IsNamed config datagram
one-named config group made index None payload datagram written same =
    record { header = header_at (envelope_with config group made) None index payload.0; rest = payload.1; bytes = sym same; written = written; publisher = refl }
one-named config group made index (Some s) payload datagram written same =
    let mode = mode_of group.security in
    let now = advanced_by mode s (suc index) in
    let header = header_at (envelope_with config group made) (Some s) index payload.0 in
    record { header = header; rest = rest_of mode now (header_bytes header) payload.1; bytes = sym same ∙ sent-split mode now (header_bytes header) payload.1; written = written; publisher = refl }

each-named : (config : Config) (group : GroupPart) (made index : ℕ) (sender : Option SenderState) (payloads : List Payload) (datagram : List ℕ) → AreWritten (envelope_with config group made) sender index payloads
    → Contains (datagrams_from (envelope_with config group made) sender index payloads) datagram → IsNamed config datagram
each-named config group made index sender [] datagram written has = absurd (let below = has.1 in omega (arith, below))
each-named config group made index sender (payload ∷ payloads) datagram written (zero, below, same) = one-named config group made index sender payload datagram written.0 same
each-named config group made index sender (payload ∷ payloads) datagram written (suc k, below, same) =
    each-named config group made (index + 1) sender payloads datagram written.1 (k, omega (arith, below), same)

past-named : (config : Config) (group : GroupPart) (past : List GroupDeed) (datagram : List ℕ) → AreTurns config group past → WasMade past datagram → IsNamed config datagram
past-named config group [] datagram are made = absurd made
past-named config group (RefreshedWriter writer ∷ before) datagram are made = past-named config group before datagram are made
past-named config group (HadGroupTurn turn ∷ before) datagram are (inl made) =
    let is = are.0 in
    each-named config group (made_in before) 0 is.input.sender (payloads_of config group (frames_in group before is.input)) datagram is.may.written
    (subst (λ (t : GroupTurn). Contains t.made datagram) is.is made)
past-named config group (HadGroupTurn turn ∷ before) datagram are (inr made) = past-named config group before datagram are.1 made

-- ---- what is transcoded of it

-- an unsecured datagram with a list of ids, whose parts are read as these
record IsListed (config : Config) (header : HeaderValue) (payload : List ℕ) (message : Message) : Type 0 where
  pub unsecured : header.security ≡ None
  pub ids : List ℕ
  pub has : header.ids ≡ ListOf ids
  pub fits : are_past (length (ids_of ids)) payload ≡ false
  pub parts : all_of (map (part_of config) (listed_parts (ids_of ids) payload)) ≡ Some message.parts

fitting : (config : Config) (b : Bool) (ids payload : List ℕ) (found : List Part) → are_past (length (ids_of ids)) payload ≡ b
    → cond b None (all_of (map (part_of config) (listed_parts (ids_of ids) payload))) ≡ Some found
    → (are_past (length (ids_of ids)) payload ≡ false) × (all_of (map (part_of config) (listed_parts (ids_of ids) payload)) ≡ Some found)
fitting config true ids payload found e is = none-some found is
fitting config false ids payload found e is = (e, is)

has-both : (publisher : Option (List ℕ)) (parts : Option (List Part)) (message : Message) → message_of publisher parts ≡ Some message → parts ≡ Some message.parts
has-both None parts message is = none-some message is
has-both (Some publisher) None message is = none-some message is
has-both (Some publisher) (Some parts) message is = ap (λ (m : Message). Some m.parts) (some-same (record { publisher = publisher; parts = parts }) message is)

by-ids : (config : Config) (header : HeaderValue) (ids : IdsValue) (payload : List ℕ) (message : Message) → header.security ≡ None → header.ids ≡ ids → parts_for config ids payload ≡ Some message.parts
    → IsListed config header payload message
by-ids config header NoIds payload message plain e is = none-some message.parts is
by-ids config header (ChunkOf id) payload message plain e is = none-some message.parts is
by-ids config header (ListOf ids) payload message plain e is =
    let so = fitting config (are_past (length (ids_of ids)) payload) ids payload message.parts refl is in
    record { unsecured = plain; ids = ids; has = e; fits = so.0; parts = so.1 }

by-security : (config : Config) (header : HeaderValue) (security : Option SecurityValue) (payload : List ℕ) (message : Message) → header.security ≡ security
    → cond (is_some security) None (message_of (publisher_of header.publisher) (parts_for config header.ids payload)) ≡ Some message → IsListed config header payload message
by-security config header (Some security) payload message e is = none-some message is
by-security config header None payload message e is =
    by-ids config header header.ids payload message e refl (has-both (publisher_of header.publisher) (parts_for config header.ids payload) message is)

is-listed : (config : Config) (datagram : List ℕ) (message : Message) (named : IsNamed config datagram) → transcoded config datagram ≡ Some message → IsListed config named.header named.rest message
unfolding transcoded
is-listed config datagram message named is =
    let read : header_read datagram ≡ Ok (named.header, named.rest) = ap header_read named.bytes ∙ header_again named.header named.rest named.written in
    let here : message_in config named.header named.rest ≡ Some message =
    ap (message_read config) (sym read) ∙ is in
    by-security config named.header named.header.security named.rest message refl here

-- ---- a read group with one reader, which asks for the publisher and for any group

abbrev reader_for : GroupPart → ℕ → ReaderPart
reader_for group w = record {
  name = [];
  writer = (writer_at group w).id;
  dataset = (writer_at group w).dataset;
  timeout = 0;
  numbering = words.Message;
  offset = (writer_at group w).offset;
  size = (writer_at group w).size;
}

abbrev readers_for : Config → GroupPart → ℕ → ReadGroupPart
readers_for config group w = record {
  name = [];
  publisher = config.publisher.id;
  group = 0;
  version = 0;
  class_id = None;
  layout = layouts.Dynamic;
  security = securities.None;
  keygroup = None;
  reader = reader_for group w ∷ [];
}

plain-is : (layout : Layout) (security : Security) → is_plain layout security ≡ true → (layout ≡ layouts.Dynamic) × (security ≡ securities.None)
plain-is layouts.Dynamic securities.None is = (refl, refl)
plain-is layouts.Dynamic securities.Sign is = absurd cc
plain-is layouts.Dynamic securities.Encrypt is = absurd cc
plain-is layouts.Fixed securities.None is = absurd cc
plain-is layouts.Fixed securities.Sign is = absurd cc
plain-is layouts.Fixed securities.Encrypt is = absurd cc

no-key : (security : Security) (key : Option ℕ) → security ≡ securities.None → is_secured security ≡ is_some key → key ≡ None
no-key security None e is = refl
no-key security (Some index) e is = absurd (let no : false ≡ true = sym (ap is_secured e) ∙ is in cc)

matched-for : (config : Config) (group : GroupPart) (w : ℕ) → w < length group.writer → group.layout ≡ layouts.Dynamic → group.security ≡ securities.None → group.keygroup ≡ None
    → IsMatchedTo config (readers_for config group w) 0 group w
matched-for config group w within layout security key = record {
  groups = record {
    publisher = refl;
    group_id = inr (refl, refl);
    version = inl refl;
    class_id = inl refl;
    layout = sym layout;
    security = sym security;
    keygroup = sym key;
  };
  within = omega arith;
  reads = record { within = within; id = refl; dataset = refl; offset = λ e. refl; size = λ e. refl };
}

good-list : (header : HeaderValue) (ids payload : List ℕ) → IsWritten header → header.ids ≡ ListOf ids → are_past (length (ids_of ids)) payload ≡ false → IsGood layouts.Dynamic (header.ids, payload)
good-list header ids payload written has fits = record {
  ids = written.senders.ids;
  numbers = written.header.ids;
  taken = λ x. ap (λ (i : IdsValue). judged (payload_refusals layouts.Dynamic i payload) x) has ∙ on (are_past (length (ids_of ids)) payload) x fits;
}
  where
    on : (b : Bool) (x : Opened) → b ≡ false → judged ((false, refusals.NoIds) ∷ (b, refusals.BadSizes) ∷ []) x ≡ Ok x
    on false x e = refl
    on true x e = absurd (let wrong : Path Bool true false = e in cc)

-- what it opens of the datagram
record IsOpened (config : Config) (group : GroupPart) (w : ℕ) (ids datagram payload : List ℕ) : Type 0 where
  pub opened : Opened
  pub taken : verdict (readers_for config group w) (setup_by config (readers_for config group w) None) [] datagram ≡ Ok opened
  pub payload_is : opened.payload ≡ Messages (listed_parts (ids_of ids) payload)

is-opened : (config : Config) (group : GroupPart) (w : ℕ) (datagram : List ℕ) (message : Message) (named : IsNamed config datagram) (listed : IsListed config named.header named.rest message)
    → IsOpened config group w listed.ids datagram named.rest
is-opened config group w datagram message named listed =
    let readers = readers_for config group w in
    let setup = setup_by config readers None in
    let front = header_bytes named.header in
    let ours : is_ours readers named.header ≡ true =
    ap (λ (o : Option PublisherValue). is_publisher config.publisher.id o && true && true && true) named.publisher
    ∙ ap (λ (b : Bool). b && true && true && true) (publisher-same config.publisher.id) in
    let judged_so = taken-open readers setup [] named.header named.rest refl listed.unsecured named.written ours (good-list named.header listed.ids named.rest named.written listed.has listed.fits) in
    record {
      opened = record { pass = open_pass (front ++ named.rest); payload = payload_of layouts.Dynamic named.header.ids (length front) (front ++ named.rest) };
      taken = ap (verdict readers setup []) named.bytes ∙ judged_so;
      payload_is = ap (λ (i : IdsValue). dynamic_payload i (drop (length front) (front ++ named.rest))) listed.has
          ∙ ap (λ (l : List ℕ). Messages (listed_parts (ids_of listed.ids) l)) (drop_at front named.rest (length front) refl);
    }

-- ---- the parts that are read of it

-- the part is the frame that is read of the message, for its data set
record IsReadPart (config : Config) (message : ℕ × List ℕ) (part : Part) : Type 0 where
  pub writer : part.writer ≡ message.0
  pub meta : MetaData
  pub at : slice_get config.dataset part.set ≡ Some meta
  pub read : frame_at meta message.1 ≡ Ok part.frame

if-spelled : (b : Bool) (frame found : Frame) → cond b (Some frame) None ≡ Some found → frame ≡ found
if-spelled true frame found is = some-same frame found is
if-spelled false frame found is = none-some found is

by-read : (config : Config) (writer set : ℕ) (bytes : List ℕ) (meta : MetaData) (read : Result Frame FrameFault) (part : Part) → slice_get config.dataset set ≡ Some meta → frame_at meta bytes ≡ read
    → option_map (λ frame. record { writer = writer; set = set; frame = frame }) (frame_if read) ≡ Some part → IsReadPart config (writer, bytes) part
by-read config writer set bytes meta (Err fault) part at e is = none-some part is
by-read config writer set bytes meta (Ok frame) part at e is = on (frame_if (Ok frame)) refl is
  where
    on : (made : Option Frame) → frame_if (Ok frame) ≡ made → option_map (λ frame. record { writer = writer; set = set; frame = frame }) made ≡ Some part → IsReadPart config (writer, bytes) part
    on None e2 is = none-some part is
    on (Some found) e2 is =
        let same = if-spelled (is_spelled frame) frame found e2 in
        let one : Part = record { writer = writer; set = set; frame = found } in
        subst (IsReadPart config (writer, bytes)) (some-same one part is) (record { writer = refl; meta = meta; at = at; read = e ∙ ap Ok same })

by-meta : (config : Config) (writer set : ℕ) (bytes : List ℕ) (meta : Option MetaData) (part : Part) → slice_get config.dataset set ≡ meta
    → option_and_then (λ meta. option_map (λ frame. record { writer = writer; set = set; frame = frame }) (frame_if (frame_at meta bytes))) meta ≡ Some part → IsReadPart config (writer, bytes) part
by-meta config writer set bytes None part at is = none-some part is
by-meta config writer set bytes (Some meta) part at is = by-read config writer set bytes meta (frame_at meta bytes) part at refl is

by-set : (config : Config) (writer : ℕ) (bytes : List ℕ) (set : Option ℕ) (part : Part) → option_and_then (part_for config writer bytes) set ≡ Some part → IsReadPart config (writer, bytes) part
by-set config writer bytes None part is = none-some part is
by-set config writer bytes (Some set) part is = by-meta config writer set bytes (slice_get config.dataset set) part refl is

is-read-part : (config : Config) (message : ℕ × List ℕ) (part : Part) → part_of config message ≡ Some part → IsReadPart config message part
is-read-part config message part is = by-set config message.0 message.1 (set_of (sets_of config) message.0) part is

-- ---- which are the writer's answers

module _ (config : Config) (g w : ℕ) (answered : List Answered) where
  abbrev its_meta : MetaData
  its_meta = meta_of_writer (group_at config g) config.dataset w

  abbrev its_id : ℕ
  its_id = (writer_at (group_at config g) w).id

  -- a part of the writer is an answer
  abbrev pub IsAnsweredIf : Part → Type 0
  IsAnsweredIf part = IsOfWriter config g w part → IsAnsweredFrame its_meta answered part.frame

  abbrev pub AreAnswered : List Part → Type 0
  AreAnswered [] = ⊤
  AreAnswered (part ∷ parts) = IsAnsweredIf part × AreAnswered parts

  major-is : (major meta : ℕ) → not (major == meta) ≡ false → major ≡ meta
  major-is major meta e = grind (arith, nat_tests, e)

  own-major : (major : Option ℕ) → Rattle.std.specs.Option.option_map_or (λ (m : ℕ). not (m == its_meta.major)) major false ≡ false → IsOfMajor its_meta.major major
  own-major None e = tt
  own-major (Some got) e = major-is got its_meta.major e

  answered-frame : (frame : Frame) → IsOfAnswer its_meta answered frame → IsAnsweredFrame its_meta answered frame
  answered-frame frame is = record { placed = is.placed; answer = is.answer; number = is.number; content = is.content; major = own-major frame.major is.own }

  of-read : (read : Result Frame FrameFault) (frame : Frame) → OfRead (IsOfAnswer its_meta answered) read → read ≡ Ok frame → IsOfAnswer its_meta answered frame
  of-read (Ok found) frame is e = subst (IsOfAnswer its_meta answered) (ok-same found frame e) is
  of-read (Err fault) frame is e = err-ok fault frame e

  module _ (IsChunk : Chunk → Type 0) where
    abbrev IsItsPiece : Piece → Type 0
    IsItsPiece piece = IsPieceOf (IsOfAnswer its_meta answered) IsChunk its_meta piece

    abbrev mine : List (ℕ × List ℕ) → List Piece
    mine messages = map (λ (part : ℕ × List ℕ). Whole part.1) (filter (λ (part : ℕ × List ℕ). part.0 == its_id) messages)

    one-answered : (message : ℕ × List ℕ) (part : Part) → (IsOfWriter config g w part → OfRead (IsOfAnswer its_meta answered) (frame_at its_meta message.1)) → IsReadPart config message part → IsAnsweredIf part
    one-answered message part piece read is =
        let same : its_meta ≡ read.meta = ap (λ (n : ℕ). slice_index_or config.dataset n no_meta) (sym is.dataset) ∙ get_or_from_slice_get config.dataset part.set read.meta no_meta read.at in
        answered-frame part.frame (of-read (frame_at its_meta message.1) part.frame (piece is) (ap (λ (m : MetaData). frame_at m message.1) same ∙ read.read))

    -- the pieces of one more message, whose id is the writer's or not
    split : (b : Bool) (message : ℕ × List ℕ) (rest : List (ℕ × List ℕ)) → (message.0 == its_id) ≡ b
        → All IsItsPiece (map (λ (part : ℕ × List ℕ). Whole part.1) (cond b (message ∷ filter (λ (part : ℕ × List ℕ). part.0 == its_id) rest) (filter (λ (part : ℕ × List ℕ). part.0 == its_id) rest)))
        → (message.0 ≡ its_id → OfRead (IsOfAnswer its_meta answered) (frame_at its_meta message.1)) × All IsItsPiece (mine rest)
    split true message rest e all = ((λ same. All-head IsItsPiece (Whole message.1) (mine rest) all), All-tail IsItsPiece (Whole message.1) (mine rest) all)
    split false message rest e all = ((λ same. absurd (false≢true (sym e ∙ eq-eqb message.0 its_id same))), all)

    with-rest : (part : Part) (rest : Option (List Part)) (found : List Part) → IsAnsweredIf part → ((others : List Part) → rest ≡ Some others → AreAnswered others)
        → option_map (λ others. part ∷ others) rest ≡ Some found → AreAnswered found
    with-rest part None found one later e = none-some found e
    with-rest part (Some others) found one later e = subst AreAnswered (some-same (part ∷ others) found e) (one, later others refl)

    with-part : (message : ℕ × List ℕ) (messages : List (ℕ × List ℕ)) (part : Option Part) (found : List Part) → part_of config message ≡ part
        → (message.0 ≡ its_id → OfRead (IsOfAnswer its_meta answered) (frame_at its_meta message.1))
        → ((others : List Part) → all_of (map (part_of config) messages) ≡ Some others → AreAnswered others) → all_of (part ∷ map (part_of config) messages) ≡ Some found → AreAnswered found
    with-part message messages None found e own later is = none-some found is
    with-part message messages (Some part) found e own later is =
        let read = is-read-part config message part e in
        with-rest part (all_of (map (part_of config) messages)) found (one-answered message part (λ its. own (sym read.writer ∙ its.id)) read) later is

    pub each-answered : (messages : List (ℕ × List ℕ)) (found : List Part) → All IsItsPiece (mine messages) → all_of (map (part_of config) messages) ≡ Some found → AreAnswered found
    each-answered [] found all is = subst AreAnswered (some-same [] found is) tt
    each-answered (message ∷ messages) found all is =
        let so = split (message.0 == its_id) message messages refl all in
        with-part message messages (part_of config message) found refl so.0 (λ others e. each-answered messages others so.1 e) is

-- ---- a datagram of a session

module _ (laws : Laws) (p : Plan) (steps : List Step) (plan : IsPlan p) (are : AreSteps p steps) (run : IsRun p steps) (rise : SamplesRise p steps) where
  is-past : (h : ℕ) → IsPast p.config (group_at p.config h) (pasts_at p steps h)
  is-past h =
      let past = past-of most_ticks laws.words laws.ring p h steps plan are (laws.hold p steps plan are) rise in
      record { turns = past.turns; rows = λ w within. (meta_of_writer (group_at p.config h) (metas_at p.config steps) w, (past.lives w within).rows) }

  are-pasts : (h : ℕ) (part : GroupPart) → IsAt p.config h part → IsPast p.config part (pasts_at p steps h)
  are-pasts h part at = subst (λ (q : GroupPart). IsPast p.config q (pasts_at p steps h)) (get_or_from_slice_get p.config.group h part no_group at) (is-past h)

  made-named : (datagram : List ℕ) → IsMade p.config (pasts_at p steps) datagram → IsNamed p.config datagram
  made-named datagram made = past-named p.config made.part (pasts_at p steps made.group) datagram (are-pasts made.group made.part made.there).turns made.made

  module _ (g w : ℕ) (writer : IsPlainWriter p.config g w) where
    abbrev its_group : GroupPart
    its_group = group_at p.config g

    its_plain : (its_group.layout ≡ layouts.Dynamic) × (its_group.security ≡ securities.None)
    its_plain = plain-is its_group.layout its_group.security writer.plain

    at-group : IsAt p.config g its_group
    at-group = slice_get-get_or p.config.group g no_group writer.there

    its_key : its_group.keygroup ≡ None
    its_key = no-key its_group.security its_group.keygroup its_plain.1 (plan.good.sound.groups g no_group writer.there).keys.keyed

    its_matched : IsMatchedTo p.config (readers_for p.config its_group w) 0 its_group w
    its_matched = matched-for p.config its_group w writer.within its_plain.0 its_plain.1 its_key

    abbrev meta_here : MetaData
    meta_here = meta_of_writer its_group p.config.dataset w

    abbrev its-chunk : AreTurns p.config its_group (pasts_at p steps g) → Chunk → Type 0
    its-chunk turns chunk = IsChunkOf meta_here (answered_at p g w steps) (spelled_at p.config its_group w (pasts_at p steps g) turns) chunk

    -- the parts of what is transcoded of a datagram that was made
    datagram-answered : (datagram : List ℕ) (message : Message) → IsMade p.config (pasts_at p steps) datagram → transcoded p.config datagram ≡ Some message
        → AreAnswered p.config g w (answered_at p g w steps) message.parts
    datagram-answered datagram message made is =
        let named = made-named datagram made in
        let listed = is-listed p.config datagram message named is in
        let opened = is-opened p.config its_group w datagram message named listed in
        let turns = (is-past g).turns in
        let all = made-pieces laws.turns p.config its_group (readers_for p.config its_group w) 0 w its_matched g (pasts_at p steps) plan.good.sound at-group are-pasts turns [] datagram opened.opened made opened.taken in
        each-answered p.config g w (answered_at p g w steps) (its-chunk turns) (listed_parts (ids_of listed.ids) named.rest) message.parts
        (subst (λ (payload : readers.Payload). All (IsPieceOf (IsOfAnswer meta_here (answered_at p g w steps)) (its-chunk turns) meta_here) (pieces (reader_for its_group w) payload)) opened.payload_is all)
        listed.parts

  -- ---- parts, one after another

  abbrev Own : Part → Type 0
  Own part = HasOwnFrames p steps part

  own-append : (one other : List Part) → HaveOwnFrames p steps one → HaveOwnFrames p steps other → HaveOwnFrames p steps (one ++ other)
  own-append [] other first second = second
  own-append (part ∷ one) other first second = (first.0, own-append one other first.1 second)

  -- what holds for each writer holds for all of them
  all-own : (parts : List Part) → ((g w : ℕ) → IsPlainWriter p.config g w → AreAnswered p.config g w (answered_at p g w steps) parts) → HaveOwnFrames p steps parts
  all-own [] each = tt
  all-own (part ∷ parts) each = ((λ g w writer its. (each g w writer).0 its), all-own parts (λ g w writer. (each g w writer).1))

  message-own : (datagram : List ℕ) (message : Message) → IsMade p.config (pasts_at p steps) datagram → transcoded p.config datagram ≡ Some message → HaveOwnFrames p steps message.parts
  message-own datagram message made is = all-own message.parts (λ g w writer. datagram-answered g w writer datagram message made is)

  one-sent : (datagram : List ℕ) (m : Option Message) (rest : List Message) → transcoded p.config datagram ≡ m → IsMade p.config (pasts_at p steps) datagram → HaveOwnFrames p steps (parts_of rest)
      → HaveOwnFrames p steps (parts_of (cons_option m rest))
  one-sent datagram None rest e made own = own
  one-sent datagram (Some message) rest e made own = own-append message.parts (parts_of rest) (message-own datagram message made e) own

  sent-own : (sent : List (List ℕ)) → ((datagram : List ℕ) → Contains sent datagram → IsMade p.config (pasts_at p steps) datagram) → HaveOwnFrames p steps (parts_of (messages_of p.config sent))
  sent-own [] made = tt
  sent-own (datagram ∷ sent) made =
      one-sent datagram (transcoded p.config datagram) (messages_of p.config sent) refl (made datagram (zero, omega arith, refl))
      (sent-own sent (λ d has. made d (suc has.0, let below = has.1 in omega (arith, below), has.2)))

  -- what was sent stands in the journal
  later : (first : Entry) (entries : List Entry) (datagram : List ℕ) → Contains entries (Sent datagram) → Contains (first ∷ entries) (Sent datagram)
  later first entries datagram has = (suc has.0, let below = has.1 in omega (arith, below), has.2)

  listed-sent : (entries : List Entry) (datagram : List ℕ) → Contains (sent_list entries) datagram → Contains entries (Sent datagram)
  listed-sent [] datagram has = absurd (let below = has.1 in omega (arith, below))
  listed-sent (Sent bytes ∷ entries) datagram (zero, below, same) = (zero, omega arith, ap Sent same)
  listed-sent (Sent bytes ∷ entries) datagram (suc k, below, same) = later (Sent bytes) entries datagram (listed-sent entries datagram (k, omega (arith, below), same))
  listed-sent (SendFailed ∷ entries) datagram has = later SendFailed entries datagram (listed-sent entries datagram has)
  listed-sent (Got bytes ∷ entries) datagram has = later (Got bytes) entries datagram (listed-sent entries datagram has)
  listed-sent (Empty ∷ entries) datagram has = later Empty entries datagram (listed-sent entries datagram has)
  listed-sent (Long size ∷ entries) datagram has = later (Long size) entries datagram (listed-sent entries datagram has)
  listed-sent (ReceiveFailed ∷ entries) datagram has = later ReceiveFailed entries datagram (listed-sent entries datagram has)

  journal-own : HaveOwnFrames p steps (parts_of (messages_of p.config (sent_list (journal p steps))))
  journal-own = sent-own (sent_list (journal p steps)) (λ datagram has. sent-made p steps datagram run (listed-sent (journal p steps) datagram has))

  pub frames-own : (told : Option LinkState) (parts : List Part) → IsSome told → TellsRun p steps told
      → ((state : LinkState) → told ≡ Some state → parts ≡ parts_of (messages_of p.config (sent_list state.journal))) → HaveOwnFrames p steps parts
  frames-own None parts some tells sent = absurd cc
  frames-own (Some state) parts some tells sent =
      let is = sent state refl ∙ ap (λ (l : List Entry). parts_of (messages_of p.config (sent_list l))) (tells state refl) in
      subst (HaveOwnFrames p steps) (sym is) journal-own
