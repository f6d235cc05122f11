-- A reader is given what its writer answered at a turn of a dynamic group.
use Rattle.std.proofs.Common.{◌≡◌, refl, sym, ap, ◌∙◌, subst, arith, ℕ, ◌<◌, ◌≤◌, mod-lt, length, ◌⊎◌, inl, inr, Bool, true, false, List, [], ◌∷◌, map, fold, append-nil, Contains, Option, Some, None, Ok}
use Rattle.std.specs.Prelude.{option_map, nat_le, if◌then◌else◌}
use Rattle.std.specs.List.{flat_map}
use Rattle.std.proofs.lemmas.Bool.Decides.{nat_tests}
use Rattle.dataset_meta.specs.Metas.{IsMeta, MetaData}
use Rattle.pubsub_model.specs.Frames.{PlacedFrame, carried}
use Rattle.pubsub_model.specs.Frames as model
use Rattle.pubsub_model.specs.Cadence.{WriterTurn}
use Rattle.frame_codec.specs.Carrying.{version_if}
use Rattle.frame_codec.specs.Frames.{Alive, Change, Content, Frame, IsFrame, Whole, content_cut, frame_cut}
use Rattle.frame_codec.specs.Reading.{frame_at}
use Rattle.frame_codec.specs.Spelling.{frame_bytes}
use Rattle.frame_codec.proofs.Lengths.{alive_short, frame_some, frame_short}
use Rattle.frame_codec.proofs.ReadingLaws.{grown-read, written-read}
use Rattle.frame_codec.proofs.WrittenLaws.{cut-whole}
use Rattle.chunker.specs.Chunks.{cuts}
use Rattle.chunker.specs.Joins.{IsNewFor}
use Rattle.chunker.specs.Spelling.{chunk_bytes}
use Rattle.config_tables.specs.declared.words.Layout.{Layout}
use Rattle.config_tables.specs.declared.words.Layout.TheVariants as layouts
use Rattle.ps_config.specs.declared.parts.Config.{Config}
use Rattle.ps_config.specs.declared.parts.GroupPart.{GroupPart}
use Rattle.ps_config.specs.declared.parts.WriterPart.{WriterPart}
use Rattle.ps_config.specs.Rooms.{IsRoomy, chunk_room, is_fixed}
use Rattle.ps_config.proofs.Roomy.{chunk_roomy, frame_roomy}
use Rattle.writer_group.specs.Envelopes.{frame_room}
use Rattle.writer_group.specs.Payloads.{IsFrameIf, Spelled, size_of, spelled_by, carried_frame, laid_frame, writer_at, meta_at}
use Rattle.writer_group.specs.Turns.{GroupDeed, TurnInput, frame_of_writer, frame_by, turn_by, answer_to, answer_by}
use Rattle.reader_group.specs.declared.receipt.Receipt.{Receipt}
use Rattle.reader_group.specs.Members.{Seat}
use Rattle.reader_group.specs.Opening.{Opened}
use Rattle.reader_group.specs.Payloads.{Message, Chunked, pieces}
use Rattle.reader_group.specs.Plain.{Fed}
use Rattle.group_laws.specs.Matching.{HasGrownSince, ReadsFrames, ReadsWriter, IsGroupTurn}
use Rattle.group_laws.specs.TurnOpened.{turn_opened}
use Rattle.group_laws.specs.TurnPieces.{frame_pieces, dynamic_pieces, turn_pieces, writer_pieces}
use Rattle.group_laws.specs.TurnReading.{Received, fed_all, frame_answered, frame_read, IsSampled, IsBehind, IsGiven, IsReadAs}
use Rattle.group_laws.proofs.ChunkReading.{IsMessage, cut-given}
use Rattle.group_laws.proofs.PartsReading.{Part, part_on, parts_for, fed-parts, pieces-of, receipts-of, none-read, message-given, as-chunks}
use Rattle.group_laws.proofs.TurnLaws.{dynamic-turn}
use Rattle.writer_group.proofs.SmallIds.{group-sound}

-- ---- the frame that is answered

frame-of-took : (group : GroupPart) (metas : List MetaData) (past : List GroupDeed) (writer : ℕ) (took : Option WriterTurn)
    → frame_of_writer group metas past writer took ≡ option_map (spelled_by group metas writer) (answer_to group past writer took)
frame-of-took group metas past writer None = refl
frame-of-took group metas past writer (Some turn) = refl

pub frame-by-is : (group : GroupPart) (past : List GroupDeed) (input : TurnInput) (writer : ℕ) → frame_by group past input writer ≡ option_map (spelled_by group input.told.metas writer) (answer_by group past input writer)
frame-by-is group past input writer = frame-of-took group input.told.metas past writer (turn_by group input writer)

pub answer-frame : (group : GroupPart) (past : List GroupDeed) (input : TurnInput) (writer : ℕ) (placed : PlacedFrame) → IsSampled group past input writer → answer_by group past input writer ≡ Some placed
    → IsFrame (meta_at group input.told.metas writer) (carried_frame (writer_at group writer) (meta_at group input.told.metas writer) placed)
answer-frame group past input writer placed sampled e = subst (IsFrameIf (writer_at group writer) (meta_at group input.told.metas writer)) e sampled.frame

carried-small : (placed : PlacedFrame) → carried placed < 65536
carried-small (model.Whole place row) = mod-lt place {m = 65536} (omega arith)
carried-small (model.Change place patch) = mod-lt place {m = 65536} (omega arith)
carried-small (model.Alive next) = mod-lt next {m = 65536} (omega arith)

-- ---- how it is read

pub more-receipts : (seat : Seat) (one other : List Receipt) (fed : Fed) (frame : Frame) (after : Fed) → ((receipt : Receipt) → Contains one receipt → Contains other receipt) → IsGiven seat one fed frame after → IsGiven seat other fed frame after
more-receipts seat one other fed frame after more g = record { receipt = g.receipt; one_of = more g.receipt g.one_of; joining = g.joining; member = g.member; joins = g.joins; good = g.good }

-- what is written is read, cut to the fields of the reader's meta
read-by : (writer : WriterPart) (before now : MetaData) (placed : PlacedFrame) → (before ≡ now) ⊎ HasGrownSince writer before now → IsMeta now.fields → IsFrame now (carried_frame writer now placed)
    → frame_at before (frame_bytes now.quality (carried_frame writer now placed)) ≡ Ok (frame_cut before (carried_frame writer now placed))
read-by writer before now placed (inl same) is_meta is =
    let frame = carried_frame writer now placed in
    ap (λ (m : MetaData). frame_at m (frame_bytes now.quality frame)) same
    ∙ ap (frame_at now) (sym (append-nil (frame_bytes now.quality frame)))
    ∙ written-read now frame 0 is_meta is
    ∙ ap (λ (f : Frame). Ok f) (sym (ap (λ (m : MetaData). frame_cut m frame) same ∙ cut-whole now frame is))
read-by writer before now placed (inr since) is_meta is =
    let frame = carried_frame writer now placed in
    ap (frame_at before) (sym (append-nil (frame_bytes now.quality frame)))
    ∙ grown-read before now frame now.minor 0 is_meta since.fields is (ap (λ (b : Bool). version_if b now.minor) since.versions) since.minor

uncut-alive : (meta : MetaData) (content : Content) → content_cut meta content ≡ Alive → content ≡ Alive
uncut-alive meta (Whole row) e = absurd (let wrong : Path Content (content_cut meta (Whole row)) Alive = e in cc)
uncut-alive meta (Change patch) e = absurd (let wrong : Path Content (content_cut meta (Change patch)) Alive = e in cc)
uncut-alive meta Alive e = refl

fits-not : (size room : ℕ) → size ≤ 12 → 12 ≤ room → nat_le size room ≡ false → ⊥
fits-not size room few most large = grind (arith, nat_tests)

whole-or-cut : (seat : Seat) (frame_room room : ℕ) (spelled : Spelled) (frame : Frame) (fed : Fed) (parts : List Part) (fits : Bool) → nat_le (size_of spelled) frame_room ≡ fits → frame_at seat.meta spelled.bytes ≡ Ok frame
    → (nat_le (size_of spelled) frame_room ≡ false → IsMessage seat room spelled.number spelled.bytes frame)
    → map (λ (p : Part). p.piece) parts ≡ frame_pieces frame_room room spelled → (nat_le (size_of spelled) frame_room ≡ false → IsNewFor fed.member.joining.current spelled.number)
    → IsGiven seat (map (λ p. p.receipt) parts) fed frame (fold (part_on seat) fed parts)
whole-or-cut seat frame_room room spelled frame fed parts true fits read message is new =
    message-given seat fed parts spelled.bytes frame read
    (is ∙ ap (λ (b : Bool). if b then Message spelled.bytes ∷ [] else map (λ chunk. Chunked (chunk_bytes chunk)) (cuts room spelled.number spelled.bytes)) fits)
whole-or-cut seat frame_room room spelled frame fed parts false fits read message is new =
    let chunks = as-chunks seat parts (cuts room spelled.number spelled.bytes)
    (is ∙ ap (λ (b : Bool). if b then Message spelled.bytes ∷ [] else map (λ chunk. Chunked (chunk_bytes chunk)) (cuts room spelled.number spelled.bytes)) fits) in
    let g = cut-given seat room spelled.number spelled.bytes frame (message fits) chunks.came fed chunks.chunks_are (new fits) in
    subst (λ (l : List Receipt). IsGiven seat l fed frame (fold (part_on seat) fed parts)) chunks.receipts_are
    (subst (λ (after : Fed). IsGiven seat (map (λ c. c.receipt) chunks.came) fed frame after) (sym (chunks.fed_are fed)) g)

module _ (config : Config) (group : GroupPart) (past : List GroupDeed) (input : TurnInput) (writer : ℕ) (seat : Seat)
    (is : group.layout ≡ layouts.Dynamic) (turn : IsGroupTurn config group past input) (reader : ReadsWriter group writer seat.part) (metas : ReadsFrames group input.told.metas writer seat.meta) (sampled : IsSampled group past input writer) where
  abbrev meta : MetaData
  meta = meta_at group input.told.metas writer

  pub turn-is : (answer : Option PlacedFrame) → answer_by group past input writer ≡ answer → turn_pieces config group past input writer ≡ dynamic_pieces config.publisher.id group (option_map (spelled_by group input.told.metas writer) answer)
  turn-is answer e =
      ap (λ (l : Layout). writer_pieces l config group writer (frame_by group past input writer)) is
      ∙ ap (dynamic_pieces config.publisher.id group) (frame-by-is group past input writer)
      ∙ ap (λ (o : Option PlacedFrame). dynamic_pieces config.publisher.id group (option_map (spelled_by group input.told.metas writer) o)) e

  roomy : IsRoomy config.publisher.id config.dataset group
  roomy = record { dynamic = ap is_fixed is; room = (group-sound config group turn.sound turn.group_is).room }

  bytes-are : (placed : PlacedFrame) → (spelled_by group input.told.metas writer placed).bytes ≡ frame_bytes meta.quality (carried_frame (writer_at group writer) meta placed)
  bytes-are placed = ap (λ (l : Layout). laid_frame l meta (carried_frame (writer_at group writer) meta placed)) is

  pub read-is : (placed : PlacedFrame) → answer_by group past input writer ≡ Some placed → frame_at seat.meta (spelled_by group input.told.metas writer placed).bytes ≡ Ok (frame_read group input writer seat placed)
  read-is placed e =
      ap (frame_at seat.meta) (bytes-are placed)
      ∙ read-by (writer_at group writer) seat.meta meta placed metas sampled.meta (answer-frame group past input writer placed sampled e)

  -- an Alive isn't cut
  not-alive : (placed : PlacedFrame) → nat_le (size_of (spelled_by group input.told.metas writer placed)) (frame_room config.publisher.id group) ≡ false → ¬ ((frame_read group input writer seat placed).content ≡ Alive)
  not-alive placed large = λ alive.
      let frame = carried_frame (writer_at group writer) meta placed in
      let few = alive_short meta.quality frame (uncut-alive seat.meta frame.content alive) in
      let long : size_of (spelled_by group input.told.metas writer placed) ≡ length (frame_bytes meta.quality frame) = ap length (bytes-are placed) in
      let room = frame_roomy config.publisher.id config.dataset group (0 ∷ 0 ∷ []) roomy refl in
      let most : 12 ≤ frame_room config.publisher.id group = omega (arith, room) in
      fits-not (size_of (spelled_by group input.told.metas writer placed)) (frame_room config.publisher.id group) (omega (arith, few, long)) most large

  pub message-is : (placed : PlacedFrame) → answer_by group past input writer ≡ Some placed → nat_le (size_of (spelled_by group input.told.metas writer placed)) (frame_room config.publisher.id group) ≡ false
      → IsMessage seat (chunk_room config.publisher.id group) (carried placed) (spelled_by group input.told.metas writer placed).bytes (frame_read group input writer seat placed)
  message-is placed e large =
      let frame = carried_frame (writer_at group writer) meta placed in
      let frame_is = answer-frame group past input writer placed sampled e in
      let long = frame_short meta frame sampled.meta frame_is.content in
      let size : length (spelled_by group input.told.metas writer placed).bytes ≡ length (frame_bytes meta.quality frame) = ap length (bytes-are placed) in
      record {
        has_room = chunk_roomy config.publisher.id config.dataset group roomy;
        is_number = carried-small placed;
        some = let some = frame_some meta.quality frame in omega (arith, size, some);
        frame_number = refl;
        short = omega (arith, size, long);
        not_alive = not-alive placed large;
        read = read-is placed e;
      }

module _ (config : Config) (group : GroupPart) (past : List GroupDeed) (input : TurnInput) (writer : ℕ) (seat : Seat) (fed : Fed) (received : List Received)
    (is : group.layout ≡ layouts.Dynamic) (turn : IsGroupTurn config group past input) (reader : ReadsWriter group writer seat.part) (metas : ReadsFrames group input.told.metas writer seat.meta) (sampled : IsSampled group past input writer)
    (opened_are : map (λ (a : Received). a.opened) received ≡ turn_opened config group past input) where
  abbrev parts : List Part
  parts = parts_for seat received

  abbrev its_meta : MetaData
  its_meta = meta_at group input.told.metas writer

  parts-are : (answer : Option PlacedFrame) → answer_by group past input writer ≡ answer → map (λ (p : Part). p.piece) parts ≡ dynamic_pieces config.publisher.id group (option_map (spelled_by group input.told.metas writer) answer)
  parts-are answer e =
      pieces-of seat received ∙ ap (flat_map (λ (o : Opened). pieces seat.part o.payload)) opened_are
      ∙ dynamic-turn config group past input writer seat layouts.Dynamic refl is turn reader
      ∙ turn-is config group past input writer seat is turn reader metas sampled answer e

  on-answer : (answer : Option PlacedFrame) → answer_by group past input writer ≡ answer → IsBehind config.publisher.id group fed.member.joining (option_map (spelled_by group input.told.metas writer) answer)
      → IsReadAs seat (map (λ (a : Received). a.receipt) received) fed (option_map (frame_read group input writer seat) answer) (fold (part_on seat) fed parts)
  on-answer None e behind =
      let same = none-read seat fed parts (parts-are None e) in
      (ap (λ (f : Fed). f.member) same, ap (λ (f : Fed). f.bad) same)
  on-answer (Some placed) e behind =
      let spelled = spelled_by group input.told.metas writer placed in
      let room = frame_room config.publisher.id group in
      more-receipts seat (map (λ (p : Part). p.receipt) parts) (map (λ (a : Received). a.receipt) received) fed (frame_read group input writer seat placed) (fold (part_on seat) fed parts) (receipts-of seat received)
      (whole-or-cut seat room (chunk_room config.publisher.id group) spelled (frame_read group input writer seat placed) fed parts (nat_le (size_of spelled) room) refl (read-is config group past input writer seat is turn reader metas sampled placed e)
      (message-is config group past input writer seat is turn reader metas sampled placed e) (parts-are (Some placed) e) behind)

  pub dynamic-read : IsBehind config.publisher.id group fed.member.joining (frame_by group past input writer)
      → IsReadAs seat (map (λ (a : Received). a.receipt) received) fed (frame_answered group past input writer seat) (fed_all seat fed received)
  dynamic-read behind =
      subst (λ (after : Fed). IsReadAs seat (map (λ (a : Received). a.receipt) received) fed (frame_answered group past input writer seat) after) (sym (fed-parts seat fed received))
      (on-answer (answer_by group past input writer) refl (subst (IsBehind config.publisher.id group fed.member.joining) (frame-by-is group past input writer) behind))
