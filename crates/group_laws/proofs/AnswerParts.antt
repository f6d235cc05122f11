-- Each part of a datagram that is for the reader of a writer is of what that writer answered at the turn.
use Rattle.std.proofs.Common.{◌≡◌, refl, sym, ap, ◌∙◌, subst, arith, ℕ, zero, suc, Bool, true, false, List, [], ◌∷◌, map, replicate, All, Contains, Option, Some, None, Ok, is_err}
use Rattle.std.specs.Prelude.{option_map, nat_le, slice_index_or, if◌then◌else◌}
use Rattle.std.specs.List.{flat_map}
use Rattle.std.proofs.lemmas.List.{get_or_default}
use Rattle.std.proofs.lemmas.List.Elements.{All-cons, All-nil, All-map}
use Rattle.pubsub_model.specs.Frames.{PlacedFrame, Whole}
use Rattle.pubsub_model.specs.Cadence.{WriterTurn}
use Rattle.frame_codec.specs.Frames.{Frame}
use Rattle.frame_codec.specs.Reading.{frame_at}
use Rattle.chunker.specs.Chunks.{Chunk, cuts}
use Rattle.chunker.specs.Spelling.{chunk_bytes}
use Rattle.chunker.proofs.CutLaws.{cut-of}
use Rattle.config_tables.specs.declared.words.Layout.TheVariants as layouts
use Rattle.ps_config.specs.declared.parts.Config.{Config}
use Rattle.ps_config.specs.declared.parts.GroupPart.{GroupPart}
use Rattle.ps_config.specs.FixedSound.{writer_slot}
use Rattle.ps_config.specs.Rooms.{chunk_room}
use Rattle.writer_group.specs.Envelopes.{frame_room}
use Rattle.writer_group.specs.Payloads.{Spelled, size_of, spelled_by, writer_at, meta_at}
use Rattle.writer_group.specs.Turns.{GroupDeed, TurnInput, turn_by, answer_to, answer_by}
use Rattle.reader_group.specs.Members.{Seat}
use Rattle.reader_group.specs.Opening.{Opened}
use Rattle.reader_group.specs.Payloads.{Piece, Message, Chunked, Slotted, pieces}
use Rattle.group_laws.specs.Matching.{ReadsFrames, ReadsWriter, IsGroupTurn}
use Rattle.group_laws.specs.TurnOpened.{turn_opened}
use Rattle.group_laws.specs.TurnPieces.{frame_pieces, dynamic_pieces, fixed_pieces, turn_pieces}
use Rattle.group_laws.specs.TurnReading.{frame_read, IsReadAsChunk, IsEmptyPart, IsFixedTurn, IsPartBy, IsPartIf, IsPartOf, IsSampled}
use Rattle.group_laws.proofs.ChunkReading.{IsMessage, chunk-read}
use Rattle.group_laws.proofs.DynamicReading as dynamic
use Rattle.group_laws.proofs.FixedPieces.{fixed-turn}
use Rattle.group_laws.proofs.FixedReading as fixed
use Rattle.group_laws.proofs.Lists.{All-left, All-right}
use Rattle.group_laws.proofs.SlotReading.{zeros-read}
use Rattle.group_laws.proofs.TurnLaws.{dynamic-turn}

-- ---- what holds of all parts holds of those of one datagram

pub of-one : {X Y : Type 0} (P : Y → Type 0) (f : X → List Y) (xs : List X) (x : X) → All P (flat_map f xs) → Contains xs x → All P (f x)
of-one P f [] x all has = absurd (let below = has.1 in omega (arith, below))
of-one {X} {Y} P f (y ∷ xs) x all (zero, below, same) = subst (λ (z : X). All P (f z)) same (All-left P (f y) (flat_map f xs) all)
of-one P f (y ∷ xs) x all (suc k, below, same) = of-one P f xs x (All-right P (f y) (flat_map f xs) all) (k, omega (arith, below), same)

-- ---- dynamic groups

chunk-part : (seat : Seat) (room number : ℕ) (message : List ℕ) (frame : Frame) (chunk : Chunk) → IsMessage seat room number message frame → Contains (cuts room number message) chunk → IsReadAsChunk message number (chunk_bytes chunk)
chunk-part seat room number message frame chunk is cut =
    let of = cut-of room number message chunk cut in
    record { chunk = chunk; chunk_read = chunk-read seat room number message frame is chunk cut; number_is = of.0; cut = of.1 }

frame-parts : (seat : Seat) (frame_room room : ℕ) (spelled : Spelled) (frame : Frame) (fits : Bool) → nat_le (size_of spelled) frame_room ≡ fits → frame_at seat.meta spelled.bytes ≡ Ok frame
    → (nat_le (size_of spelled) frame_room ≡ false → IsMessage seat room spelled.number spelled.bytes frame) → All (IsPartOf seat spelled frame) (frame_pieces frame_room room spelled)
frame-parts seat frame_room room spelled frame true fits read is =
    subst (λ (b : Bool). All (IsPartOf seat spelled frame) (if b then Message spelled.bytes ∷ [] else map (λ chunk. Chunked (chunk_bytes chunk)) (cuts room spelled.number spelled.bytes))) (sym fits)
    (All-cons (IsPartOf seat spelled frame) (Message spelled.bytes) [] read (All-nil (IsPartOf seat spelled frame)))
frame-parts seat frame_room room spelled frame false fits read is =
    let chunks = cuts room spelled.number spelled.bytes in
    subst (λ (b : Bool). All (IsPartOf seat spelled frame) (if b then Message spelled.bytes ∷ [] else map (λ chunk. Chunked (chunk_bytes chunk)) chunks)) (sym fits)
    (All-map (IsPartOf seat spelled frame) (λ chunk. Chunked (chunk_bytes chunk)) chunks
    (λ k d below. (read, chunk-part seat room spelled.number spelled.bytes frame (slice_index_or chunks k d) (is fits) (k, below, get_or_default chunks k _ d below), (is fits).not_alive)))

module _ (config : Config) (group : GroupPart) (past : List GroupDeed) (input : TurnInput) (writer : ℕ) (seat : Seat)
    (is : group.layout ≡ layouts.Dynamic) (turn : IsGroupTurn config group past input) (reader : ReadsWriter group writer seat.part) (metas : ReadsFrames group input.told.metas writer seat.meta) (sampled : IsSampled group past input writer) where
  abbrev framed : PlacedFrame → Frame
  framed placed = frame_read group input writer seat placed

  abbrev spelled : PlacedFrame → Spelled
  spelled placed = spelled_by group input.told.metas writer placed

  dynamic-by : (answer : Option PlacedFrame) → answer_by group past input writer ≡ answer → All (IsPartIf seat spelled framed answer) (dynamic_pieces config.publisher.id group (option_map (spelled_by group input.told.metas writer) answer))
  dynamic-by None e = All-nil (IsPartIf seat spelled framed None)
  dynamic-by (Some placed) e =
      frame-parts seat (frame_room config.publisher.id group) (chunk_room config.publisher.id group) (spelled placed) (framed placed) (nat_le (size_of (spelled placed)) (frame_room config.publisher.id group)) refl
      (dynamic.read-is config group past input writer seat is turn reader metas sampled placed e) (dynamic.message-is config group past input writer seat is turn reader metas sampled placed e)

  dynamic-all : All (IsPartBy group past input writer seat) (turn_pieces config group past input writer)
  dynamic-all =
      subst (λ (l : List Piece). All (IsPartBy group past input writer seat) l) (sym (dynamic.turn-is config group past input writer seat is turn reader metas sampled (answer_by group past input writer) refl))
      (dynamic-by (answer_by group past input writer) refl)

  pub dynamic-parts : (opened : Opened) → Contains (turn_opened config group past input) opened → All (IsPartBy group past input writer seat) (pieces seat.part opened.payload)
  dynamic-parts opened has =
      of-one (IsPartBy group past input writer seat) (λ (o : Opened). pieces seat.part o.payload) (turn_opened config group past input) opened
      (subst (λ (l : List Piece). All (IsPartBy group past input writer seat) l) (sym (dynamic-turn config group past input writer seat layouts.Dynamic refl is turn reader)) dynamic-all) has

-- ---- fixed groups

module _ (config : Config) (group : GroupPart) (past : List GroupDeed) (input : TurnInput) (writer : ℕ) (seat : Seat)
    (is : group.layout ≡ layouts.Fixed) (turn : IsGroupTurn config group past input) (fixed_is : IsFixedTurn config group past input) (reader : ReadsWriter group writer seat.part) (same : seat.meta ≡ meta_at group config.dataset writer) where
  abbrev carried_as : PlacedFrame → Frame
  carried_as placed = frame_read group input writer seat placed

  abbrev spelled_as : PlacedFrame → Spelled
  spelled_as placed = spelled_by group input.told.metas writer placed

  empty-slot : IsEmptyPart seat (Slotted (replicate (writer_slot config (writer_at group writer)).size 0))
  empty-slot = ap is_err (zeros-read seat.meta (writer_slot config (writer_at group writer)).size).is

  fixed-by : (took : Option WriterTurn) → turn_by group input writer ≡ took
      → All (IsPartIf seat spelled_as carried_as (answer_to group past writer took)) (fixed_pieces config group writer (option_map (spelled_by group input.told.metas writer) (answer_to group past writer took)))
  fixed-by None had = All-cons (IsPartIf seat spelled_as carried_as None) (Slotted (replicate (writer_slot config (writer_at group writer)).size 0)) [] empty-slot (All-nil (IsPartIf seat spelled_as carried_as None))
  fixed-by (Some took) had =
      let place = fixed.place_now config group past input writer seat is turn fixed_is reader same in
      let answer = fixed.answer-is config group past input writer seat is turn fixed_is reader same took in
      let placed = Whole place took.row in
      let bytes = Rattle.fixed_layout.specs.Datagrams.filled (writer_slot config (writer_at group writer)) (spelled_by group input.told.metas writer placed).bytes in
      subst (λ (o : Option PlacedFrame). All (IsPartIf seat spelled_as carried_as o) (fixed_pieces config group writer (option_map (spelled_by group input.told.metas writer) o))) (sym answer)
      (All-cons (IsPartIf seat spelled_as carried_as (Some placed)) (Slotted bytes) [] (fixed.slot-is config group past input writer seat is turn fixed_is reader same took place (ap (answer_to group past writer) had ∙ answer))
      (All-nil (IsPartIf seat spelled_as carried_as (Some placed))))

  fixed-all : All (IsPartBy group past input writer seat) (turn_pieces config group past input writer)
  fixed-all =
      subst (λ (l : List Piece). All (IsPartBy group past input writer seat) l) (sym (fixed.turn-is config group past input writer seat is turn fixed_is reader same (answer_by group past input writer) refl))
      (fixed-by (turn_by group input writer) refl)

  pub fixed-parts : (opened : Opened) → Contains (turn_opened config group past input) opened → All (IsPartBy group past input writer seat) (pieces seat.part opened.payload)
  fixed-parts opened has =
      of-one (IsPartBy group past input writer seat) (λ (o : Opened). pieces seat.part o.payload) (turn_opened config group past input) opened
      (subst (λ (l : List Piece). All (IsPartBy group past input writer seat) l) (sym (fixed-turn config group past input writer seat is turn fixed_is reader)) fixed-all) has
