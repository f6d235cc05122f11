-- A closing frame all of whose datagrams came is an item of the reader since its last cut.
use Rattle.std.proofs.Common.{◌≡◌, ◌≢◌, refl, sym, ap, ◌∙◌, subst, arith, ℕ, zero, suc, ◌+◌, ◌<◌, ◌≤◌, ◌⊎◌, inl, inr, Bool, true, false, not, List, [], ◌∷◌, ◌++◌, map, length, get_or, Option, Some, None, Contains, Result, Ok}
use Rattle.std.specs.Prelude.{◌||◌, count_by, nat_le, option_map, slice_get, if◌then◌else◌}
use Rattle.std.specs.List.{flat_map, cons_option}
use Rattle.std.proofs.lemmas.List.Elements.{Contains-append_cases}
use Rattle.std.proofs.lemmas.Option.{slice_get-get_or}
use Rattle.seq_number.specs.Numbers.{number_of_place, place_from}
use Rattle.seq_number.proofs.NumberLaws.{place_from-number}
use Rattle.dataset_meta.specs.DataValues.{DataValue}
use Rattle.dataset_meta.specs.Metas.{MetaData}
use Rattle.dataset_meta.specs.Rows.{row_cut}
use Rattle.ua_base.specs.Journal.{Entry}
use Rattle.pubsub_model.specs.Answers.{IsAnswer}
use Rattle.pubsub_model.specs.Cadence.{Answered, Settings, WriterDeed, WriterTurn, HadTurn, cadence, is_data, is_fresh, next_place}
use Rattle.pubsub_model.specs.Frames.{PlacedFrame, Whole, carried, is_silent, place_of, placed_cut}
use Rattle.pubsub_model.specs.Records.{Item, place_in, since_cut}
use Rattle.pubsub_model.proofs.AnswerPlaces.{answers-span, place-span}
use Rattle.frame_codec.specs.Frames.{Frame}
use Rattle.frame_codec.specs.declared.fault.FrameFault.{FrameFault}
use Rattle.frame_codec.specs.Reading.{frame_at}
use Rattle.chunker.specs.Chunks.{Chunk, cover, cut_at, cuts, longest_message}
use Rattle.chunker.specs.Joins.{IsCutOf}
use Rattle.chunker.specs.Spelling.{chunk_bytes}
use Rattle.chunker.proofs.ChunkLaws.{cover_none}
use Rattle.chunker.proofs.CutLaws.{cut-at, cut-contains, cut-of, cut-size, cuts-cover}
use Rattle.config_tables.specs.declared.words.Layout.{Layout}
use Rattle.config_tables.specs.declared.words.Layout.TheVariants as layouts
use Rattle.config_tables.specs.declared.words.NumberingWord.TheVariants as words
use Rattle.message_guard.specs.Acceptance.{Accepted, is_acceptable}
use Rattle.message_guard.specs.Modes.{is_secured}
use Rattle.ps_config.specs.declared.parts.Config.{Config}
use Rattle.ps_config.specs.declared.parts.GroupPart.{GroupPart}
use Rattle.ps_config.specs.Rooms.{chunk_room}
use Rattle.reader_group.specs.Arrivals.{Mark, arrivals_in, chunks_in, frame_of, item_on, marks, piece_on, placed, read_on}
use Rattle.reader_group.specs.Opening.{Opened, verdict}
use Rattle.reader_group.specs.Payloads.{Piece, Message, Chunked, Slotted, pieces}
use Rattle.reader_group.specs.Plain.{Event}
use Rattle.reader_group.specs.Settings.{setting_of}
use Rattle.reader_group.specs.SlotFrames.{slot_frame_at}
use Rattle.reader_group.proofs.KeptParts.{OfRead}
use Rattle.writer_group.specs.Envelopes.{frame_room}
use Rattle.writer_group.specs.Parts.{group_at}
use Rattle.writer_group.specs.Payloads.{meta_at, size_of, spelled_by, writer_at}
use Rattle.writer_group.specs.Turns.{GroupDeed, GroupTurn, HadGroupTurn, RefreshedWriter, TurnInput, answer_by, answer_to, took_by, turn_by, turn_datagrams, writer_past}
use Rattle.fixed_layout.specs.Datagrams.{filled}
use Rattle.ps_config.specs.FixedSound.{writer_slot}
use Rattle.group_laws.specs.Matching.{ReadsFrames, ReadsWriter}
use Rattle.group_laws.specs.TurnOpened.{is_accepted, turn_opened}
use Rattle.group_laws.specs.TurnItems.{IsUncut}
use Rattle.group_laws.specs.TurnReading.{IsSampled, frame_read}
use Rattle.group_laws.proofs.ChunkReading.{IsMessage, chunk-read}
use Rattle.group_laws.proofs.DynamicReading as dynamic
use Rattle.group_laws.proofs.FixedPieces.{fixed-turn}
use Rattle.group_laws.proofs.FixedReading as fixed
use Rattle.group_laws.proofs.TurnLaws.{dynamic-turn}
use Rattle.session_model.specs.Events.{events}
use Rattle.session_model.specs.Steps.{Plan, Step}
use Rattle.session_model.proofs.Sending.{count-append}
use Rattle.session_laws.specs.Headline.{InSession}
use Rattle.session_laws.specs.Newest.{CameIn, ClosingCame, ClosingGot, HasPartFor, HoldsClosing}
use Rattle.session_laws.specs.Pasts.{AreTurns, CameAsMade, IsTurn, settings_at}
use Rattle.session_laws.specs.Plays.{Play, IsPlay, its_answers, its_marks, its_meta, its_past, its_setting, its_way}
use Rattle.session_laws.specs.Reading.{arrivals_at, first_number_of}
use Rattle.session_laws.specs.Sessions.{AreVersions, pasts_at}
use Rattle.session_laws.proofs.Versions.Answering.{spelled_at, spelled-now}
use Rattle.session_laws.proofs.Closing.Coming.{HasItem, Lies, Stands, has-contains, proper, reads-frame}
use Rattle.session_laws.proofs.Closing.GotParts.{Brought, brings-chunk, brings-frame, brought-by-pumps, covered-events, lies-got, stands-got}
use Rattle.session_laws.proofs.HeldRows.Marks.{its_bytes, source, turns}
use Rattle.session_laws.proofs.Closing.Newest.{closing-answer}
use Rattle.session_laws.proofs.HeldRows.Pieces.{TurnLaws, own-major}
use Rattle.session_laws.proofs.HeldRows.Published.{Laws, is-play, play_of}
use Rattle.session_laws.proofs.HeldRows.Sources.{AreSent, IsLaidOf, IsOfAnswer, chunk-laid, frame-bare, frame-gives}

-- ---- lists

pub in-flat : {X Y : Type 0} (f : X → List Y) (xs : List X) (y : Y) → Contains (flat_map f xs) y → (x : X) × Contains xs x × Contains (f x) y
in-flat f [] y has = absurd (let below = has.1 in omega (arith, below))
in-flat {X} {Y} f (x ∷ xs) y has = on (in-flat f xs y) (Contains-append_cases (f x) (flat_map f xs) y has)
  where
    on : (Contains (flat_map f xs) y → (x : X) × Contains xs x × Contains (f x) y) → Contains (f x) y ⊎ Contains (flat_map f xs) y → (z : X) × Contains (x ∷ xs) z × Contains (f z) y
    on rest (inl here) = (x, (0, omega arith, refl), here)
    on rest (inr more) = let found = rest more in let at = found.1 in (found.0, (suc at.0, let lt = at.1 in omega (arith, lt), at.2), found.2)

empty-left : {Y : Type 0} (vs more : List Y) → vs ++ more ≡ [] → vs ≡ []
empty-left [] more e = refl
empty-left (v ∷ vs) more e = absurd (let size = ap length e in omega (arith, size))

empty-right : {Y : Type 0} (vs more : List Y) → vs ++ more ≡ [] → more ≡ []
empty-right [] more e = e
empty-right (v ∷ vs) more e = absurd (let size = ap length e in omega (arith, size))

empty-of : {X Y : Type 0} (f : X → List Y) (xs : List X) (x : X) → flat_map f xs ≡ [] → Contains xs x → f x ≡ []
empty-of f [] x e has = absurd (let below = has.1 in omega (arith, below))
empty-of f (z ∷ xs) x e (zero, below, same) = ap f (sym same) ∙ empty-left (f z) (flat_map f xs) e
empty-of f (z ∷ xs) x e (suc k, below, same) = empty-of f xs x (empty-right (f z) (flat_map f xs) e) (k, omega (arith, below), same)

single : {Y : Type 0} (v y : Y) (vs more : List Y) → v ∷ vs ++ more ≡ y ∷ [] → (v ∷ vs ≡ y ∷ []) × (more ≡ [])
single v y [] [] e = (e, refl)
single v y [] (m ∷ more) e = absurd (let size = ap length e in omega (arith, size))
single v y (u ∷ vs) more e = absurd (let size = ap length e in omega (arith, size))

one-of : {X Y : Type 0} (f : X → List Y) (z : X) (xs : List X) (x : X) (y : Y) (vs : List Y) → f z ≡ vs → f z ++ flat_map f xs ≡ y ∷ [] → Contains (z ∷ xs) x → f x ≢ [] → (flat_map f xs ≡ y ∷ [] → Contains xs x → f x ≡ y ∷ []) → f x ≡ y ∷ []
one-of f z xs x y [] is e (zero, below, same) some rest = absurd (some (ap f (sym same) ∙ is))
one-of {X} {Y} f z xs x y [] is e (suc k, below, same) some rest = rest (sym (ap (λ (l : List Y). l ++ flat_map f xs) is) ∙ e) (k, omega (arith, below), same)
one-of {X} {Y} f z xs x y (v ∷ vs) is e (zero, below, same) some rest = ap f (sym same) ∙ is ∙ (single v y vs (flat_map f xs) (sym (ap (λ (l : List Y). l ++ flat_map f xs) is) ∙ e)).0
one-of {X} {Y} f z xs x y (v ∷ vs) is e (suc k, below, same) some rest =
    absurd (some (empty-of f xs x (single v y vs (flat_map f xs) (sym (ap (λ (l : List Y). l ++ flat_map f xs) is) ∙ e)).1 (k, omega (arith, below), same)))

-- of a list of one only one makes it
pub flat-one : {X Y : Type 0} (f : X → List Y) (xs : List X) (x : X) (y : Y) → flat_map f xs ≡ y ∷ [] → Contains xs x → f x ≢ [] → f x ≡ y ∷ []
flat-one f [] x y e has some = absurd (let below = has.1 in omega (arith, below))
flat-one f (z ∷ xs) x y e has some = one-of f z xs x y (f z) refl e has some (λ rest more. flat-one f xs x y rest more some)

pub not-empty : {X : Type 0} (xs : List X) (x : X) → Contains xs x → xs ≢ []
not-empty xs x has none = let below = has.1 in let size = ap length none in absurd (omega (arith, below, size))

pub mapped-has : {X Y : Type 0} (f : X → Y) (xs : List X) (x : X) → Contains xs x → Contains (map f xs) (f x)
mapped-has f [] x has = absurd (let below = has.1 in omega (arith, below))
mapped-has f (y ∷ xs) x (zero, below, same) = (0, omega arith, ap f same)
mapped-has f (y ∷ xs) x (suc k, below, same) = let rest = mapped-has f xs x (k, omega (arith, below), same) in (suc rest.0, let lt = rest.1 in omega (arith, lt), rest.2)

-- ---- the last turn of a past

pub record LastTurn (config : Config) (group : GroupPart) (past : List GroupDeed) : Type 0 where
  pub turn : GroupTurn
  pub before : List GroupDeed
  pub past_is : past ≡ HadGroupTurn turn ∷ before
  pub of : IsTurn config group before turn

-- the bytes of its frame are those of the frame's place
abbrev SpellsLast : (config : Config) (group : GroupPart) (writer : ℕ) (past : List GroupDeed) → AreTurns config group past → LastTurn config group past → Type 0
SpellsLast config group writer past are last =
    (frame : PlacedFrame) → answer_by group last.before last.of.input writer ≡ Some frame → is_silent frame ≡ false
    → spelled_at config group writer past are (place_of frame) ≡ (spelled_by group last.of.input.told.metas writer frame).bytes

pub last-turn : (config : Config) (group : GroupPart) (writer : ℕ) (past : List GroupDeed) (are : AreTurns config group past) (turn : GroupTurn) (before : List GroupDeed) → past ≡ HadGroupTurn turn ∷ before
    → (last : LastTurn config group past) × SpellsLast config group writer past are last
last-turn config group writer [] are turn before e = absurd (cc)
last-turn config group writer (RefreshedWriter other ∷ past) are turn before e = absurd (cc)
last-turn config group writer (HadGroupTurn own ∷ past) are turn before e =
    (record { turn = own; before = past; past_is = refl; of = are.0 }, λ frame is loud. spelled-now config group writer own past are frame is loud)

pub same-turn : (one other : GroupTurn) (before past : List GroupDeed) → HadGroupTurn one ∷ before ≡ HadGroupTurn other ∷ past → (one ≡ other) × (before ≡ past)
same-turn one other before past e = (cc, cc)

-- ---- what a datagram of it has

module _ (laws : TurnLaws) (p : Play) (is : IsPlay 16385 p)
    (own : WriterTurn) (closing : own.closing ≡ true) (le : 16385 ≤ 65536) where
  abbrev group : GroupPart
  group = p.group

  abbrev writer : ℕ
  writer = p.writer

  abbrev its_turns : AreTurns p.config group (its_past p)
  its_turns = turns laws 16385 p le is

  module _ (last : LastTurn p.config group (its_past p)) (took : took_by writer last.turn ≡ Some own) where
    abbrev pub input : TurnInput
    input = last.of.input

    abbrev pub s : Settings
    s = settings_at group writer

    abbrev pub earlier : List Answered
    earlier = cadence s (writer_past writer last.before)

    abbrev pub place : ℕ
    place = next_place s earlier

    abbrev pub closing_frame : PlacedFrame
    closing_frame = Whole place own.row

    abbrev pub first : ℕ
    first = (writer_at group writer).first_number

    abbrev pub bytes : ℕ → List ℕ
    bytes = its_bytes laws 16385 p le is

    turn-is : turn_by group input writer ≡ Some own
    turn-is = sym (ap (took_by writer) last.of.is) ∙ took

    pub answer-is : answer_by group last.before input writer ≡ Some closing_frame
    answer-is = ap (answer_to group last.before writer) turn-is ∙ closing-answer s (is_fresh (writer_past writer last.before)) earlier own closing

    answered-is : its_answers p ≡ record { turn = own; answer = Some closing_frame } ∷ earlier
    answered-is =
        ap (λ (past : List GroupDeed). cadence s (writer_past writer past)) last.past_is
        ∙ ap (λ (o : Option WriterTurn). cadence s (cons_option (option_map HadTurn o) (writer_past writer last.before))) took
        ∙ ap (λ (o : Option PlacedFrame). record { turn = own; answer = o } ∷ earlier) (closing-answer s (is_fresh (writer_past writer last.before)) earlier own closing)

    pub is-answer : IsAnswer (its_answers p) closing_frame
    is-answer = subst (λ (a : List Answered). IsAnswer a closing_frame) (sym answered-is) (inl refl)

    pub next-is : next_place s (its_answers p) ≡ place + 1
    next-is =
        let now : Answered = record { turn = own; answer = Some closing_frame } in
        let count = count-append is_data (now ∷ []) earlier in
        let one : count_by is_data (now ∷ []) ≡ 1 = refl in
        ap (next_place s) answered-is ∙ omega (arith, count, one)

    span : (frame : PlacedFrame) → IsAnswer (its_answers p) frame → (first ≤ place_of frame) × (place_of frame < next_place s (its_answers p))
    span frame answer = place-span s.first_number (next_place s (its_answers p)) frame (answers-span s (writer_past writer (its_past p)) frame answer)

    pub is-last : (frame : PlacedFrame) → IsAnswer (its_answers p) frame → is_silent frame ≡ false → place_of frame ≤ place
    is-last frame answer loud = let lt = (span frame answer).1 in let next = next-is in omega (arith, lt, next)

    pub back : place_from first (number_of_place place) ≡ place
    back = let at = span closing_frame is-answer in let low = at.0 in let high = at.1 in let few = is.few in place_from-number first place (omega (arith, low)) (omega (arith, high, few))

    -- ---- as it is read

    abbrev pub frame : Frame
    frame = frame_read group input writer (its_way p).seat closing_frame

    pub meta-is : its_meta p ≡ meta_at group p.config.dataset writer
    meta-is = laws.meta p.config p.readers p.reader group writer is.matched

    abbrev pub frame-of-answer : IsOfAnswer (its_meta p) (its_answers p) frame
    frame-of-answer = record {
      placed = closing_frame;
      answer = is-answer;
      own = own-major (writer_at group writer).versions (its_meta p).major (meta_at group input.told.metas writer).major (ap (λ (m : MetaData). m.major) meta-is ∙ last.of.majors writer is.matched.reads.within);
      number = refl;
      content = refl;
    }

    abbrev pub Numbered : Type 0
    Numbered = (its_way p).seat.part.numbering ≡ words.Message

    pub gives : Numbered → frame_of (its_way p) (place_from first) frame ≡ Some (placed_cut (its_meta p) closing_frame)
    gives numbered = frame-gives (its_way p) (its_answers p) first (next_place s (its_answers p)) frame numbered (source laws 16385 p le is) frame-of-answer

    -- to a reader with no numbering it comes without its place
    pub gives-bare : (its_way p).seat.part.numbering ≡ words.None → frame_of (its_way p) (place_from first) frame ≡ Some (Whole 0 (row_cut (its_meta p) own.row))
    gives-bare bare = frame-bare (its_way p) (its_answers p) first frame bare frame-of-answer

    abbrev pub message : List ℕ
    message = (spelled_by group input.told.metas writer closing_frame).bytes

    -- ---- its datagrams are opened

    pub reads : ReadsWriter group writer (its_way p).seat.part
    reads = laws.reads p.config p.readers p.reader group writer is.matched

    pub metas : ReadsFrames group input.told.metas writer (its_meta p)
    metas = subst (ReadsFrames group input.told.metas writer) (sym meta-is) (last.of.metas writer is.matched.reads.within)

    abbrev pub opened_all : List Opened
    opened_all = turn_opened p.config group last.before input

    -- ---- the parts for the reader

    abbrev its_pieces : List Piece
    its_pieces = flat_map (λ (o : Opened). pieces (its_way p).seat.part o.payload) opened_all

    sampled : IsSampled group last.before input writer
    sampled = last.of.sampled writer is.matched.reads.within

    abbrev fits : Bool
    fits = nat_le (size_of (spelled_by group input.told.metas writer closing_frame)) (frame_room p.config.publisher.id group)

    abbrev pieces_by : Bool → List Piece
    pieces_by b = if b then Message message ∷ [] else map (λ chunk. Chunked (chunk_bytes chunk)) (cuts (chunk_room p.config.publisher.id group) (carried closing_frame) message)

    same-dynamic : group.layout ≡ layouts.Dynamic → its_pieces ≡ pieces_by fits
    same-dynamic layout =
        dynamic-turn p.config group last.before input writer (its_way p).seat layouts.Dynamic refl layout last.of.may reads
        ∙ dynamic.turn-is p.config group last.before input writer (its_way p).seat layout last.of.may reads metas sampled (Some closing_frame) answer-is

    read-dynamic : group.layout ≡ layouts.Dynamic → frame_at (its_meta p) message ≡ Ok frame
    read-dynamic layout = dynamic.read-is p.config group last.before input writer (its_way p).seat layout last.of.may reads metas sampled closing_frame answer-is

    cut-dynamic : group.layout ≡ layouts.Dynamic → fits ≡ false → IsMessage (its_way p).seat (chunk_room p.config.publisher.id group) (carried closing_frame) message frame
    cut-dynamic layout e = dynamic.message-is p.config group last.before input writer (its_way p).seat layout last.of.may reads metas sampled closing_frame answer-is e

    abbrev slot_bytes : List ℕ
    slot_bytes = filled (writer_slot p.config (writer_at group writer)) message

    same-fixed : group.layout ≡ layouts.Fixed → its_pieces ≡ Slotted slot_bytes ∷ []
    same-fixed layout =
        let is_fixed_turn = last.of.fixed layout in
        fixed-turn p.config group last.before input writer (its_way p).seat layout last.of.may is_fixed_turn reads
        ∙ fixed.turn-is p.config group last.before input writer (its_way p).seat layout last.of.may is_fixed_turn reads meta-is (Some closing_frame) answer-is

    read-fixed : group.layout ≡ layouts.Fixed → slot_frame_at (its_meta p) slot_bytes ≡ Ok frame
    read-fixed layout = fixed.slot-is p.config group last.before input writer (its_way p).seat layout last.of.may (last.of.fixed layout) reads meta-is own place answer-is

    -- ---- where none of them is a chunk

    -- one part, which is read as the frame
    pub record OnePart : Type 0 where
      pub piece : Piece
      pub same : its_pieces ≡ piece ∷ []
      pub reads_as : (now : ℕ) (o : Option ℕ) (list : List Mark) → piece_on (its_way p) (place_from first) now o list piece ≡ item_on (its_way p) now o list (frame_of (its_way p) (place_from first) frame)

    abbrev AllUncut : Type 0
    AllUncut = (o : Opened) (piece : Piece) → Contains opened_all o → Contains (pieces (its_way p).seat.part o.payload) piece → IsUncut piece

    read-ok : (now : ℕ) (o : Option ℕ) (list : List Mark) (answer : Result Frame FrameFault) → answer ≡ Ok frame
        → read_on (its_way p) (place_from first) now o list answer ≡ item_on (its_way p) now o list (frame_of (its_way p) (place_from first) frame)
    read-ok now o list answer e = ap (λ (a : Result Frame FrameFault). read_on (its_way p) (place_from first) now o list a) e

    no-chunks : (room : ℕ) → IsMessage (its_way p).seat room (carried closing_frame) message frame → (list : List Chunk) → cuts room (carried closing_frame) message ≡ list → its_pieces ≡ map (λ chunk. Chunked (chunk_bytes chunk)) list → AllUncut → ⊥
    no-chunks room cut_up [] e same uncut =
        let covers : cover [] (carried closing_frame) (length message) ≡ true =
        cuts-cover room (carried closing_frame) message [] cut_up.has_room (λ k d below. absurd (let size = ap length e in omega (arith, below, size))) in
        let none = cover_none (carried closing_frame) (length message) cut_up.some in
        absurd (let wrong : false ≡ true = sym none ∙ covers in cc)
    no-chunks room cut_up (chunk ∷ rest) e same uncut =
        let piece = Chunked (chunk_bytes chunk) in
        let found = in-flat (λ (o : Opened). pieces (its_way p).seat.part o.payload) opened_all piece (subst (λ (l : List Piece). Contains l piece) (sym same) (0, omega arith, refl)) in
        uncut found.0 piece found.1 found.2

    -- several parts, its chunks
    pub record InChunks : Type 0 where
      pub room : ℕ
      pub cut_up : IsMessage (its_way p).seat room (carried closing_frame) message frame
      pub same : its_pieces ≡ map (λ chunk. Chunked (chunk_bytes chunk)) (cuts room (carried closing_frame) message)

    case-dynamic : group.layout ≡ layouts.Dynamic → (b : Bool) → fits ≡ b → OnePart ⊎ InChunks
    case-dynamic layout true e = inl (record { piece = Message message; same = same-dynamic layout ∙ ap pieces_by e; reads_as = λ now o list. read-ok now o list (frame_at (its_meta p) message) (read-dynamic layout) })
    case-dynamic layout false e = inr (record { room = chunk_room p.config.publisher.id group; cut_up = cut-dynamic layout e; same = same-dynamic layout ∙ ap pieces_by e })

    pub part-case : (layout : Layout) → group.layout ≡ layout → OnePart ⊎ InChunks
    part-case layouts.Dynamic e = case-dynamic e fits refl
    part-case layouts.Fixed e = inl (record { piece = Slotted slot_bytes; same = same-fixed e; reads_as = λ now o list. read-ok now o list (slot_frame_at (its_meta p) slot_bytes) (read-fixed e) })

    one-of-case : AllUncut → OnePart ⊎ InChunks → OnePart
    one-of-case uncut (inl part) = part
    one-of-case uncut (inr chunks) = absurd (no-chunks chunks.room chunks.cut_up (cuts chunks.room (carried closing_frame) message) refl chunks.same uncut)

    pub one-part : AllUncut → (layout : Layout) → group.layout ≡ layout → OnePart
    one-part uncut layout e = one-of-case uncut (part-case layout e)

    module _ (unsecured : is_secured (its_setting p).setup.mode ≡ false) where
      pub opens-all : (opened : Opened) → Contains opened_all opened → (datagram : List ℕ) × Contains last.turn.made datagram × ((accepted : Accepted) → verdict (its_setting p).group (its_setting p).setup accepted datagram ≡ Ok opened)
      opens-all opened has =
          let sent = turn_datagrams p.config group last.before input in
          let k = has.0 in
          let below : k < length sent = subst (λ (n : ℕ). k < n) (laws.many p.config group last.before input) has.1 in
          let datagram = get_or sent k [] in
          let at : slice_get sent k ≡ Some datagram = slice_get-get_or sent k [] below in
          let opened_at : slice_get opened_all k ≡ Some opened = slice_get-get_or opened_all k opened has.1 ∙ ap (λ (o : Opened). Some o) has.2 in
          let test : (accepted : Accepted) → is_accepted (its_setting p).setup accepted opened.pass ≡ true =
          λ accepted. ap (λ (b : Bool). not b || is_acceptable (its_setting p).setup.keys accepted opened.pass.token opened.pass.number) unsecured in (
            datagram,
            subst (λ (t : GroupTurn). Contains t.made datagram) (sym last.of.is) (k, below, get_or-any sent k datagram below),
            λ accepted. (laws.taken p.config group p.readers last.before input accepted k datagram opened last.of.may is.matched.groups at opened_at).taken (test accepted),
          )
        where
          get_or-any : (xs : List (List ℕ)) (k : ℕ) (d : List ℕ) → k < length xs → get_or xs k d ≡ get_or xs k []
          get_or-any xs k d below = Rattle.std.proofs.lemmas.List.get_or_default xs k d [] below

    module _ (numbered : Numbered) (unsecured : is_secured (its_setting p).setup.mode ≡ false) (bytes-are : bytes place ≡ message) where
      -- the datagram of a part
      record Brings (piece : Piece) : Type 0 where
        datagram : List ℕ
        opened : Opened
        made : Contains last.turn.made datagram
        opens : (accepted : Accepted) → verdict (its_setting p).group (its_setting p).setup accepted datagram ≡ Ok opened
        has : Contains (pieces (its_way p).seat.part opened.payload) piece

      brings-of : (list : List Piece) (piece : Piece) → flat_map (λ (o : Opened). pieces (its_way p).seat.part o.payload) opened_all ≡ list → Contains list piece → Brings piece
      brings-of list piece same has =
          let found = in-flat (λ (o : Opened). pieces (its_way p).seat.part o.payload) opened_all piece (subst (λ (l : List Piece). Contains l piece) (sym same) has) in
          let one = opens-all unsecured found.0 found.1 in
          record { datagram = one.0; opened = found.0; made = one.1; opens = one.2; has = found.2 }

      -- ---- where its datagrams came

      module _ (pumps : List (List Entry)) (rest : List Step) (r : ℕ) (came : (datagram : List ℕ) → Contains last.turn.made datagram → HasPartFor (its_setting p) p.reader datagram → CameIn pumps datagram)
          (brought : (datagram : List ℕ) (K : List Event → Type 0) → Brought (its_setting p) p.config p.pasts p.reader datagram K → CameIn pumps datagram → K p.events) where
        came-of : (piece : Piece) (b : Brings piece) → CameIn pumps b.datagram
        came-of piece b =
            came b.datagram b.made (record { opened = b.opened; opens = b.opens []; part = not-empty (pieces (its_way p).seat.part b.opened.payload) piece b.has })

        -- whole
        stands-whole : (list : List Piece) (piece : Piece) → flat_map (λ (o : Opened). pieces (its_way p).seat.part o.payload) opened_all ≡ list → Contains list piece
            → ((now : ℕ) (list : List Mark) → Stands place (piece_on (its_way p) (place_from first) now None list piece)) → Stands place (its_marks p)
        stands-whole list piece same has piece_reads =
            let b = brings-of list piece same has in
            brought b.datagram (λ befell. Stands place (marks (its_setting p) (its_way p) befell))
            (record {
              brings = λ now on before enabled came.
                  brings-frame laws 16385 p le is unsecured place is-last frame (placed_cut (its_meta p) closing_frame) (gives numbered) refl piece piece_reads now on b.datagram before b.opened enabled
                  (b.opens (Rattle.reader_group.specs.Arrivals.accepted (its_setting p) before)) b.has;
              keeps = λ now on other before h. stands-got laws 16385 p le is unsecured place now on other before h;
            }) (came-of piece b)

        -- a part that is read as the frame
        reads-now : (now : ℕ) (list : List Mark) (answer : Result Frame FrameFault) → answer ≡ Ok frame → Stands place (read_on (its_way p) (place_from first) now None list answer)
        reads-now now list answer e =
            subst (λ (r : Result Frame FrameFault). Stands place (read_on (its_way p) (place_from first) now None list r)) (sym e)
            (reads-frame (its_way p).seat.part.numbering (its_way p) (its_answers p) bytes first (next_place s (its_answers p)) place (source laws 16385 p le is) is-last frame
            (placed_cut (its_meta p) closing_frame) (gives numbered) refl now None list)

        -- in chunks
        module _ (room : ℕ) (cut_up : IsMessage (its_way p).seat room (carried closing_frame) message frame)
            (same : flat_map (λ (o : Opened). pieces (its_way p).seat.part o.payload) opened_all ≡ map (λ chunk. Chunked (chunk_bytes chunk)) (cuts room (carried closing_frame) message)) where
          read_is : frame_at (its_meta p) (bytes place) ≡ Ok frame
          read_is = ap (frame_at (its_meta p)) bytes-are ∙ cut_up.read

          -- one of the chunks, as it is laid
          laid-of : (chunk : Chunk) → Contains (cuts room (carried closing_frame) message) chunk → IsLaidOf (its_meta p) (its_answers p) bytes (placed (place_from first) chunk)
          laid-of chunk has =
              chunk-laid (its_way p) (its_answers p) bytes first (next_place s (its_answers p)) chunk (source laws 16385 p le is) (record {
                placed = closing_frame;
                answer = is-answer;
                loud = refl;
                number = (cut-of room (carried closing_frame) message chunk has).0;
                cut = subst (λ (b : List ℕ). IsCutOf b chunk) (sym bytes-are) (cut-of room (carried closing_frame) message chunk has).1;
                read = subst (λ (r : Result Frame FrameFault). OfRead (IsOfAnswer (its_meta p) (its_answers p)) r) (sym read_is) frame-of-answer;
              })

          counts : (chunk : Chunk) → Contains (cuts room (carried closing_frame) message) chunk → (list : List Mark) → AreSent (its_way p).seat.part.numbering (its_meta p) (its_answers p) bytes list
              → Rattle.chunker.specs.Chunks.is_proper (chunks_in list) (placed (place_from first) chunk) ≡ true
          counts chunk has list are =
              let size = cut-size room (carried closing_frame) message chunk cut_up.has_room cut_up.some has in
              let of_number = (cut-of room (carried closing_frame) message chunk has).0 in
              let short : length (bytes place) ≤ longest_message = let long = ap length bytes-are in let most = cut_up.short in omega (arith, long, most) in
              proper (its_way p).seat.part.numbering (its_way p) (its_answers p) bytes first (next_place s (its_answers p)) place (source laws 16385 p le is) is-last
              list (placed (place_from first) chunk) are (laid-of chunk has) (ap (place_from first) of_number ∙ back) size.some size.within short

          lies : (chunk : Chunk) → Contains (cuts room (carried closing_frame) message) chunk → Lies (placed (place_from first) chunk) (its_marks p)
          lies chunk has =
              let piece = Chunked (chunk_bytes chunk) in
              let b = brings-of (map (λ chunk. Chunked (chunk_bytes chunk)) (cuts room (carried closing_frame) message)) piece same (mapped-has (λ chunk. Chunked (chunk_bytes chunk)) (cuts room (carried closing_frame) message) chunk has) in
              brought b.datagram (λ befell. Lies (placed (place_from first) chunk) (marks (its_setting p) (its_way p) befell))
              (record {
                brings = λ now on before enabled came.
                    brings-chunk laws 16385 p le is unsecured place is-last frame (placed_cut (its_meta p) closing_frame) (gives numbered) refl (chunk_bytes chunk) chunk
                    (chunk-read (its_way p).seat room (carried closing_frame) message frame cut_up chunk has) (counts chunk has) now on b.datagram before b.opened enabled
                    (b.opens (Rattle.reader_group.specs.Arrivals.accepted (its_setting p) before)) came b.has;
                keeps = λ now on other before h. lies-got laws 16385 p le is unsecured (placed (place_from first) chunk) now on other before h;
              }) (came-of piece b)

          -- the cut at the place
          same-cut : (k : ℕ) → placed (place_from first) (cut_at room (carried closing_frame) message k) ≡ cut_at room place message k
          same-cut k = ap (λ (n : ℕ). record (cut_at room place message k) { place = n }) back

          each-lies : (chunk : Chunk) → Contains (cuts room place message) chunk → Contains (chunks_in (its_marks p)) chunk
          each-lies chunk has =
              let of = cut-at room place message chunk has in
              has-contains chunk (chunks_in (its_marks p))
              (subst (λ (c : Chunk). Lies c (its_marks p)) (same-cut of.k ∙ of.is) (lies (cut_at room (carried closing_frame) message of.k) (cut-contains room (carried closing_frame) message of.k of.within)))

          stands-joined : Rattle.reader_group.specs.Agreeing.AreRestarts p.events → Stands place (its_marks p)
          stands-joined restarts =
              let covers : cover (chunks_in (its_marks p)) place (length message) ≡ true =
              cuts-cover room place message (chunks_in (its_marks p)) cut_up.has_room (λ k d below. each-lies (get_or (cuts room place message) k d) (k, below, Rattle.std.proofs.lemmas.List.get_or_default (cuts room place message) k (get_or (cuts room place message) k d) d below)) in
              let some : 0 < length (bytes place) = let long = ap length bytes-are in let least = cut_up.some in omega (arith, long, least) in
              covered-events laws 16385 p le is unsecured place is-last frame (placed_cut (its_meta p) closing_frame) (gives numbered) refl read_is p.events some restarts is.came
              (ap (λ (b : List ℕ). cover (chunks_in (its_marks p)) place (length b)) bytes-are ∙ covers)

        -- ---- in either layout

        stands-by : (b : Bool) → fits ≡ b → group.layout ≡ layouts.Dynamic → Stands place (its_marks p)
        stands-by true e layout =
            stands-whole (Message message ∷ []) (Message message) (same-dynamic layout ∙ ap pieces_by e) (0, omega arith, refl) (λ now list. reads-now now list (frame_at (its_meta p) message) (read-dynamic layout))
        stands-by false e layout = stands-joined (chunk_room p.config.publisher.id group) (cut-dynamic layout e) (same-dynamic layout ∙ ap pieces_by e) is.restarts

        stands-dynamic : group.layout ≡ layouts.Dynamic → Stands place (its_marks p)
        stands-dynamic layout = stands-by fits refl layout

        stands-fixed : group.layout ≡ layouts.Fixed → Stands place (its_marks p)
        stands-fixed layout =
            stands-whole (Slotted slot_bytes ∷ []) (Slotted slot_bytes) (same-fixed layout) (0, omega arith, refl) (λ now list. reads-now now list (slot_frame_at (its_meta p) slot_bytes) (read-fixed layout))

        stands-closing : (layout : Layout) → group.layout ≡ layout → Stands place (its_marks p)
        stands-closing layouts.Dynamic e = stands-dynamic e
        stands-closing layouts.Fixed e = stands-fixed e

-- ---- in a session

pub item-of : (place : ℕ) (items : List Item) → HasItem place items → (item : Item) × Contains items item × (place_in item ≡ place)
item-of place [] none = absurd none
item-of place (item ∷ items) (inl here) = (item, (0, omega arith, refl), here)
item-of place (item ∷ items) (inr more) = let rest = item-of place items more in let at = rest.1 in (rest.0, (suc at.0, let lt = at.1 in omega (arith, lt), at.2), rest.2)

pub closing-came : (laws : Laws) (p : Plan) (r i g w : ℕ) (steps : List Step) (before : List GroupDeed) (turn : GroupTurn) (own : WriterTurn) → InSession p r i g w steps → ClosingGot p r i g w steps before turn own
    → ClosingCame p r i g w steps (writer_past w before) own
closing-came laws p r i g w steps before turn own is c =
    let play = play_of p r i g w steps in
    let is_play = is-play laws p r i g w steps is in
    let le : 16385 ≤ 65536 = omega arith in
    let past = pasts_at p steps g in
    let had = last-turn p.config (group_at p.config g) w past (turns laws.turns 16385 play le is_play) turn before c.last in
    let last = had.0 in
    let same = same-turn last.turn turn last.before before (sym last.past_is ∙ c.last) in
    let took : took_by w last.turn ≡ Some own = ap (took_by w) same.0 ∙ c.ends.took in
    let brought : (datagram : List ℕ) (K : List Event → Type 0) → Brought (setting_of p.config r) p.config (pasts_at p steps) i datagram K → CameIn c.ends.pumps datagram → K (events p.config r steps) =
    λ datagram K b has.
    subst (λ (l : List Step). K (events p.config r l)) (sym c.ends.split)
    (brought-by-pumps (setting_of p.config r) p.config (pasts_at p steps) i datagram K b r c.ends.pumps c.start has c.ends.operational is.matched.within c.ends.enabled
    (subst (λ (l : List Step). CameAsMade (setting_of p.config r) p.config (pasts_at p steps) (events p.config r l)) c.ends.split is_play.came)) in
    let bytes = had.1 (Whole (next_place (settings_at (group_at p.config g) w) (cadence (settings_at (group_at p.config g) w) (writer_past w last.before))) own.row)
    (answer-is laws.turns play is_play own c.ends.closing le last took) refl in
    let stands = stands-closing laws.turns play is_play own c.ends.closing le last took c.numbered c.unsecured bytes c.ends.pumps c.start r
    (λ datagram made. c.came datagram (subst (λ (t : GroupTurn). Contains t.made datagram) same.0 made)) brought (group_at p.config g).layout refl in
    let s = settings_at (group_at p.config g) w in
    let found = item-of (next_place s (cadence s (writer_past w last.before))) (since_cut (arrivals_at p.config r i (first_number_of p.config g w) steps)) stands in
    record {
      numbered = c.numbered;
      last = ap (writer_past w) c.last ∙ ap (λ (o : Option WriterTurn). cons_option (option_map HadTurn o) (writer_past w before)) c.ends.took;
      closing = c.ends.closing;
      came = record {
        item = found.0;
        came = found.1;
        stands = found.2 ∙ ap (λ (past : List GroupDeed). next_place s (cadence s (writer_past w past))) same.1;
      };
    }

-- so it is held
abbrev pub HeldLaw : Type 0
HeldLaw =
    (p : Plan) (r i g w : ℕ) (steps : List Step) (rows : ℕ → ℕ → List DataValue) (before : List WriterDeed) (turn : WriterTurn) → InSession p r i g w steps → AreVersions p steps rows
    → ClosingCame p r i g w steps before turn → HoldsClosing p r i g w steps rows turn.version

pub got-held : Laws → HeldLaw → (p : Plan) (r i g w : ℕ) (steps : List Step) (rows : ℕ → ℕ → List DataValue) (before : List GroupDeed) (turn : GroupTurn) (own : WriterTurn) → InSession p r i g w steps → AreVersions p steps rows
    → ClosingGot p r i g w steps before turn own → HoldsClosing p r i g w steps rows own.version
got-held laws held p r i g w steps rows before turn own is versions c = held p r i g w steps rows (writer_past w before) own is versions (closing-came laws p r i g w steps before turn own is c)
