-- A turn that closes, of a reader whose read group took its datagrams in the pumps behind it: the chunks of its frame cover it once each datagram with a part for the reader was taken, and not before; where the frame is one part, one datagram has it. And of a reader with no numbering, the turn's frame is the last key frame that came to it.
use Rattle.std.proofs.Common.{◌≡◌, ◌≢◌, refl, sym, ap, ◌∙◌, subst, arith, ℕ, zero, suc, ◌+◌, ◌*◌, ◌<◌, ◌≤◌, ◌⊎◌, inl, inr, Bool, true, false, List, [], ◌∷◌, ◌++◌, map, length, Option, Some, All, Contains, Result, Ok, Err, append_assoc}
use Rattle.std.specs.Prelude.{◌==◌, ◌&&◌, ◌||◌, nat_le, nat_lt, flat_map, fold, get_or, slice_get, slice_index_or, if◌then◌else◌, option_map}
use Rattle.std.specs.List.{list_any, cons_option}
use Rattle.std.proofs.Math.Nat.{mul-le-mul_right}
use Rattle.std.proofs.lemmas.Bool.Decides.{nat_tests}
use Rattle.std.proofs.lemmas.List.Elements.{All-contains_itself, All-head, All-nil, All-tail, All-weaker}
use Rattle.std.proofs.lemmas.List.FromFn.{get_or-map-range_with_len, length-map-range_with_len}
use Rattle.seq_number.specs.Numbers.{number_of_place, place_from}
use Rattle.ua_base.specs.Journal as entries_of
use Rattle.ua_base.specs.Journal.{Entry}
use Rattle.pubsub_model.specs.declared.reading.Why.TheVariants.{NewToken}
use Rattle.pubsub_model.specs.Cadence.{WriterTurn, HadTurn, next_place}
use Rattle.frame_codec.specs.Reading.{frame_at}
use Rattle.chunker.specs.Chunks.{Chunk, cover, cut_at, is_at, message_of}
use Rattle.chunker.specs.Spelling.{chunk_bytes}
use Rattle.chunker.specs.declared.payload.ChunkFault.{ChunkFault}
use Rattle.chunker.proofs.CutLaws.{cut-room, cut-size, cut_count}
use Rattle.chunker.proofs.RangeLaws.{all_below}
use Rattle.ps_config.specs.declared.parts.Config.{Config}
use Rattle.ps_config.specs.declared.parts.GroupPart.{GroupPart}
use Rattle.reader_group.specs.declared.refusal.Refusal.{Refusal}
use Rattle.reader_group.specs.Arrivals.{Mark, Way, accepted, chunks_in, cut_on, marks, piece_on, placed, taken_in, Laid, arrivals, arrivals_in, is_numbered, item_of, item_on}
use Rattle.reader_group.specs.Opening.{Opened, verdict}
use Rattle.reader_group.specs.Payloads.{Piece, Chunked, pieces}
use Rattle.reader_group.specs.Plain.{Event, Got, Setting, is_raised, stamp_by}
use Rattle.reader_group.specs.Settings.{group_at as read_group_at, setting_of}
use Rattle.reader_group.proofs.KeptParts.{IsPieceOf, Keep, OfRead, keep-parts, weaker-piece}
use Rattle.writer_group.specs.Parts.{group_at}
use Rattle.writer_group.specs.Turns.{HadGroupTurn, took_by, turn_datagrams, writer_past}
use Rattle.session_model.specs.Events.{events, readers_on, receives}
use Rattle.session_model.specs.Steps.{Plan, Step, Pump, moment_of, is_on}
use Rattle.session_laws.specs.Headline.{InSession, meta_of}
use Rattle.session_laws.specs.Pasts.{CameAsMade, WasMade, answered_by, settings_at}
use Rattle.session_laws.specs.Plays.{IsPlay, Play, its_way, its_answers}
use Rattle.session_laws.specs.Reading.{first_number_of, arrivals_at}
use Rattle.session_laws.specs.Sessions.{pasts_at}
use Rattle.session_laws.proofs.Versions.Answering.{spelled_at}
use Rattle.session_laws.proofs.Closing.BareGot.{TakenAt, BringsKey, StaysCalm, brings, came-last, comes-bare}
use Rattle.session_laws.proofs.Closing.ClosingGot as ClosingGot
use Rattle.session_laws.proofs.Closing.ClosingGot.{InChunks, LastTurn, OnePart, flat-one, gives-bare, in-flat, is-last, not-empty}
use Rattle.session_laws.proofs.Closing.ClosingParts.{OpensFirst, all, are-before, found-own, its_cuts, its_datagram, its_total, le, long-is, older-source, one-at, own-or-other, read-c, all-covered, found_c, has-part, has-part-c, lays, none-either, older-same, read-is, sent-list, some-bytes}
use Rattle.session_laws.proofs.Closing.Coming.{read-same, Lies, flip-chunk, lies-parts, none-covered}
use Rattle.session_laws.proofs.Closing.InPumps.{came-at, got_at, nil-behind, pumps-kept, so_far, ends-with, kept-from, pumped}
use Rattle.session_laws.proofs.HeldRows.Marks.{all-on, parts-sent, source}
use Rattle.session_laws.proofs.HeldRows.Pieces.{own-pieces}
use Rattle.session_laws.proofs.HeldRows.Published.{Laws, is-play, play_of}
use Rattle.session_laws.proofs.Closing.SignedChunks.{AnyFrame, any-read, not-there, IsNoChunk, chunk-case, same-parts}
use Rattle.session_laws.proofs.HeldRows.Sources.{IsChunkOf, IsOfAnswer, chunk-laid}
use Rattle.pubsub_model.specs.Frames.{PlacedFrame, Whole}
use Rattle.session_laws.specs.Bare.{CameLast, ClosingCameLast, IsBare, NoOtherBehind, NoOtherOnceAll}
use Rattle.dataset_meta.specs.DataValues.{DataValue}
use Rattle.dataset_meta.specs.Rows.{row_cut}
use Rattle.pubsub_states.specs.declared.component.Component.TheVariants.{Reader}
use Rattle.session_laws.specs.Newest.{HasPartFor}
use Rattle.chunker.proofs.ChunkLaws.{cover_none}
use Rattle.frame_codec.specs.Frames.{Frame}
use Rattle.session_laws.proofs.Closing.GotParts.{enabled-behind}

-- ---- elements of a list that is made of lists

apart : (a b : ℕ) → a ≢ b → (a < b) ⊎ (b < a)
apart zero zero differ = absurd (differ refl)
apart zero (suc b) differ = inl (omega arith)
apart (suc a) zero differ = inr (omega arith)
apart (suc a) (suc b) differ = on (apart a b (λ same. differ (ap suc same)))
  where
    on : (a < b) ⊎ (b < a) → (suc a < suc b) ⊎ (suc b < suc a)
    on (inl lt) = inl (omega (arith, lt))
    on (inr lt) = inr (omega (arith, lt))

same-or : (a b : ℕ) → (a ≡ b) ⊎ (a ≢ b)
same-or zero zero = inl refl
same-or zero (suc b) = inr (λ same. absurd (omega (arith, same)))
same-or (suc a) zero = inr (λ same. absurd (omega (arith, same)))
same-or (suc a) (suc b) = on (same-or a b)
  where
    on : (a ≡ b) ⊎ (a ≢ b) → (suc a ≡ suc b) ⊎ (suc a ≢ suc b)
    on (inl same) = inl (ap suc same)
    on (inr differ) = inr (λ same. differ (omega (arith, same)))

-- how many elements stand before those of the list at this index
abbrev count_before : {X Y : Type 0} → (X → List Y) → List X → ℕ → ℕ
count_before f [] n = 0
count_before f (x ∷ xs) zero = 0
count_before f (x ∷ xs) (suc n) = length (f x) + count_before f xs n

abbrev StandsAt : {Y : Type 0} → List Y → Y → ℕ → Type 0
StandsAt ys y n = (at : Contains ys y) × (at.0 ≡ n)

has-left : {Y : Type 0} (vs more : List Y) (y : Y) (has : Contains vs y) → StandsAt (vs ++ more) y has.0
has-left [] more y has = absurd (let below = has.1 in omega (arith, below))
has-left (v ∷ vs) more y (zero, below, same) = ((0, omega arith, same), refl)
has-left (v ∷ vs) more y (suc k, below, same) =
    let rest = has-left vs more y (k, omega (arith, below), same) in ((suc rest.0.0, let lt = rest.0.1 in omega (arith, lt), rest.0.2), ap suc rest.1)

has-right : {Y : Type 0} (vs more : List Y) (y : Y) (has : Contains more y) → StandsAt (vs ++ more) y (length vs + has.0)
has-right [] more y has = (has, omega arith)
has-right (v ∷ vs) more y has =
    let rest = has-right vs more y has in ((suc rest.0.0, let lt = rest.0.1 in omega (arith, lt), rest.0.2), let at = rest.1 in omega (arith, at))

flat-has : {X Y : Type 0} (f : X → List Y) (xs : List X) (x : X) (y : Y) (has : Contains xs x) (here : Contains (f x) y) → StandsAt (flat_map f xs) y (count_before f xs has.0 + here.0)
flat-has f [] x y has here = absurd (let below = has.1 in omega (arith, below))
flat-has {X} {Y} f (z ∷ xs) x y (zero, below, same) here =
    subst (λ (v : X). (h : Contains (f v) y) → StandsAt (flat_map f (z ∷ xs)) y (0 + h.0)) same (λ h. let at = has-left (f z) (flat_map f xs) y h in (at.0, let is = at.1 in omega (arith, is))) here
flat-has f (z ∷ xs) x y (suc k, below, same) here =
    let rest = flat-has f xs x y (k, omega (arith, below), same) here in
    let at = has-right (f z) (flat_map f xs) y rest.0 in (at.0, let is = at.1 in let was = rest.1 in omega (arith, is, was))

count-less : {X Y : Type 0} (f : X → List Y) (xs : List X) (x : X) (has : Contains xs x) (n : ℕ) → has.0 < n → count_before f xs has.0 + length (f x) ≤ count_before f xs n
count-less f [] x has n lt = absurd (let below = has.1 in omega (arith, below))
count-less f (z ∷ xs) x has zero lt = absurd (omega (arith, lt))
count-less {X} {Y} f (z ∷ xs) x (zero, below, same) (suc n) lt = let size : length (f z) ≡ length (f x) = ap (λ (v : X). length (f v)) same in omega (arith, size)
count-less f (z ∷ xs) x (suc k, below, same) (suc n) lt = let rest = count-less f xs x (k, omega (arith, below), same) n (omega (arith, lt)) in omega (arith, rest)

-- elements of two of the lists stand at two places
flat-apart : {X Y : Type 0} (f : X → List Y) (xs : List X) (x other : X) (y more : Y) (has : Contains xs x) (there : Contains xs other) (here : Contains (f x) y) (its : Contains (f other) more) → has.0 ≢ there.0
    → count_before f xs has.0 + here.0 ≢ count_before f xs there.0 + its.0
flat-apart f xs x other y more has there here its differ same = on (apart has.0 there.0 differ)
  where
    on : (has.0 < there.0) ⊎ (there.0 < has.0) → ⊥
    on (inl lt) = let most = count-less f xs x has there.0 lt in let below = here.1 in absurd (omega (arith, most, below, same))
    on (inr lt) = let most = count-less f xs other there has.0 lt in let below = its.1 in absurd (omega (arith, most, below, same))

first-of : {X : Type 0} (xs : List X) → xs ≢ [] → (x : X) × Contains xs x
first-of [] some = absurd (some refl)
first-of (x ∷ xs) some = (x, (0, omega arith, refl))

-- of a list of one only one makes it
flat-alone : {X Y : Type 0} (f : X → List Y) (xs : List X) (x other : X) (y : Y) → flat_map f xs ≡ y ∷ [] → (has : Contains xs x) (there : Contains xs other) → f x ≢ [] → f other ≢ [] → has.0 ≡ there.0
flat-alone f xs x other y one has there some more = on (same-or has.0 there.0)
  where
    on : (has.0 ≡ there.0) ⊎ (has.0 ≢ there.0) → has.0 ≡ there.0
    on (inl same) = same
    on (inr differ) =
        let here = first-of (f x) some in
        let its = first-of (f other) more in
        let at = flat-has f xs x here.0 has here.1 in
        let to = flat-has f xs other its.0 there its.1 in
        let size : length (flat_map f xs) ≡ 1 = ap length one in
        absurd (flat-apart f xs x other here.0 its.0 has there here.1 its.1 differ (let a = at.0.1 in let b = to.0.1 in let an = at.1 in let bn = to.1 in omega (arith, a, b, an, bn, size)))

mapped-back : {X Y : Type 0} (f : X → Y) (xs : List X) (y : Y) (has : Contains (map f xs) y) → (x : X) × StandsAt xs x has.0 × (f x ≡ y)
mapped-back f [] y has = absurd (let below = has.1 in omega (arith, below))
mapped-back f (x ∷ xs) y (zero, below, same) = (x, ((0, omega arith, refl), refl), same)
mapped-back f (x ∷ xs) y (suc k, below, same) =
    let rest = mapped-back f xs y (k, omega (arith, below), same) in (rest.0, ((suc rest.1.0.0, let lt = rest.1.0.1 in omega (arith, lt), rest.1.0.2), ap suc rest.1.1), rest.2)

-- ---- a byte of a message that no chunk has

middle-false : (a b c : Bool) → b ≡ false → (a && b && c) ≡ false
middle-false true true c e = absurd (cc)
middle-false true false c e = refl
middle-false false b c e = refl

last-false : (a b c : Bool) → c ≡ false → (a && b && c) ≡ false
last-false true true c e = e
last-false true false c e = refl
last-false false b c e = refl

-- a cut of the message has none of the first byte of another one
is-outside : (room place j k : ℕ) (one other : Chunk) → one.offset ≡ j * room → other.offset ≡ k * room → 0 < length one.bytes → length one.bytes ≤ room → length other.bytes ≤ room → j ≢ k → is_at place one.offset other ≡ false
is-outside room place j k one other at to some short size differ = on (apart j k differ)
  where
    on : (j < k) ⊎ (k < j) → is_at place one.offset other ≡ false
    on (inl lt) =
        let next : (j + 1) * room ≤ k * room = mul-le-mul_right room (omega (arith, lt)) in
        let spread : (j + 1) * room ≡ j * room + room = omega arith in
        let past : one.offset < other.offset = omega (arith, next, spread, at, to, some, short) in
        middle-false (other.place == place) (nat_le other.offset one.offset) (nat_lt one.offset (other.offset + length other.bytes)) (grind (arith, nat_tests, past))
    on (inr lt) =
        let next : (k + 1) * room ≤ j * room = mul-le-mul_right room (omega (arith, lt)) in
        let spread : (k + 1) * room ≡ k * room + room = omega arith in
        let past : other.offset + length other.bytes ≤ one.offset = omega (arith, next, spread, at, to, size) in
        last-false (other.place == place) (nat_le other.offset one.offset) (nat_lt one.offset (other.offset + length other.bytes)) (grind (arith, nat_tests, past))

not-at : (place off : ℕ) (c : Chunk) → c.place ≢ place → is_at place off c ≡ false
not-at place off c differ =
    let test : (c.place == place) ≡ false = grind (arith, nat_tests, differ) in ap (λ (b : Bool). b && nat_le c.offset off && nat_lt off (c.offset + length c.bytes)) test

module _ (way : Way) (first place off : ℕ) where
  -- none of the chunks has it
  abbrev Misses : List Mark → Type 0
  Misses list = list_any (is_at place off) (chunks_in list) ≡ false

  abbrev IsOutside : Chunk → Type 0
  IsOutside chunk = is_at place off (placed (place_from first) chunk) ≡ false

  misses-cut : (cuts : Bool) (list : List Mark) → Misses list → Misses (cut_on cuts NewToken list)
  misses-cut true list h = refl
  misses-cut false list h = h

  misses-kept : (now : ℕ) (s : Option ℕ) → Keep Misses AnyFrame IsOutside way (place_from first) now s
  misses-kept now s = record {
    item = λ before frame any h. ap (λ (l : List Chunk). list_any (is_at place off) l) (read-same way (place_from first) now s before (Ok frame)) ∙ h;
    chunk = λ before chunk is h. ap (λ (b : Bool). b || list_any (is_at place off) (chunks_in before)) is ∙ h;
    whole = λ before chunk is h e.
        any-read (frame_at way.seat.meta (message_of (placed (place_from first) chunk ∷ chunks_in before) (placed (place_from first) chunk).place (placed (place_from first) chunk).total));
  }

  misses-parts : (now : ℕ) (s : Option ℕ) (parts : List Piece) (before : List Mark) → All (IsPieceOf AnyFrame IsOutside way.seat.meta) parts → Misses before → Misses (fold (piece_on way (place_from first) now s) before parts)
  misses-parts now s parts before are h = keep-parts Misses AnyFrame IsOutside way (place_from first) now s (misses-kept now s) parts before are h

  none-misses : (chunks : List Chunk) → All (λ c. c.place ≢ place) chunks → list_any (is_at place off) chunks ≡ false
  none-misses [] others = refl
  none-misses (c ∷ chunks) others =
      ap (λ (b : Bool). b || list_any (is_at place off) chunks) (not-at place off c (All-head (λ (c : Chunk). c.place ≢ place) c chunks others))
      ∙ none-misses chunks (All-tail (λ (c : Chunk). c.place ≢ place) c chunks others)

-- ---- a session that ends with pumps, behind the last turn of a group, which closes

module _ (laws : Laws) (p : Plan) (r i g w : ℕ) (start : List Step) (pumps : List (List Entry)) (own : WriterTurn) (is : InSession p r i g w (map Pump pumps ++ start)) (closing : own.closing ≡ true)
    (last : LastTurn p.config (group_at p.config g) (pasts_at p (map Pump pumps ++ start) g)) (took : took_by w last.turn ≡ Some own) where
  abbrev config : Config
  config = p.config

  abbrev group : GroupPart
  group = group_at config g

  abbrev setting : Setting
  setting = setting_of config r

  abbrev steps : List Step
  steps = map Pump pumps ++ start

  abbrev play : Play
  play = play_of p r i g w steps

  abbrev is_play : IsPlay 16385 play
  is_play = is-play laws p r i g w steps is

  abbrev its_le : 16385 ≤ 65536
  its_le = le laws p r i g w start pumps own is closing last took

  abbrev way : Way
  way = its_way play

  abbrev first : ℕ
  first = first_number_of config g w

  abbrev its_all : List Opened
  its_all = all laws p r i g w start pumps own is closing last took

  abbrev datagram_of : (one : Opened) → Contains its_all one → List ℕ
  datagram_of one has = its_datagram laws p r i g w start pumps own is closing last took one has

  abbrev parts_of : Opened → List Piece
  parts_of o = pieces way.seat.part o.payload

  -- each datagram of the turn with a part for the reader was taken in these pumps
  abbrev pub HasAllTaken : List (List Entry) → Type 0
  HasAllTaken list = (one : Opened) (has : Contains its_all one) → parts_of one ≢ [] → TakenAt config r start (datagram_of one has) one list

  -- what is found at an index is one, and one datagram
  same-at : (one other : Opened) (has : Contains its_all one) (there : Contains its_all other) → has.0 ≡ there.0 → (datagram_of one has ≡ datagram_of other there) × (one ≡ other)
  same-at one other has there same = (
    ap (λ (n : ℕ). get_or (turn_datagrams config group last.before last.of.input) n []) same,
    let both : Path (Option Opened) (Some one) (Some other) =
        sym (one-at laws p r i g w start pumps own is closing last took one has) ∙ ap (λ (n : ℕ). slice_get its_all n) same ∙ one-at laws p r i g w start pumps own is closing last took other there in cc,
  )

  -- ---- where it is one part

  pub all-of-one : (part : OnePart laws.turns play is_play own closing its_le last took) (one : Opened) (has : Contains its_all one) → parts_of one ≢ [] → (list : List (List Entry)) → TakenAt config r start (datagram_of one has) one list → HasAllTaken list
  all-of-one part one has some list taken other there more =
      let same = same-at one other has there (flat-alone parts_of its_all one other part.piece part.same has there some more) in
      subst (λ (o : Opened). TakenAt config r start (datagram_of other there) o list) same.1 (subst (λ (d : List ℕ). TakenAt config r start d one list) same.0 taken)

  -- ---- where it is cut into chunks

  module _ (opens_first : OpensFirst laws p r i g w start pumps own is closing last took) (chunks : InChunks laws.turns play is_play own closing its_le last took) where
    abbrev place : ℕ
    place = ClosingGot.place laws.turns play is_play own closing its_le last took

    abbrev message : List ℕ
    message = ClosingGot.message laws.turns play is_play own closing its_le last took

    abbrev total : ℕ
    total = its_total laws p r i g w start pumps own is closing last took opens_first chunks

    abbrev the_cuts : List Chunk
    the_cuts = its_cuts laws p r i g w start pumps own is closing last took opens_first chunks

    -- a part is the cut with this index
    record IsCut (piece : Piece) (k : ℕ) : Type 0 where
      cut : Chunk
      there : Contains the_cuts cut
      is_piece : Path Piece (Chunked (chunk_bytes cut)) piece
      offset_is : cut.offset ≡ k * chunks.room

    cut-of-part : (one : Opened) (has : Contains its_all one) (piece : Piece) (here : Contains (parts_of one) piece) → IsCut piece (count_before parts_of its_all has.0 + here.0)
    cut-of-part one has piece here =
        let n = count_before parts_of its_all has.0 + here.0 in
        let at : StandsAt (map (λ chunk. Chunked (chunk_bytes chunk)) the_cuts) piece n = subst (λ (l : List Piece). StandsAt l piece n) chunks.same (flat-has parts_of its_all one piece has here) in
        let back = mapped-back (λ chunk. Chunked (chunk_bytes chunk)) the_cuts piece at.0 in
        let stands = back.1 in
        let count = cut_count chunks.room (length message) in
        let long = length-map-range_with_len (cut_at chunks.room (number_of_place place) message) 0 count in
        let below = stands.0.1 in
        let cut_is : cut_at chunks.room (number_of_place place) message stands.0.0 ≡ back.0 =
        sym (get_or-map-range_with_len (cut_at chunks.room (number_of_place place) message) 0 count stands.0.0 stands.0.0 back.0 (omega (arith, below, long)) (omega arith)) ∙ stands.0.2 in
        let index : stands.0.0 ≡ n = stands.1 ∙ at.1 in
        record {
          cut = back.0;
          there = stands.0;
          is_piece = back.2;
          offset_is = sym (ap (λ (c : Chunk). c.offset) cut_is) ∙ ap (λ (m : ℕ). m * chunks.room) index;
        }

    -- ---- a datagram with a part

    module _ (one : Opened) (has : Contains its_all one) (some : parts_of one ≢ []) where
      abbrev its_first : (piece : Piece) × Contains (parts_of one) piece
      its_first = first-of (parts_of one) some

      abbrev its_index : ℕ
      its_index = count_before parts_of its_all has.0 + its_first.1.0

      abbrev its_cut : IsCut its_first.0 its_index
      its_cut = cut-of-part one has its_first.0 its_first.1

      abbrev byte : ℕ
      byte = its_cut.cut.offset

      abbrev Without : List Mark → Type 0
      Without list = Misses way first place byte list

      byte-within : byte < total
      byte-within =
          let size = cut-size chunks.room (number_of_place place) message its_cut.cut chunks.cut_up.has_room chunks.cut_up.some its_cut.there in
          let long = long-is laws p r i g w start pumps own is closing last took opens_first chunks in
          let a = size.some in let b = size.within in let c = size.total_is in omega (arith, a, b, c, long)

      -- another datagram of the turn brings none of it
      other-part : (other : Opened) (there : Contains its_all other) → has.0 ≢ there.0 → (piece : Piece) → Contains (parts_of other) piece → IsPieceOf AnyFrame (IsOutside way first place byte) way.seat.meta piece
      other-part other there differ piece here =
          let to = cut-of-part other there piece here in
          let room = chunks.room in
          let least = chunks.cut_up.has_room in
          let its_size = cut-size room (number_of_place place) message its_cut.cut least chunks.cut_up.some its_cut.there in
          let its_room = cut-room room (number_of_place place) message its_cut.cut least chunks.cut_up.some its_cut.there in
          let to_room = cut-room room (number_of_place place) message to.cut least chunks.cut_up.some to.there in
          let outside = is-outside room place its_index (count_before parts_of its_all there.0 + here.0) its_cut.cut (placed (place_from first) to.cut) its_cut.offset_is to.offset_is its_size.some its_room.at_most to_room.at_most
          (flat-apart parts_of its_all one other its_first.0 piece has there its_first.1 here differ) in
          subst (IsPieceOf AnyFrame (IsOutside way first place byte) way.seat.meta) to.is_piece
          (subst (λ (answer : Result Chunk ChunkFault). OfRead (IsOutside way first place byte) answer) (sym (read-c laws p r i g w start pumps own is closing last took opens_first chunks to.cut to.there)) outside)

      -- nor an older one
      older-part : (pairs_of : List Event) (other : List ℕ) (opened : Opened) → verdict setting.group setting.setup (accepted setting pairs_of) other ≡ Ok opened → WasMade last.before other
          → All (IsPieceOf AnyFrame (IsOutside way first place byte) way.seat.meta) (parts_of opened)
      older-part befell other opened e was =
          let older = answered_by group w last.before in
          let are = are-before laws p r i g w start pumps own is closing last took opens_first chunks in
          let old_bytes = spelled_at config group w last.before are in
          let source = older-source laws p r i g w start pumps own is closing last took opens_first chunks in
          All-weaker (IsPieceOf (IsOfAnswer way.seat.meta older) (IsChunkOf way.seat.meta older old_bytes) way.seat.meta) (IsPieceOf AnyFrame (IsOutside way first place byte) way.seat.meta)
          (λ piece of.
          weaker-piece (IsOfAnswer way.seat.meta older) AnyFrame (IsChunkOf way.seat.meta older old_bytes) (IsOutside way first place byte) way.seat.meta (λ frame so. tt)
          (λ chunk so.
          not-at place byte (placed (place_from first) chunk)
          (not-there way older old_bytes first place total source (placed (place_from first) chunk) (chunk-laid way older old_bytes first place chunk source so))) piece of) (parts_of opened)
          (own-pieces laws.turns config group (read_group_at config r) i w is.matched last.before are (accepted setting befell) other opened was e)

      abbrev after : List Event → ℕ → Bool → Opened → List Mark
      after befell now enabled opened =
          fold (piece_on way (place_from first) now (stamp_by setting.setup.mode opened.pass.number)) (cut_on (is_raised setting (accepted setting befell) opened) NewToken (marks setting way befell)) (if enabled then parts_of opened else [])

      without-after : (befell : List Event) (now : ℕ) (enabled : Bool) (opened : Opened) → All (IsPieceOf AnyFrame (IsOutside way first place byte) way.seat.meta) (parts_of opened) → Without (marks setting way befell) → Without (after befell now enabled opened)
      without-after befell now enabled opened are h =
          let raised = is_raised setting (accepted setting befell) opened in
          misses-parts way first place byte now (stamp_by setting.setup.mode opened.pass.number) (if enabled then parts_of opened else []) (cut_on raised NewToken (marks setting way befell))
          (all-on (IsPieceOf AnyFrame (IsOutside way first place byte) way.seat.meta) enabled (parts_of opened) are) (misses-cut way first place byte raised (marks setting way befell) h)

      -- so it is the datagram, or the byte is missing still
      abbrev IsIt : List ℕ → Opened → Type 0
      IsIt other opened = (other ≡ datagram_of one has) × (opened ≡ one)

      of-own : (now : ℕ) (enabled : Bool) (other : List ℕ) (befell : List Event) (opened : Opened) → (there : Contains its_all opened) × (datagram_of opened there ≡ other) → Without (marks setting way befell)
          → Without (after befell now enabled opened) ⊎ IsIt other opened
      of-own now enabled other befell opened (there, d_is) h = on (same-or has.0 there.0)
        where
          on : (has.0 ≡ there.0) ⊎ (has.0 ≢ there.0) → Without (after befell now enabled opened) ⊎ IsIt other opened
          on (inl same) = let so = same-at one opened has there same in inr (sym d_is ∙ sym so.0, sym so.1)
          on (inr differ) =
              inl (without-after befell now enabled opened
              (All-weaker (Contains (parts_of opened)) (IsPieceOf AnyFrame (IsOutside way first place byte) way.seat.meta) (λ piece here. other-part opened there differ piece here) (parts_of opened) (All-contains_itself (parts_of opened))) h)

      of-taken : (now : ℕ) (on : List Bool) (other : List ℕ) (befell : List Event) (opened : Opened) → verdict setting.group setting.setup (accepted setting befell) other ≡ Ok opened
          → WasMade (HadGroupTurn last.turn ∷ last.before) other ⊎ (parts_of opened ≡ []) → Without (marks setting way befell) → Without (after befell now (slice_index_or on i false) opened) ⊎ IsIt other opened
      of-taken now on other befell opened e (inl (inl made)) h = of-own now (slice_index_or on i false) other befell opened (found-own laws p r i g w start pumps own is closing last took (accepted setting befell) other opened made e) h
      of-taken now on other befell opened e (inl (inr was)) h = inl (without-after befell now (slice_index_or on i false) opened (older-part befell other opened e was) h)
      of-taken now on other befell opened e (inr empty) h =
          inl (without-after befell now (slice_index_or on i false) opened (subst (All (IsPieceOf AnyFrame (IsOutside way first place byte) way.seat.meta)) (sym empty) (All-nil (IsPieceOf AnyFrame (IsOutside way first place byte) way.seat.meta))) h)

      of-answer : (now : ℕ) (on : List Bool) (other : List ℕ) (befell : List Event) (answer : Result Opened Refusal) → CameAsMade setting config (pasts_at p steps) (Got now on other ∷ befell) → verdict setting.group setting.setup (accepted setting befell) other ≡ answer
          → Without (marks setting way befell)
          → Without (taken_in setting way now (slice_index_or on i false) (accepted setting befell) (marks setting way befell) answer) ⊎ ((other ≡ datagram_of one has) × (answer ≡ Ok one))
      of-answer now on other befell (Err refusal) came e h = inl h
      of-answer now on other befell (Ok opened) came e h = by (of-taken now on other befell opened e (own-or-other laws p r i g w start pumps own is closing last took now on other befell opened came e) h)
        where
          by : Without (after befell now (slice_index_or on i false) opened) ⊎ IsIt other opened
              → Without (taken_in setting way now (slice_index_or on i false) (accepted setting befell) (marks setting way befell) (Ok opened)) ⊎ ((other ≡ datagram_of one has) × (Path (Result Opened Refusal) (Ok opened) (Ok one)))
          by (inl without) = inl without
          by (inr it) = inr (it.0, ap (λ (o : Opened). Ok o) it.1)

      -- ---- up to a moment of the pumps

      module _ (operational : receives config start r ≡ true) (list : List (List Entry)) (came : CameAsMade setting config (pasts_at p steps) (events config r (map Pump list ++ start))) where
        abbrev Taken : Type 0
        Taken = TakenAt config r start (datagram_of one has) one list

        abbrev TakenOr : List Event → Type 0
        TakenOr befell = Without (marks setting way befell) ⊎ Taken

        taken-kept : (later before : List (List Entry)) (earlier behind : List Entry) (other : List ℕ) → list ≡ later ++ (earlier ++ entries_of.Got other ∷ behind) ∷ before → TakenOr (so_far config r start before earlier)
            → TakenOr (got_at config r start operational before other (so_far config r start before earlier))
        taken-kept later before earlier behind other split (inr taken) = inr taken
        taken-kept later before earlier behind other split (inl without) =
            let steps_before = map Pump before ++ start in
            let befell = so_far config r start before earlier in
            on (of-answer (moment_of steps_before) (readers_on config steps_before r) other befell (verdict setting.group setting.setup (accepted setting befell) other)
            (came-at config r start operational setting (pasts_at p steps) later before earlier behind other (subst (λ (l : List (List Entry)). CameAsMade setting config (pasts_at p steps) (events config r (map Pump l ++ start))) split came)) refl without)
          where
            on : Without (marks setting way (got_at config r start operational before other (so_far config r start before earlier)))
                ⊎ ((other ≡ datagram_of one has) × (verdict setting.group setting.setup (accepted setting (so_far config r start before earlier)) other ≡ Ok one))
                → TakenOr (got_at config r start operational before other (so_far config r start before earlier))
            on (inl still) = inl still
            on (inr it) = inr (record {
              later = later;
              before = before;
              earlier = earlier;
              behind = behind;
              is = split ∙ ap (λ (d : List ℕ). later ++ (earlier ++ entries_of.Got d ∷ behind) ∷ before) it.0;
              opens = subst (λ (d : List ℕ). verdict setting.group setting.setup (accepted setting (so_far config r start before earlier)) d ≡ Ok one) it.0 it.1;
            })

        taken-all : Without (marks setting way (events config r start)) → TakenOr (events config r (map Pump list ++ start))
        taken-all none =
            subst (λ (l : List (List Entry)). TakenOr (events config r (map Pump l ++ start))) (nil-behind list) (pumps-kept config r start operational list TakenOr taken-kept [] list [] (sym (nil-behind list)) (inl none))

        covered-taken : Without (marks setting way (events config r start)) → cover (chunks_in (marks setting way (events config r (map Pump list ++ start)))) place total ≡ true → Taken
        covered-taken none covers = on (taken-all none)
          where
            on : TakenOr (events config r (map Pump list ++ start)) → Taken
            on (inr taken) = taken
            on (inl without) =
                let there = all_below (λ o. list_any (is_at place o) (chunks_in (marks setting way (events config r (map Pump list ++ start))))) total byte covers byte-within in
                absurd (let wrong : false ≡ true = sym without ∙ there in cc)

    -- where chunks cover it, each datagram with a part was taken
    pub all-taken : (operational : receives config start r ≡ true) (list : List (List Entry)) → CameAsMade setting config (pasts_at p steps) (events config r (map Pump list ++ start)) → All (λ c. c.place ≢ place) (chunks_in (marks setting way (events config r start)))
        → cover (chunks_in (marks setting way (events config r (map Pump list ++ start)))) place total ≡ true → HasAllTaken list
    all-taken operational list came new covers one has some =
        covered-taken one has some operational list came (none-misses way first place (byte one has some) (chunks_in (marks setting way (events config r start))) new) covers

  -- ---- a reader with no numbering

  abbrev row : List DataValue
  row = row_cut (meta_of p r i) own.row

  -- what a reader with no numbering needs of the read group: it took each datagram of the turn with a part for the reader in one of the pumps, and is calm from then on
  pub record TakesAll (Calm : List Event → Type 0) : Type 0 where
    pub bare : IsBare p r i
    pub operational : receives config start r ≡ true
    pub enabled : is_on config start (Reader r i) ≡ true
    pub stays : StaysCalm config r start operational pumps Calm
    pub first_accepts : OpensFirst laws p r i g w start pumps own is closing last took
    pub taken : (one : Opened) (has : Contains its_all one) → HasPartFor setting i (datagram_of one has) → TakenAt config r start (datagram_of one has) one pumps
    pub begins : (one : Opened) (has : Contains its_all one) (now : ℕ) (on : List Bool) (befell : List Event) → verdict setting.group setting.setup (accepted setting befell) (datagram_of one has) ≡ Ok one → Calm (Got now on (datagram_of one has) ∷ befell)

  -- it took it at a moment behind which no other key frame came
  pub record TakenQuietly (one : Opened) (has : Contains its_all one) : Type 0 where
    pub at : TakenAt config r start (datagram_of one has) one pumps
    pub quiet : NoOtherBehind p r i g w steps (Pump (at.earlier ++ entries_of.Got (datagram_of one has) ∷ []) ∷ map Pump at.before ++ start) row

  -- no other key frame came once it took all
  abbrev pub QuietOnceTaken : Type 0
  QuietOnceTaken = NoOtherOnceAll p r i g w pumps start (HasAllTaken) row

  pub quiet-all : QuietOnceTaken → OnePart laws.turns play is_play own closing its_le last took → (one : Opened) (has : Contains its_all one) → parts_of one ≢ [] → TakenAt config r start (datagram_of one has) one pumps → TakenQuietly one has
  quiet-all once part one has some at =
      let datagram = datagram_of one has in
      let first_entries = at.earlier ++ entries_of.Got datagram ∷ [] in
      let here : TakenAt config r start datagram one (first_entries ∷ at.before) = record { later = []; before = at.before; earlier = at.earlier; behind = []; is = refl; opens = at.opens } in
      record {
        at = at;
        quiet = once at.later at.before first_entries at.behind (at.is ∙ ap (λ (l : List Entry). at.later ++ l ∷ at.before) (sym (append_assoc at.earlier (entries_of.Got datagram ∷ []) at.behind)))
            (all-of-one part one has some (first_entries ∷ at.before) here);
      }

  module _ (Calm : List Event → Type 0) (t : TakesAll Calm) where
    came-so : (later before : List (List Entry)) (earlier behind : List Entry) (other : List ℕ) → pumps ≡ later ++ (earlier ++ entries_of.Got other ∷ behind) ∷ before
        → CameAsMade setting config (pasts_at p steps) (got_at config r start t.operational before other (so_far config r start before earlier))
    came-so later before earlier behind other split =
        came-at config r start t.operational setting (pasts_at p steps) later before earlier behind other (subst (λ (l : List (List Entry)). CameAsMade setting config (pasts_at p steps) (events config r (map Pump l ++ start))) split is_play.came)

    enabled-at : (before : List (List Entry)) → slice_index_or (readers_on config (map Pump before ++ start) r) i false ≡ true
    enabled-at before = enabled-behind config r i before start is.matched.within t.enabled

    turns-last : CameLast (arrivals_at config r i first steps) row → ClosingCameLast p r i g w steps (writer_past w last.before) own
    turns-last came = record {
      bare = t.bare;
      last = ap (writer_past w) last.past_is ∙ ap (λ (o : Option WriterTurn). cons_option (option_map HadTurn o) (writer_past w last.before)) took;
      closing = closing;
      came = came;
    }

    -- ---- where it is one part

    module _ (part : OnePart laws.turns play is_play own closing its_le last took) where
      abbrev found : (o : Opened) × Contains its_all o × Contains (parts_of o) part.piece
      found = in-flat parts_of its_all part.piece (subst (λ (l : List Piece). Contains l part.piece) (sym part.same) (0, omega arith, refl))

      reads : (now : ℕ) (o : Option ℕ) (list : List Mark) → piece_on way (place_from first) now o list part.piece ≡ item_on way now o list (Some (Whole 0 row))
      reads now o list = part.reads_as now o list ∙ ap (λ (f : Option PlacedFrame). item_on way now o list f) (gives-bare laws.turns play is_play own closing its_le last took t.bare)

      pub part-last : ((one : Opened) (has : Contains its_all one) → parts_of one ≢ [] → HasPartFor setting i (datagram_of one has) → TakenQuietly one has) → ClosingCameLast p r i g w steps (writer_past w last.before) own
      part-last quietly =
          let one = found.0 in
          let has = found.1 in
          let some : parts_of one ≢ [] = not-empty (parts_of one) part.piece found.2 in
          let datagram = datagram_of one has in
          let its_part = has-part laws p r i g w start pumps own is closing last took one has (t.first_accepts one has) some in
          let its = quietly one has some its_part in
          let taken = its.at in
          let steps_before = map Pump taken.before ++ start in
          let befell = so_far config r start taken.before taken.earlier in
          let key = brings config r i first start datagram one row (ap is_numbered t.bare) part.piece (flat-one parts_of its_all one part.piece part.same has some) reads (moment_of steps_before) (readers_on config steps_before r) befell (enabled-at taken.before) taken.opens in
          turns-last
          (came-last config r i first start datagram t.operational row (ap is_numbered t.bare) pumps Calm t.stays taken.later taken.before taken.earlier taken.behind taken.is
          (t.begins one has (moment_of steps_before) (readers_on config steps_before r) befell taken.opens) key its.quiet)

    -- ---- where it is cut into chunks

    module _ (chunks : InChunks laws.turns play is_play own closing its_le last took) where
      abbrev key_place : ℕ
      key_place = ClosingGot.place laws.turns play is_play own closing its_le last took

      abbrev key_total : ℕ
      key_total = its_total laws p r i g w start pumps own is closing last took t.first_accepts chunks

      abbrev frame : Frame
      frame = ClosingGot.frame laws.turns play is_play own closing its_le last took

      abbrev bytes : ℕ → List ℕ
      bytes = ClosingGot.bytes laws.turns play is_play own closing its_le last took

      abbrev key_cuts : List Chunk
      key_cuts = its_cuts laws p r i g w start pumps own is closing last took t.first_accepts chunks

      abbrev of_piece : Piece → Type 0
      of_piece piece = IsPieceOf (IsOfAnswer way.seat.meta (its_answers play)) (IsChunkOf way.seat.meta (its_answers play) bytes) way.seat.meta piece

      abbrev Full : List Mark → Type 0
      Full list = cover (chunks_in list) key_place key_total ≡ true

      abbrev Open : List Mark → Type 0
      Open list = cover (chunks_in list) key_place key_total ≡ false

      never : {X : Type 0} (list : List Mark) → Open list → Full list → X
      never list none full = absurd (let wrong : false ≡ true = sym none ∙ full in cc)

      open-cut : (cuts : Bool) (list : List Mark) → Open list → Open (cut_on cuts NewToken list)
      open-cut true list h = cover_none key_place key_total (some-bytes laws p r i g w start pumps own is closing last took t.first_accepts chunks)
      open-cut false list h = h

      -- each chunk that was taken lies there at the end
      abbrev Lain : Chunk → List Event → Type 0
      Lain c befell = Calm befell × Lies c (marks setting way befell)

      lies-taken : (c : Chunk) (raised : Bool) (now : ℕ) (s : Option ℕ) (parts : List Piece) (list : List Mark) → raised ≡ false → Lies c list → Lies c (fold (piece_on way (place_from first) now s) (cut_on raised NewToken list) parts)
      lies-taken c true now s parts list e h = absurd (cc)
      lies-taken c false now s parts list e h = lies-parts c way (place_from first) now s parts list h

      lies-answer : (c : Chunk) (now : ℕ) (enabled : Bool) (befell : List Event) (answer : Result Opened Refusal) → ((opened : Opened) → answer ≡ Ok opened → is_raised setting (accepted setting befell) opened ≡ false) → Lies c (marks setting way befell)
          → Lies c (taken_in setting way now enabled (accepted setting befell) (marks setting way befell) answer)
      lies-answer c now enabled befell (Err refusal) calm h = h
      lies-answer c now enabled befell (Ok opened) calm h =
          lies-taken c (is_raised setting (accepted setting befell) opened) now (stamp_by setting.setup.mode opened.pass.number) (if enabled then parts_of opened else []) (marks setting way befell) (calm opened refl) h

      lain-got : (c : Chunk) (later before : List (List Entry)) (earlier behind : List Entry) (other : List ℕ) → pumps ≡ later ++ (earlier ++ entries_of.Got other ∷ behind) ∷ before
          → Lain c (so_far config r start before earlier) → Lain c (got_at config r start t.operational before other (so_far config r start before earlier))
      lain-got c later before earlier behind other split h =
          let steps = map Pump before ++ start in
          let on = readers_on config steps r in
          let befell = so_far config r start before earlier in (
            t.stays.keeps (moment_of steps) on other befell h.0,
            lies-answer c (moment_of steps) (slice_index_or on i false) befell (verdict setting.group setting.setup (accepted setting befell) other) (λ opened e. t.stays.quiet later before earlier behind other opened split h.0 e) h.1,
          )

      lies-end : (c : Chunk) (has : Contains key_cuts c) → Lies (placed (place_from first) c) (marks setting way (events config r steps))
      lies-end c has =
          let found = found_c laws p r i g w start pumps own is closing last took t.first_accepts chunks c has in
          let one = found.0 in
          let at = found.1 in
          let taken = t.taken one at (has-part-c laws p r i g w start pumps own is closing last took t.first_accepts chunks c has) in
          let steps_before = map Pump taken.before ++ start in
          let now = moment_of steps_before in
          let on = readers_on config steps_before r in
          let befell = so_far config r start taken.before taken.earlier in
          let s = stamp_by setting.setup.mode one.pass.number in
          let raised = is_raised setting (accepted setting befell) one in
          let came = came-so taken.later taken.before taken.earlier taken.behind (datagram_of one at) taken.is in
          let list = λ (b : Bool). fold (piece_on way (place_from first) now s) (cut_on raised NewToken (marks setting way befell)) (if b then parts_of one else []) in
          let lain : Lies (placed (place_from first) c) (marks setting way (got_at config r start t.operational taken.before (datagram_of one at) befell)) =
          subst (λ (a : Result Opened Refusal). Lies (placed (place_from first) c) (taken_in setting way now (slice_index_or on i false) (accepted setting befell) (marks setting way befell) a)) (sym taken.opens)
          (subst (λ (b : Bool). Lies (placed (place_from first) c) (list b)) (sym (enabled-at taken.before))
          (lays laws p r i g w start pumps own is closing last took t.first_accepts chunks c has now on s raised befell came taken.opens)) in
          (kept-from config r start t.operational pumps (Lain (placed (place_from first) c)) (lain-got (placed (place_from first) c)) taken.later taken.before taken.earlier taken.behind (datagram_of one at) taken.is
          (t.begins one at now on befell taken.opens, lain)).1

      -- what a datagram does with which the message is whole
      record FlipsBy (other : List ℕ) (befell : List Event) : Type 0 where
        key : BringsKey row (arrivals setting way befell)
        calm : Calm befell

      abbrev brought : ℕ → Option ℕ → List Mark → List Piece → List Mark
      brought now s list parts = fold (piece_on way (place_from first) now s) list parts

      flips-key : (now : ℕ) (on : List Bool) (s : Option ℕ) (other : List ℕ) (befell : List Event) (opened : Opened) (raised : Bool) (b : List ℕ) → CameAsMade setting config (pasts_at p steps) (Got now on other ∷ befell)
          → verdict setting.group setting.setup (accepted setting befell) other ≡ Ok opened → parts_of opened ≡ Chunked b ∷ [] → Open (cut_on raised NewToken (marks setting way befell))
          → Full (brought now s (cut_on raised NewToken (marks setting way befell)) (parts_of opened)) → BringsKey row (arrivals_in (brought now s (cut_on raised NewToken (marks setting way befell)) (parts_of opened)))
      flips-key now on s other befell opened raised b came e one none full =
          let list = cut_on raised NewToken (marks setting way befell) in
          let of : All of_piece (Chunked b ∷ []) = subst (All of_piece) one (parts-sent laws.turns 16385 play its_le is_play now on other befell opened came e) in
          let next = next_place (settings_at group w) (its_answers play) in
          let flip = flip-chunk way.seat.part.numbering way (its_answers play) bytes first next key_place (source laws.turns 16385 play its_le is_play) (is-last laws.turns play is_play own closing its_le last took) frame
          (read-is laws p r i g w start pumps own is closing last took t.first_accepts chunks) now s list (sent-list laws p r i g w start pumps own is closing last took t.first_accepts chunks raised befell came.1) none b (All-head of_piece (Chunked b) [] of)
          (sym (ap (λ (parts : List Piece). cover (chunks_in (brought now s list parts)) key_place key_total) one) ∙ full) in
          let item = item_of now s (Whole 0 row) in
          record {
            item = item;
            earlier = arrivals_in list;
            frame_is = refl;
            is = ap arrivals_in (ap (brought now s list) one ∙ flip.1 ∙ ap (item_on way now s (Laid flip.0 ∷ list)) (gives-bare laws.turns play is_play own closing its_le last took t.bare) ∙ comes-bare way (Laid flip.0 ∷ list) item (ap is_numbered t.bare));
          }

      -- no datagram but one of the turn does so, and it has one chunk
      flips-own : (now : ℕ) (on : List Bool) (other : List ℕ) (befell : List Event) (opened : Opened) → CameAsMade setting config (pasts_at p steps) (Got now on other ∷ befell) → verdict setting.group setting.setup (accepted setting befell) other ≡ Ok opened
          → slice_index_or on i false ≡ true → Open (marks setting way befell) → Contains last.turn.made other
          → Full (brought now (stamp_by setting.setup.mode opened.pass.number) (cut_on (is_raised setting (accepted setting befell) opened) NewToken (marks setting way befell)) (parts_of opened)) → FlipsBy other (Got now on other ∷ befell)
      flips-own now on other befell opened came e gets_it none made full = by (chunk-case way.seat.part opened.payload)
        where
          s : Option ℕ
          s = stamp_by setting.setup.mode opened.pass.number

          raised : Bool
          raised = is_raised setting (accepted setting befell) opened

          list : List Mark
          list = cut_on raised NewToken (marks setting way befell)

          by : ((b : List ℕ) × (parts_of opened ≡ Chunked b ∷ [])) ⊎ All IsNoChunk (parts_of opened) → FlipsBy other (Got now on other ∷ befell)
          by (inr no_chunks) = never list (open-cut raised (marks setting way befell) none) (sym (ap (λ (l : List Chunk). cover l key_place key_total) (same-parts way first now s (parts_of opened) list no_chunks)) ∙ full)
          by (inl (b, one)) =
              let own_one = found-own laws p r i g w start pumps own is closing last took (accepted setting befell) other opened made e in
              let opens_so = subst (λ (d : List ℕ). verdict setting.group setting.setup (accepted setting befell) d ≡ Ok opened) (sym own_one.1) e in
              record {
                key = subst (λ (a : Result Opened Refusal). BringsKey row (arrivals_in (taken_in setting way now (slice_index_or on i false) (accepted setting befell) (marks setting way befell) a))) (sym e)
                    (subst (λ (x : Bool). BringsKey row (arrivals_in (brought now s list (if x then parts_of opened else [])))) (sym gets_it)
                    (flips-key now on s other befell opened raised b came e one (open-cut raised (marks setting way befell) none) full));
                calm = subst (λ (d : List ℕ). Calm (Got now on d ∷ befell)) own_one.1 (t.begins opened own_one.0 now on befell opens_so);
              }

      flips-taken : (now : ℕ) (on : List Bool) (other : List ℕ) (befell : List Event) (opened : Opened) → CameAsMade setting config (pasts_at p steps) (Got now on other ∷ befell) → verdict setting.group setting.setup (accepted setting befell) other ≡ Ok opened
          → slice_index_or on i false ≡ true → Open (marks setting way befell) → WasMade (HadGroupTurn last.turn ∷ last.before) other ⊎ (parts_of opened ≡ [])
          → Full (brought now (stamp_by setting.setup.mode opened.pass.number) (cut_on (is_raised setting (accepted setting befell) opened) NewToken (marks setting way befell)) (if slice_index_or on i false then parts_of opened else []))
          → FlipsBy other (Got now on other ∷ befell)
      flips-taken now on other befell opened came e gets_it none (inl (inl made)) full =
          let s = stamp_by setting.setup.mode opened.pass.number in
          let list = cut_on (is_raised setting (accepted setting befell) opened) NewToken (marks setting way befell) in
          flips-own now on other befell opened came e gets_it none made (subst (λ (x : Bool). Full (brought now s list (if x then parts_of opened else []))) gets_it full)
      flips-taken now on other befell opened came e gets_it none (inl (inr was)) full =
          let raised = is_raised setting (accepted setting befell) opened in
          let list = cut_on raised NewToken (marks setting way befell) in
          never list (open-cut raised (marks setting way befell) none)
          (sym (older-same laws p r i g w start pumps own is closing last took t.first_accepts chunks now on (stamp_by setting.setup.mode opened.pass.number) other befell opened e was list) ∙ full)
      flips-taken now on other befell opened came e gets_it none (inr empty) full =
          let raised = is_raised setting (accepted setting befell) opened in
          let list = cut_on raised NewToken (marks setting way befell) in
          never list (open-cut raised (marks setting way befell) none)
          (subst (λ (parts : List Piece). Full (brought now (stamp_by setting.setup.mode opened.pass.number) list parts)) (none-either (slice_index_or on i false) (parts_of opened) empty) full)

      flips-answer : (now : ℕ) (on : List Bool) (other : List ℕ) (befell : List Event) (answer : Result Opened Refusal) → CameAsMade setting config (pasts_at p steps) (Got now on other ∷ befell) → verdict setting.group setting.setup (accepted setting befell) other ≡ answer
          → slice_index_or on i false ≡ true → Open (marks setting way befell) → Full (taken_in setting way now (slice_index_or on i false) (accepted setting befell) (marks setting way befell) answer) → FlipsBy other (Got now on other ∷ befell)
      flips-answer now on other befell (Err refusal) came e gets_it none full = never (marks setting way befell) none full
      flips-answer now on other befell (Ok opened) came e gets_it none full =
          flips-taken now on other befell opened came e gets_it none (own-or-other laws p r i g w start pumps own is closing last took now on other befell opened came e) full

      record Flip : Type 0 where
        later : List (List Entry)
        older : List (List Entry)
        sooner : List Entry
        behind : List Entry
        other : List ℕ
        is_split : pumps ≡ later ++ (sooner ++ entries_of.Got other ∷ behind) ∷ older
        flips : FlipsBy other (got_at config r start t.operational older other (so_far config r start older sooner))
        full : Full (marks setting way (got_at config r start t.operational older other (so_far config r start older sooner)))

      abbrev OpenOr : List Event → Type 0
      OpenOr befell = Open (marks setting way befell) ⊎ Flip

      open-kept : (later older : List (List Entry)) (sooner behind : List Entry) (other : List ℕ) → pumps ≡ later ++ (sooner ++ entries_of.Got other ∷ behind) ∷ older → OpenOr (so_far config r start older sooner)
          → OpenOr (got_at config r start t.operational older other (so_far config r start older sooner))
      open-kept later older sooner behind other split (inr flip) = inr flip
      open-kept later older sooner behind other split (inl none) = on (cover (chunks_in (marks setting way (got_at config r start t.operational older other (so_far config r start older sooner)))) key_place key_total) refl
        where
          on : (b : Bool) → cover (chunks_in (marks setting way (got_at config r start t.operational older other (so_far config r start older sooner)))) key_place key_total ≡ b → OpenOr (got_at config r start t.operational older other (so_far config r start older sooner))
          on false e = inl e
          on true e =
              let befell = so_far config r start older sooner in
              let before = map Pump older ++ start in
              inr (record {
                later = later;
                older = older;
                sooner = sooner;
                behind = behind;
                other = other;
                is_split = split;
                flips = flips-answer (moment_of before) (readers_on config before r) other befell (verdict setting.group setting.setup (accepted setting befell) other) (came-so later older sooner behind other split) refl (enabled-at older) none e;
                full = e;
              })

      flip-end : OpenOr (events config r steps) → Flip
      flip-end (inl none) = never (marks setting way (events config r steps)) none (all-covered laws p r i g w start pumps own is closing last took t.first_accepts chunks lies-end)
      flip-end (inr flip) = flip

      flipped : Open (marks setting way (events config r start)) → Flip
      flipped none =
          flip-end (subst (λ (l : List (List Entry)). OpenOr (events config r (map Pump l ++ start))) (nil-behind pumps) (pumps-kept config r start t.operational pumps OpenOr open-kept [] pumps [] (sym (nil-behind pumps)) (inl none)))

      -- by then all was taken
      flip-took : (f : Flip) → All (λ c. c.place ≢ key_place) (chunks_in (marks setting way (events config r start))) → HasAllTaken ((f.sooner ++ entries_of.Got f.other ∷ []) ∷ f.older)
      flip-took f new =
          let entries = f.sooner ++ entries_of.Got f.other ∷ [] in
          let here : events config r (map Pump (entries ∷ f.older) ++ start) ≡ got_at config r start t.operational f.older f.other (so_far config r start f.older f.sooner) =
          pumped config r start t.operational entries f.older ∙ ends-with config r start t.operational f.older f.sooner f.other in
          all-taken t.first_accepts chunks t.operational (entries ∷ f.older)
          (subst (CameAsMade setting config (pasts_at p steps)) (sym here) (came-so f.later f.older f.sooner f.behind f.other f.is_split)) new
          (subst (λ (befell : List Event). Full (marks setting way befell)) (sym here) f.full)

      pub chunks-last : All (λ c. c.place ≢ key_place) (chunks_in (marks setting way (events config r start))) → QuietOnceTaken → ClosingCameLast p r i g w steps (writer_past w last.before) own
      chunks-last new once =
          let f = flipped (none-covered key_place key_total (chunks_in (marks setting way (events config r start))) (some-bytes laws p r i g w start pumps own is closing last took t.first_accepts chunks) new) in
          let moved : (f.sooner ++ entries_of.Got f.other ∷ []) ++ f.behind ≡ f.sooner ++ entries_of.Got f.other ∷ f.behind = append_assoc f.sooner (entries_of.Got f.other ∷ []) f.behind in
          turns-last
          (came-last config r i first start f.other t.operational row (ap is_numbered t.bare) pumps Calm t.stays f.later f.older f.sooner f.behind f.is_split f.flips.calm f.flips.key
          (once f.later f.older (f.sooner ++ entries_of.Got f.other ∷ []) f.behind (f.is_split ∙ ap (λ (l : List Entry). f.later ++ l ∷ f.older) (sym moved)) (flip-took f new)))
