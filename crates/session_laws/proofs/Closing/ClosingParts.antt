-- A session that ends with pumps behind a closing turn: what each datagram of that brings to a reader, and what the chunks of its frame cover.
use Rattle.std.proofs.Common.{◌≡◌, ◌≢◌, refl, sym, ap, ◌∙◌, subst, arith, ℕ, ◌+◌, ◌<◌, ◌≤◌, ◌⊎◌, inl, inr, Bool, true, false, List, [], ◌∷◌, ◌++◌, map, length, get_or, Option, Some, Contains, Result, Ok}
use Rattle.std.specs.Prelude.{fold, slice_get, slice_index_or, if◌then◌else◌}
use Rattle.std.proofs.lemmas.List.{get_or_default}
use Rattle.std.proofs.lemmas.List.Elements.{All-contains}
use Rattle.std.proofs.lemmas.Option.{get_or_from_slice_get, slice_get-get_or}
use Rattle.ua_base.specs.Journal.{Entry}
use Rattle.pubsub_model.specs.declared.reading.Why.TheVariants.{NewToken}
use Rattle.pubsub_model.specs.Cadence.{WriterTurn, next_place}
use Rattle.pubsub_model.specs.Frames.{PlacedFrame, is_silent, place_of}
use Rattle.message_guard.specs.Acceptance.{Accepted}
use Rattle.ps_config.specs.declared.parts.Config.{Config}
use Rattle.ps_config.specs.declared.parts.GroupPart.{GroupPart}
use Rattle.ps_config.specs.declared.parts.ReadGroupPart.{ReadGroupPart}
use Rattle.reader_group.specs.Arrivals.{Mark, Way, accepted, chunks_in, cut_on, marks, piece_on, placed}
use Rattle.reader_group.specs.Opening.{Opened, verdict}
use Rattle.reader_group.specs.Payloads.{Piece, Chunked, pieces}
use Rattle.reader_group.specs.Plain.{Event, Got, Setting}
use Rattle.reader_group.specs.Settings.{group_at as read_group_at, setting_of}
use Rattle.writer_group.specs.Parts.{group_at}
use Rattle.group_laws.specs.TurnOpened.{is_accepted}
use Rattle.writer_group.specs.Turns.{turn_datagrams, GroupDeed, GroupTurn, HadGroupTurn, writer_past, took_by}
use Rattle.group_laws.specs.TurnOpened.{turn_opened}
use Rattle.session_model.specs.Steps.{Plan, Step, Pump}
use Rattle.session_laws.specs.Headline.{InSession}
use Rattle.session_laws.specs.Pasts.{AreTurns, CameAsMade, WasMade, answered_by, settings_at}
use Rattle.session_laws.specs.Plays.{IsPlay, Play, its_answers, its_way}
use Rattle.writer_group.specs.Payloads.{writer_at}
use Rattle.session_laws.proofs.HeldRows.Pieces.{opened-at, own-or-none, own-pieces}
use Rattle.seq_number.specs.Numbers.{number_of_place, place_from}
use Rattle.session_model.specs.Events.{events}
use Rattle.session_laws.specs.Newest.{HasPartFor}
use Rattle.session_laws.specs.Sessions.{pasts_at}
use Rattle.session_laws.proofs.Closing.ClosingGot as ClosingGot
use Rattle.session_laws.proofs.Closing.ClosingGot.{InChunks, LastTurn, in-flat, mapped-has, not-empty}
use Rattle.session_laws.proofs.Versions.Answering.{spelled_at}
use Rattle.session_laws.proofs.Closing.Coming.{Lies, has-contains, lies-among, proper}
use Rattle.session_laws.proofs.HeldRows.Marks.{all-on, events-sent, parts-sent, sent-cut, source, turns}
use Rattle.session_laws.proofs.Closing.SignedChunks.{older-parts}
use Rattle.session_laws.proofs.HeldRows.Sources.{AreSent, IsChunkOf, IsLaidOf, IsOfAnswer, Source, chunk-laid, sent-kept}
use Rattle.reader_group.proofs.KeptParts.{IsPieceOf, OfRead}
use Rattle.chunker.specs.Chunks.{Chunk, cover, cut_at, cuts, is_proper, longest_message, message_of}
use Rattle.chunker.specs.Joins.{IsCutOf}
use Rattle.chunker.specs.Spelling.{chunk_at, chunk_bytes, without_rest}
use Rattle.chunker.specs.declared.payload.ChunkFault.{ChunkFault}
use Rattle.chunker.proofs.ChunkLaws.{cover_none}
use Rattle.chunker.proofs.CutLaws.{cut-at, cut-contains, cut-of, cut-size, cuts-cover, message-back}
use Rattle.frame_codec.specs.Frames.{Frame}
use Rattle.frame_codec.specs.Reading.{frame_at}
use Rattle.group_laws.proofs.ChunkReading.{chunk-read}
use Rattle.pubsub_model.specs.Answers.{IsAnswer}
use Rattle.pubsub_model.proofs.AnswerPlaces.{answers-span}
use Rattle.session_laws.proofs.HeldRows.Published.{Laws, is-play, play_of}

-- ---- a session that ends with pumps, behind the last turn of a group, which closes

pub none-either : (b : Bool) (parts : List Piece) → parts ≡ [] → Path (List Piece) (if b then parts else []) []
none-either true parts none = none
none-either false parts none = refl

module _ (laws : Laws) (p : Plan) (r i g w : ℕ) (start : List Step) (pumps : List (List Entry)) (own : WriterTurn) (is : InSession p r i g w (map Pump pumps ++ start)) (closing : own.closing ≡ true)
    (last : LastTurn p.config (group_at p.config g) (pasts_at p (map Pump pumps ++ start) g)) (took : took_by w last.turn ≡ Some own) where
  abbrev config : Config
  config = p.config

  abbrev group : GroupPart
  group = group_at config g

  abbrev readers : ReadGroupPart
  readers = read_group_at config r

  abbrev setting : Setting
  setting = setting_of config r

  abbrev steps : List Step
  steps = map Pump pumps ++ start

  abbrev play : Play
  play = play_of p r i g w steps

  abbrev is_play : IsPlay 16385 play
  is_play = is-play laws p r i g w steps is

  pub le : 16385 ≤ 65536
  le = omega arith

  abbrev way : Way
  way = its_way play

  abbrev pub all : List Opened
  all = turn_opened config group last.before last.of.input

  abbrev sent : List (List ℕ)
  sent = turn_datagrams config group last.before last.of.input

  abbrev first : ℕ
  first = (writer_at group w).first_number

  abbrev parts_of : Opened → List Piece
  parts_of o = pieces way.seat.part o.payload

  -- ---- what is opened, and its datagram

  module _ (one : Opened) (has : Contains all one) where
    pub one-at : slice_get all has.0 ≡ Some one
    one-at = slice_get-get_or all has.0 one has.1 ∙ ap (λ (o : Opened). Some o) has.2

    pub below-made : has.0 < length sent
    below-made = subst (λ (n : ℕ). has.0 < n) (laws.turns.many config group last.before last.of.input) has.1

    abbrev pub its_datagram : List ℕ
    its_datagram = get_or sent has.0 []

    pub made-one : Contains last.turn.made its_datagram
    made-one = subst (λ (t : GroupTurn). Contains t.made its_datagram) (sym last.of.is) (has.0, below-made, get_or_default sent has.0 its_datagram [] below-made)

    pub opens : (pairs : Accepted) → is_accepted setting.setup pairs one.pass ≡ true → verdict setting.group setting.setup pairs its_datagram ≡ Ok one
    opens pairs accepts =
        (laws.turns.taken config group readers last.before last.of.input pairs has.0 its_datagram one last.of.may is.matched.groups (slice_get-get_or sent has.0 [] below-made) one-at).taken accepts

  -- what is opened of a datagram that it made
  pub found-own : (pairs : Accepted) (other : List ℕ) (opened : Opened) → Contains last.turn.made other → verdict setting.group setting.setup pairs other ≡ Ok opened
      → (there : Contains all opened) × (its_datagram opened there ≡ other)
  found-own pairs other opened made e =
      let has : Contains sent other = subst (λ (t : GroupTurn). Contains t.made other) last.of.is made in
      let at : slice_get sent has.0 ≡ Some other = slice_get-get_or sent has.0 other has.1 ∙ ap (λ (d : List ℕ). Some d) has.2 in
      let here = (opened-at laws.turns config group readers i w is.matched last.before last.of.input pairs has.0 other opened last.of.may at e).0 in
      let below : has.0 < length all = subst (λ (n : ℕ). has.0 < n) (sym (laws.turns.many config group last.before last.of.input)) has.1 in
      ((has.0, below, get_or_from_slice_get all has.0 opened opened here), get_or_default sent has.0 [] other has.1 ∙ has.2)

  -- each datagram that is taken the turn made, or the group before it, or it has nothing for the reader
  pub own-or-other : (now : ℕ) (on : List Bool) (other : List ℕ) (befell : List Event) (opened : Opened) → CameAsMade setting config (pasts_at p steps) (Got now on other ∷ befell) → verdict setting.group setting.setup (accepted setting befell) other ≡ Ok opened
      → WasMade (HadGroupTurn last.turn ∷ last.before) other ⊎ (parts_of opened ≡ [])
  own-or-other now on other befell opened came e =
      at (own-or-none laws.turns config group readers i w is.matched g (pasts_at p steps) is.plan.good.sound is_play.there is_play.pasts (accepted setting befell) other opened
      (came.0 opened e) e)
    where
      at : WasMade (pasts_at p steps g) other ⊎ (parts_of opened ≡ []) → WasMade (HadGroupTurn last.turn ∷ last.before) other ⊎ (parts_of opened ≡ [])
      at (inl was) = inl (subst (λ (past : List GroupDeed). WasMade past other) last.past_is was)
      at (inr none) = inr none

  abbrev pub OpensFirst : Type 0
  OpensFirst = (one : Opened) → Contains all one → is_accepted setting.setup [] one.pass ≡ true

  pub has-part : (one : Opened) (has : Contains all one) → is_accepted setting.setup [] one.pass ≡ true → parts_of one ≢ [] → HasPartFor setting i (its_datagram one has)
  has-part one has accepts some = record { opened = one; opens = opens one has [] accepts; part = some }

  -- ---- where it is cut into chunks

  module _ (opens_first : OpensFirst) (chunks : InChunks laws.turns play is_play own closing le last took) where
    abbrev place : ℕ
    place = ClosingGot.place laws.turns play is_play own closing le last took

    abbrev message : List ℕ
    message = ClosingGot.message laws.turns play is_play own closing le last took

    abbrev frame : Frame
    frame = ClosingGot.frame laws.turns play is_play own closing le last took

    abbrev bytes : ℕ → List ℕ
    bytes = ClosingGot.bytes laws.turns play is_play own closing le last took

    abbrev pub its_total : ℕ
    its_total = length (bytes place)

    is-last : (f : PlacedFrame) → IsAnswer (its_answers play) f → is_silent f ≡ false → place_of f ≤ place
    is-last = ClosingGot.is-last laws.turns play is_play own closing le last took

    back : place_from first (number_of_place place) ≡ place
    back = ClosingGot.back laws.turns play is_play own closing le last took

    abbrev next : ℕ
    next = next_place (settings_at group w) (its_answers play)

    its_source : Source way (its_answers play) first next
    its_source = source laws.turns 16385 play le is_play

    abbrev pub its_cuts : List Chunk
    its_cuts = cuts chunks.room (number_of_place place) message

    abbrev its_are : AreTurns config group (pasts_at p steps g)
    its_are = turns laws.turns 16385 play le is_play

    abbrev of_piece : Piece → Type 0
    of_piece piece = IsPieceOf (IsOfAnswer way.seat.meta (its_answers play)) (IsChunkOf way.seat.meta (its_answers play) bytes) way.seat.meta piece

    module _ (c : Chunk) (has_c : Contains its_cuts c) where
      abbrev pub found_c : (o : Opened) × Contains all o × Contains (parts_of o) (Chunked (chunk_bytes c))
      found_c = in-flat parts_of all (Chunked (chunk_bytes c)) (subst (λ (l : List Piece). Contains l (Chunked (chunk_bytes c))) (sym chunks.same) (mapped-has (λ chunk. Chunked (chunk_bytes chunk)) its_cuts c has_c))

      abbrev pub placed_c : Chunk
      placed_c = placed (place_from first) c

      pub has-part-c : HasPartFor setting i (its_datagram found_c.0 found_c.1)
      has-part-c = has-part found_c.0 found_c.1 (opens_first found_c.0 found_c.1) (not-empty (parts_of found_c.0) (Chunked (chunk_bytes c)) found_c.2)

      pub read-c : without_rest (chunk_at (chunk_bytes c)) ≡ Ok c
      read-c = chunk-read way.seat chunks.room (number_of_place place) message frame chunks.cut_up c has_c

      of-c : IsChunkOf way.seat.meta (its_answers play) bytes c
      of-c =
          let datagram = its_datagram found_c.0 found_c.1 in
          let made : WasMade (pasts_at p steps g) datagram = subst (λ (past : List GroupDeed). WasMade past datagram) (sym last.past_is) (inl (made-one found_c.0 found_c.1)) in
          let parts = own-pieces laws.turns config group readers i w is.matched (pasts_at p steps g) its_are [] datagram found_c.0 made (opens found_c.0 found_c.1 [] (opens_first found_c.0 found_c.1)) in
          subst (λ (answer : Result Chunk ChunkFault). OfRead (IsChunkOf way.seat.meta (its_answers play) bytes) answer) read-c (All-contains of_piece (parts_of found_c.0) (Chunked (chunk_bytes c)) parts found_c.2)

      laid-c : IsLaidOf way.seat.meta (its_answers play) bytes placed_c
      laid-c = chunk-laid way (its_answers play) bytes first next c its_source of-c

      at-c : placed_c.place ≡ place
      at-c = ap (place_from first) (cut-of chunks.room (number_of_place place) message c has_c).0 ∙ back

      cut-c : IsCutOf (bytes place) placed_c
      cut-c = subst (λ (n : ℕ). IsCutOf (bytes n) placed_c) at-c laid-c.cut

    -- the bytes of its place are the message
    first-cut : (l : List Chunk) → its_cuts ≡ l → (c : Chunk) × Contains its_cuts c
    first-cut [] e =
        let covers : cover [] (number_of_place place) (length message) ≡ true =
        cuts-cover chunks.room (number_of_place place) message [] chunks.cut_up.has_room (λ j d below. absurd (let size = ap length e in omega (arith, below, size))) in
        absurd (let wrong : false ≡ true = sym (cover_none (number_of_place place) (length message) chunks.cut_up.some) ∙ covers in cc)
    first-cut (c ∷ rest) e = (c, subst (λ (l : List Chunk). Contains l c) (sym e) (0, omega arith, refl))

    pub long-is : length message ≡ its_total
    long-is = let c = first-cut its_cuts refl in sym (cut-of chunks.room (number_of_place place) message c.0 c.1).1.total ∙ (cut-c c.0 c.1).total

    pub some-bytes : 0 < its_total
    some-bytes = let long = long-is in let least = chunks.cut_up.some in omega (arith, long, least)

    abbrev at_place : List Chunk
    at_place = cuts chunks.room place message

    same-cut : (j : ℕ) → placed (place_from first) (cut_at chunks.room (number_of_place place) message j) ≡ cut_at chunks.room place message j
    same-cut j = ap (λ (n : ℕ). record (cut_at chunks.room place message j) { place = n }) back

    each-of : (P : Chunk → Type 0) → ((c : Chunk) → Contains its_cuts c → P (placed (place_from first) c)) → (c : Chunk) → Contains at_place c → P c
    each-of P h c has =
        let of = cut-at chunks.room place message c has in
        subst P (same-cut of.k ∙ of.is) (h (cut_at chunks.room (number_of_place place) message of.k) (cut-contains chunks.room (number_of_place place) message of.k of.within))

    bytes-are : bytes place ≡ message
    bytes-are =
        let covers : cover at_place place (length message) ≡ true = cuts-cover chunks.room place message at_place chunks.cut_up.has_room (λ j d below. (j, below, get_or_default at_place j (get_or at_place j d) d below)) in
        let one = message-back message place at_place (λ c has at. (cut-of chunks.room place message c has).1) covers in
        let other = message-back (bytes place) place at_place (λ c has at. each-of (IsCutOf (bytes place)) (λ x there. cut-c x there) c has) (subst (λ (n : ℕ). cover at_place place n ≡ true) long-is covers) in
        sym other ∙ ap (message_of at_place place) (sym long-is) ∙ one

    pub read-is : frame_at way.seat.meta (bytes place) ≡ Ok frame
    read-is = ap (frame_at way.seat.meta) bytes-are ∙ chunks.cut_up.read

    abbrev AreAll : List Mark → Type 0
    AreAll list = AreSent way.seat.part.numbering way.seat.meta (its_answers play) bytes list

    pub sent-list : (raised : Bool) (befell : List Event) → CameAsMade setting config (pasts_at p steps) befell → AreAll (cut_on raised NewToken (marks setting way befell))
    sent-list raised befell came = sent-cut way.seat.part.numbering way.seat.meta (its_answers play) bytes raised NewToken (marks setting way befell) (events-sent laws.turns 16385 play le is_play befell came)

    counts : (c : Chunk) → Contains its_cuts c → (list : List Mark) → AreAll list → is_proper (chunks_in list) (placed (place_from first) c) ≡ true
    counts c has list are =
        let size = cut-size chunks.room (number_of_place place) message c chunks.cut_up.has_room chunks.cut_up.some has in
        let short : length (bytes place) ≤ longest_message = let long = long-is in let most = chunks.cut_up.short in omega (arith, long, most) in
        proper way.seat.part.numbering way (its_answers play) bytes first next place its_source is-last list (placed (place_from first) c) are (laid-c c has) (at-c c has) size.some size.within short

    -- its datagram lays a chunk
    pub lays : (c : Chunk) (has : Contains its_cuts c) (now : ℕ) (on : List Bool) (s : Option ℕ) (raised : Bool) (befell : List Event) → CameAsMade setting config (pasts_at p steps) (Got now on (its_datagram (found_c c has).0 (found_c c has).1) ∷ befell)
        → verdict setting.group setting.setup (accepted setting befell) (its_datagram (found_c c has).0 (found_c c has).1) ≡ Ok (found_c c has).0
        → Lies (placed_c c has) (fold (piece_on way (place_from first) now s) (cut_on raised NewToken (marks setting way befell)) (parts_of (found_c c has).0))
    lays c has now on s raised befell came e =
        lies-among way.seat.part.numbering way (its_answers play) bytes first next place its_source is-last now s (chunk_bytes c) c
        (sent-kept way.seat.part.numbering way (its_answers play) bytes first next now s refl its_source) (read-c c has) (λ list are. counts c has list are) (parts_of (found_c c has).0) (cut_on raised NewToken (marks setting way befell))
        (parts-sent laws.turns 16385 play le is_play now on (its_datagram (found_c c has).0 (found_c c has).1) befell (found_c c has).0 came e) (sent-list raised befell came.1) (found_c c has).2

    -- where all chunks lie there, they cover it
    pub all-covered : ((c : Chunk) (has : Contains its_cuts c) → Lies (placed_c c has) (marks setting way (events config r steps))) → cover (chunks_in (marks setting way (events config r steps))) place its_total ≡ true
    all-covered lies =
        let list = marks setting way (events config r steps) in
        let each : (c : Chunk) → Contains at_place c → Contains (chunks_in list) c = λ c has. has-contains c (chunks_in list) (each-of (λ x. Lies x list) (λ x there. lies x there) c has) in
        let covers : cover (chunks_in list) place (length message) ≡ true =
        cuts-cover chunks.room place message (chunks_in list) chunks.cut_up.has_room (λ j d below. each (get_or at_place j d) (j, below, get_or_default at_place j (get_or at_place j d) d below)) in
        subst (λ (n : ℕ). cover (chunks_in list) place n ≡ true) long-is covers

    -- ---- an older datagram

    pub are-before : AreTurns config group last.before
    are-before = (subst (AreTurns config group) last.past_is its_are).1

    few-places : place ≤ first + 65536
    few-places = let after = ClosingGot.next-is laws.turns play is_play own closing le last took in let few = is_play.few in omega (arith, after, few)

    pub older-source : Source way (answered_by group w last.before) first place
    older-source = record { spans = λ f answer. answers-span (settings_at group w) (writer_past w last.before) f answer; few = few-places }

    -- it leaves what the chunks cover
    pub older-same : (now : ℕ) (on : List Bool) (s : Option ℕ) (other : List ℕ) (befell : List Event) (opened : Opened) → verdict setting.group setting.setup (accepted setting befell) other ≡ Ok opened → WasMade last.before other → (list : List Mark)
        → cover (chunks_in (fold (piece_on way (place_from first) now s) list (if slice_index_or on i false then parts_of opened else []))) place its_total ≡ cover (chunks_in list) place its_total
    older-same now on s other befell opened e was list =
        let older = answered_by group w last.before in
        let old_bytes = spelled_at config group w last.before are-before in
        let old_piece = IsPieceOf (IsOfAnswer way.seat.meta older) (IsChunkOf way.seat.meta older old_bytes) way.seat.meta in
        older-parts way older old_bytes first place its_total older-source now s (if slice_index_or on i false then parts_of opened else []) list
        (all-on old_piece (slice_index_or on i false) (parts_of opened) (own-pieces laws.turns config group readers i w is.matched last.before are-before (accepted setting befell) other opened was e))
