-- A reader of the lines keeps what *Records* says of its writer's answers, at the writer's own places.
use Rattle.std.proofs.Common.{◌≡◌, ◌⊎◌, inl, inr, refl, sym, ap, ◌∙◌, subst, arith, ℕ, ◌+◌, ◌<◌, ◌≤◌, Bool, true, false, cond, List, [], ◌∷◌, ◌++◌, length, map, Option, Some, None, All}
use Rattle.std.specs.Prelude.{◌==◌, ◌&&◌, filter_map, reverse, slice_index_or, ⊤}
use Rattle.std.specs.List.{cons_option}
use Rattle.std.proofs.lemmas.Bool.{eqb-true, false≢true}
use Rattle.std.proofs.lemmas.Bool.Decides.{nat_tests}
use Rattle.std.proofs.lemmas.List.{reverse-append}
use Rattle.std.proofs.lemmas.List.Elements.{All-cons, All-head, All-nil, All-tail, All-weaker}
use Rattle.seq_number.specs.Numbers.{IsNear, number_of_place}
use Rattle.dataset_meta.specs.DataValues.{DataValue}
use Rattle.dataset_meta.specs.Metas.{MetaData, no_meta}
use Rattle.dataset_meta.specs.Rows.{patch_cut, row_cut}
use Rattle.pubsub_model.specs.Answers.{InSpan, IsAnswer, IsAnswerCut, IsBareAnswer, without_place}
use Rattle.pubsub_model.specs.Cadence.{Answered, Settings, WriterDeed, cadence, next_place}
use Rattle.pubsub_model.specs.Frames.{PlacedFrame, Whole, Change, Alive, IsPlacedFrame, carried, placed_cut}
use Rattle.pubsub_model.specs.Records.{Arrival, Came, Cut, Item, at, place_in, since_cut}
use Rattle.pubsub_model.proofs.AnswerPlaces.{answers-span}
use Rattle.pubsub_model.proofs.CadenceLaws.{length-log_of}
use Rattle.pubsub_model.proofs.HeldRows.{item-placed}
use Rattle.frame_codec.specs.Frames as frames
use Rattle.frame_codec.specs.Frames.{Frame}
use Rattle.frame_codec.specs.Carrying.{content_of}
use Rattle.dataset_reader.specs.Answers.{IsChange}
use Rattle.dataset_reader.specs.Keeping.{AreArrivals, AreNearInEach, Event, Framed, IsOfMajor, KeepsBy}
use Rattle.config_tables.specs.declared.words.NumberingWord.{NumberingWord}
use Rattle.config_tables.specs.declared.words.NumberingWord.TheVariants as words
use Rattle.config_tables.specs.declared.words.Layout.{Layout}
use Rattle.config_tables.specs.declared.words.Security.{Security}
use Rattle.ps_config.specs.declared.parts.Config.{Config}
use Rattle.ps_config.specs.declared.parts.ReaderPart.{ReaderPart}
use Rattle.writer_group.specs.Parts.{group_at}
use Rattle.writer_group.specs.Payloads.{meta_at as meta_of_writer, writer_at}
use Rattle.writer_group.specs.Turns.{writer_past}
use Rattle.reader_group.specs.Members.{numbering_of}
use Rattle.reader_group.specs.Settings.{group_at as read_group_at}
use Rattle.group_laws.specs.Matching.{reader_at}
use Rattle.session_model.specs.Deeds.{answered_at, writer_deeds}
use Rattle.session_model.specs.Keeping.{AreSteps}
use Rattle.session_model.specs.Steps.{Plan, Step}
use Rattle.session_model.proofs.Ticks.{log-few}
use Rattle.session_laws.specs.Pasts.{settings_at}
use Rattle.session_laws.specs.Plays.{IsAnswerBy, ItemsAre}
use Rattle.session_laws.proofs.Versions.Counts.{ticks-few}
use Rattle.session_laws.proofs.HeldRows.Near.{items-since, span-near}
use Rattle.json_frames.specs.Parts.{Part, meta_at}
use Rattle.json_text.specs.Matching.{is_plain}
use Rattle.json_text.specs.Readers.{AreNearBy, HasRecords, brought, came, is_for, kept_for}
use Rattle.cmd_json.specs.Owned.{HaveOwnFrames, HasOwnRecords, IsAnsweredFrame, IsOfWriter, IsPlainWriter, IsToldFor, KeepsOwn}

-- ---- a frame that comes

carried-cut : (meta : MetaData) (frame : PlacedFrame) → carried (placed_cut meta frame) ≡ carried frame
carried-cut meta (Whole place row) = refl
carried-cut meta (Change place patch) = refl
carried-cut meta (Alive next) = refl

placed-frame : (first next : ℕ) (meta : MetaData) (frame : PlacedFrame) → InSpan first next frame → IsPlacedFrame (placed_cut meta frame)
placed-frame first next meta (Whole place row) span = tt
placed-frame first next meta (Change place patch) span = tt
placed-frame first next meta (Alive n) span = let low = span.0 in omega (arith, low)

module _ (meta : MetaData) (major : ℕ) (s : Settings) (deeds : List WriterDeed) (major_is : major ≡ meta.major) where
  abbrev answered : List Answered
  answered = cadence s deeds

  abbrev IsIts : Frame → Type 0
  IsIts frame = IsAnsweredFrame meta answered frame

  -- arrivals that these events can be, each of which the writer answered
  pub record HasArrivals (word : NumberingWord) (events : List Event) : Type 0 where
    pub arrivals : List Arrival
    pub are : AreArrivals (numbering_of word) major events arrivals
    pub own : ItemsAre (IsAnswerBy word meta answered) arrivals

  its-major : (frame : Frame) → IsIts frame → IsOfMajor major frame.major
  its-major frame is = subst (λ (m : ℕ). IsOfMajor m frame.major) (sym major_is) is.major

  -- by numbers it stands at its place
  by-number : (frame : Frame) (events : List Event) → IsIts frame → HasArrivals words.Message events → HasArrivals words.Message (Framed frame None ∷ events)
  by-number frame events is earlier =
      let cut = placed_cut meta is.placed in
      let item : Item = at 0 None cut in
      let span = answers-span s deeds is.placed is.answer in
      record {
        arrivals = Came item ∷ earlier.arrivals;
        are = inr (
          item,
          earlier.arrivals,
          refl,
          refl,
          record {
            version = its-major frame is;
            number = is.number ∙ ap (λ (n : ℕ). Some n) (sym (carried-cut meta is.placed));
            content = is.content;
            place = placed-frame s.first_number (next_place s answered) meta is.placed span;
          },
          earlier.are,
        );
        own = (record { frame = is.placed; answer = is.answer; cut = refl }, earlier.own);
      }

  -- with no numbering it has no place, and a delta frame is nothing
  bare-item : (frame : Frame) (placed bare : PlacedFrame) (events : List Event) → IsAnswer answered placed → without_place (placed_cut meta placed) ≡ Some bare → IsOfMajor major frame.major
      → frame.content ≡ content_of bare → ¬ IsChange frame.content → HasArrivals words.None events → HasArrivals words.None (Framed frame None ∷ events)
  bare-item frame placed bare events answer is own content not earlier =
      let item : Item = at 0 None bare in
      record {
        arrivals = Came item ∷ earlier.arrivals;
        are = inr (item, earlier.arrivals, refl, refl, (own, content, not), earlier.are);
        own = (record { frame = placed; answer = answer; bare = is }, earlier.own);
      }

  without-number : (frame : Frame) (placed : PlacedFrame) (events : List Event) → IsAnswer answered placed → IsOfMajor major frame.major → frame.content ≡ content_of (placed_cut meta placed)
      → HasArrivals words.None events → HasArrivals words.None (Framed frame None ∷ events)
  without-number frame (Whole place row) events answer own content earlier =
      bare-item frame (Whole place row) (Whole 0 (row_cut meta row)) events answer refl own content (λ change. whole-change frame.content (row_cut meta row) change.0 content change.1) earlier
    where
      whole-change : (c : frames.Content) (r : List DataValue) (patch : List (ℕ × DataValue)) → c ≡ frames.Whole r → c ≡ frames.Change patch → ⊥
      whole-change c r patch e f = cc
  without-number frame (Alive next) events answer own content earlier =
      bare-item frame (Alive next) (Alive 1) events answer refl own content (λ change. alive-change frame.content change.0 content change.1) earlier
    where
      alive-change : (c : frames.Content) (patch : List (ℕ × DataValue)) → c ≡ frames.Alive → c ≡ frames.Change patch → ⊥
      alive-change c patch e f = cc
  without-number frame (Change place patch) events answer own content earlier =
      record { arrivals = earlier.arrivals; are = inl (inr (patch_cut meta patch, content), earlier.are); own = earlier.own }

  comes : (word : NumberingWord) (frame : Frame) (events : List Event) → IsIts frame → HasArrivals word events → HasArrivals word (Framed frame None ∷ events)
  comes words.Message frame events is earlier = by-number frame events is earlier
  comes words.None frame events is earlier = without-number frame is.placed events is.answer (its-major frame is) is.content earlier

  -- ---- all that comes to a reader

  module _ (reader : ReaderPart) where
    abbrev IsForIt : Part → Type 0
    IsForIt part = is_for reader part.writer part.set ≡ true → IsIts part.frame

    abbrev AreForIt : List Part → Type 0
    AreForIt [] = ⊤
    AreForIt (part ∷ parts) = IsForIt part × AreForIt parts

    for-append : (one other : List Part) → AreForIt one → AreForIt other → AreForIt (one ++ other)
    for-append [] other first second = second
    for-append (part ∷ one) other first second = (first.0, for-append one other first.1 second)

    for-reverse : (parts : List Part) → AreForIt parts → AreForIt (reverse parts)
    for-reverse [] are = tt
    for-reverse (part ∷ parts) are = subst AreForIt (sym (reverse-append (part ∷ []) parts)) (for-append (reverse parts) (part ∷ []) (for-reverse parts are.1) (are.0, tt))

    one-more : (word : NumberingWord) (b : Bool) (part : Part) (events : List Event) → (b ≡ true → IsIts part.frame) → HasArrivals word events
        → HasArrivals word (cons_option (cond b (Some (Framed part.frame None)) None) events)
    one-more word true part events its earlier = comes word part.frame events (its refl) earlier
    one-more word false part events its earlier = earlier

    arrive : (word : NumberingWord) (parts : List Part) → AreForIt parts → HasArrivals word (filter_map (brought reader) parts)
    arrive word [] are = record { arrivals = []; are = refl; own = tt }
    arrive word (part ∷ parts) are = one-more word (is_for reader part.writer part.set) part (filter_map (brought reader) parts) are.0 (arrive word parts are.1)

    pub all-arrive : (word : NumberingWord) (parts : List Part) → AreForIt parts → HasArrivals word (came reader parts)
    all-arrive word parts are = arrive word (reverse parts) (for-reverse parts are)

  -- ---- they are near

  abbrev InOne : ℕ → Type 0
  InOne place = (s.first_number ≤ place) × (place ≤ s.first_number + 16384)

  mapped : (items : List Item) → All (λ (item : Item). InOne (place_in item)) items → All InOne (map place_in items)
  mapped [] all = All-nil InOne
  mapped (item ∷ items) all =
      All-cons InOne (place_in item) (map place_in items) (All-head (λ (i : Item). InOne (place_in i)) item items all) (mapped items (All-tail (λ (i : Item). InOne (place_in i)) item items all))

  near-each : (arrivals : List Arrival) → next_place s answered ≤ s.first_number + 16385 → ItemsAre (IsAnswerCut meta answered) arrivals → AreNearInEach arrivals
  near-each [] few own = tt
  near-each (Cut why ∷ before) few own = near-each before few own
  near-each (Came item ∷ before) few own = (
    span-near s.first_number (map place_in (since_cut (Came item ∷ before)))
        (mapped (since_cut (Came item ∷ before))
        (All-weaker (IsAnswerCut meta answered) (λ (i : Item). InOne (place_in i))
        (λ i is. let placed = item-placed meta s deeds i is in (placed.0, let lt = placed.1 in omega (arith, lt, few))) (since_cut (Came item ∷ before))
        (items-since (IsAnswerCut meta answered) (Came item ∷ before) own))),
    near-each before few own.1,
  )

  pub near : (word : NumberingWord) (arrivals : List Arrival) → next_place s answered ≤ s.first_number + 16385 → ItemsAre (IsAnswerBy word meta answered) arrivals → AreNearBy (numbering_of word) arrivals
  near words.Message arrivals few own = near-each arrivals few own
  near words.None arrivals few own = tt

-- ---- in a session

for-both : (a b : Bool) → (a && b) ≡ true → (a ≡ true) × (b ≡ true)
for-both true b is = (refl, is)
for-both false b is = absurd (false≢true is)

module _ (p : Plan) (steps : List Step) (are : AreSteps p steps) (parts : List Part) (frames_own : HaveOwnFrames p steps parts) (records : (reader : ReaderPart) → HasRecords p.config parts reader) where
  few-places : (g w : ℕ) → next_place (settings_at (group_at p.config g) w) (answered_at p g w steps) ≤ (settings_at (group_at p.config g) w).first_number + 16385
  few-places g w =
      let few = ticks-few p steps are in
      let ticks = log-few p g w steps in
      let count = length-log_of (settings_at (group_at p.config g) w) (writer_deeds p g w steps) in
      omega (arith, few, ticks, count)

  each-for : (g w : ℕ) (reader : ReaderPart) (major : ℕ) (same : major ≡ (meta_of_writer (group_at p.config g) p.config.dataset w).major) (list : List Part) → IsPlainWriter p.config g w
      → reader.writer ≡ (writer_at (group_at p.config g) w).id → reader.dataset ≡ (writer_at (group_at p.config g) w).dataset → HaveOwnFrames p steps list
      → AreForIt (meta_of_writer (group_at p.config g) p.config.dataset w) major (settings_at (group_at p.config g) w) (writer_deeds p g w steps) same reader list
  each-for g w reader major same [] writer id set own = tt
  each-for g w reader major same (part ∷ list) writer id set own = (
    (λ is.
        let both = for-both (part.writer == reader.writer) (part.set == reader.dataset) is in
        own.0 g w writer (record { id = eqb-true part.writer reader.writer both.0 ∙ id; dataset = eqb-true part.set reader.dataset both.1 ∙ set })),
    each-for g w reader major same list writer id set own.1,
  )

  plain-writer : (r i g w : ℕ) → IsToldFor p.config r i g w → IsPlainWriter p.config g w
  plain-writer r i g w told = record {
    there = told.there;
    within = told.matched.reads.within;
    plain = subst (λ (layout : Layout). is_plain layout (group_at p.config g).security ≡ true) told.matched.groups.layout
        (subst (λ (security : Security). is_plain (read_group_at p.config r).layout security ≡ true) told.matched.groups.security told.plain);
  }

  pub own-records : HasOwnRecords p steps parts
  own-records r i g w told =
      let reader = reader_at (read_group_at p.config r) i in
      let meta = meta_of_writer (group_at p.config g) p.config.dataset w in
      let s = settings_at (group_at p.config g) w in
      let deeds = writer_deeds p g w steps in
      let major = (meta_at p.config.dataset reader.dataset).major in
      let same : major ≡ meta.major = ap (λ (n : ℕ). (slice_index_or p.config.dataset n no_meta).major) told.matched.reads.dataset in
      let each = each-for g w reader major same parts (plain-writer r i g w told) told.matched.reads.id told.matched.reads.dataset frames_own in
      let arrive = all-arrive meta major s deeds same reader reader.numbering parts each in
      let is_near = near meta major s deeds same reader.numbering arrive.arrivals (few-places g w) arrive.own in
      record {
        arrivals = arrive.arrivals;
        are = arrive.are;
        own = arrive.own;
        near = is_near;
        keeps = (records reader).keeps arrive.arrivals arrive.are is_near;
      }
