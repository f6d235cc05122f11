-- WHAT IS TOLD of a matched reader when a session is closed.
use Rattle.std.proofs.Common.{◌≡◌, refl, sym, ap, ◌∙◌, subst, arith, ℕ, ◌<◌, ◌≤◌, ◌⊎◌, inl, inr, List, ◌∷◌, ◌++◌, length, Option, Some, None, Contains}
use Rattle.std.specs.Prelude.{true, ◌%◌, ◌^◌, ◌-◌, min, take, reverse, IfSome, IsSomeAnd, option_map, option_and_then}
use Rattle.std.proofs.lemmas.Bool.{cases_lt}
use Rattle.std.proofs.lemmas.List.{get_or_past}
use Rattle.std.specs.List.Sorted.{IsNonDecreasingBy}
use Rattle.dataset_meta.specs.DataValues.{DataValue}
use Rattle.row_words.specs.Belonging.{row_in}
use Rattle.pubsub_model.specs.Cadence.{WriterTurn, WriterDeed, HadTurn, is_data}
use Rattle.pubsub_model.specs.Records.{Arrival, Held, since_cut, records, held_in, held}
use Rattle.dataset_reader.specs.Kept.{Kept}
use Rattle.dataset_reader.specs.Keeping.{KeepsBy}
use Rattle.config_tables.specs.declared.words.NumberingWord.{NumberingWord}
use Rattle.config_tables.specs.declared.words.NumberingWord.TheVariants as words
use Rattle.ps_config.specs.declared.parts.Config.{Config}
use Rattle.ps_config.specs.declared.parts.ReadGroupPart.{ReadGroupPart}
use Rattle.ps_config.specs.declared.parts.ReaderPart.{ReaderPart}
use Rattle.ps_config.specs.declared.parts.GroupPart.{GroupPart}
use Rattle.ps_report.specs.declared.closed.Closed.{Closed}
use Rattle.ps_report.specs.declared.closed.HeldEnd.{HeldEnd}
use Rattle.ps_report.specs.declared.closed.ReaderEnd.{ReaderEnd}
use Rattle.ps_report.specs.declared.closed.WriterEnd.{WriterEnd}
use Rattle.ps_report.specs.Conditions.{writers_of}
use Rattle.ps_report.specs.Told.{TellsHeld, TellsNumber, log_of, grouped_readers}
use Rattle.pubsub_model.specs.Answers.{version_of}
use Rattle.ps_report.specs.Told as told
use Rattle.group_laws.specs.Matching.{reader_at as part_at}
use Rattle.writer_group.specs.Payloads.{writer_at}
use Rattle.reader_group.specs.Members.{MemberValue, seat_at, no_seat, numbering_of}
use Rattle.reader_group.specs.Settings.{group_at as read_group_at, no_group as no_read_group, setting_of, seat_in}
use Rattle.session_model.specs.Steps.{Plan, Step}
use Rattle.session_model.specs.Deeds.{log_at, writer_deeds}
use Rattle.writer_group.specs.Parts.{group_at, no_group}
use Rattle.session_model.specs.Events.{reader_at}
use Rattle.session_model.specs.Keeping.{AreSteps, IsPlan}
use Rattle.session_model.specs.Closing.{IsClosedAfter, IsReaderEnd, IsWriterEnd, reader_places, writer_places}
use Rattle.session_laws.specs.Reading.{IsMatchedIn, ReadsByRecords, arrivals_at, first_number_of}
use Rattle.session_laws.specs.Headline.{InSession, IsPublished, PublishesVersion, answered_turn, meta_of}
use Rattle.session_laws.specs.Printed.{EndsReader, EndsWriter, TellsVersion, TellsPublished, TellsReader, TellsWriter, row_by, number_by, why_by, breaks_by}
use Rattle.session_laws.specs.Complete.{ClosingComes, IsNewestTold}
use Rattle.session_laws.specs.Sessions.{AreVersions, ClosesWith, SamplesRise, TakesWhatWasSent}
use Rattle.session_laws.specs.Pasts.{settings_at}
use Rattle.session_laws.specs.Telling.{HasRun, IsReaderTold, IsWriterTold, TellsHeadline}
use Rattle.session_laws.proofs.Versions.Ends.{zip-get, zip-there, writer-part, reader-part, writer-place, reader-place, found-log}

-- the laws that this stands on
pub record HeadlineLaws : Type 0 where
  pub reads : (p : Plan) (r i g w : ℕ) (steps : List Step) → InSession p r i g w steps → ReadsByRecords p.config r i (first_number_of p.config g w) steps
  pub holds : (p : Plan) (r i g w : ℕ) (steps : List Step) (rows : ℕ → ℕ → List DataValue) (row : List DataValue) → InSession p r i g w steps → AreVersions p steps rows
      → (reader_at p.config r i steps).kept.row ≡ Some row → IsPublished p r i g w steps rows (reader_at p.config r i steps).kept.number row
  pub never : (p : Plan) (g w : ℕ) (steps : List Step) → IsPlan p → AreSteps p steps → SamplesRise p steps → w < length (group_at p.config g).writer
      → IsNonDecreasingBy (λ (entry : ℕ × ℕ). entry.1) (log_at p g w steps)

-- ---- ends

pub writer-index : (config : Config) (g w : ℕ) → w < length (group_at config g).writer → g < length config.group
writer-index config g w within = on (cases_lt g (length config.group))
  where
    on : (g < length config.group) ⊎ (length config.group ≤ g) → g < length config.group
    on (inl less) = less
    on (inr past) =
        let none : group_at config g ≡ no_group = get_or_past config.group g no_group past in
        let wrong : w < 0 = subst (λ (group : GroupPart). w < length group.writer) none within in
        absurd (omega (arith, wrong))

some-index : (config : Config) (r i : ℕ) → i < length (read_group_at config r).reader → r < length config.readgroup
some-index config r i within = on (cases_lt r (length config.readgroup))
  where
    on : (r < length config.readgroup) ⊎ (length config.readgroup ≤ r) → r < length config.readgroup
    on (inl less) = less
    on (inr past) =
        let none : read_group_at config r ≡ no_read_group = get_or_past config.readgroup r no_read_group past in
        let wrong : i < 0 = subst (λ (group : ReadGroupPart). i < length group.reader) none within in
        absurd (omega (arith, wrong))

pub ends-there : (p : Plan) (r i g w : ℕ) (steps : List Step) (closed : Closed) → InSession p r i g w steps → IsClosedAfter p steps closed
    → ((end : ReaderEnd) × EndsReader p.config closed r i end) × ((end : WriterEnd) × EndsWriter p.config closed g w end)
ends-there p r i g w steps closed is after =
    let reader = reader-place p.config r i (some-index p.config r i is.matched.within) is.matched.within in
    let writer = writer-place p.config g w is.there is.matched.reads.within in
    let a = zip-there (IsReaderEnd p steps) (reader_places p.config) closed.readers reader.0 (r, i) after.readers reader.1 in
    let b = zip-there (IsWriterEnd p steps) (writer_places p.config) closed.writers writer.0 (g, w) after.writers writer.1 in
    ((a.0, record { index = reader.0; place = reader.1; end_is = a.1 }), (b.0, record { index = writer.0; place = writer.1; end_is = b.1 }))

pub writer-end : (p : Plan) (g w : ℕ) (steps : List Step) (closed : Closed) (end : WriterEnd) → IsClosedAfter p steps closed → EndsWriter p.config closed g w end → IsWriterEnd p steps (g, w) end
writer-end p g w steps closed end after ends = zip-get (IsWriterEnd p steps) (writer_places p.config) closed.writers ends.index (g, w) end after.writers ends.place ends.end_is

pub reader-end : (p : Plan) (r i : ℕ) (steps : List Step) (closed : Closed) (end : ReaderEnd) → IsClosedAfter p steps closed → EndsReader p.config closed r i end → IsReaderEnd p steps (r, i) end
reader-end p r i steps closed end after ends = zip-get (IsReaderEnd p steps) (reader_places p.config) closed.readers ends.index (r, i) end after.readers ends.place ends.end_is

pub reader-told : (p : Plan) (r i : ℕ) (steps : List Step) (closed : Closed) (end : ReaderEnd) → IsClosedAfter p steps closed → EndsReader p.config closed r i end
    → IfSome end.held (λ held. TellsHeld p.config closed.writers (read_group_at p.config r) (part_at (read_group_at p.config r) i) held)
reader-told p r i steps closed end after ends =
    zip-get (told.TellsReader p.config closed.writers) (grouped_readers p.config.readgroup) closed.readers ends.index (read_group_at p.config r, part_at (read_group_at p.config r) i) end
    after.told.readers (reader-part p.config ends.index r i ends.place) ends.end_is

-- ---- what is kept

none-of : {X Y : Type 0} (f : X → Y) (o : Option X) → option_map f o ≡ None → o ≡ None
none-of f None e = refl
none-of f (Some x) e = absurd (cc)

min-zero : (n : ℕ) → 0 ≡ min 0 n
min-zero n = omega arith

row-kept : (numbering : NumberingWord) (arrivals : List Arrival) (kept : Kept) → KeepsBy (numbering_of numbering) arrivals kept → kept.row ≡ row_by numbering arrivals
row-kept words.Message arrivals kept keeps = keeps.over.row
row-kept words.None arrivals kept keeps = keeps.row

number-kept : (numbering : NumberingWord) (arrivals : List Arrival) (kept : Kept) → KeepsBy (numbering_of numbering) arrivals kept → kept.number ≡ number_by numbering arrivals
number-kept words.Message arrivals kept keeps = keeps.over.number
number-kept words.None arrivals kept keeps = keeps.number

why-kept : (numbering : NumberingWord) (arrivals : List Arrival) (kept : Kept) → KeepsBy (numbering_of numbering) arrivals kept → kept.row ≡ None → kept.why ≡ why_by numbering arrivals
why-kept words.Message arrivals kept keeps none = keeps.over.why (none-of (λ (h : Held). h.row) (held_in (records (since_cut arrivals))) (sym keeps.over.row ∙ none))
why-kept words.None arrivals kept keeps none = keeps.why

breaks-kept : (numbering : NumberingWord) (arrivals : List Arrival) (kept : Kept) → KeepsBy (numbering_of numbering) arrivals kept → kept.breaks ≡ min (length (breaks_by numbering arrivals)) (2 ^ 64 - 1)
breaks-kept words.Message arrivals kept keeps = keeps.over.count
breaks-kept words.None arrivals kept keeps = keeps.breaks ∙ min-zero (2 ^ 64 - 1)

recent-kept : (numbering : NumberingWord) (arrivals : List Arrival) (kept : Kept) → KeepsBy (numbering_of numbering) arrivals kept → kept.recent ≡ take 8 (breaks_by numbering arrivals)
recent-kept words.Message arrivals kept keeps = keeps.over.recent
recent-kept words.None arrivals kept keeps = keeps.recent

-- ---- what is told

pub if-some : {X : Type 0} (P : X → Type 0) (o : Option X) (x : X) → o ≡ Some x → IfSome o P → P x
if-some P o x e h = subst (λ o. IfSome o P) e h

-- the number that is told is the held one, and the version that the log has at it
tells-by : (numbering : NumberingWord) (log : List (ℕ × ℕ)) (number : Option ℕ) (place version : ℕ) (held : HeldEnd) → TellsNumber numbering held.number → held.number ≡ number
    → held.version ≡ option_and_then (version_of log) held.number → ((n : ℕ) → number ≡ Some n → n ≡ place % 65536) → version_of log (place % 65536) ≡ Some version
    → TellsVersion numbering held place version
tells-by words.None log number place version held none same own is named = (none, own ∙ ap (option_and_then (version_of log)) none)
tells-by words.Message log number place version held some same own is named = on held.number refl some
  where
    on : (o : Option ℕ) → held.number ≡ o → IsSomeAnd o (λ n. n < 65536) → (held.number ≡ Some (place % 65536)) × (held.version ≡ Some version)
    on None e h = absurd h
    on (Some n) e h =
        let at : n ≡ place % 65536 = is n (sym same ∙ e) in
        let number_is : held.number ≡ Some (place % 65536) = e ∙ ap (λ (n : ℕ). Some n) at in
        (number_is, own ∙ ap (option_and_then (version_of log)) number_is ∙ named)

pub published-told : (p : Plan) (r i g w : ℕ) (steps : List Step) (rows : ℕ → ℕ → List DataValue) (log : List (ℕ × ℕ)) (held : HeldEnd) (member : MemberValue) (row : List DataValue)
    → log ≡ log_at p g w steps → row_in (meta_of p r i).fields held.row.words ≡ row → held.number ≡ member.kept.number
    → TellsNumber (seat_at (setting_of p.config r).seats i).part.numbering held.number → held.version ≡ option_and_then (version_of log) held.number
    → IsPublished p r i g w steps rows member.kept.number row → TellsPublished p r i g w rows log held
published-told p r i g w steps rows log held member row log_is row_is number tells own is =
    record {
      place = is.place;
      version = is.version;
      logged = subst (λ (l : List (ℕ × ℕ)). Contains l (is.place, is.version)) (sym log_is) is.logged;
      tells = tells-by (seat_at (setting_of p.config r).seats i).part.numbering log member.kept.number is.place is.version held tells number own is.number_is
          (ap (λ (l : List (ℕ × ℕ)). version_of l (is.place % 65536)) log_is ∙ is.named);
      row = row_is ∙ is.row_is;
    }

-- the seat of a reader has its part
seat-part : (config : Config) (r i : ℕ) → i < length (read_group_at config r).reader → (seat_at (setting_of config r).seats i).part ≡ part_at (read_group_at config r) i
seat-part config r i within =
    ap (λ (s : Rattle.reader_group.specs.Members.Seat). s.part) (Rattle.std.proofs.lemmas.List.get_or-map (seat_in config) (read_group_at config r).reader i no_seat.part no_seat within)

-- the log that a report finds for the reader
pub log-found : (p : Plan) (r i g w : ℕ) (steps : List Step) (closed : Closed) (writer : WriterEnd) → InSession p r i g w steps → EndsWriter p.config closed g w writer
    → log_of (writers_of p.config.group) closed.writers (part_at (read_group_at p.config r) i).writer ≡ writer.log
log-found p r i g w steps closed writer is ends =
    ap (log_of (writers_of p.config.group) closed.writers) is.matched.reads.id
    ∙ found-log (writers_of p.config.group) closed.writers ends.index (writer_at (group_at p.config g) w) writer (writer-part p.config ends.index g w ends.place) ends.end_is is.plan.good.sound.one_writer

pub reader-tells : (laws : HeadlineLaws) (p : Plan) (r i g w : ℕ) (steps : List Step) (rows : ℕ → ℕ → List DataValue) (closed : Closed) (reader : ReaderEnd) (writer : WriterEnd)
    → InSession p r i g w steps → AreVersions p steps rows → IsClosedAfter p steps closed → EndsReader p.config closed r i reader → EndsWriter p.config closed g w writer
    → TellsReader p r i g w steps rows writer.log reader
unfolding published-told
reader-tells laws p r i g w steps rows closed reader writer is versions after ends ends_writer =
    let member = reader_at p.config r i steps in
    let numbering = (seat_at (setting_of p.config r).seats i).part.numbering in
    let arrivals = arrivals_at p.config r i (first_number_of p.config g w) steps in
    let keeps : KeepsBy (numbering_of numbering) arrivals member.kept = (laws.reads p r i g w steps is).keeps in
    let shows = (reader-end p r i steps closed reader after ends).shows in
    let log_is = (writer-end p g w steps closed writer after ends_writer).log in
    let values : HeldEnd → List DataValue = λ held. row_in (meta_of p r i).fields held.row.words in
    let kept_row : (held : HeldEnd) → reader.held ≡ Some held → member.kept.row ≡ Some (values held) = λ held e. sym shows.row ∙ ap (option_map values) e in
    let its_published : (held : HeldEnd) → reader.held ≡ Some held → IsPublished p r i g w steps rows member.kept.number (values held) =
    λ held e. laws.holds p r i g w steps rows (values held) is versions (kept_row held e) in
    record {
      held = shows.row ∙ row-kept numbering arrivals member.kept keeps;
      number = λ held e. if-some (λ held. held.number ≡ member.kept.number) reader.held held e shows.number ∙ number-kept numbering arrivals member.kept keeps;
      holds = λ held e.
          let tells = if-some (λ held. TellsHeld p.config closed.writers (read_group_at p.config r) (part_at (read_group_at p.config r) i) held) reader.held held e (reader-told p r i steps closed reader after ends) in
          let number = if-some (λ held. held.number ≡ member.kept.number) reader.held held e shows.number in
          let own = tells.own is.matched.groups.publisher ∙ ap (λ (l : List (ℕ × ℕ)). option_and_then (version_of l) held.number) (log-found p r i g w steps closed writer is ends_writer) in
          let its = subst (λ (part : ReaderPart). TellsNumber part.numbering held.number) (sym (seat-part p.config r i is.matched.within)) tells.number in
          published-told p r i g w steps rows writer.log held member (values held) log_is refl number its own (its_published held e);
      sent = λ held e. let published = its_published held e in record { row = published.sent; its_version = published.its_version };
      waits = λ e. shows.why ∙ why-kept numbering arrivals member.kept keeps (sym shows.row ∙ ap (option_map values) e);
      breaks = shows.breaks ∙ breaks-kept numbering arrivals member.kept keeps;
      recent = shows.recent ∙ ap reverse (recent-kept numbering arrivals member.kept keeps);
    }

pub writer-tells : (laws : HeadlineLaws) (p : Plan) (g w : ℕ) (steps : List Step) (closed : Closed) (end : WriterEnd) → IsPlan p → AreSteps p steps → SamplesRise p steps
    → IsClosedAfter p steps closed → w < length (group_at p.config g).writer → EndsWriter p.config closed g w end → TellsWriter p g w steps end
writer-tells laws p g w steps closed end plan are rise after within ends =
    let log_is = (writer-end p g w steps closed end after ends).log in
    record {
      log = log_is;
      never = subst (λ (l : List (ℕ × ℕ)). IsNonDecreasingBy (λ (entry : ℕ × ℕ). entry.1) l) (sym log_is) (laws.never p g w steps plan are rise within);
    }

-- ---- the headline

pub record EndLaws : Type 0 where
  pub there : (p : Plan) (r i g w : ℕ) (steps : List Step) (closed : Closed) → InSession p r i g w steps → IsClosedAfter p steps closed
      → ((end : ReaderEnd) × EndsReader p.config closed r i end) × ((end : WriterEnd) × EndsWriter p.config closed g w end)
  pub readers : (p : Plan) (r i g w : ℕ) (steps : List Step) (rows : ℕ → ℕ → List DataValue) (closed : Closed) (reader : ReaderEnd) (writer : WriterEnd) → InSession p r i g w steps → AreVersions p steps rows
      → IsClosedAfter p steps closed → EndsReader p.config closed r i reader → EndsWriter p.config closed g w writer → TellsReader p r i g w steps rows writer.log reader
  pub writers : (p : Plan) (g w : ℕ) (steps : List Step) (closed : Closed) (end : WriterEnd) → IsPlan p → AreSteps p steps → SamplesRise p steps → IsClosedAfter p steps closed
      → w < length (group_at p.config g).writer → EndsWriter p.config closed g w end → TellsWriter p g w steps end
  pub publish : (p : Plan) (g w : ℕ) (steps : List Step) (rows : ℕ → ℕ → List DataValue) (later before : List WriterDeed) (turn : WriterTurn) → IsPlan p → AreSteps p steps → SamplesRise p steps → AreVersions p steps rows
      → w < length (group_at p.config g).writer → writer_deeds p g w steps ≡ later ++ HadTurn turn ∷ before → is_data (answered_turn (settings_at (group_at p.config g) w) before turn) ≡ true
      → PublishesVersion p steps (settings_at (group_at p.config g) w) (writer_at (group_at p.config g) w).dataset rows before turn
  pub newest : (p : Plan) (r i g w : ℕ) (steps : List Step) (rows : ℕ → ℕ → List DataValue) (closed : Closed) (version : ℕ) (own : WriterTurn) → InSession p r i g w steps → AreVersions p steps rows
      → IsClosedAfter p steps closed → ClosesWith steps (writer_at (group_at p.config g) w).dataset version → ClosingComes p r i g w steps own → IsNewestTold p r i g w rows closed version

writer-told : (laws : EndLaws) (p : Plan) (g w : ℕ) (steps : List Step) (rows : ℕ → ℕ → List DataValue) (closed : Closed) → HasRun p steps rows → IsClosedAfter p steps closed → w < length (group_at p.config g).writer
    → IsWriterTold p g w steps closed
writer-told laws p g w steps rows closed is after within =
    let place = writer-place p.config g w (writer-index p.config g w within) within in
    let at = zip-there (IsWriterEnd p steps) (writer_places p.config) closed.writers place.0 (g, w) after.writers place.1 in
    let ends : EndsWriter p.config closed g w at.0 = record { index = place.0; place = place.1; end_is = at.1 } in
    record { end = at.0; ends = ends; tells = laws.writers p g w steps closed at.0 is.plan is.steps_are is.rise after within ends }

-- a matched reader in a session
session-of : (p : Plan) (r i g w : ℕ) (steps : List Step) (rows : ℕ → ℕ → List DataValue) → HasRun p steps rows → IsMatchedIn p.config r i g w → TakesWhatWasSent p r steps → InSession p r i g w steps
session-of p r i g w steps rows is matched taken = record {
  plan = is.plan;
  steps_are = is.steps_are;
  run = is.run;
  rise = is.rise;
  there = writer-index p.config g w matched.reads.within;
  matched = matched;
  honest = taken;
}

reader-told-so : (laws : EndLaws) (p : Plan) (r i g w : ℕ) (steps : List Step) (rows : ℕ → ℕ → List DataValue) (closed : Closed) → HasRun p steps rows → IsClosedAfter p steps closed → IsMatchedIn p.config r i g w
    → TakesWhatWasSent p r steps → IsReaderTold p r i g w steps rows closed
reader-told-so laws p r i g w steps rows closed is after matched taken =
    let session = session-of p r i g w steps rows is matched taken in
    let ends = laws.there p r i g w steps closed session after in
    record {
      reader = ends.0.0;
      writer = ends.1.0;
      ends = ends.0.1;
      its_writer = ends.1.1;
      tells = laws.readers p r i g w steps rows closed ends.0.0 ends.1.0 session is.versions after ends.0.1 ends.1.1;
    }

pub headline : (laws : EndLaws) (p : Plan) (steps : List Step) (rows : ℕ → ℕ → List DataValue) (closed : Closed) → HasRun p steps rows → IsClosedAfter p steps closed → TellsHeadline p steps rows closed
headline laws p steps rows closed is after = record {
  whole_versions = λ g w later before turn within split e. laws.publish p g w steps rows later before turn is.plan is.steps_are is.rise is.versions within split e;
  never_older = λ g w within. writer-told laws p g w steps rows closed is after within;
  readers = λ r i g w matched taken. reader-told-so laws p r i g w steps rows closed is after matched taken;
  newest = λ r i g w version own matched taken closes comes. laws.newest p r i g w steps rows closed version own (session-of p r i g w steps rows is matched taken) is.versions after closes comes;
}
