-- A reader to which the frame of its writer's closing turn came is told to hold the version that the closing tick sampled.
use Rattle.std.proofs.Common.{◌≡◌, refl, sym, ap, ◌∙◌, subst, arith, ℕ, ◌⊎◌, inl, inr, Bool, true, false, List, [], ◌∷◌, ◌++◌, Option, Some, None}
use Rattle.std.specs.Prelude.{◌%◌, ◌==◌, ◌||◌, ◌≤◌, reverse, find, slice_index_or, option_map, option_and_then, if◌then◌else◌}
use Rattle.std.proofs.lemmas.Bool.Decides.{nat_tests}
use Rattle.std.proofs.lemmas.List.{reverse-append}
use Rattle.dataset_meta.specs.DataValues.{DataValue}
use Rattle.dataset_meta.specs.Metas.{MetaData}
use Rattle.row_words.specs.Belonging.{row_in}
use Rattle.seq_number.specs.Numbers.{number_of_place}
use Rattle.config_tables.specs.declared.words.NumberingWord.TheVariants as words
use Rattle.ps_report.specs.declared.closed.Closed.{Closed}
use Rattle.ps_report.specs.declared.closed.HeldEnd.{HeldEnd}
use Rattle.ps_report.specs.declared.closed.ReaderEnd.{ReaderEnd}
use Rattle.ps_report.specs.declared.closed.WriterEnd.{WriterEnd}
use Rattle.ps_report.specs.Told.{TellsHeld}
use Rattle.pubsub_model.specs.Answers.{version_of}
use Rattle.pubsub_model.specs.Cadence.{WriterDeed, WriterTurn}
use Rattle.group_laws.specs.Matching.{reader_at as part_at}
use Rattle.reader_group.specs.Members.{seat_at}
use Rattle.reader_group.specs.Settings.{group_at as read_group_at, setting_of}
use Rattle.writer_group.specs.declared.sampled.Sampled.{Sampled}
use Rattle.writer_group.specs.Parts.{group_at}
use Rattle.writer_group.specs.Payloads.{writer_at}
use Rattle.writer_group.specs.Turns.{GroupDeed, GroupTurn, no_sample}
use Rattle.session_model.specs.Closing.{IsClosedAfter}
use Rattle.session_model.specs.Counts.{is_closed, most_ticks}
use Rattle.session_model.specs.Deeds.{log_at}
use Rattle.session_model.specs.Events.{reader_at}
use Rattle.session_model.specs.Keeping.{AreStepsOf}
use Rattle.session_model.specs.Steps.{Plan, Step, Enable, Disable, Append, Tick, Pump}
use Rattle.session_laws.specs.Bare.{ClosingCameLast, ClosingGotLast, ClosingGotSinceLast, ClosingTookLast, IsBare}
use Rattle.session_laws.specs.Complete.{Came, CameLast, ClosingComes, Got, GotLast, GotSecured, GotSinceLast, IsNewestTold, Took, TookLast}
use Rattle.session_laws.specs.Headline.{InSession, meta_of}
use Rattle.session_laws.specs.Newest.{ClosingCame, ClosingGot, ClosingGotSecured, ClosingTook, HoldsClosing, HoldsClosingRow, HoldsRowOf, IsLastLogged}
use Rattle.session_laws.specs.Printed.{EndsReader, EndsWriter}
use Rattle.session_laws.specs.Sessions.{AreVersions, ClosesWith, HasSample, SamplesRise}
use Rattle.session_laws.proofs.Versions.Telling.{ends-there, if-some, log-found, reader-end, reader-told, writer-end}

-- ---- a session closes once

closed-by : (steps : List Step) (index version : ℕ) → ClosesWith steps index version → is_closed steps ≡ true
closed-by [] index version closes = absurd closes
closed-by (Enable id ∷ before) index version closes = closed-by before index version closes
closed-by (Disable id ∷ before) index version closes = closed-by before index version closes
closed-by (Append set field ∷ before) index version closes = closed-by before index version closes
closed-by (Tick ms closing samples done ∷ before) index version (inl closes) = ap (λ (b : Bool). b || is_closed before) closes.0
closed-by (Tick ms closing samples done ∷ before) index version (inr closes) = or-true closing (is_closed before) (closed-by before index version closes)
  where
    or-true : (a b : Bool) → b ≡ true → (a || b) ≡ true
    or-true true b e = refl
    or-true false b e = e
closed-by (Pump entries ∷ before) index version closes = closed-by before index version closes

-- behind the closing tick comes no other
runs-on : (steps : List Step) (index version : ℕ) → is_closed steps ≡ false → ClosesWith steps index version → ⊥
runs-on steps index version running closes = let wrong : false ≡ true = sym running ∙ closed-by steps index version closes in cc

pub closes-once : (limit : ℕ) (p : Plan) (steps : List Step) (index one other : ℕ) → AreStepsOf limit p steps → ClosesWith steps index one → ClosesWith steps index other → one ≡ other
closes-once limit p [] index one other are a b = absurd a
closes-once limit p (Enable id ∷ before) index one other are a b = closes-once limit p before index one other are.1 a b
closes-once limit p (Disable id ∷ before) index one other are a b = closes-once limit p before index one other are.1 a b
closes-once limit p (Append set field ∷ before) index one other are a b = closes-once limit p before index one other are.1 a b
closes-once limit p (Tick ms closing samples done ∷ before) index one other are (inl a) (inl b) = sym a.1 ∙ b.1
closes-once limit p (Tick ms closing samples done ∷ before) index one other are (inl a) (inr b) = absurd (runs-on before index other are.0.running b)
closes-once limit p (Tick ms closing samples done ∷ before) index one other are (inr a) b = absurd (runs-on before index one are.0.running a)
closes-once limit p (Pump entries ∷ before) index one other are a b = closes-once limit p before index one other are.1 a b

-- and no tick sampled a later version
pub closes-newest : (limit : ℕ) (p : Plan) (steps : List Step) (index version : ℕ) (now : MetaData) (sample : Sampled) → AreStepsOf limit p steps → SamplesRise p steps → ClosesWith steps index version → HasSample p steps index now sample → sample.version ≤ version
closes-newest limit p [] index version now sample are rise closes has = absurd closes
closes-newest limit p (Enable id ∷ before) index version now sample are rise closes has = closes-newest limit p before index version now sample are.1 rise closes has
closes-newest limit p (Disable id ∷ before) index version now sample are rise closes has = closes-newest limit p before index version now sample are.1 rise closes has
closes-newest limit p (Append set field ∷ before) index version now sample are rise closes has = closes-newest limit p before index version now sample are.1 rise closes has
closes-newest limit p (Tick ms closing samples done ∷ before) index version now sample are rise (inl closes) (inl has) =
    let same : (slice_index_or samples index no_sample).version ≡ sample.version = ap (λ (s : Sampled). s.version) has.0 in
    let own = closes.1 in
    omega (arith, same, own)
closes-newest limit p (Tick ms closing samples done ∷ before) index version now sample are rise (inl closes) (inr has) =
    let le = rise.0 index now sample has in
    let own = closes.1 in
    omega (arith, le, own)
closes-newest limit p (Tick ms closing samples done ∷ before) index version now sample are rise (inr closes) has = absurd (runs-on before index version are.0.running closes)
closes-newest limit p (Pump entries ∷ before) index version now sample are rise closes has = closes-newest limit p before index version now sample are.1 rise closes has

-- ---- what the reader holds

-- the laws of closing frames, as `a_closing_frame_that_came_is_held` has them
pub record ClosingLaws : Type 0 where
  pub came : (p : Plan) (r i g w : ℕ) (steps : List Step) (rows : ℕ → ℕ → List DataValue) (before : List WriterDeed) (turn : WriterTurn) → InSession p r i g w steps → AreVersions p steps rows
      → ClosingCame p r i g w steps before turn → HoldsClosing p r i g w steps rows turn.version
  pub received : (p : Plan) (r i g w : ℕ) (steps : List Step) (rows : ℕ → ℕ → List DataValue) (before : List GroupDeed) (turn : GroupTurn) (own : WriterTurn) → InSession p r i g w steps → AreVersions p steps rows
      → ClosingGot p r i g w steps before turn own → HoldsClosing p r i g w steps rows own.version
  pub secured : (p : Plan) (r i g w : ℕ) (steps : List Step) (rows : ℕ → ℕ → List DataValue) (own : WriterTurn) → InSession p r i g w steps → AreVersions p steps rows
      → ClosingGotSecured p r i g w steps own → HoldsClosing p r i g w steps rows own.version
  pub taken : (p : Plan) (r i g w : ℕ) (steps : List Step) (rows : ℕ → ℕ → List DataValue) (own : WriterTurn) → InSession p r i g w steps → AreVersions p steps rows
      → ClosingTook p r i g w steps own → HoldsClosing p r i g w steps rows own.version
  pub came_last : (p : Plan) (r i g w : ℕ) (steps : List Step) (rows : ℕ → ℕ → List DataValue) (before : List WriterDeed) (turn : WriterTurn) → InSession p r i g w steps → AreVersions p steps rows
      → ClosingCameLast p r i g w steps before turn → HoldsClosingRow p r i g w steps rows turn.version
  pub received_last : (p : Plan) (r i g w : ℕ) (steps : List Step) (rows : ℕ → ℕ → List DataValue) (before : List GroupDeed) (turn : GroupTurn) (own : WriterTurn) → InSession p r i g w steps → AreVersions p steps rows
      → ClosingGotLast p r i g w steps before turn own → HoldsClosingRow p r i g w steps rows own.version
  pub since_last : (p : Plan) (r i g w : ℕ) (steps : List Step) (rows : ℕ → ℕ → List DataValue) (own : WriterTurn) → InSession p r i g w steps → AreVersions p steps rows
      → ClosingGotSinceLast p r i g w steps own → HoldsClosingRow p r i g w steps rows own.version
  pub taken_last : (p : Plan) (r i g w : ℕ) (steps : List Step) (rows : ℕ → ℕ → List DataValue) (own : WriterTurn) → InSession p r i g w steps → AreVersions p steps rows
      → ClosingTookLast p r i g w steps own → HoldsClosingRow p r i g w steps rows own.version

-- the version of the last entry of a log is the one that its number names
version-last : (earlier log : List (ℕ × ℕ)) (place version : ℕ) → log ≡ earlier ++ (place, version) ∷ [] → version_of log (number_of_place place) ≡ Some version
version-last earlier log place version e =
    let same : (place % 65536 == number_of_place place) ≡ true = grind (arith, nat_tests) in
    ap (λ (l : List (ℕ × ℕ)). version_of l (number_of_place place)) e
    ∙ ap (λ (l : List (ℕ × ℕ)). option_map (λ (entry : ℕ × ℕ). entry.1) (find (λ (entry : ℕ × ℕ). entry.0 % 65536 == number_of_place place) l)) (reverse-append earlier ((place, version) ∷ []))
    ∙ ap (λ (b : Bool). option_map (λ (entry : ℕ × ℕ). entry.1) (if b then Some (place, version) else find (λ (entry : ℕ × ℕ). entry.0 % 65536 == number_of_place place) (reverse earlier))) same

module _ (laws : ClosingLaws) (p : Plan) (r i g w : ℕ) (steps : List Step) (rows : ℕ → ℕ → List DataValue) (own : WriterTurn) (is : InSession p r i g w steps) (versions : AreVersions p steps rows) where
  -- by numbers it holds the row at the number of the last place; with none the row
  held-so : ClosingComes p r i g w steps own → HoldsClosing p r i g w steps rows own.version ⊎ (IsBare p r i × HoldsClosingRow p r i g w steps rows own.version)
  held-so (Came before c) = inl (laws.came p r i g w steps rows before own is versions c)
  held-so (Got before turn c) = inl (laws.received p r i g w steps rows before turn own is versions c)
  held-so (GotSecured c) = inl (laws.secured p r i g w steps rows own is versions c)
  held-so (Took c) = inl (laws.taken p r i g w steps rows own is versions c)
  held-so (CameLast before c) = inr (c.bare, laws.came_last p r i g w steps rows before own is versions c)
  held-so (GotLast before turn c) = inr (c.bare, laws.received_last p r i g w steps rows before turn own is versions c)
  held-so (GotSinceLast c) = inr (c.bare, laws.since_last p r i g w steps rows own is versions c)
  held-so (TookLast c) = inr (c.bare, laws.taken_last p r i g w steps rows own is versions c)

  -- ---- what is told

  module _ (closed : Closed) (after : IsClosedAfter p steps closed) (reader : ReaderEnd) (ends : EndsReader p.config closed r i reader) (writer : WriterEnd) (ends_writer : EndsWriter p.config closed g w writer) where
    abbrev values : HeldEnd → List DataValue
    values held = row_in (meta_of p r i).fields held.row.words

    some-of : (o : Option HeldEnd) (row : List DataValue) → option_map values o ≡ Some row → (held : HeldEnd) × (o ≡ Some held) × (values held ≡ row)
    some-of None row e = absurd (cc)
    some-of (Some held) row e = (held, refl, (let same : values held ≡ row = cc in same))

    told-so : (version : ℕ) → HoldsRowOf p r i g w steps rows version
        → ((seat_at (setting_of p.config r).seats i).part.numbering ≡ words.Message
        → (place : ℕ) × IsLastLogged p g w steps place version × ((reader_at p.config r i steps).kept.number ≡ Some (number_of_place place)))
        → IsNewestTold p r i g w rows closed version
    told-so version row numbered =
        let shows = (reader-end p r i steps closed reader after ends).shows in
        let held = some-of reader.held (Rattle.dataset_meta.specs.Rows.row_cut (meta_of p r i) (rows (writer_at (group_at p.config g) w).dataset version)) (shows.row ∙ row) in
        let tells = if-some (λ held. TellsHeld p.config closed.writers (read_group_at p.config r) (part_at (read_group_at p.config r) i) held) reader.held held.0 held.1
        (reader-told p r i steps closed reader after ends) in
        let number = if-some (λ held. held.number ≡ (reader_at p.config r i steps).kept.number) reader.held held.0 held.1 shows.number in
        record {
          reader = reader;
          ends = ends;
          told = held.0;
          held = held.1;
          row = held.2;
          version_is = λ message.
              let last = numbered message in
              tells.own is.matched.groups.publisher
              ∙ ap (λ (l : List (ℕ × ℕ)). option_and_then (version_of l) held.0.number) (log-found p r i g w steps closed writer is ends_writer ∙ (writer-end p g w steps closed writer after ends_writer).log)
              ∙ ap (option_and_then (version_of (log_at p g w steps))) (number ∙ last.2)
              ∙ version-last last.1.0 (log_at p g w steps) last.0 version last.1.1;
        }

    newest-so : (version : ℕ) → ClosesWith steps (writer_at (group_at p.config g) w).dataset version → HoldsClosing p r i g w steps rows own.version ⊎ (IsBare p r i × HoldsClosingRow p r i g w steps rows own.version)
        → IsNewestTold p r i g w rows closed version
    newest-so version closes (inl h) =
        subst (IsNewestTold p r i g w rows closed) (closes-once most_ticks p steps (writer_at (group_at p.config g) w).dataset own.version version is.steps_are h.sampled closes)
        (told-so own.version h.newest.row (λ message. (h.newest.place, h.newest.logged, h.newest.number)))
    newest-so version closes (inr h) =
        subst (IsNewestTold p r i g w rows closed) (closes-once most_ticks p steps (writer_at (group_at p.config g) w).dataset own.version version is.steps_are h.1.sampled closes)
        (told-so own.version h.1.row (λ message. absurd (let wrong : words.None ≡ words.Message = sym h.0 ∙ message in cc)))

-- the reader is told to hold the version that the closing tick sampled
pub newest-told : ClosingLaws → (p : Plan) (r i g w : ℕ) (steps : List Step) (rows : ℕ → ℕ → List DataValue) (closed : Closed) (version : ℕ) (own : WriterTurn) → InSession p r i g w steps → AreVersions p steps rows
    → IsClosedAfter p steps closed → ClosesWith steps (writer_at (group_at p.config g) w).dataset version → ClosingComes p r i g w steps own → IsNewestTold p r i g w rows closed version
newest-told laws p r i g w steps rows closed version own is versions after closes comes =
    let there = ends-there p r i g w steps closed is after in
    newest-so laws p r i g w steps rows own is versions closed after there.0.0 there.0.1 there.1.0 there.1.1 version closes (held-so laws p r i g w steps rows own is versions comes)
