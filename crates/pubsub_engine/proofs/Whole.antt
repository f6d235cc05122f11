-- A closed session as a whole, out of what its parts tell.
use Rattle.std.proofs.Common.{◌≡◌, ◌≢◌, refl, sym, ap, ◌∙◌, subst, arith, ℕ, ◌<◌, ◌≤◌, Bool, true, false, cond, List, [], ◌∷◌, length, get_or, Option, Some, None}
use Rattle.std.specs.Prelude.{◌==◌, map, find, zip, All, IfSome, IsSomeAnd, slice_get, option_map, option_and_then}
use Rattle.std.specs.List.{AllZip}
use Rattle.std.specs.List.Sorted.{IsNonDecreasing}
use Rattle.std.specs.Option.{option_map_or}
use Rattle.std.proofs.lemmas.Bool.Decides.{nat_tests}
use Rattle.std.proofs.lemmas.List.{get_or-map, length-map}
use Rattle.std.proofs.lemmas.List.Elements.{All-get_or, length_all_zip}
use Rattle.std.proofs.lemmas.List.FromFn.{length-map-range_with_len}
use Rattle.std.proofs.lemmas.Option.{none-some, slice_get-get_or}
use Rattle.pubsub_model.specs.Answers.{version_of}
use Rattle.dataset_meta.specs.Metas.{HasGrown, MetaData, no_meta}
use Rattle.dataset_meta.specs.DataValues.{DataValue}
use Rattle.dataset_reader.specs.Kept.{Kept}
use Rattle.message_guard.specs.Protection.{keys_in}
use Rattle.message_guard.specs.declared.keys.TokenKeys.{TokenKeys}
use Rattle.row_words.specs.Belonging.{Belongs, row_in}
use Rattle.config_tables.specs.declared.publisher.Publisher.{Publisher as PublisherId}
use Rattle.config_tables.specs.declared.words.NumberingWord.{NumberingWord}
use Rattle.config_tables.specs.declared.words.NumberingWord.TheVariants as words
use Rattle.ps_config.specs.declared.parts.Config.{Config}
use Rattle.ps_config.specs.declared.parts.ReadGroupPart.{ReadGroupPart}
use Rattle.ps_config.specs.declared.parts.ReaderPart.{ReaderPart}
use Rattle.ps_config.specs.declared.parts.WriterPart.{WriterPart}
use Rattle.ps_config.specs.Sound.{IsReadGroup, IsReader, IsSound, readers}
use Rattle.ps_report.specs.declared.closed.Closed.{Closed}
use Rattle.ps_report.specs.declared.closed.HeldEnd.{HeldEnd}
use Rattle.ps_report.specs.declared.closed.ReaderEnd.{ReaderEnd}
use Rattle.ps_report.specs.declared.closed.WatchEnd.{WatchEnd}
use Rattle.ps_report.specs.declared.closed.WriterEnd.{WriterEnd}
use Rattle.app_threads.specs.declared.done.Done.{Done}
use Rattle.ps_report.specs.Conditions.{BelongsTo, HoldRows, IsClosedOf, HoldsRow, readers_of, writers_of}
use Rattle.ps_report.specs.Told.{TellsHeld, TellsNumber, TellsReader, log_of}
use Rattle.reader_group.specs.Members.{Seat, no_seat, seat_at}
use Rattle.reader_group.specs.Numbered.{HasItsNumber, HaveNumbers, HaveTheirNumbers}
use Rattle.reader_group.specs.Plain.{Event, PlainGroup, Setting, member_at, opening, step}
use Rattle.reader_group.specs.Settings.{group_at as read_group_at, no_group as no_read_group, seat_in, setting_of}
use Rattle.session_model.specs.Steps.{Plan, Step, Enable, Disable, Append, Tick, Pump}
use Rattle.session_model.specs.Deeds.{deeds, logs_cut}
use Rattle.session_model.specs.Events.{events}
use Rattle.session_model.specs.Keeping.{AreStepsOf}
use Rattle.session_model.specs.Lives.{Account, Lived, Renewed, Stepped, account_in, account_of, befalls, log_in, steps_in}
use Rattle.session_model.specs.Readings.{Reading, goes_on, read_on, reads_with, rekeyed_if, setting_in}
use Rattle.session_model.specs.Closing.{IsClosedAfter, IsClosedTelling, IsReaderEnd, IsWriterEndWith, MemberPlace, TellsEndsIf, TellsNumberAlone, TellsReaderAlone, reader_places, writer_places}
use Rattle.pubsub_engine.specs.declared.session.Session.{Session}
use Rattle.pubsub_engine.specs.Authored.{AreInOrder, AreLooksAt}
use Rattle.pubsub_engine.specs.Holding.{IsSession, KeepsWholeLogs, logged_of, plan_of, tells_versions, ticks_of}
use Rattle.pubsub_engine.specs.Standing.{Stands}
use Rattle.pubsub_engine.specs.Living.{StandsAs, StandsIn}
use Rattle.pubsub_engine.specs.Logs.{log_after, log_by, logs_told}
use Rattle.pubsub_engine.specs.Ending.{HavePublished, HaveReceived}
use Rattle.pubsub_engine.specs.Told.{TellsParts}
use Rattle.pubsub_engine.specs.LifeEnds.{HasVersion, IsClosedBy, IsClosedIn, IsClosedWhole, IsToldBy, IsWriterEndBy, group_end_by, logs_in, read_group_end_by, reader_in}
use Rattle.pubsub_engine.proofs.Lives.{as-stands}
use Rattle.session_model.proofs.Ticks.{log-whole-in, logs-whole}
use Rattle.pubsub_engine.proofs.ByPlace.{IsPlace, are-places, parts-by-place, writer-count}
use Rattle.pubsub_engine.proofs.EndParts.{none-logged}
use Rattle.pubsub_engine.proofs.Named.{no-log-told}
use Rattle.pubsub_engine.proofs.NowSets.{now-sets}
use Rattle.pubsub_engine.proofs.Pairing.{pairs-length, pairs-map, pairs-weaker}
use Rattle.pubsub_engine.proofs.Places.{grouped-places, seat-part}
use Rattle.pubsub_engine.proofs.Watched.{rising, same-watches, watched-readers}

-- ---- logs

-- the log that the ends tell for an id is the one that the steps leave
named-in : (logs : ℕ → ℕ → List (ℕ × ℕ)) (p : Plan) (steps : List Step) (a : Account) (id : ℕ) (parts : List WriterPart) (places : List MemberPlace) (ends : List WriterEnd) → AllZip (IsWriterEndBy logs p steps a) places ends
    → log_of parts ends id ≡ option_map_or (λ (at : WriterPart × MemberPlace). logs at.1.0 at.1.1) (find (λ (at : WriterPart × MemberPlace). at.0.id == id) (zip parts places)) []
named-in logs p steps a id [] places ends pairs = refl
named-in logs p steps a id (part ∷ parts) [] [] pairs = refl
named-in logs p steps a id (part ∷ parts) [] (end ∷ ends) pairs = absurd pairs
named-in logs p steps a id (part ∷ parts) (place ∷ places) [] pairs = absurd pairs
named-in logs p steps a id (part ∷ parts) (place ∷ places) (end ∷ ends) pairs = go (part.id == id) (named-in logs p steps a id parts places ends pairs.1)
  where
    own : WriterPart × WriterEnd → List (ℕ × ℕ)
    own at = at.1.log

    left : WriterPart × MemberPlace → List (ℕ × ℕ)
    left at = logs at.1.0 at.1.1

    go : (b : Bool) → log_of parts ends id ≡ option_map_or left (find (λ (at : WriterPart × MemberPlace). at.0.id == id) (zip parts places)) []
        → option_map_or own (cond b (Some (part, end)) (find (λ (at : WriterPart × WriterEnd). at.0.id == id) (zip parts ends))) []
        ≡ option_map_or left (cond b (Some (part, place)) (find (λ (at : WriterPart × MemberPlace). at.0.id == id) (zip parts places))) []
    go true rest = pairs.0.log
    go false rest = rest

pub log-named : (logs : ℕ → ℕ → List (ℕ × ℕ)) (p : Plan) (steps : List Step) (a : Account) (id : ℕ) (ends : List WriterEnd) → AllZip (IsWriterEndBy logs p steps a) (writer_places p.config) ends
    → log_of (writers_of p.config.group) ends id ≡ log_by logs p.config id
log-named logs p steps a id ends pairs = named-in logs p steps a id (writers_of p.config.group) (writer_places p.config) ends pairs

-- ---- readers

tells-number : (numbering : NumberingWord) (kept : Kept) (row : List DataValue) → kept.row ≡ Some row → HasItsNumber numbering kept → TellsNumber numbering kept.number
tells-number words.Message kept row is has = subst (λ (o : Option (List DataValue)). IfSome o (λ row. IsSomeAnd kept.number (λ n. n < 65536))) is has
tells-number words.None kept row is has = has

tells-held : (logs : ℕ → ℕ → List (ℕ × ℕ)) (p : Plan) (writers : List WriterEnd) (at : ReadGroupPart × ReaderPart) (meta : MetaData) (kept : Kept) (held : Option HeldEnd)
    → ((id : ℕ) → log_of (writers_of p.config.group) writers id ≡ log_by logs p.config id) → HasItsNumber at.1.numbering kept
    → option_map (λ held. row_in meta.fields held.row.words) held ≡ kept.row → IfSome held (λ held. held.number ≡ kept.number)
    → IfSome held (HasVersion logs p at) → IfSome held (λ held. TellsHeld p.config writers at.0 at.1 held)
tells-held logs p writers at meta kept None named has row number is = tt
tells-held logs p writers at meta kept (Some held) named has row number is = record {
  number = subst (TellsNumber at.1.numbering) (sym number) (tells-number at.1.numbering kept (row_in meta.fields held.row.words) (sym row) has);
  own = λ same. is.own same ∙ ap (λ (l : List (ℕ × ℕ)). option_and_then (version_of l) held.number) (sym (named at.1.writer));
  other = is.other;
}

-- none whichever publisher it is
none-both : (one other : PublisherId) (version : Option ℕ) → (one ≡ other → version ≡ None) → (one ≢ other → version ≡ None) → version ≡ None
none-both one other None same apart = refl
none-both one other (Some n) same apart = apart (λ is. none-some n (sym (same is)))

tells-alone : (logs : ℕ → ℕ → List (ℕ × ℕ)) (p : Plan) (at : ReadGroupPart × ReaderPart) (meta : MetaData) (kept : Kept) (held : Option HeldEnd) → HasItsNumber at.1.numbering kept
    → option_map (λ held. row_in meta.fields held.row.words) held ≡ kept.row → IfSome held (λ held. held.number ≡ kept.number)
    → IfSome held (HasVersion (logs_told false logs) p at) → IfSome held (TellsNumberAlone at.1)
tells-alone logs p at meta kept None has row number is = tt
tells-alone logs p at meta kept (Some held) has row number is = record {
  number = subst (TellsNumber at.1.numbering) (sym number) (tells-number at.1.numbering kept (row_in meta.fields held.row.words) (sym row) has);
  version = none-both at.0.publisher p.config.publisher.id held.version
      (λ same.
      is.own same ∙ ap (λ (l : List (ℕ × ℕ)). option_and_then (version_of l) held.number) (sym (no-log-told logs p.config at.1.writer))
      ∙ none-logged held.number)
      is.other;
}

-- beside each held row of a reader that this became of stands the number that its numbering asks for
abbrev pub AllNumbered : Plan → Account → Type 0
AllNumbered p a = (r : ℕ) → HaveNumbers (setting_of p.config r) (a.readings r).value

by-place : (p : Plan) (a : Account) (place : MemberPlace) → AllNumbered p a → IsPlace p.config place
    → HasItsNumber (seat_at (setting_of p.config place.0).seats place.1).part.numbering (member_at (a.readings place.0).value.members place.1).kept
by-place p a place numbers there =
    numbers place.0 place.1 (subst (λ (n : ℕ). place.1 < n) (sym (length-map (read_group_at p.config place.0).reader (seat_in p.config))) there.1)

-- numbers are told, and versions too or not
pub tells-readers : (versions : Bool) (logs : ℕ → ℕ → List (ℕ × ℕ)) (p : Plan) (steps : List Step) (a : Account) (closed : Closed) → AllNumbered p a
    → AllZip (IsWriterEndBy logs p steps a) (writer_places p.config) closed.writers → AllZip (IsToldBy (logs_told versions logs) p steps a) (reader_places p.config) closed.readers
    → IsNonDecreasing (map (λ end. end.thread) closed.watches) → TellsEndsIf versions p.config closed
tells-readers true logs p steps a closed numbers named told order = record {
  readers =
      subst (λ (l : List (ReadGroupPart × ReaderPart)). AllZip (TellsReader p.config closed.writers) l closed.readers) (grouped-places p.config)
      (pairs-map (TellsReader p.config closed.writers) (reader_in p.config) (reader_places p.config) closed.readers
      (pairs-weaker (IsPlace p.config) (IsToldBy (logs_told true logs) p steps a) (λ place end. TellsReader p.config closed.writers (reader_in p.config place) end)
      (λ place end there is.
      tells-held logs p closed.writers (reader_in p.config place) (seat_at (setting_of p.config place.0).seats place.1).meta (member_at (a.readings place.0).value.members place.1).kept end.held
      (λ id. log-named logs p steps a id closed.writers named) (by-place p a place numbers there)
      is.is.shows.row is.is.shows.number is.version)
      (reader_places p.config) closed.readers (are-places p.config) told));
  watches = order;
}
tells-readers false logs p steps a closed numbers named told order = record {
  readers =
      subst (λ (l : List (ReadGroupPart × ReaderPart)). AllZip TellsReaderAlone l closed.readers) (grouped-places p.config)
      (pairs-map TellsReaderAlone (reader_in p.config) (reader_places p.config) closed.readers
      (pairs-weaker (IsPlace p.config) (IsToldBy (logs_told false logs) p steps a) (λ place end. TellsReaderAlone (reader_in p.config place) end)
      (λ place end there is.
      tells-alone logs p (reader_in p.config place) (seat_at (setting_of p.config place.0).seats place.1).meta (member_at (a.readings place.0).value.members place.1).kept end.held
      (by-place p a place numbers there) is.is.shows.row is.is.shows.number is.version)
      (reader_places p.config) closed.readers (are-places p.config) told));
  watches = order;
}

-- ---- behind steps alone

pub are-ends : (logs : ℕ → ℕ → List (ℕ × ℕ)) (p : Plan) (steps : List Step) (readers : List ReaderEnd) → AllZip (IsToldBy logs p steps (account_of p steps)) (reader_places p.config) readers
    → AllZip (IsReaderEnd p steps) (reader_places p.config) readers
are-ends logs p steps readers told =
    pairs-weaker (IsPlace p.config) (IsToldBy logs p steps (account_of p steps)) (IsReaderEnd p steps) (λ place end there is. record { state = is.is.state; shows = is.is.shows })
    (reader_places p.config) readers (are-places p.config) told

reader-dataset : (config : Config) (r i : ℕ) → IsSound config → r < length config.readgroup → i < length (read_group_at config r).reader
    → (reader_in config (r, i)).1.dataset < length config.dataset
reader-dataset config r i sound low within =
    subst (λ (part : ReaderPart). part.dataset < length config.dataset) (sym (seat-part config r i))
    (All-get_or (IsReader config) (read_group_at config r).reader i no_seat.part within
    (All-get_or (IsReadGroup config) config.readgroup r no_read_group low sound.readgroups).readers).dataset

reader-meta : (config : Config) (r i : ℕ) → i < length (read_group_at config r).reader
    → (seat_at (setting_of config r).seats i).meta ≡ get_or config.dataset (reader_in config (r, i)).1.dataset no_meta
reader-meta config r i within =
    subst (λ (seat : Seat). seat.meta ≡ get_or config.dataset seat.part.dataset no_meta)
    (sym (get_or-map (seat_in config) (read_group_at config r).reader i no_seat.part no_seat within)) refl

holds-row : (config : Config) (part : ReaderPart) (meta : MetaData) (held : Option HeldEnd) → part.dataset < length config.dataset
    → meta ≡ get_or config.dataset part.dataset no_meta → IfSome held (λ held. Belongs meta held.row.words)
    → IfSome held (λ held. BelongsTo (slice_get config.dataset part.dataset) held.row.words)
holds-row config part meta None there is belongs = tt
holds-row config part meta (Some held) there is belongs =
    subst (λ (found : Option MetaData). BelongsTo found held.row.words) (sym (slice_get-get_or config.dataset part.dataset no_meta there))
    (subst (λ (m : MetaData). Belongs m held.row.words) is belongs)

-- what readers hold are rows of their data sets
pub holds-rows : (logs : ℕ → ℕ → List (ℕ × ℕ)) (p : Plan) (steps : List Step) (a : Account) (readers : List ReaderEnd) → IsSound p.config
    → AllZip (IsToldBy logs p steps a) (reader_places p.config) readers
    → HoldRows p.config.dataset (readers_of p.config.readgroup) readers
holds-rows logs p steps a readers sound told =
    subst (λ (l : List ReaderPart). AllZip (HoldsRow p.config.dataset) l readers) (parts-by-place p.config)
    (pairs-map (HoldsRow p.config.dataset) (λ place. (reader_in p.config place).1) (reader_places p.config) readers
    (pairs-weaker (IsPlace p.config) (IsToldBy logs p steps a) (λ place end. HoldsRow p.config.dataset (reader_in p.config place).1 end)
    (λ place end there is.
    holds-row p.config (reader_in p.config place).1 (seat_at (setting_of p.config place.0).seats place.1).meta end.held
    (reader-dataset p.config place.0 place.1 sound there.0 there.1) (reader-meta p.config place.0 place.1 there.1) is.is.shows.belongs)
    (reader_places p.config) readers (are-places p.config) told))

-- ---- the session

-- there are as many passes as data sets, of which there are few
pub passes-count : (s : Session) → IsSession s → length s.sets.metas.items ≡ length s.samples.passes
passes-count s is =
    length_all_zip HasGrown s.sets.metas.items s.sets.full.items (now-sets s.config.now s.sets is.sets).grow ∙ sym is.samples.passes

pub few-sets : (s : Session) → IsSession s → length s.sets.metas.items ≤ 8
few-sets s is = let count = (now-sets s.config.now s.sets is.sets).count in omega (arith, count, is.good.sound.few.datasets)

published : (p : Plan) (steps : List Step) (a : Account) (s : Session) → IsSession s → StandsAs p steps a s → HavePublished s.config.now (logged_of s) p steps a s.round.tree s.round.publisher
published p steps a s is stands = record {
  plan = sym (ap (λ (q : Plan). q.config) stands.plan);
  flags = stands.round.flags;
  groups = stands.round.groups;
  logged = is.logged;
  outcomes = stands.round.outcomes;
}

received : (p : Plan) (steps : List Step) (a : Account) (s : Session) → StandsAs p steps a s → HaveReceived s.config.now p steps a s.round.tree s.round.subscriber
received p steps a s stands = record {
  plan = sym (ap (λ (q : Plan). q.config) stands.plan);
  flags = stands.round.flags;
  readings = stands.round.readings;
  tallies = stands.round.tallies;
}

-- by what became of it
pub closed-by : (p : Plan) (steps : List Step) (a : Account) (s : Session) (dones : List Done) (closed : Closed) → TellsParts s dones closed → IsSession s → StandsAs p steps a s
    → IsClosedBy (tells_versions s) (log_after (logged_of s) p.config a.deeds) p steps a closed
closed-by p steps a s dones closed tells is stands = record {
  groups = tells.groups (logged_of s) p steps a out;
  writers = tells.writers (logged_of s) p steps a out;
  read_groups = tells.read_groups p steps a come;
  readers = tells.readers (logged_of s) p steps a out come;
  link = tells.link steps a stands.round.sends stands.round.receives;
}
  where
    out : HavePublished s.config.now (logged_of s) p steps a s.round.tree s.round.publisher
    out = published p steps a s is stands

    come : HaveReceived s.config.now p steps a s.round.tree s.round.subscriber
    come = received p steps a s stands

plain-writers : (logs : ℕ → ℕ → List (ℕ × ℕ)) (p : Plan) (steps : List Step) (places : List MemberPlace) (ends : List WriterEnd) → AllZip (IsWriterEndBy logs p steps (account_of p steps)) places ends
    → AllZip (IsWriterEndWith logs p steps) places ends
plain-writers logs p steps [] [] pairs = tt
plain-writers logs p steps [] (end ∷ ends) pairs = absurd pairs
plain-writers logs p steps (place ∷ places) [] pairs = absurd pairs
plain-writers logs p steps (place ∷ places) (end ∷ ends) pairs = (record { state = pairs.0.state; log = pairs.0.log }, plain-writers logs p steps places ends pairs.1)

-- with the number of each held row
pub are-told : (p : Plan) (steps : List Step) (a : Account) (s : Session) (dones : List Done) (closed : Closed) → AllNumbered p a → TellsParts s dones closed → IsSession s
    → StandsAs p steps a s → AreInOrder dones → TellsEndsIf (tells_versions s) p.config closed
are-told p steps a s dones closed numbers tells is stands order =
    let by = closed-by p steps a s dones closed tells is stands in
    tells-readers (tells_versions s) (log_after (logged_of s) p.config a.deeds) p steps a closed numbers by.writers by.readers
    (subst (λ (l : List WatchEnd). IsNonDecreasing (map (λ end. end.thread) l)) (sym (tells.watches ∙ same-watches dones order)) (rising dones order))

-- behind steps alone
pub is-closed : ((setting : Setting) (events : List Event) → HaveTheirNumbers setting events) → (p : Plan) (steps : List Step) (s : Session) (dones : List Done) (closed : Closed)
    → TellsParts s dones closed → IsSession s → Stands p steps s → AreInOrder dones → IsClosedTelling (tells_versions s) (logs_cut (logged_of s) p steps) p steps closed
is-closed numbers p steps s dones closed tells is stands order = record {
  groups = by.groups;
  writers = plain-writers logs p steps (writer_places p.config) closed.writers by.writers;
  read_groups = by.read_groups;
  readers = are-ends (logs_told (tells_versions s) logs) p steps closed.readers by.readers;
  link = by.link;
  told = are-told p steps (account_of p steps) s dones closed (λ r. numbers (setting_of p.config r) (events p.config r steps)) tells is (as-stands p steps s stands) order;
}
  where
    logs : ℕ → ℕ → List (ℕ × ℕ)
    logs = log_after (logged_of s) p.config (deeds p steps)

    by : IsClosedBy (tells_versions s) (log_after (logged_of s) p.config (deeds p steps)) p steps (account_of p steps) closed
    by = closed-by p steps (account_of p steps) s dones closed tells is (as-stands p steps s stands)

pub versions-told : (s : Session) → KeepsWholeLogs s → tells_versions s ≡ true
versions-told s keeps = let low : ticks_of s < logged_of s = keeps in grind (arith, nat_tests)

-- where the logs keep all data frames
pub is-whole : (p : Plan) (steps : List Step) (s : Session) (closed : Closed) → KeepsWholeLogs s → Stands p steps s
    → IsClosedTelling (tells_versions s) (logs_cut (logged_of s) p steps) p steps closed → IsClosedAfter p steps closed
is-whole p steps s closed keeps stands is =
    subst (λ (logs : ℕ → ℕ → List (ℕ × ℕ)). IsClosedTelling true logs p steps closed) (logs-whole (logged_of s) (ticks_of s) p steps stands.steps_are keeps)
    (subst (λ (versions : Bool). IsClosedTelling versions (logs_cut (logged_of s) p steps) p steps closed) (versions-told s keeps) is)

-- in a life
pub logs-lived : (p : Plan) (life : List Lived) (s : Session) → KeepsWholeLogs s → AreStepsOf (ticks_of s) p (steps_in life) → logs_in (logged_of s) p life ≡ log_in p life
logs-lived p life s keeps are = λ i g w. log-whole-in (logged_of s) (ticks_of s) p life are keeps g w i

pub is-whole-lived : (p : Plan) (life : List Lived) (s : Session) (closed : Closed) → KeepsWholeLogs s → StandsIn p life s → IsClosedIn (tells_versions s) (logged_of s) p life closed
    → IsClosedWhole p life closed
is-whole-lived p life s closed keeps stands is =
    subst (λ (logs : ℕ → ℕ → List (ℕ × ℕ)). IsClosedBy true logs p (steps_in life) (account_in p life) closed) (logs-lived p life s keeps stands.steps_are)
    (subst (λ (versions : Bool). IsClosedBy versions (logs_in (logged_of s) p life) p (steps_in life) (account_in p life) closed) (versions-told s keeps) is)

read-on-numbered : ((setting : Setting) (group : PlainGroup) (event : Event) → HaveNumbers setting group → HaveNumbers setting (step setting group event)) → (setting : Setting) (value : PlainGroup)
    (befell : List Event) → HaveNumbers setting value → HaveNumbers setting (read_on setting value befell)
read-on-numbered stepped setting value [] have = have
read-on-numbered stepped setting value (event ∷ before) have = stepped setting (read_on setting value before) event (read-on-numbered stepped setting value before have)

rekeyed-value : (b : Bool) (keys : List TokenKeys) (reading : Reading) → (rekeyed_if b keys reading).value ≡ reading.value
rekeyed-value true keys reading = refl
rekeyed-value false keys reading = refl

module _ (opened : (setting : Setting) → HaveNumbers setting (opening setting))
    (stepped : (setting : Setting) (group : PlainGroup) (event : Event) → HaveNumbers setting group → HaveNumbers setting (step setting group event)) where
  goes-on-numbered : (p : Plan) (r : ℕ) (reading : Reading) (befell : List Event) → HaveNumbers (setting_of p.config r) reading.value
      → HaveNumbers (setting_of p.config r) (goes_on p.config r reading befell).value
  goes-on-numbered p r reading befell have = read-on-numbered stepped (setting_in p.config r reading) reading.value befell have

  -- in a life
  pub numbers-in : (p : Plan) (life : List Lived) → AllNumbered p (account_in p life)
  numbers-in p [] r = opened (setting_of p.config r)
  numbers-in p (Stepped (Enable id) ∷ before) r = numbers-in p before r
  numbers-in p (Stepped (Disable id) ∷ before) r =
      goes-on-numbered p r ((account_in p before).readings r) (befalls p.config (steps_in before) (Disable id) r) (numbers-in p before r)
  numbers-in p (Stepped (Append set field) ∷ before) r = numbers-in p before r
  numbers-in p (Stepped (Tick ms closing samples done) ∷ before) r =
      goes-on-numbered p r ((account_in p before).readings r) (befalls p.config (steps_in before) (Tick ms closing samples done) r) (numbers-in p before r)
  numbers-in p (Stepped (Pump entries) ∷ before) r =
      goes-on-numbered p r ((account_in p before).readings r) (befalls p.config (steps_in before) (Pump entries) r) (numbers-in p before r)
  numbers-in p (Renewed k sets ∷ before) r =
      subst (λ (group : PlainGroup). HaveNumbers (setting_of p.config r) group)
      (sym (rekeyed-value (reads_with (read_group_at p.config r) k) (map keys_in sets) ((account_in p before).readings r))) (numbers-in p before r)

pub is-closed-of : (steps : List Step) (a : Account) (s : Session) (dones : List Done) (closed : Closed) → TellsParts s dones closed → IsSession s → StandsAs (plan_of s) steps a s
    → AreLooksAt (readers s.config.now) dones → IsClosedOf s.config.now closed
is-closed-of steps a s dones closed tells is stands looks = record {
  histories = tells.histories.count ∙ (now-sets s.config.now s.sets is.sets).count;
  groups = ap length by.groups ∙ length-map-range_with_len (group_end_by p steps a) 0 (length s.config.now.group);
  writers = pairs-length (IsWriterEndBy logs p steps a) (writer_places s.config.now) closed.writers by.writers ∙ writer-count s.config.now;
  read_groups = ap length by.read_groups ∙ length-map-range_with_len (read_group_end_by p steps a) 0 (length s.config.now.readgroup);
  rows = holds-rows (logs_told (tells_versions s) logs) p steps a closed.readers is.good.sound by.readers;
  watches = subst (All (λ (end : WatchEnd). end.reader < length (readers s.config.now))) (sym tells.watches) (watched-readers (length (readers s.config.now)) dones looks);
}
  where
    p : Plan
    p = plan_of s

    logs : ℕ → ℕ → List (ℕ × ℕ)
    logs = log_after (logged_of s) s.config.now a.deeds

    by : IsClosedBy (tells_versions s) (log_after (logged_of s) s.config.now a.deeds) (plan_of s) steps a closed
    by = closed-by (plan_of s) steps a s dones closed tells is stands
