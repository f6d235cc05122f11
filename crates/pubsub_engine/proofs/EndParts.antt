-- What the parts of a session tell when it is closed.
use Rattle.std.proofs.Common.{◌≡◌, refl, sym, ap, ◌∙◌, subst, arith, ℕ, ◌<◌, Bool, List, [], length, take, get_or, Option, Some, None}
use Rattle.std.specs.Prelude.{IfSome, option_and_then}
use Rattle.std.proofs.lemmas.List.{length-map}
use Rattle.pubsub_model.specs.Answers.{version_of}
use Rattle.pubsub_model.specs.Cadence.{WriterDeed, log_of}
use Rattle.dataset_meta.specs.Metas.{MetaData}
use Rattle.dataset_writer.specs.declared.settings.WriterSettings.{WriterSettings}
use Rattle.dataset_writer.specs.declared.writer.Writer.{Writer as DataSetWriter}
use Rattle.dataset_writer.specs.Standing.{IsWriter, logged_by}
use Rattle.dataset_writer.specs.Turns.{model_settings}
use Rattle.dataset_reader.specs.declared.reader.Reader.{Reader as DataSetReader}
use Rattle.dataset_reader.specs.Reader.{IsReaderOf, kept_by}
use Rattle.ps_config.specs.declared.parts.Config.{Config}
use Rattle.ps_config.specs.declared.parts.ReadGroupPart.{ReadGroupPart}
use Rattle.ps_config.specs.declared.parts.ReaderPart.{ReaderPart}
use Rattle.ps_report.specs.declared.closed.GroupEnd.{GroupEnd}
use Rattle.ps_report.specs.declared.closed.HeldEnd.{HeldEnd}
use Rattle.ps_report.specs.declared.closed.ReaderEnd.{ReaderEnd}
use Rattle.ps_report.specs.declared.closed.ReadGroupEnd.{ReadGroupEnd}
use Rattle.ps_report.specs.declared.closed.WriterEnd.{WriterEnd}
use Rattle.pubsub_states.specs.declared.component.Component.{Component}
use Rattle.pubsub_states.specs.declared.component.Component.TheVariants.{Root, Connection, Group, Writer, ReadGroup, Reader}
use Rattle.pubsub_states.specs.declared.state.State.{State}
use Rattle.pubsub_states.specs.Changes.{TreeValue, flags_in}
use Rattle.pubsub_states.specs.Components.{Counts, IsAmong, counts_of}
use Rattle.pubsub_states.specs.States.{state_of}
use Rattle.reader_group.specs.declared.group.ReaderGroup.{ReaderGroup}
use Rattle.reader_group.specs.Groups.{IsKeptAt, IsMadeAt, IsPassedAt}
use Rattle.reader_group.specs.Members.{MemberValue, seat_at}
use Rattle.reader_group.specs.Plain.{member_at}
use Rattle.reader_group.specs.Settings.{group_at as read_group_at, setting_of}
use Rattle.writer_group.specs.declared.group.Group.{Group as WriterGroup}
use Rattle.writer_group.specs.Parts.{group_at}
use Rattle.writer_group.specs.Standing.{AreLogged, IsGroup, IsLoggedIn, IsWriterIn, metas_for}
use Rattle.session_model.specs.Steps.{Plan, Step}
use Rattle.session_model.specs.Sets.{metas_at}
use Rattle.session_model.specs.Deeds.{Deed, group_past}
use Rattle.session_model.specs.Lives.{Account, flags_by}
use Rattle.session_model.specs.Closing.{Shows}
use Rattle.session_parts.specs.declared.publisher.Publisher.{Publisher}
use Rattle.session_parts.specs.declared.sends.GroupSends.{GroupSends}
use Rattle.session_parts.specs.declared.subscriber.Subscriber.{Subscriber}
use Rattle.session_parts.specs.declared.tally.Tally.{Tally}
use Rattle.session_parts.specs.Holding.{AreAllLogged}
use Rattle.session_parts.specs.Standing.{HavePast}
use Rattle.session_parts.proofs.Few.{group-among, writer-among}
use Rattle.session_parts.proofs.TellingReaders.{low-among}
use Rattle.pubsub_engine.specs.Ending.{HavePublished, HaveReceived, MayTellReaders, MayTellWriters}
use Rattle.pubsub_engine.specs.LifeEnds.{HasVersion, IsToldBy, IsWriterEndBy, group_end_by, read_group_end_by, reader_in}
use Rattle.pubsub_engine.specs.Logs.{IsLogRead, log_after, logs_told}
use Rattle.session_parts.specs.Showing.{IsReaderIn}
use Rattle.session_parts.proofs.Shown.{reader-in}
use Rattle.session_parts.proofs.StatesTold.{state-told}

-- ---- states

pub read-group-among : (config : Config) (counts : Counts) (r : ℕ) → counts ≡ counts_of config → r < length config.readgroup → IsAmong counts (ReadGroup r)
read-group-among config counts r is low =
    subst (λ (c : Counts). IsAmong c (ReadGroup r)) (sym is)
    (subst (λ (n : ℕ). r < n) (sym (length-map config.readgroup (λ (group : ReadGroupPart). length group.reader))) low)

-- ---- groups

pub group-told : (config : Config) (most : ℕ) (p : Plan) (steps : List Step) (a : Account) (tree : TreeValue) (publisher : Publisher) (g : ℕ) (state : State) (sends : GroupSends)
    → MayTellWriters config tree publisher → HavePublished config most p steps a tree publisher → g < length config.group
    → state ≡ state_of (flags_in tree) (Group g) → sends ≡ get_or publisher.sends.items g sends
    → ◌≡◌ {A = GroupEnd} (record { state = state; sent = sends.done }) (group_end_by p steps a g)
group-told config most p steps a tree publisher g state sends may have low is at = λ i. record { state = of_state i; sent = of_sends i }
  where
    of_state : state ≡ state_of (flags_by p.config steps a) (Group g)
    of_state = is ∙ state-told (flags_by p.config steps a) tree (Group g) (group-among config tree.counts g may.counts low) have.flags

    low_in : g < length p.config.group
    low_in = subst (λ (c : Config). g < length c.group) (sym have.plan) low

    of_sends : sends.done ≡ (group_end_by p steps a g).sent
    of_sends = ap (λ (s : GroupSends). s.done) at ∙ (have.outcomes g low_in sends).done_are

-- ---- writers

pub writer-told : (config : Config) (most : ℕ) (p : Plan) (steps : List Step) (a : Account) (tree : TreeValue) (publisher : Publisher) (g w : ℕ) (group : WriterGroup) (writer : DataSetWriter) (log : List (ℕ × ℕ))
    (end : WriterEnd) → MayTellWriters config tree publisher → HavePublished config most p steps a tree publisher → g < length config.group → w < length (group_at config g).writer
    → group ≡ get_or publisher.groups.items g group → IsWriterIn group w writer → IsLoggedIn group writer
    → ((meta : MetaData) (settings : WriterSettings) (past : List WriterDeed) → IsWriter meta settings past writer → log ≡ take (logged_by writer) (log_of (model_settings settings) past))
    → end.state ≡ state_of (flags_in tree) (Writer g w) → end.log ≡ log → IsWriterEndBy (log_after most p.config a.deeds) p steps a (g, w) end
writer-told config most p steps a tree publisher g w group writer log end may have low within at own keeps logged is_state is_log = record {
  state = is_state ∙ state-told (flags_by p.config steps a) tree (Writer g w) (writer-among config tree.counts g w may.counts low within) have.flags;
  log = is_log ∙ logged _ _ _ (own (metas_for (group_at p.config g) (metas_at p.config steps)) (group_at p.config g) (group_past p.config g a.deeds) within_in stands)
      ∙ ap (λ (n : ℕ). log_after n p.config a.deeds g w) (keeps.logged most (subst (AreLogged most) (sym at) (have.logged g group (omega (arith, low, may.holds.groups.count)))));
}
  where
    low_in : g < length p.config.group
    low_in = subst (λ (c : Config). g < length c.group) (sym have.plan) low

    within_in : w < length (group_at p.config g).writer
    within_in = subst (λ (c : Config). w < length (group_at c g).writer) (sym have.plan) within

    stands : IsGroup (metas_for (group_at p.config g) (metas_at p.config steps)) (group_at p.config g) (group_past p.config g a.deeds) group
    stands = subst (IsGroup (metas_for (group_at p.config g) (metas_at p.config steps)) (group_at p.config g) (group_past p.config g a.deeds)) (sym at) (have.groups g low_in group)

-- ---- read groups

pub read-group-told : (config : Config) (p : Plan) (steps : List Step) (a : Account) (tree : TreeValue) (subscriber : Subscriber) (r : ℕ) (state : State) (tally : Tally)
    → MayTellReaders config tree subscriber → HaveReceived config p steps a tree subscriber → r < length config.readgroup
    → state ≡ state_of (flags_in tree) (ReadGroup r) → tally ≡ get_or subscriber.tallies.items r tally
    → ◌≡◌ {A = ReadGroupEnd} (record { state = state; taken = tally.taken; causes = tally.causes }) (read_group_end_by p steps a r)
read-group-told config p steps a tree subscriber r state tally may have low is at = λ i. record { state = of_state i; taken = of_taken i; causes = of_causes i }
  where
    of_state : state ≡ state_of (flags_by p.config steps a) (ReadGroup r)
    of_state = is ∙ state-told (flags_by p.config steps a) tree (ReadGroup r) (read-group-among config tree.counts r may.counts low) have.flags

    low_in : r < length p.config.readgroup
    low_in = subst (λ (c : Config). r < length c.readgroup) (sym have.plan) low

    of_taken : tally.taken ≡ (read_group_end_by p steps a r).taken
    of_taken = ap (λ (t : Tally). t.taken) at ∙ (have.tallies r low_in tally).taken

    of_causes : tally.causes ≡ (read_group_end_by p steps a r).causes
    of_causes = ap (λ (t : Tally). t.causes) at ∙ (have.tallies r low_in tally).causes

-- ---- readers

pub none-logged : (number : Option ℕ) → option_and_then (version_of []) number ≡ None
none-logged None = refl
none-logged (Some n) = refl

version-if : (versions : Bool) (most : ℕ) (p : Plan) (metas : List MetaData) (all : List Deed) (publisher : Publisher) (at : ReadGroupPart × ReaderPart) (log : List (ℕ × ℕ)) (held : Option HeldEnd)
    → AreAllLogged most publisher.groups.items → HavePast p.config metas all publisher.groups.items → IsLogRead versions p.config publisher at log
    → IfSome held (λ held. held.version ≡ option_and_then (version_of log) held.number) → IfSome held (HasVersion (logs_told versions (log_after most p.config all)) p at)
version-if versions most p metas all publisher at log None logged past read version = tt
version-if versions most p metas all publisher at log (Some held) logged past read version = record {
  own = λ same. version ∙ ap (λ (l : List (ℕ × ℕ)). option_and_then (version_of l) held.number) (read.own same most metas all logged past);
  other = λ differ. version ∙ ap (λ (l : List (ℕ × ℕ)). option_and_then (version_of l) held.number) (read.other differ) ∙ none-logged held.number;
}

pub reader-told : (versions : Bool) (config : Config) (most : ℕ) (p : Plan) (steps : List Step) (a : Account) (tree : TreeValue) (publisher : Publisher) (subscriber : Subscriber) (r i : ℕ)
    (group : ReaderGroup) (reader : DataSetReader) (log : List (ℕ × ℕ)) (end : ReaderEnd)
    → MayTellReaders config tree subscriber → HavePublished config most p steps a tree publisher → HaveReceived config p steps a tree subscriber
    → r < length config.readgroup → i < length (read_group_at config r).reader
    → group ≡ get_or subscriber.groups.items r group → IsKeptAt group i reader → IsPassedAt group i reader → IsMadeAt group i reader → IsLogRead versions config publisher (reader_in config (r, i)) log
    → end.state ≡ state_of (flags_in tree) (Reader r i)
    → ((meta : MetaData) (member : MemberValue) → IsReaderOf meta reader → kept_by meta.fields reader ≡ member.kept → Shows meta member end)
    → IfSome end.held (λ held. held.version ≡ option_and_then (version_of log) held.number)
    → IsToldBy (logs_told versions (log_after most p.config a.deeds)) p steps a (r, i) end
reader-told versions config most p steps a tree publisher subscriber r i group reader log end may published have low within at is_kept is_passed is_made read is_state shows version = record {
  is = record {
    state = is_state ∙ state-told (flags_by p.config steps a) tree (Reader r i) (low-among config tree.counts r i may.counts low within) have.flags;
    shows = shows (seat_at (setting_of p.config r).seats i).meta (member_at (a.readings r).value.members i) at_place.made at_place.kept;
  };
  version = version-if versions most p (metas_at p.config steps) a.deeds publisher (reader_in p.config (r, i)) log end.held published.logged published.groups
      (subst (λ (c : Config). IsLogRead versions c publisher (reader_in c (r, i)) log) (sym have.plan) read) version;
}
  where
    at_place : IsReaderIn p a.readings (r, i) reader
    at_place = reader-in config p a.readings subscriber r i group reader may.holds have.plan have.readings low at is_kept is_passed is_made
