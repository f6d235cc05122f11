-- What a gateway shows of its writers, readers and versions.
use Rattle.std.proofs.Common.{◌≡◌, refl, sym, ap, ◌∙◌, subst, arith, ℕ, ◌+◌, ◌<◌, ◌≤◌, List, [], ◌∷◌, length, get_or}
use Rattle.std.specs.Prelude.{vec_len, ◌==◌}
use Rattle.dataset_meta.specs.Metas.{MetaData}
use Rattle.dataset_reader.specs.declared.reader.Reader.{Reader}
use Rattle.dataset_reader.specs.Reader.{IsReaderOf, kept_by}
use Rattle.dataset_writer.specs.declared.writer.Writer.{Writer}
use Rattle.dataset_writer.specs.Standing.{IsWriter, logged_by}
use Rattle.ps_config.specs.declared.parts.Config.{Config}
use Rattle.ps_config.specs.declared.parts.GroupPart.{GroupPart}
use Rattle.reader_group.specs.declared.group.ReaderGroup.{ReaderGroup}
use Rattle.reader_group.specs.Groups.{IsKeptAt, IsMadeAt, IsMadeOf, Stands as ReadingStands, index_of, reader_count}
use Rattle.reader_group.specs.Members.{seat_at}
use Rattle.reader_group.specs.Plain.{plain}
use Rattle.reader_group.specs.Settings.{setting_of, seat_in, group_at as read_group_at}
use Rattle.std.proofs.lemmas.List.{length-map}
use Rattle.writer_group.specs.declared.group.Group.{Group}
use Rattle.writer_group.specs.Parts.{group_at}
use Rattle.writer_group.specs.Payloads.{meta_at, writer_at}
use Rattle.writer_group.specs.Standing.{AreLogged, IsGroup, IsLoggedIn, IsWriterIn, metas_for, writer_count}
use Rattle.writer_group.specs.Turns.{settings_of, writer_past}
use Rattle.session_model.specs.Steps.{Plan}
use Rattle.session_model.specs.Sets.{metas_at}
use Rattle.session_model.specs.Deeds.{Deed, deeds, group_past, log_at, writer_deeds}
use Rattle.session_model.specs.Lives.{Lived, account_in, log_in, steps_in}
use Rattle.session_model.specs.Events.{events, reader_at}
use Rattle.session_parts.specs.Standing.{HavePast}
use Rattle.gateway_core.specs.declared.gateway.Gateway.{Gateway}
use Rattle.session_model.proofs.Ticks.{log-few, log-few-in}
use Rattle.gateway_core.specs.Lived.{GatewayStep, Collect, Pump, Tick, collects_in, first_kept, last_store, no_origin, plan_again, session_steps, version_by, versions_kept}
use Rattle.gateway_core.specs.Holding.{IsGateway, KeepsAll, logged_of, sources_of}
use Rattle.gateway_core.specs.Standing.{Stands}
use Rattle.gateway_core.specs.Living.{StandsIn, writer_deeds_in}
use Rattle.gateway_core.proofs.Notes.{first-all, one-more}

same-config : (second : Config) (lived : List GatewayStep) (s : Gateway) → Stands second lived s → s.config.now ≡ second
same-config second lived s stands = ap (λ (p : Plan). p.config) stands.session.plan

-- ---- writers

pub writer-there : (s : Gateway) (g w : ℕ) (group : Group) → IsGateway s → g < length s.config.now.group → w < length (group_at s.config.now g).writer
    → group ≡ get_or s.round.publisher.groups.items g group → w < writer_count group
writer-there s g w group gateway low within is =
    let made = (gateway.round.publisher.groups.each g low group).made.writers in
    let same : vec_len group.writers ≡ vec_len (get_or s.round.publisher.groups.items g group).writers = ap (λ (x : Group). vec_len x.writers) is in
    omega (arith, within, made, same)

-- where its deeds left the group
writer-behind : (second : Config) (metas : List MetaData) (all : List Deed) (s : Gateway) (g w : ℕ) (group : Group) (writer : Writer) → s.config.now ≡ second → metas ≡ second.dataset
    → HavePast second metas all s.round.publisher.groups.items → g < length s.config.now.group → w < length (group_at s.config.now g).writer → group ≡ get_or s.round.publisher.groups.items g group
    → IsWriterIn group w writer → IsWriter (meta_at (group_at second g) second.dataset w) (settings_of (writer_at (group_at second g) w)) (writer_past w (group_past second g all)) writer
writer-behind second metas all s g w group writer same metas_are past low within is there =
    there (metas_for part second.dataset) part (group_past second g all)
    (subst (λ (c : Config). w < length (group_at c g).writer) same within)
    (subst (λ (x : Group). IsGroup (metas_for part second.dataset) part (group_past second g all) x) (sym is)
    (subst (λ (m : List MetaData). IsGroup (metas_for part m) part (group_past second g all) (get_or s.round.publisher.groups.items g group)) metas_are
    (past g (subst (λ (c : Config). g < length c.group) same low) group)))
  where
    part : GroupPart
    part = group_at second g

pub writer-lived : (second : Config) (lived : List GatewayStep) (s : Gateway) (g w : ℕ) (group : Group) (writer : Writer) → Stands second lived s → g < length s.config.now.group
    → w < length (group_at s.config.now g).writer → group ≡ get_or s.round.publisher.groups.items g group → IsWriterIn group w writer
    → IsWriter (meta_at (group_at second g) second.dataset w) (settings_of (writer_at (group_at second g) w)) (writer_deeds (plan_again second) g w (session_steps (sources_of s) lived)) writer
writer-lived second lived s g w group writer stands =
    let steps = session_steps (sources_of s) lived in
    writer-behind second (metas_at second steps) (deeds (plan_again second) steps) s g w group writer (same-config second lived s stands) stands.session.metas stands.session.round.groups

pub writer-lives : (second : Config) (lived : List GatewayStep) (life : List Lived) (s : Gateway) (g w : ℕ) (group : Group) (writer : Writer) → StandsIn second lived life s
    → g < length s.config.now.group → w < length (group_at s.config.now g).writer → group ≡ get_or s.round.publisher.groups.items g group → IsWriterIn group w writer
    → IsWriter (meta_at (group_at second g) second.dataset w) (settings_of (writer_at (group_at second g) w)) (writer_deeds_in second life g w) writer
writer-lives second lived life s g w group writer stands =
    writer-behind second (metas_at second (steps_in life)) (account_in (plan_again second) life).deeds s g w group writer (ap (λ (p : Plan). p.config) stands.session.parts.plan)
    stands.session.parts.metas stands.session.parts.round.groups

-- its log keeps as many data frames as the gateway's
pub writer-logged : (s : Gateway) (g : ℕ) (group : Group) (writer : Writer) → IsGateway s → g < length s.config.now.group → group ≡ get_or s.round.publisher.groups.items g group
    → IsLoggedIn group writer → logged_by writer ≡ logged_of s
writer-logged s g group writer gateway low is there =
    there.logged (logged_of s) (subst (AreLogged (logged_of s)) (sym is) (gateway.logs g group (omega (arith, low, gateway.round.publisher.groups.count))))

-- and each one, where it keeps as many as there are ticks
pub writer-all : (second : Config) (lived : List GatewayStep) (s : Gateway) (g w : ℕ) → KeepsAll s → Stands second lived s
    → length (log_at (plan_again second) g w (session_steps (sources_of s) lived)) ≤ logged_of s
writer-all second lived s g w keeps stands =
    let steps = session_steps (sources_of s) lived in
    let few = log-few (plan_again second) g w steps in let ticks = stands.session.ticks in omega (arith, few, ticks, keeps)

-- in a life
pub writer-all-in : (second : Config) (lived : List GatewayStep) (life : List Lived) (s : Gateway) (g w : ℕ) → KeepsAll s → StandsIn second lived life s
    → length (log_in (plan_again second) life g w) ≤ logged_of s
writer-all-in second lived life s g w keeps stands =
    let few = log-few-in (plan_again second) g w life in let ticks = stands.session.parts.ticks in omega (arith, few, ticks, keeps)

-- ---- versions

-- no more are kept than were collected, and that of store 0
kept-few : (source : ℕ) (lived : List GatewayStep) → length (versions_kept source lived) ≤ collects_in lived + 1
kept-few source [] = omega arith
kept-few source (Collect passes origins ∷ before) =
    let version = version_by (get_or origins source no_origin) in
    let few = kept-few source before in let one = one-more (versions_kept source before) version (version.store == last_store (versions_kept source before)) refl in omega (arith, few, one)
kept-few source (Tick ms closing done ∷ before) = kept-few source before
kept-few source (Pump entries ∷ before) = kept-few source before

-- so all are kept, where as many are as there are ticks
pub versions-all : (lived : List GatewayStep) (s : Gateway) (source : ℕ) → KeepsAll s → collects_in lived + s.left.collects ≤ s.left.turns
    → first_kept (logged_of s) (versions_kept source lived) ≡ versions_kept source lived
versions-all lived s source keeps collects = first-all (logged_of s) (versions_kept source lived) (let few = kept-few source lived in omega (arith, few, collects, keeps))

-- ---- readers

pub reader-there : (s : Gateway) (r i : ℕ) (group : ReaderGroup) → IsGateway s → r < length s.config.now.readgroup → i < length (read_group_at s.config.now r).reader
    → group ≡ get_or s.round.subscriber.groups.items r group → i < reader_count group
reader-there s r i group gateway low within is =
    let at = gateway.round.subscriber.groups.each r low group in
    let same : reader_count group ≡ reader_count (get_or s.round.subscriber.groups.items r group) = ap (λ (x : ReaderGroup). reader_count x) is in
    let seats : length (setting_of s.config.now r).seats ≡ length (read_group_at s.config.now r).reader = length-map (read_group_at s.config.now r).reader (seat_in s.config.now) in
    let index = ap (λ (n : ℕ). length (setting_of s.config.now n).seats) at.index in
    omega (arith, within, same, seats, index, at.made.readers.count)

reading-stands : (second : Config) (lived : List GatewayStep) (s : Gateway) (r : ℕ) (group : ReaderGroup) → Stands second lived s → r < length s.config.now.readgroup
    → group ≡ get_or s.round.subscriber.groups.items r group
    → ReadingStands (setting_of second r) (plain (setting_of second r) (events second r (session_steps (sources_of s) lived))) group
reading-stands second lived s r group stands low is =
    let steps = session_steps (sources_of s) lived in
    let setting = setting_of second r in
    subst (λ (x : ReaderGroup). ReadingStands setting (plain setting (events second r steps)) x) (sym is)
    (stands.session.round.readings r (subst (λ (c : Config). r < length c.readgroup) (same-config second lived s stands) low) group)

pub reader-kept : (second : Config) (lived : List GatewayStep) (s : Gateway) (r i : ℕ) (group : ReaderGroup) (reader : Reader) → Stands second lived s → r < length s.config.now.readgroup
    → group ≡ get_or s.round.subscriber.groups.items r group → IsKeptAt group i reader
    → kept_by (seat_at (setting_of second r).seats i).meta.fields reader ≡ (reader_at second r i (session_steps (sources_of s) lived)).kept
reader-kept second lived s r i group reader stands low is there =
    there (setting_of second r) (plain (setting_of second r) (events second r (session_steps (sources_of s) lived))) (reading-stands second lived s r group stands low is)

pub reader-made : (s : Gateway) (r i : ℕ) (group : ReaderGroup) (reader : Reader) → IsGateway s → r < length s.config.now.readgroup
    → group ≡ get_or s.round.subscriber.groups.items r group → IsMadeAt group i reader
    → IsReaderOf (seat_at (setting_of s.config.now r).seats i).meta reader
reader-made s r i group reader gateway low is there =
    let at = gateway.round.subscriber.groups.each r low group in
    let index = ap (λ (x : ReaderGroup). index_of x) is ∙ at.index in
    subst (λ (n : ℕ). IsReaderOf (seat_at (setting_of s.config.now n).seats i).meta reader) index
    (there s.config.now (subst (λ (x : ReaderGroup). IsMadeOf s.config.now x) (sym is) at.made))
