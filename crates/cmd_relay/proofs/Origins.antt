-- The origins that a session tells of its readers are those of the sources.
use Rattle.std.proofs.Common.{◌≡◌, ◌≢◌, refl, sym, ap, ◌∙◌, arith, ℕ, zero, suc, ◌+◌, ◌<◌, Bool, true, false, List, [], ◌∷◌, length, map, get_or, AllPairs, Option, Some, option_and_then}
use Rattle.std.specs.Prelude.{◌==◌, find, slice_get, zip, if◌then◌else◌}
use Rattle.std.specs.Option.{option_map_or}
use Rattle.std.proofs.lemmas.Bool.Decides.{nat_tests}
use Rattle.std.proofs.lemmas.Option.{same_Some}
use Rattle.dataset_meta.specs.Metas.{MetaData}
use Rattle.pubsub_model.specs.Answers.{version_of}
use Rattle.ps_config.specs.declared.parts.Config.{Config}
use Rattle.ps_config.specs.declared.parts.WriterPart.{WriterPart}
use Rattle.ps_config.specs.Sound.{IsSound}
use Rattle.ps_report.specs.Conditions.{writers_of}
use Rattle.reader_group.specs.Members.{seat_at}
use Rattle.reader_group.specs.Settings.{group_at as read_group_at, setting_of}
use Rattle.target_cells.specs.declared.origin.Origin.{Origin}
use Rattle.writer_group.specs.Parts.{group_at}
use Rattle.writer_group.specs.Payloads.{writer_at}
use Rattle.session_model.specs.Closing.{MemberPlace, writer_places}
use Rattle.session_model.specs.Deeds.{log_at, logs_at}
use Rattle.session_model.specs.Steps.{Plan, Step}
use Rattle.session_model.specs.Stores.{Store, stores}
use Rattle.session_laws.specs.Reading.{IsMatchedIn}
use Rattle.session_laws.proofs.Versions.Ends.{writer-part, writer-place}
use Rattle.pubsub_engine.specs.Standing.{IsOriginOf, IsVersionStored, log_named, number_stored}
use Rattle.pubsub_engine.proofs.Places.{seat-part}
use Rattle.gateway_laws.specs.Origins.{origin_at, origin_by}
use Rattle.gateway_laws.specs.Sources.{IsSourceOf, Source}

-- ---- the writer with an id

abbrev ids : List WriterPart → List ℕ
ids parts = map (λ part. part.id) parts

abbrev Differ : ℕ → ℕ → Type 0
Differ one other = one ≢ other

ids-at : (parts : List WriterPart) (k : ℕ) (part : WriterPart) → slice_get parts k ≡ Some part → (k < length (ids parts)) × (get_or (ids parts) k 0 ≡ part.id)
ids-at [] k part at = absurd (cc)
ids-at (x ∷ parts) zero part at = (omega arith, ap (λ (o : Option WriterPart). option_map_or (λ part. part.id) o 0) at)
ids-at (x ∷ parts) (suc k) part at = let rest = ids-at parts k part at in (omega (arith, rest.0), rest.1)

pairs-tail : (x : ℕ) (xs : List ℕ) → AllPairs Differ (x ∷ xs) → AllPairs Differ xs
pairs-tail x xs all = λ i j d less below. all (suc i) (suc j) d (omega (arith, less)) (omega (arith, below))

no-test : (a b : ℕ) → a ≢ b → (a == b) ≡ false
no-test a b differ = grind (arith, nat_tests)

yes-test : (a b : ℕ) → a ≡ b → (a == b) ≡ true
yes-test a b same = grind (arith, nat_tests)

-- what stands for the writer of an id among these with their places
abbrev by_id : (MemberPlace → List (ℕ × ℕ)) → List WriterPart → List MemberPlace → ℕ → List (ℕ × ℕ)
by_id f parts places id = option_map_or (λ at. f at.1) (find (λ at. at.0.id == id) (zip parts places)) []

found : (f : MemberPlace → List (ℕ × ℕ)) (parts : List WriterPart) (places : List MemberPlace) (k : ℕ) (part : WriterPart) (place : MemberPlace) → slice_get parts k ≡ Some part
    → slice_get places k ≡ Some place → AllPairs Differ (ids parts) → by_id f parts places part.id ≡ f place
found f [] places k part place at of apart = absurd (cc)
found f (x ∷ parts) [] k part place at of apart = absurd (cc)
found f (x ∷ parts) (y ∷ places) zero part place at of apart =
    let id : x.id ≡ part.id = ap (λ (o : Option WriterPart). option_map_or (λ part. part.id) o 0) at in
    ap (λ (b : Bool). option_map_or (λ (at : WriterPart × MemberPlace). f at.1) (if b then Some (x, y) else find (λ (at : WriterPart × MemberPlace). at.0.id == part.id) (zip parts places)) []) (yes-test x.id part.id id)
    ∙ ap (λ (o : Option MemberPlace). option_map_or f o []) of
found f (x ∷ parts) (y ∷ places) (suc k) part place at of apart =
    let there = ids-at parts k part at in
    let differ : x.id ≢ part.id = λ same. apart zero (suc k) 0 (omega arith) (omega (arith, there.0)) (same ∙ sym there.1) in
    ap (λ (b : Bool). option_map_or (λ (at : WriterPart × MemberPlace). f at.1) (if b then Some (x, y) else find (λ (at : WriterPart × MemberPlace). at.0.id == part.id) (zip parts places)) []) (no-test x.id part.id differ)
    ∙ found f parts places k part place at of (pairs-tail x.id (ids parts) apart)

log-is : (p : Plan) (steps : List Step) (g w : ℕ) → IsSound p.config → g < length p.config.group → w < length (group_at p.config g).writer
    → log_named p steps (writer_at (group_at p.config g) w).id ≡ log_at p g w steps
log-is p steps g w sound there within =
    let place = writer-place p.config g w there within in
    found (λ (at : MemberPlace). log_at p at.0 at.1 steps) (writers_of p.config.group) (writer_places p.config) place.0 (writer_at (group_at p.config g) w) (g, w)
    (writer-part p.config place.0 g w place.1) place.1 sound.one_writer

-- ---- a reader has one writer

distinct-at : (xs : List ℕ) (i j : ℕ) → AllPairs Differ xs → i < length xs → j < length xs → get_or xs i 0 ≡ get_or xs j 0 → i ≡ j
distinct-at [] i j all low other same = absurd (omega (arith, low))
distinct-at (x ∷ xs) zero zero all low other same = refl
distinct-at (x ∷ xs) zero (suc j) all low other same = absurd (all zero (suc j) 0 (omega arith) other same)
distinct-at (x ∷ xs) (suc i) zero all low other same = absurd (all zero (suc i) 0 (omega arith) low (sym same))
distinct-at (x ∷ xs) (suc i) (suc j) all low other same = ap suc (distinct-at xs i j (pairs-tail x xs all) (omega (arith, low)) (omega (arith, other)) same)

pub sole : (config : Config) (r i g w h v : ℕ) → IsSound config → g < length config.group → h < length config.group → IsMatchedIn config r i g w → IsMatchedIn config r i h v → (h ≡ g) × (v ≡ w)
sole config r i g w h v sound there other_there one other =
    let parts = writers_of config.group in
    let here = writer-place config g w there one.reads.within in
    let beside = writer-place config h v other_there other.reads.within in
    let a = ids-at parts here.0 (writer_at (group_at config g) w) (writer-part config here.0 g w here.1) in
    let b = ids-at parts beside.0 (writer_at (group_at config h) v) (writer-part config beside.0 h v beside.1) in
    let index : here.0 ≡ beside.0 = distinct-at (ids parts) here.0 beside.0 sound.one_writer a.0 b.0 (a.1 ∙ sym one.reads.id ∙ other.reads.id ∙ sym b.1) in
    let place : (g, w) ≡ (h, v) = same_Some (g, w) (h, v) (sym here.1 ∙ ap (slice_get (writer_places config)) index ∙ beside.1) in
    (sym (ap (λ (at : MemberPlace). at.0) place), sym (ap (λ (at : MemberPlace). at.1) place))

-- ---- the origin

told : (p : Plan) (source : Source) (now : List Step) (list : List Store) (origin : Origin) → origin.store ≡ length list → origin.number ≡ number_stored list
    → IsVersionStored (logs_at p now) p (source.read_group, source.reader) list origin.version
    → (read_group_at p.config source.read_group).publisher ≡ p.config.publisher.id
    → log_named p now (seat_at (setting_of p.config source.read_group).seats source.reader).part.writer ≡ log_at p source.group source.writer now
    → origin ≡ origin_by p source now list
told p source now [] origin store number version publisher log = λ i. record { store = store i; number = number i; version = version i }
told p source now (last ∷ before) origin store number version publisher log =
    let on : length (last ∷ before) ≡ length before + 1 = omega arith in
    let count : origin.store ≡ length before + 1 = store ∙ on in
    let at : origin.version ≡ option_and_then (version_of (log_at p source.group source.writer now)) last.number =
    version.0 publisher ∙ ap (λ (l : List (ℕ × ℕ)). option_and_then (version_of l) last.number) log in
    λ i. record { store = count i; number = number i; version = at i }

pub origin-is : (p : Plan) (meta : MetaData) (source : Source) (now : List Step) (origin : Origin) → IsSound p.config → IsSourceOf p.config meta source
    → IsOriginOf p now (source.read_group, source.reader) origin → origin ≡ origin_at p source now
origin-is p meta source now origin sound is told_so =
    let reads = is.matched.reads in
    let id : (seat_at (setting_of p.config source.read_group).seats source.reader).part.writer ≡ (writer_at (group_at p.config source.group) source.writer).id =
    ap (λ part. part.writer) (seat-part p.config source.read_group source.reader) ∙ reads.id in
    told p source now (stores p.config source.read_group source.reader now) origin told_so.store told_so.number told_so.version is.matched.groups.publisher
    (ap (log_named p now) id ∙ log-is p now source.group source.writer sound is.group_there reads.within)
