-- The data sets of each moment: a writer's is the configured one, or has grown since, which its frames tell.
use Rattle.std.proofs.Common.{◌≡◌, ◌≢◌, refl, sym, ap, ◌∙◌, subst, arith, ℕ, ◌<◌, ◌≤◌, Bool, true, false, List, [], ◌∷◌, length, get_or, set, inl, inr, All}
use Rattle.std.specs.Prelude.{◌⊎◌, ◌==◌, slice_get}
use Rattle.std.proofs.lemmas.Bool.Decides.{nat_tests}
use Rattle.std.proofs.lemmas.List.{get_or-set_same, get_or-set_other, length-take, take-append-le}
use Rattle.std.proofs.Math.Seq.{take-append_seam}
use Rattle.std.proofs.lemmas.Option.{slice_get-get_or, get_or_from_slice_get, slice_get_within}
use Rattle.dataset_meta.specs.declared.field.Field.{Field}
use Rattle.dataset_meta.specs.Metas.{MetaData, HasGrown, grown, no_meta}
use Rattle.ps_config.specs.declared.parts.Config.{Config}
use Rattle.ps_config.specs.declared.parts.GroupPart.{GroupPart}
use Rattle.ps_config.specs.declared.parts.WriterPart.{WriterPart}
use Rattle.ps_config.specs.Rooms.{is_fixed}
use Rattle.ps_script.specs.Past.{grown_at}
use Rattle.writer_group.specs.Payloads.{meta_at, writer_at, no_writer}
use Rattle.group_laws.specs.Matching.{ReadsFrames, HasGrownSince}
use Rattle.session_model.specs.Steps.{Plan, Step, Enable, Disable, Append, Tick, Pump}
use Rattle.session_model.specs.Sets.{metas_at, meta_in}
use Rattle.ps_script.specs.Faults.{CanTellOf}
use Rattle.session_model.specs.Keeping.{AreStepsOf}
use Rattle.session_laws.proofs.Versions.Distinct.{IsAt}

-- a writer's data set at a moment, against the configured one
pub record IsMetaOf (config : Config) (group : GroupPart) (writer : ℕ) (metas : List MetaData) : Type 0 where
  pub reads : ReadsFrames group metas writer (meta_at group config.dataset writer)
  pub major : (meta_at group config.dataset writer).major ≡ (meta_at group metas writer).major
  pub fixed : is_fixed group.layout ≡ true → meta_at group metas writer ≡ meta_at group config.dataset writer

-- a writer of a set that may grow can tell of it
pub record MayTell (group : GroupPart) (writer : WriterPart) : Type 0 where
  pub versions : writer.versions ≡ true
  pub dynamic : is_fixed group.layout ≡ false

may-tell : (config : Config) (g : ℕ) (group : GroupPart) (writer set : ℕ) → All (CanTellOf set) config.group → IsAt config g group → writer < length group.writer → (writer_at group writer).dataset ≡ set
    → MayTell group (writer_at group writer)
may-tell config g group writer set told at within own =
    let here : CanTellOf set group = subst (CanTellOf set) (get_or_from_slice_get config.group g group group at) (told g group (slice_get_within config.group g group at)) in
    let h = here writer no_writer within own in
    record { versions = h.0; dynamic = h.1 }

-- ---- one field more

grown-on : (meta : MetaData) (field : Field) → HasGrown meta (grown meta field)
grown-on meta field = record { fields = sym (take-append_seam meta.fields (field ∷ [])); quality = refl; major = refl }

grown-again : (short meta : MetaData) (field : Field) → HasGrown short meta → HasGrown short (grown meta field)
grown-again short meta field h =
    let same = ap (λ (l : List Field). length l) h.fields ∙ length-take (length short.fields) meta.fields in
    let le : length short.fields ≤ length meta.fields = omega (arith, same) in
    record { fields = h.fields ∙ sym (take-append-le (length short.fields) meta.fields (field ∷ []) le); quality = h.quality; major = h.major }

grown-since : (writer : WriterPart) (conf meta : MetaData) (field : Field) → writer.versions ≡ true → (conf ≡ meta) ⊎ HasGrownSince writer conf meta → HasGrownSince writer conf (grown meta field)
grown-since writer conf meta field tells (inl same) =
    subst (λ (m : MetaData). HasGrownSince writer m (grown meta field)) (sym same) (record { fields = grown-on meta field; versions = tells; minor = omega arith })
grown-since writer conf meta field tells (inr h) = record { fields = grown-again conf meta field h.fields; versions = tells; minor = let lt = h.minor in omega (arith, lt) }

-- the data sets with a field more
pub grown-is : (metas : List MetaData) (index : ℕ) (field : Field) → index < length metas → grown_at metas index field (slice_get metas index) ≡ set metas index (grown (meta_in metas index) field)
grown-is metas index field there = ap (grown_at metas index field) (slice_get-get_or metas index no_meta there)

pub meta-other : (group : GroupPart) (writer : ℕ) (metas : List MetaData) (index : ℕ) (x : MetaData) → (writer_at group writer).dataset ≢ index → meta_at group (set metas index x) writer ≡ meta_at group metas writer
meta-other group writer metas index x differ = get_or-set_other metas index (writer_at group writer).dataset x no_meta differ

meta-own : (group : GroupPart) (writer : ℕ) (metas : List MetaData) (index : ℕ) (x : MetaData) → (writer_at group writer).dataset ≡ index → index < length metas → meta_at group (set metas index x) writer ≡ x
meta-own group writer metas index x own there = ap (λ (n : ℕ). get_or (set metas index x) n no_meta) own ∙ get_or-set_same metas index x no_meta there

-- one step more keeps it
meta-set : (config : Config) (g : ℕ) (group : GroupPart) (writer : ℕ) (metas : List MetaData) (index : ℕ) (field : Field) (b : Bool) → All (CanTellOf index) config.group → IsAt config g group → writer < length group.writer
    → index < length metas → ((writer_at group writer).dataset == index) ≡ b → IsMetaOf config group writer metas → IsMetaOf config group writer (set metas index (grown (meta_in metas index) field))
meta-set config g group writer metas index field true told at within there test h =
    let own : (writer_at group writer).dataset ≡ index = grind (arith, nat_tests) in
    let tells = may-tell config g group writer index told at within own in
    let old : meta_at group metas writer ≡ meta_in metas index = ap (meta_in metas) own in
    let new = meta-own group writer metas index (grown (meta_in metas index) field) own there in
    let reads = subst (λ (m : MetaData). (meta_at group config.dataset writer ≡ m) ⊎ HasGrownSince (writer_at group writer) (meta_at group config.dataset writer) m) old h.reads in
    record {
      reads = inr (subst (HasGrownSince (writer_at group writer) (meta_at group config.dataset writer)) (sym new) (grown-since (writer_at group writer) (meta_at group config.dataset writer) (meta_in metas index) field tells.versions reads));
      major = h.major ∙ ap (λ (m : MetaData). m.major) old ∙ sym (ap (λ (m : MetaData). m.major) new);
      fixed = λ is. absurd (let wrong : false ≡ true = sym tells.dynamic ∙ is in cc);
    }
meta-set config g group writer metas index field false told at within there test h =
    let differ : (writer_at group writer).dataset ≢ index = grind (arith, nat_tests) in
    let same = meta-other group writer metas index (grown (meta_in metas index) field) differ in
    record {
      reads = subst (λ (m : MetaData). (meta_at group config.dataset writer ≡ m) ⊎ HasGrownSince (writer_at group writer) (meta_at group config.dataset writer) m) (sym same) h.reads;
      major = h.major ∙ sym (ap (λ (m : MetaData). m.major) same);
      fixed = λ is. same ∙ h.fixed is;
    }

pub meta-of : (limit : ℕ) (p : Plan) (g : ℕ) (group : GroupPart) (writer : ℕ) (steps : List Step) → AreStepsOf limit p steps → IsAt p.config g group → writer < length group.writer → IsMetaOf p.config group writer (metas_at p.config steps)
meta-of limit p g group writer [] are at within = record { reads = inl refl; major = refl; fixed = λ is. refl }
meta-of limit p g group writer (Enable id ∷ before) are at within = meta-of limit p g group writer before are.1 at within
meta-of limit p g group writer (Disable id ∷ before) are at within = meta-of limit p g group writer before are.1 at within
meta-of limit p g group writer (Append index field ∷ before) are at within =
    let metas = metas_at p.config before in
    subst (IsMetaOf p.config group writer) (sym (grown-is metas index field are.0.may.there))
    (meta-set p.config g group writer metas index field ((writer_at group writer).dataset == index) are.0.may.told at within are.0.may.there refl (meta-of limit p g group writer before are.1 at within))
meta-of limit p g group writer (Tick ms closing samples done ∷ before) are at within = meta-of limit p g group writer before are.1 at within
meta-of limit p g group writer (Pump entries ∷ before) are at within = meta-of limit p g group writer before are.1 at within
