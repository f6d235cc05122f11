-- What is asked of a matched read group and of its reader, as the filter and the settings say it.
use Rattle.std.proofs.Common.{◌≡◌, refl, sym, ap, ◌∙◌, subst, ℕ, ◌<◌, ◌⊎◌, inl, inr, Bool, true, false, ◌&&◌, ◌||◌, List, length, Option, Some, None}
use Rattle.std.specs.Prelude.{◌==◌, if◌then◌else◌}
use Rattle.std.proofs.lemmas.Bool.{eq-eqb}
use Rattle.std.proofs.lemmas.List.{get_or-map}
use Rattle.dataset_meta.specs.Metas.{MetaData}
use Rattle.uadp_header.specs.Headers.{IdsValue}
use Rattle.config_tables.specs.declared.publisher.Publisher.{Publisher}
use Rattle.ps_config.specs.declared.parts.Config.{Config}
use Rattle.ps_config.specs.declared.parts.GroupPart.{GroupPart}
use Rattle.ps_config.specs.declared.parts.ReadGroupPart.{ReadGroupPart}
use Rattle.ps_config.specs.Headers.{publisher_value, version_value}
use Rattle.ps_config.specs.Rooms.{header_settings}
use Rattle.writer_group.specs.Envelopes.{Numbering, numbered_header}
use Rattle.writer_group.specs.Payloads.{meta_at}
use Rattle.reader_group.specs.Filter.{has_class, is_any_or, is_carried, is_ours, is_publisher}
use Rattle.reader_group.proofs.Asked.{class-same, publisher-same}
use Rattle.reader_group.specs.Members.{Seat, no_seat, seat_at}
use Rattle.reader_group.specs.Settings.{seat_in, setting_by}
use Rattle.group_laws.specs.Matching.{IsMatched, IsMatchedTo, ReadsFrames, ReadsWriter, reader_at}

-- ---- the filter asks for what each header of the group tells

any-asked : (carried : Option ℕ) → is_any_or 0 carried ≡ true
any-asked carried = refl

or-true : (a : Bool) → (a || true) ≡ true
or-true true = refl
or-true false = refl

group-asked : (asked id : ℕ) → asked ≡ id → is_any_or asked (Some id) ≡ true
group-asked asked id same = ap (λ (b : Bool). asked == 0 || b) (eq-eqb id asked (sym same)) ∙ or-true (asked == 0)

version-asked : (version : ℕ) → is_any_or version (version_value version) ≡ true
version-asked version = on (version == 0)
  where
    on : (b : Bool) → (b || is_carried version (if b then None else Some version)) ≡ true
    on true = refl
    on false = eq-eqb version version refl

all-four : (a b c d : Bool) → a ≡ true → b ≡ true → c ≡ true → d ≡ true → (a && b && c && d) ≡ true
all-four a b c d is_a is_b is_c is_d = rw (is_a, is_b, is_c, is_d) refl

pub matched-ours : (config : Config) (group : GroupPart) (reads : ReadGroupPart) (numbering : Numbering) (ids : IdsValue) → IsMatched config group reads
    → is_ours reads (numbered_header (publisher_value config.publisher.id) (header_settings group) numbering ids) ≡ true
matched-ours config group reads numbering ids matched =
    all-four _ _ _ _ (ap (λ (p : Publisher). is_publisher p (Some (publisher_value config.publisher.id))) matched.publisher ∙ publisher-same config.publisher.id)
    (group_is matched.group_id) (version_is matched.version) (class_is matched.class_id)
  where
    group_is : (reads.group ≡ group.id) ⊎ ((reads.group ≡ 0) × (reads.layout ≡ Rattle.config_tables.specs.declared.words.Layout.TheVariants.Dynamic)) → is_any_or reads.group (Some group.id) ≡ true
    group_is (inl same) = group-asked reads.group group.id same
    group_is (inr any) = ap (λ (n : ℕ). is_any_or n (Some group.id)) any.0

    version_is : (reads.version ≡ 0) ⊎ (reads.version ≡ group.version) → is_any_or reads.version (version_value group.version) ≡ true
    version_is (inl any) = ap (λ (n : ℕ). is_any_or n (version_value group.version)) any
    version_is (inr same) = ap (λ (n : ℕ). is_any_or n (version_value group.version)) same ∙ version-asked group.version

    class_is : (reads.class_id ≡ None) ⊎ (reads.class_id ≡ group.class_id) → has_class reads.class_id group.class_id ≡ true
    class_is (inl any) = ap (λ (o : Option (List ℕ)). has_class o group.class_id) any
    class_is (inr same) = ap (λ (o : Option (List ℕ)). has_class o group.class_id) same ∙ class-same group.class_id

-- ---- a matched reader in its read group

seat-of : (config : Config) (readers : ReadGroupPart) (reader : ℕ) → reader < length readers.reader → seat_at (setting_by config readers).seats reader ≡ seat_in config (reader_at readers reader)
seat-of config readers reader within = get_or-map (seat_in config) readers.reader reader no_seat.part no_seat within

pub matched-reads : (config : Config) (readers : ReadGroupPart) (reader : ℕ) (group : GroupPart) (writer : ℕ) → IsMatchedTo config readers reader group writer
    → ReadsWriter group writer (seat_at (setting_by config readers).seats reader).part
matched-reads config readers reader group writer is = subst (λ (s : Seat). ReadsWriter group writer s.part) (sym (seat-of config readers reader is.within)) is.reads

pub matched-meta : (config : Config) (readers : ReadGroupPart) (reader : ℕ) (group : GroupPart) (writer : ℕ) → IsMatchedTo config readers reader group writer
    → (seat_at (setting_by config readers).seats reader).meta ≡ meta_at group config.dataset writer
matched-meta config readers reader group writer is =
    ap (λ (s : Seat). s.meta) (seat-of config readers reader is.within)
    ∙ ap (λ (dataset : ℕ). Rattle.std.specs.Prelude.slice_index_or config.dataset dataset Rattle.dataset_meta.specs.Metas.no_meta) is.reads.dataset

-- a meta that the frames of a writer can be read with has the major version that they have
pub its-major : (group : GroupPart) (metas : List MetaData) (writer : ℕ) (meta : MetaData) → ReadsFrames group metas writer meta → meta.major ≡ (meta_at group metas writer).major
its-major group metas writer meta (inl same) = ap (λ (m : MetaData). m.major) same
its-major group metas writer meta (inr grown) = grown.fields.major
