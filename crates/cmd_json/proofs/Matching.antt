-- A reader is told where it is matched, by the one test and by the other definition.
use Rattle.std.proofs.Common.{◌≡◌, ◌⊎◌, inl, inr, ℕ, ◌<◌, List, length, Bool, true, false, ◌&&◌, ◌||◌, Option, Some, None, refl, sym, ap, ◌∙◌}
use Rattle.std.specs.Prelude.{◌==◌, is_some, slice_index_or}
use Rattle.std.specs.List.{list_any}
use Rattle.std.proofs.lemmas.Bool.{eq-eqb, eqb-true, false≢true}
use Rattle.std.proofs.lemmas.List.{get_or_default}
use Rattle.std.proofs.lemmas.List.Folds.{Any-from_list_any, list_any_at}
use Rattle.std.proofs.lemmas.Slice.Eq.{bytes_eq-Decides}
use Rattle.config_tables.specs.Texts.{is_same_publisher}
use Rattle.config_tables.specs.declared.publisher.Publisher.{Publisher}
use Rattle.config_tables.proofs.Publishers.{same-publisher, self-publisher}
use Rattle.config_tables.specs.declared.words.Layout.{Layout}
use Rattle.config_tables.specs.declared.words.Layout.TheVariants as layouts
use Rattle.config_tables.specs.declared.words.Security.{Security}
use Rattle.config_tables.specs.declared.words.Security.TheVariants as securities
use Rattle.ps_config.specs.declared.parts.Config.{Config}
use Rattle.ps_config.specs.declared.parts.GroupPart.{GroupPart}
use Rattle.ps_config.specs.declared.parts.ReadGroupPart.{ReadGroupPart}
use Rattle.ps_config.specs.declared.parts.ReaderPart.{ReaderPart}
use Rattle.ps_config.specs.Headers.{is_secured}
use Rattle.ps_config.specs.Rooms.{is_fixed}
use Rattle.ps_config.specs.Sound.{IsGroup, IsReadGroup, IsSound}
use Rattle.reader_group.specs.Filter.{is_any_or, has_class}
use Rattle.reader_group.proofs.Asked.{class-same}
use Rattle.reader_group.specs.Settings.{group_at as read_group_at}
use Rattle.writer_group.specs.Parts.{group_at, no_group}
use Rattle.writer_group.specs.Payloads.{writer_at, no_writer}
use Rattle.group_laws.specs.Matching.{IsMatched, ReadsWriter, reader_at}
use Rattle.json_text.specs.Matching.{asks_for, is_matched, is_plain, reads_group, reads_writer}
use Rattle.cmd_json.specs.Matched.{HasItsWriter, IsToldIfMatched}

-- ---- truth values

both : (a b : Bool) → (a && b) ≡ true → (a ≡ true) × (b ≡ true)
both true b is = (refl, is)
both false b is = absurd (false≢true is)

together : (a b : Bool) → a ≡ true → b ≡ true → (a && b) ≡ true
together a b first second = ap (λ (t : Bool). t && b) first ∙ second

either : (a b : Bool) → (a || b) ≡ true → (a ≡ true) ⊎ (b ≡ true)
either true b is = inl refl
either false b is = inr is

second-holds : (a b : Bool) → b ≡ true → (a || b) ≡ true
second-holds true b is = refl
second-holds false b is = is

-- ---- what a read group asks for

any-or : (asked number : ℕ) → is_any_or asked (Some number) ≡ true → (asked ≡ 0) ⊎ (asked ≡ number)
any-or asked number is =
    elim (either (asked == 0) (number == asked) is) [
      | inl any ↦ inl (eqb-true asked 0 any)
      | inr same ↦ inr (sym (eqb-true number asked same))
    ]

asks-any : (asked number : ℕ) → asked ≡ 0 → is_any_or asked (Some number) ≡ true
asks-any asked number any = ap (λ (n : ℕ). is_any_or n (Some number)) any

asks-same : (asked number : ℕ) → asked ≡ number → is_any_or asked (Some number) ≡ true
asks-same asked number same = second-holds (asked == 0) (number == asked) (eq-eqb number asked (sym same))

class-or : (asked carried : Option (List ℕ)) → has_class asked carried ≡ true → (asked ≡ None) ⊎ (asked ≡ carried)
class-or None carried is = inl refl
class-or (Some id) None is = absurd (false≢true is)
class-or (Some id) (Some other) is = inr (ap (λ (t : List ℕ). Some t) ((bytes_eq-Decides id other).0 is))

has-class : (asked carried : Option (List ℕ)) → (asked ≡ None) ⊎ (asked ≡ carried) → has_class asked carried ≡ true
has-class asked carried (inl any) = ap (λ (o : Option (List ℕ)). has_class o carried) any
has-class asked carried (inr same) = ap (λ (o : Option (List ℕ)). has_class o carried) same ∙ class-same carried

plain-layout : (layout : Layout) (security : Security) → is_plain layout security ≡ true → layout ≡ layouts.Dynamic
plain-layout layouts.Dynamic security is = refl
plain-layout layouts.Fixed security is = absurd (false≢true is)

plain-security : (layout : Layout) (security : Security) → is_plain layout security ≡ true → security ≡ securities.None
plain-security layouts.Fixed security is = absurd (false≢true is)
plain-security layouts.Dynamic securities.None is = refl
plain-security layouts.Dynamic securities.Sign is = absurd (false≢true is)
plain-security layouts.Dynamic securities.Encrypt is = absurd (false≢true is)

no-key : (security : Security) (keygroup : Option ℕ) → security ≡ securities.None → is_secured security ≡ is_some keygroup → keygroup ≡ None
no-key security None is keyed = refl
no-key security (Some k) is keyed = absurd (false≢true (sym (ap is_secured is) ∙ keyed))

-- ---- a group

asks-matched : (config : Config) (readers : ReadGroupPart) (group : GroupPart) → IsReadGroup config readers → IsGroup config group
    → is_plain readers.layout readers.security ≡ true → asks_for config readers group ≡ true → IsMatched config group readers
asks-matched config readers group of_readers of_group plain is =
    let one = both _ (has_class readers.class_id group.class_id) is in
    let two = both _ (is_any_or readers.version (Some group.version)) one.0 in
    let three = both _ (is_any_or readers.group (Some group.id)) two.0 in
    let four = both (is_plain group.layout group.security) (is_same_publisher readers.publisher config.publisher.id) three.0 in
    let secured = plain-security readers.layout readers.security plain in
    let its = plain-security group.layout group.security four.0 in
    record {
      publisher = same-publisher readers.publisher config.publisher.id four.1;
      group_id = asked-group (any-or readers.group group.id three.1);
      version = any-or readers.version group.version two.1;
      class_id = class-or readers.class_id group.class_id one.1;
      layout = plain-layout readers.layout readers.security plain ∙ sym (plain-layout group.layout group.security four.0);
      security = secured ∙ sym its;
      keygroup = no-key readers.security readers.keygroup secured of_readers.keys.keyed ∙ sym (no-key group.security group.keygroup its of_group.keys.keyed);
    }
  where
    asked-group : (readers.group ≡ 0) ⊎ (readers.group ≡ group.id) → (readers.group ≡ group.id) ⊎ ((readers.group ≡ 0) × (readers.layout ≡ layouts.Dynamic))
    asked-group (inl any) = inr (any, plain-layout readers.layout readers.security plain)
    asked-group (inr same) = inl same

matched-asks : (config : Config) (readers : ReadGroupPart) (group : GroupPart) → is_plain readers.layout readers.security ≡ true → IsMatched config group readers
    → asks_for config readers group ≡ true
matched-asks config readers group plain matched =
    together _ (has_class readers.class_id group.class_id)
    (together _ (is_any_or readers.version (Some group.version))
    (together _ (is_any_or readers.group (Some group.id))
    (together (is_plain group.layout group.security) (is_same_publisher readers.publisher config.publisher.id)
    (sym (ap (λ (l : Layout). is_plain l readers.security) matched.layout ∙ ap (λ (s : Security). is_plain group.layout s) matched.security) ∙ plain)
    (ap (λ (p : Publisher). is_same_publisher p config.publisher.id) matched.publisher ∙ self-publisher config.publisher.id))
    (of_group matched.group_id))
    (of_version matched.version))
    (has-class readers.class_id group.class_id matched.class_id)
  where
    of_group : (readers.group ≡ group.id) ⊎ ((readers.group ≡ 0) × (readers.layout ≡ layouts.Dynamic)) → is_any_or readers.group (Some group.id) ≡ true
    of_group (inl same) = asks-same readers.group group.id same
    of_group (inr any) = asks-any readers.group group.id any.0

    of_version : (readers.version ≡ 0) ⊎ (readers.version ≡ group.version) → is_any_or readers.version (Some group.version) ≡ true
    of_version (inl any) = asks-any readers.version group.version any
    of_version (inr same) = asks-same readers.version group.version same

-- ---- a writer

not-fixed : (layout : Layout) → layout ≡ layouts.Dynamic → is_fixed layout ≡ true → ⊥
not-fixed layout is fixed = false≢true (sym (ap is_fixed is) ∙ fixed)

reads-its : (group : GroupPart) (w : ℕ) (reader : ReaderPart) → group.layout ≡ layouts.Dynamic → w < length group.writer → reads_writer reader (writer_at group w) ≡ true
    → ReadsWriter group w reader
reads-its group w reader dynamic below is =
    let same = both ((writer_at group w).id == reader.writer) ((writer_at group w).dataset == reader.dataset) is in
    record {
      within = below;
      id = sym (eqb-true (writer_at group w).id reader.writer same.0);
      dataset = sym (eqb-true (writer_at group w).dataset reader.dataset same.1);
      offset = λ fixed. absurd (not-fixed group.layout dynamic fixed);
      size = λ fixed. absurd (not-fixed group.layout dynamic fixed);
    }

its-reads : (group : GroupPart) (w : ℕ) (reader : ReaderPart) → ReadsWriter group w reader → reads_writer reader (writer_at group w) ≡ true
its-reads group w reader reads =
    together ((writer_at group w).id == reader.writer) ((writer_at group w).dataset == reader.dataset)
    (eq-eqb (writer_at group w).id reader.writer (sym reads.id)) (eq-eqb (writer_at group w).dataset reader.dataset (sym reads.dataset))

-- the element that passes, by its index
found : {X : Type 0} (test : X → Bool) (xs : List X) (d : X) → list_any test xs ≡ true → (k : ℕ) × (k < length xs) × (test (slice_index_or xs k d) ≡ true)
found test xs d is =
    let any = Any-from_list_any test xs is in
    (any.0, any.2, ap test (get_or_default xs any.0 d any.1 any.2) ∙ ap test any.3 ∙ any.4)

-- ---- the readers of a configuration

told : (config : Config) (r i : ℕ) → IsSound config → r < length config.readgroup → i < length (read_group_at config r).reader
    → is_plain (read_group_at config r).layout (read_group_at config r).security ≡ true
    → is_matched config (read_group_at config r) (reader_at (read_group_at config r) i) ≡ true → HasItsWriter config r i
told config r i sound at_r at_i plain is =
    let readers = read_group_at config r in
    let reader = reader_at readers i in
    let group = found (reads_group config readers reader) config.group no_group is in
    let tests = both (asks_for config readers (group_at config group.0)) (list_any (reads_writer reader) (group_at config group.0).writer) group.2 in
    let matched = asks-matched config readers (group_at config group.0) (sound.readgroups r _ at_r) (sound.groups group.0 no_group group.1) plain tests.0 in
    let writer = found (reads_writer reader) (group_at config group.0).writer no_writer tests.1 in
    let dynamic = sym matched.layout ∙ plain-layout readers.layout readers.security plain in
    (group.0, writer.0, group.1, record { groups = matched; within = at_i; reads = reads-its (group_at config group.0) writer.0 reader dynamic writer.1 writer.2 })

is-told : (config : Config) (r i : ℕ) → is_plain (read_group_at config r).layout (read_group_at config r).security ≡ true → HasItsWriter config r i
    → is_matched config (read_group_at config r) (reader_at (read_group_at config r) i) ≡ true
is-told config r i plain its =
    let readers = read_group_at config r in
    let reader = reader_at readers i in
    let group = group_at config its.0 in
    list_any_at (reads_group config readers reader) config.group its.0 no_group its.2
    (together (asks_for config readers group) (list_any (reads_writer reader) group.writer)
    (matched-asks config readers group plain its.3.groups)
    (list_any_at (reads_writer reader) group.writer its.1 no_writer its.3.reads.within (its-reads group its.1 reader its.3.reads)))

pub told-if-matched : (config : Config) → IsToldIfMatched config
told-if-matched config = λ r i sound at_r at_i plain. (told config r i sound at_r at_i plain, is-told config r i plain)
