-- Ids of accepted tables stand once.
use Rattle.std.proofs.Common.{◌≡◌, ◌≢◌, ℕ, zero, suc, ◌<◌, ◌≤◌, Bool, true, false, ◌&&◌, ◌||◌, ◌==◌, cond, List, [], ◌∷◌, ◌++◌, length, get_or, map, filter, flat_map, refl, sym, ap, ◌∙◌, subst, arith}
use Rattle.std.specs.List.{list_any}
use Rattle.std.proofs.lemmas.Bool.{false≢true, or_parts}
use Rattle.std.proofs.lemmas.Bool.Decides.{nat_tests}
use Rattle.std.proofs.lemmas.List.{length-map, map-append}
use Rattle.toml.specs.Data.{Members}
use Rattle.config_tables.specs.declared.key.Key.TheVariants as key
use Rattle.config_tables.specs.declared.place.Part.TheVariants.{DataSet, KeyGroup, Group, ReadGroup}
use Rattle.config_tables.specs.declared.place.Place.{Place}
use Rattle.config_tables.specs.Places.{outer_key, is_outer, is_inner, is_inner_of, shares_ids}
use Rattle.config_tables.specs.Tables.{Located, inner_tables, tables_at, tables}
use Rattle.config_tables.specs.Values.{number_at}
use Rattle.ps_config.specs.declared.parts.GroupPart.{GroupPart}
use Rattle.ps_config.specs.declared.parts.WriterPart.{WriterPart}
use Rattle.ps_config.specs.declared.parts.ReadGroupPart.{ReadGroupPart}
use Rattle.ps_config.specs.declared.parts.ReaderPart.{ReaderPart}
use Rattle.ps_config.specs.Configs.{config_of, data_set_of, key_group_of, group_of, writer_of, read_group_of, reader_of}
use Rattle.ps_config.specs.Faults.{id_of, id_key}
use Rattle.ps_config.specs.Fields.{outer_tables, elements_of}
use Rattle.ps_config.specs.Meaning.{PassTables}
use Rattle.ps_config.specs.Sound.{AreDistinct, IsFew, writers, readers, group_ids, writer_ids}
use Rattle.ps_config.proofs.Clean.{clean}
use Rattle.ps_config.proofs.Elements.{few_elements, few_writers, few_readers}
use Rattle.ps_config.proofs.Pairs.{Test, pairs}
use Rattle.ps_config.proofs.Passing.{outer_place, inner_place, any_inner_place}
use Rattle.ps_config.proofs.Rising.{map_twice}
use Rattle.ps_config.proofs.Structure.{Element, outer_table, outers, inners, owned}

itself : (n : ℕ) → (n == n) ≡ true
itself n = grind (arith, nat_tests)

not_among : (n : ℕ) (ns : List ℕ) → list_any (λ m. n == m) ns ≡ false → (k : ℕ) (d : ℕ) → k < length ns → get_or ns k d ≢ n
not_among n [] none k d within same = omega arith
not_among n (m ∷ ns) none zero d within same =
    false≢true (sym (or_parts (n == m) (list_any (λ m. n == m) ns) none).0 ∙ ap (λ x. n == x) same ∙ itself n)
not_among n (m ∷ ns) none (suc k) d within same = not_among n ns (or_parts (n == m) (list_any (λ m. n == m) ns) none).1 k d (omega arith) same

among : (p : Test) (num : Located → ℕ) (n : ℕ) (ts : List Located) → list_any (λ s. p s && n == num s) ts ≡ list_any (λ m. n == m) (map num (filter p ts))
among p num n [] = refl
among p num n (t ∷ ts) = go (p t) (among p num n ts)
  where
    go : (b : Bool) → list_any (λ s. p s && n == num s) ts ≡ list_any (λ m. n == m) (map num (filter p ts))
        → ((b && n == num t) || list_any (λ s. p s && n == num s) ts) ≡ list_any (λ m. n == m) (map num (cond b (t ∷ filter p ts) (filter p ts)))
    go true same = ap (λ r. (n == num t) || r) same
    go false same = same

distinct : (p : Test) (num : Located → ℕ) (ts : List Located)
    → ((front : List Located) (t : Located) (back : List Located) → ts ≡ front ++ t ∷ back → p t ≡ true → list_any (λ s. p s && num t == num s) front ≡ false)
    → AreDistinct (map num (filter p ts))
distinct p num ts each =
    pairs (λ one other. one ≢ other) p num ts
    (λ front t back split is. not_among (num t) (map num (filter p front)) (sym (among p num (num t) front) ∙ each front t back split is))

same_on : (p : Test) (f g : Located → ℕ) (ts : List Located) → ((t : Located) → p t ≡ true → f t ≡ g t) → map f (filter p ts) ≡ map g (filter p ts)
same_on p f g [] same = refl
same_on p f g (t ∷ ts) same = go (p t) refl (same_on p f g ts same)
  where
    go : (b : Bool) → p t ≡ b → map f (filter p ts) ≡ map g (filter p ts) → map f (cond b (t ∷ filter p ts) (filter p ts)) ≡ map g (cond b (t ∷ filter p ts) (filter p ts))
    go true is rest = ap (λ x. x ∷ map f (filter p ts)) (same t is) ∙ ap (λ l. g t ∷ l) rest
    go false is rest = rest

abbrev id_at : Located → ℕ
id_at t = number_at key.Id 65535 0 t.members

-- ---- groups

pub group_ids_distinct : (ts : List Located) → PassTables ts → AreDistinct (group_ids (config_of ts))
unfolding config_of group_of
group_ids_distinct ts h =
    let p = λ (t : Located). is_outer Group t.place in
    let ids : map id_of (filter p ts) ≡ map id_at (filter p ts) =
    same_on p id_of id_at ts (λ t is. ap (λ (q : Place). number_at (id_key q) 65535 0 t.members) (outer_place Group t.place is)) in
    subst AreDistinct (sym (map_twice (group_of ts) (λ (g : GroupPart). g.id) (outer_tables Group ts) ∙ sym ids))
    (distinct p id_of ts (λ front t back split is.
    subst (λ (q : Place). list_any (λ s. shares_ids q s.place && id_of t == id_of s) front ≡ false) (outer_place Group t.place is) (clean ts h front t back split).double_id))

-- ---- the writers that the readers of one read group read

abbrev read_id_at : Located → ℕ
read_id_at t = number_at key.Writer 65535 0 t.members

pub read_ids_distinct : (ts : List Located) → PassTables ts → (index : ℕ) → AreDistinct (map (λ (reader : ReaderPart). reader.writer) (map (reader_of ts) (elements_of ReadGroup index ts)))
unfolding reader_of
read_ids_distinct ts h index =
    let p = λ (t : Located). is_inner_of ReadGroup index t.place in
    let ids : map id_of (filter p ts) ≡ map read_id_at (filter p ts) =
    same_on p id_of read_id_at ts (λ t is. ap (λ (q : Place). number_at (id_key q) 65535 0 t.members) (inner_place ReadGroup index t.place is).1) in
    subst AreDistinct (sym (map_twice (reader_of ts) (λ (reader : ReaderPart). reader.writer) (filter p ts) ∙ sym ids))
    (distinct p id_of ts (λ front t back split is.
    subst (λ (q : Place). list_any (λ s. shares_ids q s.place && id_of t == id_of s) front ≡ false) (inner_place ReadGroup index t.place is).1 (clean ts h front t back split).double_id))

-- ---- writers of all groups

pub flat_map_map : {X Y Z : Type 0} (F : Y → List Z) (f : X → Y) (xs : List X) → flat_map F (map f xs) ≡ flat_map (λ x. F (f x)) xs
flat_map_map F f [] = refl
flat_map_map F f (x ∷ xs) = ap (λ l. F (f x) ++ l) (flat_map_map F f xs)

pub map_flat : {X Y Z : Type 0} (F : X → List Y) (g : Y → Z) (xs : List X) → flat_map (λ x. map g (F x)) xs ≡ map g (flat_map F xs)
map_flat F g [] = refl
map_flat F g (x ∷ xs) = ap (λ l. map g (F x) ++ l) (map_flat F g xs) ∙ sym (map-append g (F x) (flat_map F xs))

pub flat_same : {Z : Type 0} (f g : Element → List Z) (es : List Element) → ((front : List Element) (e : Element) (back : List Element) → es ≡ front ++ e ∷ back → f e ≡ g e) → flat_map f es ≡ flat_map g es
flat_same f g [] same = refl
flat_same f g (e ∷ es) same =
    ap (λ l. l ++ flat_map f es) (same [] e es refl) ∙ ap (λ l. g e ++ l) (flat_same f g es (λ front x back is. same (e ∷ front) x back (ap (λ l. e ∷ l) is)))

writers_of_one : (document : Members) (front : List Element) (e : Element) (back : List Element) → tables_at (outer_key Group) document ≡ front ++ e ∷ back
    → (group_of (tables document) (outer_table Group document e)).writer ≡ map (writer_of (tables document)) (inner_tables Group e.0 e.1)
unfolding group_of
writers_of_one document front e back split = ap (map (writer_of (tables document))) (owned Group document front e back split)

all_writers : (document : Members) → writers (config_of (tables document)) ≡ map (writer_of (tables document)) (filter (λ t. is_inner Group t.place) (tables document))
unfolding config_of
all_writers document =
    let ts = tables document in
    let es = tables_at (outer_key Group) document in
    flat_map_map (λ (group : GroupPart). group.writer) (group_of ts) (outer_tables Group ts)
    ∙ ap (flat_map (λ t. (group_of ts t).writer)) (outers Group document)
    ∙ flat_map_map (λ t. (group_of ts t).writer) (outer_table Group document) es
    ∙ flat_same (λ e. (group_of ts (outer_table Group document e)).writer) (λ e. map (writer_of ts) (inner_tables Group e.0 e.1)) es (writers_of_one document)
    ∙ map_flat (λ (e : Element). inner_tables Group e.0 e.1) (writer_of ts) es ∙ ap (map (writer_of ts)) (sym (inners Group document))

readers_of_one : (document : Members) (front : List Element) (e : Element) (back : List Element) → tables_at (outer_key ReadGroup) document ≡ front ++ e ∷ back
    → (read_group_of (tables document) (outer_table ReadGroup document e)).reader ≡ map (reader_of (tables document)) (inner_tables ReadGroup e.0 e.1)
unfolding read_group_of
readers_of_one document front e back split = ap (map (reader_of (tables document))) (owned ReadGroup document front e back split)

all_readers : (document : Members) → readers (config_of (tables document)) ≡ map (reader_of (tables document)) (filter (λ t. is_inner ReadGroup t.place) (tables document))
unfolding config_of
all_readers document =
    let ts = tables document in
    let es = tables_at (outer_key ReadGroup) document in
    flat_map_map (λ (group : ReadGroupPart). group.reader) (read_group_of ts) (outer_tables ReadGroup ts)
    ∙ ap (flat_map (λ t. (read_group_of ts t).reader)) (outers ReadGroup document)
    ∙ flat_map_map (λ t. (read_group_of ts t).reader) (outer_table ReadGroup document) es
    ∙ flat_same (λ e. (read_group_of ts (outer_table ReadGroup document e)).reader) (λ e. map (reader_of ts) (inner_tables ReadGroup e.0 e.1)) es (readers_of_one document)
    ∙ map_flat (λ (e : Element). inner_tables ReadGroup e.0 e.1) (reader_of ts) es ∙ ap (map (reader_of ts)) (sym (inners ReadGroup document))

ids_are : (ts xs : List Located) → map (λ (writer : WriterPart). writer.id) (map (writer_of ts) xs) ≡ map id_at xs
unfolding writer_of
ids_are ts xs = map_twice (writer_of ts) (λ (writer : WriterPart). writer.id) xs

pub writer_ids_distinct : (document : Members) → PassTables (tables document) → AreDistinct (writer_ids (config_of (tables document)))
writer_ids_distinct document h =
    let ts = tables document in
    let p = λ (t : Located). is_inner Group t.place in
    let ids : map id_of (filter p ts) ≡ map id_at (filter p ts) =
    same_on p id_of id_at ts (λ t is. ap (λ (q : Place). number_at (id_key q) 65535 0 t.members) (any_inner_place Group t.place is).2) in
    subst AreDistinct (sym (ap (map (λ (writer : WriterPart). writer.id)) (all_writers document) ∙ ids_are ts (filter p ts) ∙ sym ids))
    (distinct p id_of ts (λ front t back split is.
    subst (λ (q : Place). list_any (λ s. shares_ids q s.place && id_of t == id_of s) front ≡ false) (any_inner_place Group t.place is).2 (clean ts h front t back split).double_id))

-- no more of each than there may be
pub few_parts : (document : Members) → PassTables (tables document) → IsFew (config_of (tables document))
unfolding config_of
few_parts document h =
    let ts = tables document in
    let writing : length (writers (config_of ts)) ≤ 16 = omega (arith, few_writers ts h, ap length (all_writers document), length-map (filter (λ t. is_inner Group t.place) ts) (writer_of ts)) in
    let reading : length (readers (config_of ts)) ≤ 16 = omega (arith, few_readers ts h, ap length (all_readers document), length-map (filter (λ t. is_inner ReadGroup t.place) ts) (reader_of ts)) in
    record {
      datasets = omega (arith, few_elements DataSet 8 ts (λ i. refl) h, length-map (outer_tables DataSet ts) (data_set_of ts));
      keygroups = omega (arith, few_elements KeyGroup 4 ts (λ i. refl) h, length-map (outer_tables KeyGroup ts) (key_group_of ts));
      groups = omega (arith, few_elements Group 4 ts (λ i. refl) h, length-map (outer_tables Group ts) (group_of ts));
      readgroups = omega (arith, few_elements ReadGroup 4 ts (λ i. refl) h, length-map (outer_tables ReadGroup ts) (read_group_of ts));
      writers = writing;
      readers = reading;
    }
