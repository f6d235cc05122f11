-- Names of accepted tables stand once.
use Rattle.std.proofs.Common.{◌≡◌, ◌≢◌, ℕ, Bool, true, false, ◌&&◌, cond, List, [], ◌∷◌, ◌++◌, map, filter, flat_map, codes, slice_get, All, Some, refl, sym, ap, ◌∙◌, subst}
use Rattle.std.specs.List.{list_any, AllByRecursion}
use Rattle.std.specs.Str.{bytes_eq}
use Rattle.std.proofs.lemmas.Bool.{false≢true, or_parts}
use Rattle.std.proofs.lemmas.List.{map-append}
use Rattle.std.proofs.lemmas.List.Elements.{All-cons, All-from_recursion, All-map}
use Rattle.std.proofs.lemmas.List.Kept.{AllPairs-cons}
use Rattle.std.proofs.lemmas.Slice.Eq.{bytes_eq-Decides}
use Rattle.toml.specs.Data.{Members, get_member}
use Rattle.dataset_meta.specs.Metas.{MetaData}
use Rattle.config_tables.specs.declared.fault.Fault.TheVariants.{WrongType, BadName}
use Rattle.config_tables.specs.declared.grammar.Row.{Row}
use Rattle.config_tables.specs.declared.grammar.Form.TheVariants.{Text}
use Rattle.config_tables.specs.declared.grammar.Spelling.TheVariants as spelling
use Rattle.config_tables.specs.declared.key.Key.TheVariants as key
use Rattle.config_tables.specs.declared.place.Part.{Part}
use Rattle.config_tables.specs.declared.place.Part.TheVariants.{DataSet, KeyGroup, Group, ReadGroup}
use Rattle.config_tables.specs.declared.place.Place.{Place}
use Rattle.config_tables.specs.declared.place.Place.TheVariants.{Root, Publisher, Outer, Inner}
use Rattle.config_tables.specs.Grammar.{rows_of, required}
use Rattle.config_tables.specs.Places.{outer_key, inner_key, is_outer, is_component, shares_names}
use Rattle.config_tables.specs.Tables.{Located, located, inner_tables, tables_at, tables_with, tables_of, publisher_of, tables}
use Rattle.config_tables.specs.Values.{value_at, text_at}
use Rattle.ps_config.specs.declared.parts.KeyGroupPart.{KeyGroupPart}
use Rattle.ps_config.specs.declared.parts.ReaderPart.{ReaderPart}
use Rattle.ps_config.specs.declared.parts.WriterPart.{WriterPart}
use Rattle.ps_config.specs.Configs.{config_of, data_set_of, key_group_of, group_of, writer_of, read_group_of, reader_of}
use Rattle.ps_config.specs.Faults.{is_reserved}
use Rattle.ps_config.specs.Fields.{name_of, name_at, outer_tables, elements_of}
use Rattle.ps_config.specs.Meaning.{PassTables}
use Rattle.ps_config.specs.Sound.{AreDistinct, group_names, read_group_names, component_names, data_set_names, key_group_names}
use Rattle.ps_config.proofs.Clean.{IsClean, clean}
use Rattle.ps_config.proofs.Distinct.{flat_map_map, map_flat, flat_same}
use Rattle.ps_config.proofs.MetaFacts.{name_ok}
use Rattle.ps_config.proofs.Pairs.{Test, pairs}
use Rattle.ps_config.proofs.Passing.{passing, outer_place}
use Rattle.ps_config.proofs.Rising.{map_twice}
use Rattle.ps_config.proofs.Sound.{fault_at, there_at, and_right}
use Rattle.ps_config.proofs.Structure.{Element, outer_table, outers, owned, split5, first_none}

-- ---- names that differ

itself : (n : List ℕ) → bytes_eq n n ≡ true
itself n = (bytes_eq-Decides n n).1 refl

unlike : (p : Test) (n : List ℕ) (ts : List Located) → list_any (λ s. p s && bytes_eq n (name_of s)) ts ≡ false → AllByRecursion (λ m. m ≢ n) (map name_of (filter p ts))
unlike p n [] none = tt
unlike p n (t ∷ ts) none =
    let parts = or_parts (p t && bytes_eq n (name_of t)) (list_any (λ s. p s && bytes_eq n (name_of s)) ts) none in
    go (p t) parts.0 (unlike p n ts parts.1)
  where
    go : (b : Bool) → (b && bytes_eq n (name_of t)) ≡ false → AllByRecursion (λ m. m ≢ n) (map name_of (filter p ts)) → AllByRecursion (λ m. m ≢ n) (map name_of (cond b (t ∷ filter p ts) (filter p ts)))
    go true other rest = ((λ same. false≢true (sym other ∙ ap (bytes_eq n) same ∙ itself n)), rest)
    go false other rest = rest

distinct_names : (p : Test) (ts : List Located)
    → ((front : List Located) (t : Located) (back : List Located) → ts ≡ front ++ t ∷ back → p t ≡ true → list_any (λ s. p s && bytes_eq (name_of t) (name_of s)) front ≡ false)
    → AreDistinct (map name_of (filter p ts))
distinct_names p ts each =
    pairs (λ one other. one ≢ other) p name_of ts
    (λ front t back split is. All-from_recursion (λ m. m ≢ name_of t) (map name_of (filter p front)) (unlike p (name_of t) front (each front t back split is)))

-- ---- the name of a table is that at its key

-- the row of the name
abbrev name_row : Row
name_row = required key.Name (Text spelling.Name)

abbrev named : Located → List ℕ
named t = name_at t.members

named_as_told : (ts before : List Located) (t : Located) → IsClean ts before t → slice_get (rows_of t.place) 0 ≡ Some name_row → named t ≡ name_of t
named_as_told ts before t c at =
    ap (λ b. cond b (text_at key.Name t.members) (codes "none"))
    (name_ok t.outer (value_at key.Name t.members) (there_at t 0 key.Name (Text spelling.Name) at c.missing) (fault_at WrongType t 0 name_row at c.wrong) (fault_at BadName t 0 name_row at c.bad_name))

same_where : (p : Test) (f g : Located → List ℕ) (ts : List Located)
    → ((front : List Located) (t : Located) (back : List Located) → ts ≡ front ++ t ∷ back → p t ≡ true → f t ≡ g t) → map f (filter p ts) ≡ map g (filter p ts)
same_where p f g [] each = refl
same_where p f g (t ∷ ts) each = go (p t) refl (same_where p f g ts (λ front s back split is. each (t ∷ front) s back (ap (λ l. t ∷ l) split) is))
  where
    go : (b : Bool) → p t ≡ b → map f (filter p ts) ≡ map g (filter p ts) → map f (cond b (t ∷ filter p ts) (filter p ts)) ≡ map g (cond b (t ∷ filter p ts) (filter p ts))
    go true is rest = ap (λ x. x ∷ map f (filter p ts)) (each [] t ts refl is) ∙ ap (λ l. g t ∷ l) rest
    go false is rest = rest

names_told : (p : Test) (ts : List Located) → PassTables ts → ((t : Located) → p t ≡ true → slice_get (rows_of t.place) 0 ≡ Some name_row)
    → map named (filter p ts) ≡ map name_of (filter p ts)
names_told p ts h row = same_where p named name_of ts (λ front t back split is. named_as_told ts front t (clean ts h front t back split) (row t is))

-- ---- data sets and key groups

no_double : (ts : List Located) → PassTables ts → (front : List Located) (t : Located) (back : List Located) → ts ≡ front ++ t ∷ back
    → list_any (λ s. shares_names t.place s.place && bytes_eq (name_of t) (name_of s)) front ≡ false
no_double ts h front t back split =
    (or_parts (list_any (λ s. shares_names t.place s.place && bytes_eq (name_of t) (name_of s)) front) (is_component t.place && is_reserved (name_of t)) (clean ts h front t back split).double_name).0

at_outer : (part : Part) (t : Located) → ((i : ℕ) → slice_get (rows_of (Outer part i)) 0 ≡ Some name_row) → is_outer part t.place ≡ true → slice_get (rows_of t.place) 0 ≡ Some name_row
at_outer part t row is = ap (λ (q : Place). slice_get (rows_of q) 0) (outer_place part t.place is) ∙ row _

pub data_set_names_distinct : (ts : List Located) → PassTables ts → AreDistinct (data_set_names (config_of ts))
unfolding config_of data_set_of
data_set_names_distinct ts h =
    let p = λ (t : Located). is_outer DataSet t.place in
    subst AreDistinct (sym (map_twice (data_set_of ts) (λ (meta : MetaData). meta.name) (outer_tables DataSet ts) ∙ names_told p ts h (λ t is. at_outer DataSet t (λ i. refl) is)))
    (distinct_names p ts (λ front t back split is.
    subst (λ (q : Place). list_any (λ s. shares_names q s.place && bytes_eq (name_of t) (name_of s)) front ≡ false) (outer_place DataSet t.place is) (no_double ts h front t back split)))

pub key_group_names_distinct : (ts : List Located) → PassTables ts → AreDistinct (key_group_names (config_of ts))
unfolding config_of key_group_of
key_group_names_distinct ts h =
    let p = λ (t : Located). is_outer KeyGroup t.place in
    subst AreDistinct (sym (map_twice (key_group_of ts) (λ (group : KeyGroupPart). group.name) (outer_tables KeyGroup ts) ∙ names_told p ts h (λ t is. at_outer KeyGroup t (λ i. refl) is)))
    (distinct_names p ts (λ front t back split is.
    subst (λ (q : Place). list_any (λ s. shares_names q s.place && bytes_eq (name_of t) (name_of s)) front ≡ false) (outer_place KeyGroup t.place is) (no_double ts h front t back split)))

-- ---- the tables of components

abbrev stands_for_component : Test
stands_for_component t = is_component t.place

component_row : (q : Place) → is_component q ≡ true → slice_get (rows_of q) 0 ≡ Some name_row
component_row (Outer DataSet i) h = refl
component_row (Outer KeyGroup i) h = refl
component_row (Outer Group i) h = refl
component_row (Outer ReadGroup i) h = refl
component_row (Inner DataSet i j) h = refl
component_row (Inner KeyGroup i j) h = absurd (false≢true h)
component_row (Inner Group i j) h = refl
component_row (Inner ReadGroup i j) h = refl
component_row Root h = absurd (false≢true h)
component_row Publisher h = absurd (false≢true h)

fresh_component : (q : Place) (n : List ℕ) (front : List Located) → is_component q ≡ true → list_any (λ s. shares_names q s.place && bytes_eq n (name_of s)) front ≡ false
    → list_any (λ s. is_component s.place && bytes_eq n (name_of s)) front ≡ false
fresh_component (Outer Group i) n front h none = none
fresh_component (Outer ReadGroup i) n front h none = none
fresh_component (Inner Group i j) n front h none = none
fresh_component (Inner ReadGroup i j) n front h none = none
fresh_component (Outer DataSet i) n front h none = absurd (false≢true h)
fresh_component (Outer KeyGroup i) n front h none = absurd (false≢true h)
fresh_component (Inner DataSet i j) n front h none = absurd (false≢true h)
fresh_component (Inner KeyGroup i j) n front h none = absurd (false≢true h)
fresh_component Root n front h none = absurd (false≢true h)
fresh_component Publisher n front h none = absurd (false≢true h)

each_inner : (P : Located → Type 0) (part : Part) (i : ℕ) (ms : Members) (xs : List Element) → ((x : Element) → P (located (Inner part i x.0) ms x.1))
    → AllByRecursion P (map (λ x. located (Inner part i x.0) ms x.1) xs)
each_inner P part i ms [] inner = tt
each_inner P part i ms (x ∷ xs) inner = (inner x, each_inner P part i ms xs inner)

each_append : (P : Located → Type 0) (xs ys : List Located) → AllByRecursion P xs → AllByRecursion P ys → AllByRecursion P (xs ++ ys)
each_append P [] ys here there = there
each_append P (x ∷ xs) ys here there = (here.0, each_append P xs ys here.1 there)

each_table : (P : Located → Type 0) (part : Part) (document : Members) (es : List Element) → ((e : Element) → P (outer_table part document e))
    → ((e x : Element) → P (located (Inner part e.0 x.0) e.1 x.1)) → AllByRecursion P (tables_with part document es)
each_table P part document [] outer inner = tt
each_table P part document (e ∷ es) outer inner =
    (outer e, each_append P (inner_tables part e.0 e.1) (tables_with part document es) (each_inner P part e.0 e.1 (tables_at (inner_key part) e.1) (inner e)) (each_table P part document es outer inner))

filter_all : (p : Test) (xs : List Located) → AllByRecursion (λ t. p t ≡ true) xs → filter p xs ≡ xs
filter_all p [] all = refl
filter_all p (x ∷ xs) all = ap (λ b. cond b (x ∷ filter p xs) (filter p xs)) all.0 ∙ ap (λ l. x ∷ l) (filter_all p xs all.1)

filter_none : (p : Test) (xs : List Located) → AllByRecursion (λ t. p t ≡ false) xs → filter p xs ≡ []
filter_none p [] all = refl
filter_none p (x ∷ xs) all = ap (λ b. cond b (x ∷ filter p xs) (filter p xs)) all.0 ∙ filter_none p xs all.1

no_set : (document : Members) → filter stands_for_component (tables_of DataSet document) ≡ []
no_set document = filter_none stands_for_component (tables_of DataSet document) (each_table (λ t. stands_for_component t ≡ false) DataSet document (tables_at (outer_key DataSet) document) (λ e. refl) (λ e x. refl))

no_key : (document : Members) → filter stands_for_component (tables_of KeyGroup document) ≡ []
no_key document = filter_none stands_for_component (tables_of KeyGroup document) (each_table (λ t. stands_for_component t ≡ false) KeyGroup document (tables_at (outer_key KeyGroup) document) (λ e. refl) (λ e x. refl))

all_group : (document : Members) → filter stands_for_component (tables_of Group document) ≡ tables_of Group document
all_group document = filter_all stands_for_component (tables_of Group document) (each_table (λ t. stands_for_component t ≡ true) Group document (tables_at (outer_key Group) document) (λ e. refl) (λ e x. refl))

all_read_group : (document : Members) → filter stands_for_component (tables_of ReadGroup document) ≡ tables_of ReadGroup document
all_read_group document = filter_all stands_for_component (tables_of ReadGroup document) (each_table (λ t. stands_for_component t ≡ true) ReadGroup document (tables_at (outer_key ReadGroup) document) (λ e. refl) (λ e x. refl))

component_tables : (document : Members) → filter stands_for_component (tables document) ≡ tables_of Group document ++ tables_of ReadGroup document
component_tables document =
    split5 stands_for_component (located Root document document ∷ publisher_of document) (tables_of DataSet document) (tables_of KeyGroup document) (tables_of Group document) (tables_of ReadGroup document)
    ∙ rw (first_none stands_for_component document (get_member (codes "publisher") document) refl (λ ms. refl), no_set document, no_key document, all_group document, all_read_group document) refl

-- ---- the names of components

group_table_names : (document : Members) (front : List Element) (e : Element) (back : List Element) → tables_at (outer_key Group) document ≡ front ++ e ∷ back
    → group_names (group_of (tables document) (outer_table Group document e)) ≡ map named (outer_table Group document e ∷ inner_tables Group e.0 e.1)
unfolding group_of writer_of
group_table_names document front e back split =
    ap (λ l. name_at e.1 ∷ l)
    (map_twice (writer_of (tables document)) (λ (writer : WriterPart). writer.name) (elements_of Group e.0 (tables document)) ∙ ap (map named) (owned Group document front e back split))

read_group_table_names : (document : Members) (front : List Element) (e : Element) (back : List Element) → tables_at (outer_key ReadGroup) document ≡ front ++ e ∷ back
    → read_group_names (read_group_of (tables document) (outer_table ReadGroup document e)) ≡ map named (outer_table ReadGroup document e ∷ inner_tables ReadGroup e.0 e.1)
unfolding read_group_of reader_of
read_group_table_names document front e back split =
    ap (λ l. name_at e.1 ∷ l)
    (map_twice (reader_of (tables document)) (λ (reader : ReaderPart). reader.name) (elements_of ReadGroup e.0 (tables document)) ∙ ap (map named) (owned ReadGroup document front e back split))

names_of_groups : (document : Members) → flat_map group_names (map (group_of (tables document)) (outer_tables Group (tables document))) ≡ map named (tables_of Group document)
names_of_groups document =
    let ts = tables document in
    let es = tables_at (outer_key Group) document in
    flat_map_map group_names (group_of ts) (outer_tables Group ts)
    ∙ ap (flat_map (λ t. group_names (group_of ts t))) (outers Group document)
    ∙ flat_map_map (λ t. group_names (group_of ts t)) (outer_table Group document) es
    ∙ flat_same (λ e. group_names (group_of ts (outer_table Group document e))) (λ e. map named (outer_table Group document e ∷ inner_tables Group e.0 e.1)) es (group_table_names document)
    ∙ map_flat (λ (e : Element). outer_table Group document e ∷ inner_tables Group e.0 e.1) named es

names_of_read_groups : (document : Members) → flat_map read_group_names (map (read_group_of (tables document)) (outer_tables ReadGroup (tables document))) ≡ map named (tables_of ReadGroup document)
names_of_read_groups document =
    let ts = tables document in
    let es = tables_at (outer_key ReadGroup) document in
    flat_map_map read_group_names (read_group_of ts) (outer_tables ReadGroup ts)
    ∙ ap (flat_map (λ t. read_group_names (read_group_of ts t))) (outers ReadGroup document)
    ∙ flat_map_map (λ t. read_group_names (read_group_of ts t)) (outer_table ReadGroup document) es
    ∙ flat_same (λ e. read_group_names (read_group_of ts (outer_table ReadGroup document e))) (λ e. map named (outer_table ReadGroup document e ∷ inner_tables ReadGroup e.0 e.1)) es (read_group_table_names document)
    ∙ map_flat (λ (e : Element). outer_table ReadGroup document e ∷ inner_tables ReadGroup e.0 e.1) named es

component_names_are : (document : Members) → PassTables (tables document)
    → component_names (config_of (tables document)) ≡ codes "root" ∷ codes "connection" ∷ map name_of (filter stands_for_component (tables document))
unfolding config_of
component_names_are document h =
    ap (λ l. codes "root" ∷ codes "connection" ∷ l)
    (ap (λ l. l ++ flat_map read_group_names (map (read_group_of (tables document)) (outer_tables ReadGroup (tables document)))) (names_of_groups document)
    ∙ ap (λ l. map named (tables_of Group document) ++ l) (names_of_read_groups document)
    ∙ sym (map-append named (tables_of Group document) (tables_of ReadGroup document))
    ∙ ap (map named) (sym (component_tables document))
    ∙ names_told stands_for_component (tables document) h (λ t is. component_row t.place is))

-- a component has no name of one that isn't in the document
record IsFree (n : List ℕ) : Type 0 where
  root : codes "root" ≢ n
  connection : codes "connection" ≢ n

free : (n : List ℕ) → is_reserved n ≡ false → IsFree n
free n h =
    let parts = or_parts (bytes_eq n (codes "root")) (bytes_eq n (codes "connection")) h in
    record {
      root = λ same. false≢true (sym parts.0 ∙ (bytes_eq-Decides n (codes "root")).1 (sym same));
      connection = λ same. false≢true (sym parts.1 ∙ (bytes_eq-Decides n (codes "connection")).1 (sym same));
    }

free_names : (ts : List Located) → PassTables ts → All IsFree (map name_of (filter stands_for_component ts))
free_names ts h =
    All-map IsFree name_of (filter stands_for_component ts)
    (passing stands_for_component (λ t. IsFree (name_of t)) ts (λ front t back split is.
    free (name_of t) (and_right (is_component t.place) (is_reserved (name_of t)) is
    (or_parts (list_any (λ s. shares_names t.place s.place && bytes_eq (name_of t) (name_of s)) front) (is_component t.place && is_reserved (name_of t)) (clean ts h front t back split).double_name).1)))

two_apart : codes "root" ≢ codes "connection"
two_apart same = false≢true ((bytes_eq-Decides (codes "root") (codes "connection")).1 same)

pub component_names_distinct : (document : Members) → PassTables (tables document) → AreDistinct (component_names (config_of (tables document)))
component_names_distinct document h =
    let ts = tables document in
    let names = map name_of (filter stands_for_component ts) in
    let all = free_names ts h in
    let each : AreDistinct names = distinct_names stands_for_component ts (λ front t back split is. fresh_component t.place (name_of t) front is (no_double ts h front t back split)) in
    subst AreDistinct (sym (component_names_are document h))
    (AllPairs-cons (λ one other. one ≢ other) (codes "root") (codes "connection" ∷ names)
    (All-cons (λ n. codes "root" ≢ n) (codes "connection") names two_apart (λ k d within. (all k d within).root))
    (AllPairs-cons (λ one other. one ≢ other) (codes "connection") names (λ k d within. (all k d within).connection) each))
