-- The tables of a document, array by array.
use Rattle.std.proofs.Common.{◌≡◌, ℕ, ◌+◌, ◌<◌, ◌≤◌, Bool, true, false, ◌&&◌, ◌==◌, cond, List, [], ◌∷◌, ◌++◌, map, flat_map, filter, codes, Option, Some, None, refl, sym, ap, ◌∙◌, subst, arith, append-nil}
use Rattle.std.specs.Prelude.{⊤}
use Rattle.std.specs.List.{AllByRecursion}
use Rattle.std.proofs.lemmas.Bool.{eqb-true}
use Rattle.std.proofs.lemmas.Bool.Decides.{nat_tests}
use Rattle.std.proofs.lemmas.List.Elements.{filter-append}
use Rattle.toml.specs.Data.{Data, string, integer, float, boolean, datetime, array, table, Items, no_items, item, Members, get_member}
use Rattle.config_tables.specs.declared.place.Part.{Part}
use Rattle.config_tables.specs.declared.place.Part.TheVariants.{DataSet, KeyGroup, Group, ReadGroup}
use Rattle.config_tables.specs.declared.place.Place.TheVariants.{Root, Publisher, Outer, Inner}
use Rattle.config_tables.specs.Places.{outer_key, inner_key, is_part, is_outer, is_inner, is_inner_of, index_of}
use Rattle.config_tables.specs.Tables.{Located, located, tables_from, tables_at, items_at, inner_tables, tables_with, tables_of, publisher_in, publisher_of, tables}
use Rattle.ps_config.specs.Fields.{outer_tables, elements_of}

abbrev pub Element : Type 0
Element = ℕ × Members

abbrev pub Test : Type 0
Test = Located → Bool

-- ---- elements and their indexes

-- the indexes rise, and begin here or later
abbrev Rises : ℕ → List Element → Type 0
Rises n [] = ⊤
Rises n (e ∷ es) = (n ≤ e.0) × Rises (e.0 + 1) es

later : (n m : ℕ) (es : List Element) → m ≤ n → Rises n es → Rises m es
later n m [] le h = tt
later n m (e ∷ es) le h = (omega (arith, h.0), h.1)

rises : (n : ℕ) (items : Items) → Rises n (tables_from n items)
rises n no_items = tt
rises n (item (table ms) items) = (omega arith, rises (n + 1) items)
rises n (item (string s) items) = later (n + 1) n (tables_from (n + 1) items) (omega arith) (rises (n + 1) items)
rises n (item (integer s) items) = later (n + 1) n (tables_from (n + 1) items) (omega arith) (rises (n + 1) items)
rises n (item (float s) items) = later (n + 1) n (tables_from (n + 1) items) (omega arith) (rises (n + 1) items)
rises n (item (boolean s) items) = later (n + 1) n (tables_from (n + 1) items) (omega arith) (rises (n + 1) items)
rises n (item (datetime s) items) = later (n + 1) n (tables_from (n + 1) items) (omega arith) (rises (n + 1) items)
rises n (item (array s) items) = later (n + 1) n (tables_from (n + 1) items) (omega arith) (rises (n + 1) items)

-- none of these has this index
abbrev Lack : ℕ → List Element → Type 0
Lack i es = AllByRecursion (λ e. (i == e.0) ≡ false) es

differ : (i k : ℕ) (b : Bool) → (i == k) ≡ b → (i ≡ k → ⊥) → (i == k) ≡ false
differ i k true e not = absurd (not (eqb-true i k e))
differ i k false e not = e

lack_after : (i n : ℕ) (es : List Element) → i < n → Rises n es → Lack i es
lack_after i n [] lt h = tt
lack_after i n (e ∷ es) lt h = (differ i e.0 (i == e.0) refl (λ same. omega (arith, h.0, same)), lack_after i (e.0 + 1) es (omega (arith, h.0)) h.1)

reaches : (n : ℕ) (front : List Element) (e : Element) (back : List Element) → Rises n (front ++ e ∷ back) → n ≤ e.0
reaches n [] e back h = h.0
reaches n (x ∷ front) e back h = let rest = reaches (x.0 + 1) front e back h.1 in omega (arith, h.0, rest)

lack_before : (n : ℕ) (front : List Element) (e : Element) (back : List Element) → Rises n (front ++ e ∷ back) → Lack e.0 front
lack_before n [] e back h = tt
lack_before n (x ∷ front) e back h =
    let above = reaches (x.0 + 1) front e back h.1 in
    (differ e.0 x.0 (e.0 == x.0) refl (λ same. omega (arith, above, same)), lack_before (x.0 + 1) front e back h.1)

lack_behind : (n : ℕ) (front : List Element) (e : Element) (back : List Element) → Rises n (front ++ e ∷ back) → Lack e.0 back
lack_behind n [] e back h = lack_after e.0 (e.0 + 1) back (omega arith) h.1
lack_behind n (x ∷ front) e back h = lack_behind (x.0 + 1) front e back h.1

-- ---- the tables of one array

abbrev pub outer_table : Part → Members → Element → Located
outer_table part document e = located (Outer part e.0) document e.1

is_itself : (part : Part) → is_part part part ≡ true
is_itself DataSet = refl
is_itself KeyGroup = refl
is_itself Group = refl
is_itself ReadGroup = refl

same_index : (i : ℕ) → (i == i) ≡ true
same_index i = grind (arith, nat_tests)

abbrev inner_table : Part → ℕ → Members → Element → Located
inner_table part i ms x = located (Inner part i x.0) ms x.1

no_outer : (p part : Part) (i : ℕ) (ms : Members) (xs : List Element) → filter (λ t. is_outer p t.place) (map (inner_table part i ms) xs) ≡ []
no_outer p part i ms [] = refl
no_outer p part i ms (x ∷ xs) = no_outer p part i ms xs

all_inner : (part : Part) (i : ℕ) (ms : Members) (xs : List Element) → filter (λ t. is_inner part t.place) (map (inner_table part i ms) xs) ≡ map (inner_table part i ms) xs
all_inner part i ms [] = refl
all_inner part i ms (x ∷ xs) =
    ap (λ b. cond b (inner_table part i ms x ∷ filter (λ t. is_inner part t.place) (map (inner_table part i ms) xs)) (filter (λ t. is_inner part t.place) (map (inner_table part i ms) xs))) (is_itself part)
    ∙ ap (λ l. inner_table part i ms x ∷ l) (all_inner part i ms xs)

all_own : (part : Part) (i : ℕ) (ms : Members) (xs : List Element) → filter (λ t. is_inner_of part i t.place) (map (inner_table part i ms) xs) ≡ map (inner_table part i ms) xs
all_own part i ms [] = refl
all_own part i ms (x ∷ xs) =
    let here : (is_part part part && i == i) ≡ true = rw (is_itself part) (same_index i) in
    ap (λ b. cond b (inner_table part i ms x ∷ filter (λ t. is_inner_of part i t.place) (map (inner_table part i ms) xs)) (filter (λ t. is_inner_of part i t.place) (map (inner_table part i ms) xs))) here
    ∙ ap (λ l. inner_table part i ms x ∷ l) (all_own part i ms xs)

and_no : (a b : Bool) → b ≡ false → (a && b) ≡ false
and_no true b e = e
and_no false b e = refl

no_own : (part : Part) (i k : ℕ) (ms : Members) (xs : List Element) → (i == k) ≡ false → filter (λ t. is_inner_of part i t.place) (map (inner_table part k ms) xs) ≡ []
no_own part i k ms [] e = refl
no_own part i k ms (x ∷ xs) e =
    ap (λ b. cond b (inner_table part k ms x ∷ filter (λ t. is_inner_of part i t.place) (map (inner_table part k ms) xs)) (filter (λ t. is_inner_of part i t.place) (map (inner_table part k ms) xs)))
    (and_no (is_part part part) (i == k) e)
    ∙ no_own part i k ms xs e

no_other : (p part : Part) (i k : ℕ) (ms : Members) (xs : List Element) → is_part p part ≡ false → filter (λ t. is_inner_of p i t.place) (map (inner_table part k ms) xs) ≡ []
no_other p part i k ms [] e = refl
no_other p part i k ms (x ∷ xs) e =
    ap (λ b. cond (b && i == k) (inner_table part k ms x ∷ filter (λ t. is_inner_of p i t.place) (map (inner_table part k ms) xs)) (filter (λ t. is_inner_of p i t.place) (map (inner_table part k ms) xs))) e
    ∙ no_other p part i k ms xs e

no_inner : (p part : Part) (k : ℕ) (ms : Members) (xs : List Element) → is_part p part ≡ false → filter (λ t. is_inner p t.place) (map (inner_table part k ms) xs) ≡ []
no_inner p part k ms [] e = refl
no_inner p part k ms (x ∷ xs) e =
    ap (λ b. cond b (inner_table part k ms x ∷ filter (λ t. is_inner p t.place) (map (inner_table part k ms) xs)) (filter (λ t. is_inner p t.place) (map (inner_table part k ms) xs))) e
    ∙ no_inner p part k ms xs e

-- what of an array's tables passes: its elements, each element's own, all its inner ones
outers_same : (part : Part) (document : Members) (es : List Element) → filter (λ t. is_outer part t.place) (tables_with part document es) ≡ map (outer_table part document) es
outers_same part document [] = refl
outers_same part document (e ∷ es) =
    let inner = map (inner_table part e.0 e.1) (tables_at (inner_key part) e.1) in
    filter-append (λ (t : Located). is_outer part t.place) (outer_table part document e ∷ inner) (tables_with part document es)
    ∙ ap (λ b. cond b (outer_table part document e ∷ filter (λ (t : Located). is_outer part t.place) inner) (filter (λ (t : Located). is_outer part t.place) inner) ++ filter (λ (t : Located). is_outer part t.place) (tables_with part document es)) (is_itself part)
    ∙ ap (λ l. outer_table part document e ∷ l ++ filter (λ (t : Located). is_outer part t.place) (tables_with part document es)) (no_outer part part e.0 e.1 (tables_at (inner_key part) e.1))
    ∙ ap (λ l. outer_table part document e ∷ l) (outers_same part document es)

outers_other : (p part : Part) (document : Members) (es : List Element) → is_part p part ≡ false → filter (λ t. is_outer p t.place) (tables_with part document es) ≡ []
outers_other p part document [] other = refl
outers_other p part document (e ∷ es) other =
    let inner = map (inner_table part e.0 e.1) (tables_at (inner_key part) e.1) in
    filter-append (λ (t : Located). is_outer p t.place) (outer_table part document e ∷ inner) (tables_with part document es)
    ∙ ap (λ b. cond b (outer_table part document e ∷ filter (λ (t : Located). is_outer p t.place) inner) (filter (λ (t : Located). is_outer p t.place) inner) ++ filter (λ (t : Located). is_outer p t.place) (tables_with part document es)) other
    ∙ ap (λ l. l ++ filter (λ (t : Located). is_outer p t.place) (tables_with part document es)) (no_outer p part e.0 e.1 (tables_at (inner_key part) e.1))
    ∙ outers_other p part document es other

inners_same : (part : Part) (document : Members) (es : List Element) → filter (λ t. is_inner part t.place) (tables_with part document es) ≡ flat_map (λ e. inner_tables part e.0 e.1) es
inners_same part document [] = refl
inners_same part document (e ∷ es) =
    let inner = map (inner_table part e.0 e.1) (tables_at (inner_key part) e.1) in
    filter-append (λ (t : Located). is_inner part t.place) (outer_table part document e ∷ inner) (tables_with part document es)
    ∙ ap (λ l. l ++ filter (λ (t : Located). is_inner part t.place) (tables_with part document es)) (all_inner part e.0 e.1 (tables_at (inner_key part) e.1))
    ∙ ap (λ l. inner ++ l) (inners_same part document es)

inners_other : (p part : Part) (document : Members) (es : List Element) → is_part p part ≡ false → filter (λ t. is_inner p t.place) (tables_with part document es) ≡ []
inners_other p part document [] other = refl
inners_other p part document (e ∷ es) other =
    let inner = map (inner_table part e.0 e.1) (tables_at (inner_key part) e.1) in
    filter-append (λ (t : Located). is_inner p t.place) (outer_table part document e ∷ inner) (tables_with part document es)
    ∙ ap (λ l. l ++ filter (λ (t : Located). is_inner p t.place) (tables_with part document es)) (no_inner p part e.0 e.1 (tables_at (inner_key part) e.1) other)
    ∙ inners_other p part document es other

owns_none : (part : Part) (i : ℕ) (document : Members) (es : List Element) → Lack i es → filter (λ t. is_inner_of part i t.place) (tables_with part document es) ≡ []
owns_none part i document [] lack = refl
owns_none part i document (e ∷ es) lack =
    let inner = map (inner_table part e.0 e.1) (tables_at (inner_key part) e.1) in
    filter-append (λ (t : Located). is_inner_of part i t.place) (outer_table part document e ∷ inner) (tables_with part document es)
    ∙ ap (λ l. l ++ filter (λ (t : Located). is_inner_of part i t.place) (tables_with part document es)) (no_own part i e.0 e.1 (tables_at (inner_key part) e.1) lack.0)
    ∙ owns_none part i document es lack.1

owns_other : (p part : Part) (i : ℕ) (document : Members) (es : List Element) → is_part p part ≡ false → filter (λ t. is_inner_of p i t.place) (tables_with part document es) ≡ []
owns_other p part i document [] other = refl
owns_other p part i document (e ∷ es) other =
    let inner = map (inner_table part e.0 e.1) (tables_at (inner_key part) e.1) in
    filter-append (λ (t : Located). is_inner_of p i t.place) (outer_table part document e ∷ inner) (tables_with part document es)
    ∙ ap (λ l. l ++ filter (λ (t : Located). is_inner_of p i t.place) (tables_with part document es)) (no_other p part i e.0 e.1 (tables_at (inner_key part) e.1) other)
    ∙ owns_other p part i document es other

owns_same : (part : Part) (n : ℕ) (document : Members) (front : List Element) (e : Element) (back : List Element) → Rises n (front ++ e ∷ back)
    → filter (λ t. is_inner_of part e.0 t.place) (tables_with part document (front ++ e ∷ back)) ≡ inner_tables part e.0 e.1
owns_same part n document [] e back h =
    let inner = map (inner_table part e.0 e.1) (tables_at (inner_key part) e.1) in
    filter-append (λ (t : Located). is_inner_of part e.0 t.place) (outer_table part document e ∷ inner) (tables_with part document back)
    ∙ ap (λ l. l ++ filter (λ (t : Located). is_inner_of part e.0 t.place) (tables_with part document back)) (all_own part e.0 e.1 (tables_at (inner_key part) e.1))
    ∙ ap (λ l. inner ++ l) (owns_none part e.0 document back (lack_behind n [] e back h)) ∙ append-nil inner
owns_same part n document (x ∷ front) e back h =
    let inner = map (inner_table part x.0 x.1) (tables_at (inner_key part) x.1) in
    filter-append (λ (t : Located). is_inner_of part e.0 t.place) (outer_table part document x ∷ inner) (tables_with part document (front ++ e ∷ back))
    ∙ ap (λ l. l ++ filter (λ (t : Located). is_inner_of part e.0 t.place) (tables_with part document (front ++ e ∷ back)))
    (no_own part e.0 x.0 x.1 (tables_at (inner_key part) x.1) (lack_before n (x ∷ front) e back h).0)
    ∙ owns_same part (x.0 + 1) document front e back h.1

-- ---- all tables of a document

pub split5 : (p : Test) (a b c d e : List Located) → filter p (a ++ b ++ c ++ d ++ e) ≡ filter p a ++ filter p b ++ filter p c ++ filter p d ++ filter p e
split5 p a b c d e =
    filter-append p (a ++ b ++ c ++ d) e
    ∙ ap (λ l. l ++ filter p e) (filter-append p (a ++ b ++ c) d ∙ ap (λ l. l ++ filter p d) (filter-append p (a ++ b) c ∙ ap (λ l. l ++ filter p c) (filter-append p a b)))

-- a test that only tables of one array pass
record IsOnlyOf (p : Test) (part : Part) (document : Members) (found : List Located) : Type 0 where
  root : p (located Root document document) ≡ false
  publisher : (ms : Members) → p (located Publisher document ms) ≡ false
  other : (own : Part) → is_part part own ≡ false → filter p (tables_of own document) ≡ []
  same : filter p (tables_of part document) ≡ found

pub first_none : (p : Test) (document : Members) (o : Option Data) → p (located Root document document) ≡ false → ((ms : Members) → p (located Publisher document ms) ≡ false)
    → filter p (located Root document document ∷ publisher_in document o) ≡ []
first_none p document None root publisher = ap (λ b. cond b (located Root document document ∷ []) []) root
first_none p document (Some (table ms)) root publisher =
    ap (λ b. cond b (located Root document document ∷ filter p (located Publisher document ms ∷ [])) (filter p (located Publisher document ms ∷ []))) root
    ∙ ap (λ b. cond b (located Publisher document ms ∷ []) []) (publisher ms)
first_none p document (Some (string s)) root publisher = ap (λ b. cond b (located Root document document ∷ []) []) root
first_none p document (Some (integer s)) root publisher = ap (λ b. cond b (located Root document document ∷ []) []) root
first_none p document (Some (float s)) root publisher = ap (λ b. cond b (located Root document document ∷ []) []) root
first_none p document (Some (boolean s)) root publisher = ap (λ b. cond b (located Root document document ∷ []) []) root
first_none p document (Some (datetime s)) root publisher = ap (λ b. cond b (located Root document document ∷ []) []) root
first_none p document (Some (array s)) root publisher = ap (λ b. cond b (located Root document document ∷ []) []) root

only_of : (p : Test) (part : Part) (document : Members) (found : List Located) → IsOnlyOf p part document found → filter p (tables document) ≡ found
only_of p DataSet document found h =
    split5 p (located Root document document ∷ publisher_of document) (tables_of DataSet document) (tables_of KeyGroup document) (tables_of Group document) (tables_of ReadGroup document)
    ∙ rw (first_none p document (get_member (codes "publisher") document) h.root h.publisher, h.same, h.other KeyGroup refl, h.other Group refl, h.other ReadGroup refl)
    (append-nil ((found ++ []) ++ []) ∙ append-nil (found ++ []) ∙ append-nil found)
only_of p KeyGroup document found h =
    split5 p (located Root document document ∷ publisher_of document) (tables_of DataSet document) (tables_of KeyGroup document) (tables_of Group document) (tables_of ReadGroup document)
    ∙ rw (first_none p document (get_member (codes "publisher") document) h.root h.publisher, h.same, h.other DataSet refl, h.other Group refl, h.other ReadGroup refl)
    (append-nil (found ++ []) ∙ append-nil found)
only_of p Group document found h =
    split5 p (located Root document document ∷ publisher_of document) (tables_of DataSet document) (tables_of KeyGroup document) (tables_of Group document) (tables_of ReadGroup document)
    ∙ rw (first_none p document (get_member (codes "publisher") document) h.root h.publisher, h.same, h.other DataSet refl, h.other KeyGroup refl, h.other ReadGroup refl)
    (append-nil found)
only_of p ReadGroup document found h =
    split5 p (located Root document document ∷ publisher_of document) (tables_of DataSet document) (tables_of KeyGroup document) (tables_of Group document) (tables_of ReadGroup document)
    ∙ rw (first_none p document (get_member (codes "publisher") document) h.root h.publisher, h.same, h.other DataSet refl, h.other KeyGroup refl, h.other Group refl) refl

-- the elements of an array of the document
pub outers : (part : Part) (document : Members) → outer_tables part (tables document) ≡ map (outer_table part document) (tables_at (outer_key part) document)
outers part document =
    only_of (λ t. is_outer part t.place) part document (map (outer_table part document) (tables_at (outer_key part) document)) (record {
      root = refl;
      publisher = λ ms. refl;
      other = λ own other. outers_other part own document (tables_at (outer_key own) document) other;
      same = outers_same part document (tables_at (outer_key part) document);
    })

-- all elements of its elements
pub inners : (part : Part) (document : Members) → filter (λ t. is_inner part t.place) (tables document) ≡ flat_map (λ e. inner_tables part e.0 e.1) (tables_at (outer_key part) document)
inners part document =
    only_of (λ t. is_inner part t.place) part document (flat_map (λ e. inner_tables part e.0 e.1) (tables_at (outer_key part) document)) (record {
      root = refl;
      publisher = λ ms. refl;
      other = λ own other. inners_other part own document (tables_at (outer_key own) document) other;
      same = inners_same part document (tables_at (outer_key part) document);
    })

-- those of one of them
pub owned : (part : Part) (document : Members) (front : List Element) (e : Element) (back : List Element) → tables_at (outer_key part) document ≡ front ++ e ∷ back
    → elements_of part e.0 (tables document) ≡ inner_tables part e.0 e.1
owned part document front e back split =
    only_of (λ t. is_inner_of part e.0 t.place) part document (inner_tables part e.0 e.1) (record {
      root = refl;
      publisher = λ ms. refl;
      other = λ own other. owns_other part own e.0 document (tables_at (outer_key own) document) other;
      same = ap (λ es. filter (λ t. is_inner_of part e.0 t.place) (tables_with part document es)) split
          ∙ owns_same part 0 document front e back (subst (Rises 0) split (rises 0 (items_at (outer_key part) document)));
    })

-- ---- an element among the tables

record IsMapped (part : Part) (document : Members) (es : List Element) (t : Located) : Type 0 where
  front : List Element
  element : Element
  back : List Element
  split : es ≡ front ++ element ∷ back
  is : outer_table part document element ≡ t

mapped : (part : Part) (document : Members) (es : List Element) (xs : List Located) (t : Located) (ys : List Located) → map (outer_table part document) es ≡ xs ++ t ∷ ys → IsMapped part document es t
mapped part document [] [] t ys e = cc
mapped part document [] (x ∷ xs) t ys e = cc
mapped part document (e ∷ es) [] t ys is = record { front = []; element = e; back = es; split = refl; is = cc }
mapped part document (e ∷ es) (x ∷ xs) t ys is =
    let rest : map (outer_table part document) es ≡ xs ++ t ∷ ys = cc in
    let m = mapped part document es xs t ys rest in
    record { front = e ∷ m.front; element = m.element; back = m.back; split = ap (λ l. e ∷ l) m.split; is = m.is }

passed_split : (p : Test) (front : List Located) (t : Located) (back : List Located) → p t ≡ true → filter p (front ++ t ∷ back) ≡ filter p front ++ t ∷ filter p back
passed_split p front t back is = filter-append p front (t ∷ back) ∙ ap (λ b. filter p front ++ cond b (t ∷ filter p back) (filter p back)) is

-- the inner tables of an element of the document's array
pub own_tables : (part : Part) (document : Members) (front : List Located) (t : Located) (back : List Located) → tables document ≡ front ++ t ∷ back → is_outer part t.place ≡ true
    → elements_of part (index_of t.place) (tables document) ≡ inner_tables part (index_of t.place) t.members
own_tables part document front t back split is =
    let listed : map (outer_table part document) (tables_at (outer_key part) document) ≡ filter (λ s. is_outer part s.place) front ++ t ∷ filter (λ s. is_outer part s.place) back =
    sym (outers part document) ∙ ap (filter (λ s. is_outer part s.place)) split ∙ passed_split (λ s. is_outer part s.place) front t back is in
    let m = mapped part document (tables_at (outer_key part) document) _ t _ listed in
    subst (λ (s : Located). elements_of part (index_of s.place) (tables document) ≡ inner_tables part (index_of s.place) s.members) m.is (owned part document m.front m.element m.back m.split)
