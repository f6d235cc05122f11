-- The fields among the tables so far, one table at a time.
use Rattle.std.proofs.Common.{◌≡◌, ℕ, ◌<◌, ◌≤◌, Bool, true, false, ◌&&◌, ◌||◌, cond, List, [], ◌∷◌, ◌++◌, length, get_or, take, map, filter, count_by, Contains, refl, sym, ap, ◌∙◌, subst, arith, inl, inr, append_assoc, append-nil, length-append}
use Rattle.std.specs.List.{list_any, AllByRecursion}
use Rattle.std.specs.Str.{bytes_eq}
use Rattle.std.specs.Cmp.Lexicographic.{nat_list_eq_equiv}
use Rattle.std.proofs.lemmas.Bool.{false≢true, cases_lt}
use Rattle.std.proofs.lemmas.List.Sums.{length-filter}
use Rattle.std.proofs.lemmas.List.Elements.{filter-append}
use Rattle.std.proofs.lemmas.List.{take-append-le, take_all, map-append, length-map, get_or_append_left, get_or_push}
use Rattle.std.proofs.lemmas.Map.Views.{list_any-from_Contains}
use Rattle.dataset_meta.specs.declared.field.Field.{Field}
use Rattle.dataset_meta.specs.Fields.{has_cap}
use Rattle.dataset_meta.specs.Metas.{names, IsDouble, AreDistinct}
use Rattle.config_tables.specs.Tables.{Located}
use Rattle.ps_config.specs.Fields.{name_of, field_of}

-- what the faults say of a field that comes after these tables
pub record IsFieldAfter (p : Located → Bool) (before : List Located) (t : Located) : Type 0 where
  pub few : count_by p before < 64
  pub fresh : list_any (λ s. p s && bytes_eq (name_of t) (name_of s)) before ≡ false
  pub named : (field_of t).name ≡ name_of t
  pub fits : has_cap (field_of t) ≡ true

-- the fields so far
pub record AreFields (p : Located → Bool) (before : List Located) : Type 0 where
  pub few : length (map field_of (filter p before)) ≤ 64
  pub named : names (map field_of (filter p before)) ≡ map name_of (filter p before)
  pub distinct : AreDistinct (map field_of (filter p before))
  pub capped : AllByRecursion (λ (f : Field). has_cap f ≡ true) (map field_of (filter p before))

any_filter : (p q : Located → Bool) (ts : List Located) → list_any (λ s. p s && q s) ts ≡ list_any q (filter p ts)
any_filter p q [] = refl
any_filter p q (t ∷ ts) = go (p t) (any_filter p q ts)
  where
    go : (b : Bool) → list_any (λ s. p s && q s) ts ≡ list_any q (filter p ts) → ((b && q t) || list_any (λ s. p s && q s) ts) ≡ list_any q (cond b (t ∷ filter p ts) (filter p ts))
    go true same = ap (λ r. q t || r) same
    go false same = same

any_names : (n : List ℕ) (ts : List Located) → list_any (λ s. bytes_eq n (name_of s)) ts ≡ list_any (bytes_eq n) (map name_of ts)
any_names n [] = refl
any_names n (t ∷ ts) = ap (λ r. bytes_eq n (name_of t) || r) (any_names n ts)

not_among : (n : List ℕ) (ns : List (List ℕ)) → list_any (bytes_eq n) ns ≡ false → Contains ns n → ⊥
not_among n ns none has = false≢true (sym none ∙ list_any-from_Contains nat_list_eq_equiv n ns has)

names_push : (fs : List Field) (f : Field) → names (fs ++ f ∷ []) ≡ names fs ++ f.name ∷ []
names_push fs f = map-append (λ (g : Field). g.name) fs (f ∷ [])

old_index : (fs : List Field) (f : Field) (index : ℕ) → index < length fs → IsDouble (fs ++ f ∷ []) index → IsDouble fs index
old_index fs f index within double =
    let short : index < length (names fs) = omega (arith, length-map fs (λ (g : Field). g.name)) in
    let upto : take index (names (fs ++ f ∷ [])) ≡ take index (names fs) = ap (take index) (names_push fs f) ∙ take-append-le index (names fs) (f.name ∷ []) (omega arith) in
    let here : get_or (names (fs ++ f ∷ [])) index [] ≡ get_or (names fs) index [] =
    ap (λ (ns : List (List ℕ)). get_or ns index []) (names_push fs f) ∙ get_or_append_left (names fs) (f.name ∷ []) [] index short in
    subst (λ (ns : List (List ℕ)). Contains ns (get_or (names fs) index [])) upto
    (subst (λ (n : List ℕ). Contains (take index (names (fs ++ f ∷ []))) n) here double)

new_index : (fs : List Field) (f : Field) (index : ℕ) → index ≡ length fs → IsDouble (fs ++ f ∷ []) index → Contains (names fs) f.name
new_index fs f index last double =
    let long : length (names fs) ≡ index = length-map fs (λ (g : Field). g.name) ∙ sym last in
    let upto : take index (names (fs ++ f ∷ [])) ≡ names fs =
    ap (take index) (names_push fs f) ∙ take-append-le index (names fs) (f.name ∷ []) (omega arith) ∙ take_all index (names fs) (omega arith) in
    let here : get_or (names (fs ++ f ∷ [])) index [] ≡ f.name =
    ap (λ (ns : List (List ℕ)). get_or ns index []) (names_push fs f) ∙ get_or_push (names fs) f.name [] index long in
    subst (λ (ns : List (List ℕ)). Contains ns f.name) upto
    (subst (λ (n : List ℕ). Contains (take index (names (fs ++ f ∷ []))) n) here double)

distinct_push : (fs : List Field) (f : Field) → AreDistinct fs → (Contains (names fs) f.name → ⊥) → AreDistinct (fs ++ f ∷ [])
distinct_push fs f distinct fresh index within double =
    elim (cases_lt index (length fs)) [
      | inl old ↦ distinct index old (old_index fs f index old double)
      | inr new ↦ fresh (new_index fs f index (omega (arith, length-append fs (f ∷ []))) double)
    ]

capped_push : (fs : List Field) (f : Field) → AllByRecursion (λ (g : Field). has_cap g ≡ true) fs → has_cap f ≡ true → AllByRecursion (λ (g : Field). has_cap g ≡ true) (fs ++ f ∷ [])
capped_push [] f all fits = (fits, tt)
capped_push (g ∷ fs) f all fits = (all.0, capped_push fs f all.1 fits)

-- a table that is a field, or one that isn't
passed : (p : Located → Bool) (before : List Located) (t : Located) → p t ≡ true → filter p (before ++ t ∷ []) ≡ filter p before ++ t ∷ []
passed p before t is = filter-append p before (t ∷ []) ∙ ap (λ b. filter p before ++ cond b (t ∷ []) []) is

left_out : (p : Located → Bool) (before : List Located) (t : Located) → p t ≡ false → filter p (before ++ t ∷ []) ≡ filter p before
left_out p before t is = filter-append p before (t ∷ []) ∙ ap (λ b. filter p before ++ cond b (t ∷ []) []) is ∙ append-nil (filter p before)

abbrev Fields : (Located → Bool) → List Located → List Field
Fields p before = map field_of (filter p before)

fields_push : (p : Located → Bool) (before : List Located) (t : Located) → p t ≡ true → Fields p (before ++ t ∷ []) ≡ Fields p before ++ field_of t ∷ []
fields_push p before t is = ap (map field_of) (passed p before t is) ∙ map-append field_of (filter p before) (t ∷ [])

one_more : (p : Located → Bool) (before : List Located) (t : Located) → p t ≡ true → IsFieldAfter p before t → AreFields p before → AreFields p (before ++ t ∷ [])
one_more p before t is fits so =
    let fs = Fields p before in
    let push : Fields p (before ++ t ∷ []) ≡ fs ++ field_of t ∷ [] = fields_push p before t is in
    let few : length fs < 64 = omega (arith, length-map (filter p before) field_of, length-filter p before, fits.few) in
    let none : list_any (bytes_eq (field_of t).name) (names fs) ≡ false =
    ap (λ n. list_any (bytes_eq n) (names fs)) fits.named ∙ ap (list_any (bytes_eq (name_of t))) so.named ∙ sym (any_names (name_of t) (filter p before))
    ∙ sym (any_filter p (λ s. bytes_eq (name_of t) (name_of s)) before) ∙ fits.fresh in
    record {
      few = omega (arith, ap length push, length-append fs (field_of t ∷ []));
      named = ap names push ∙ names_push fs (field_of t) ∙ ap (λ ns. ns ++ (field_of t).name ∷ []) so.named ∙ ap (λ n. map name_of (filter p before) ++ n ∷ []) fits.named
          ∙ sym (map-append name_of (filter p before) (t ∷ [])) ∙ sym (ap (map name_of) (passed p before t is));
      distinct = subst AreDistinct (sym push) (distinct_push fs (field_of t) so.distinct (not_among (field_of t).name (names fs) none));
      capped = subst (AllByRecursion (λ (g : Field). has_cap g ≡ true)) (sym push) (capped_push fs (field_of t) so.capped fits.fits);
    }

one_other : (p : Located → Bool) (before : List Located) (t : Located) → p t ≡ false → AreFields p before → AreFields p (before ++ t ∷ [])
one_other p before t is so =
    let same = left_out p before t is in
    record {
      few = subst (λ (xs : List Located). length (map field_of xs) ≤ 64) (sym same) so.few;
      named = subst (λ (xs : List Located). names (map field_of xs) ≡ map name_of xs) (sym same) so.named;
      distinct = subst (λ (xs : List Located). AreDistinct (map field_of xs)) (sym same) so.distinct;
      capped = subst (λ (xs : List Located). AllByRecursion (λ (g : Field). has_cap g ≡ true) (map field_of xs)) (sym same) so.capped;
    }

-- where each field fits what came before it, all fields are such
fields_from : (p : Located → Bool) (before rest : List Located) → AreFields p before
    → ((front : List Located) (t : Located) (back : List Located) → rest ≡ front ++ t ∷ back → p t ≡ true → IsFieldAfter p (before ++ front) t) → AreFields p (before ++ rest)
fields_from p before [] so each = subst (AreFields p) (sym (append-nil before)) so
fields_from p before (t ∷ rest) so each =
    let first : p t ≡ true → IsFieldAfter p before t = λ is. subst (λ (l : List Located). IsFieldAfter p l t) (append-nil before) (each [] t rest refl is) in
    let more : AreFields p (before ++ t ∷ []) = go (p t) refl first in
    let later : (front : List Located) (s : Located) (back : List Located) → rest ≡ front ++ s ∷ back → p s ≡ true → IsFieldAfter p ((before ++ t ∷ []) ++ front) s =
    λ front s back is passes. subst (λ (l : List Located). IsFieldAfter p l s) (sym (append_assoc before (t ∷ []) front)) (each (t ∷ front) s back (ap (λ l. t ∷ l) is) passes) in
    subst (AreFields p) (append_assoc before (t ∷ []) rest) (fields_from p (before ++ t ∷ []) rest more later)
  where
    go : (b : Bool) → p t ≡ b → (p t ≡ true → IsFieldAfter p before t) → AreFields p (before ++ t ∷ [])
    go true is first = one_more p before t is (first is) so
    go false is first = one_other p before t is so

pub all_fields : (p : Located → Bool) (ts : List Located)
    → ((front : List Located) (t : Located) (back : List Located) → ts ≡ front ++ t ∷ back → p t ≡ true → IsFieldAfter p front t) → AreFields p ts
all_fields p ts each =
    fields_from p [] ts (record { few = omega arith; named = refl; distinct = λ index within. absurd (omega arith); capped = tt }) each
