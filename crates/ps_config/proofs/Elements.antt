-- The elements of an array of accepted tables: clean, each at its place, in the table that has it.
use Rattle.std.proofs.Common.{◌≡◌, ℕ, ◌<◌, ◌≤◌, true, false, nat_le, List, [], ◌∷◌, ◌++◌, length, map, filter, count_by, All, refl, sym, subst, arith}
use Rattle.std.specs.List.{AllByRecursion}
use Rattle.std.proofs.lemmas.Bool.Decides.{nat_tests}
use Rattle.std.proofs.lemmas.List.Elements.{All-from_recursion}
use Rattle.toml.specs.Data.{Members}
use Rattle.config_tables.specs.declared.place.Part.{Part}
use Rattle.config_tables.specs.declared.place.Part.TheVariants.{KeyGroup, Group, ReadGroup}
use Rattle.config_tables.specs.declared.place.Place.{Place}
use Rattle.config_tables.specs.declared.place.Place.TheVariants.{Outer, Inner}
use Rattle.config_tables.specs.Places.{inner_key, is_outer, is_inner, is_inner_of, index_of, counts_with, limit_of}
use Rattle.config_tables.specs.Tables.{Located, located, tables_at, tables}
use Rattle.ps_config.specs.Fields.{outer_tables, elements_of}
use Rattle.ps_config.specs.Meaning.{PassTables}
use Rattle.ps_config.proofs.Clean.{IsClean, clean}
use Rattle.ps_config.proofs.Passing.{passing, outer_place, inner_place, any_inner_place}
use Rattle.ps_config.proofs.References.{few}
use Rattle.ps_config.proofs.Structure.{own_tables, Element}

-- an element of an array of the document, among all tables
pub record IsOuterOf (part : Part) (ts : List Located) (t : Located) : Type 0 where
  pub front : List Located
  pub back : List Located
  pub split : ts ≡ front ++ t ∷ back
  pub passes : is_outer part t.place ≡ true
  pub place : t.place ≡ Outer part (index_of t.place)
  pub is_clean : IsClean ts front t

pub outer_elements : (part : Part) (ts : List Located) → PassTables ts → All (IsOuterOf part ts) (outer_tables part ts)
outer_elements part ts h =
    passing (λ t. is_outer part t.place) (IsOuterOf part ts) ts
    (λ front t back split passes. record { front = front; back = back; split = split; passes = passes; place = outer_place part t.place passes; is_clean = clean ts h front t back split })

-- an element of an element's array
pub record IsInnerOf (part : Part) (index : ℕ) (ts : List Located) (t : Located) : Type 0 where
  pub before : List Located
  pub inner : ℕ
  pub place : t.place ≡ Inner part index inner
  pub is_clean : IsClean ts before t

pub inner_elements : (part : Part) (index : ℕ) (ts : List Located) → PassTables ts → All (IsInnerOf part index ts) (elements_of part index ts)
inner_elements part index ts h =
    passing (λ t. is_inner_of part index t.place) (IsInnerOf part index ts) ts
    (λ front t back split passes. let at = inner_place part index t.place passes in record { before = front; inner = at.0; place = at.1; is_clean = clean ts h front t back split })

in_table : (part : Part) (index : ℕ) (members : Members) (xs : List Element) → AllByRecursion (λ t. t.outer ≡ members) (map (λ x. located (Inner part index x.0) members x.1) xs)
in_table part index ms [] = tt
in_table part index ms (x ∷ xs) = (refl, in_table part index ms xs)

-- an element of this element's array
pub record IsOwn (part : Part) (index : ℕ) (members : Members) (ts : List Located) (t : Located) : Type 0 where
  pub inner : IsInnerOf part index ts t
  pub outer : t.outer ≡ members

-- the elements of an element's array stand in its table
pub in_own_table : (part : Part) (document : Members) (front : List Located) (t : Located) (back : List Located) → tables document ≡ front ++ t ∷ back → is_outer part t.place ≡ true
    → All (λ (s : Located). s.outer ≡ t.members) (elements_of part (index_of t.place) (tables document))
in_own_table part document front t back split passes =
    subst (All (λ (s : Located). s.outer ≡ t.members)) (sym (own_tables part document front t back split passes))
    (All-from_recursion (λ (s : Located). s.outer ≡ t.members) _ (in_table part (index_of t.place) t.members (tables_at (inner_key part) t.members)))

pub own_elements : (part : Part) (document : Members) → PassTables (tables document) → (t : Located) → IsOuterOf part (tables document) t
    → All (IsOwn part (index_of t.place) t.members (tables document)) (elements_of part (index_of t.place) (tables document))
own_elements part document h t o =
    let all = inner_elements part (index_of t.place) (tables document) h in
    let inside = in_own_table part document o.front t o.back o.split o.passes in
    λ k d within. record { inner = all k d within; outer = inside k d within }

below_limit : (limit count : ℕ) → nat_le limit count ≡ false → count < limit
below_limit limit count h = grind (arith, nat_tests)

-- a key group has no more keys than its limit
pub few_keys : (ts : List Located) → PassTables ts → (index : ℕ) → length (elements_of KeyGroup index ts) ≤ 16
few_keys ts h index =
    few (λ t. is_inner_of KeyGroup index t.place) 16 ts
    (λ front t back split passes. below_limit 16 _
    (subst (λ (q : Place). nat_le (limit_of q) (count_by (λ s. counts_with q s.place) front) ≡ false) (inner_place KeyGroup index t.place passes).1 (clean ts h front t back split).many))

-- and so writers in all
pub few_writers : (ts : List Located) → PassTables ts → length (filter (λ t. is_inner Group t.place) ts) ≤ 16
few_writers ts h =
    few (λ t. is_inner Group t.place) 16 ts
    (λ front t back split passes. below_limit 16 _
    (subst (λ (q : Place). nat_le (limit_of q) (count_by (λ s. counts_with q s.place) front) ≡ false) (any_inner_place Group t.place passes).2 (clean ts h front t back split).many))

pub few_readers : (ts : List Located) → PassTables ts → length (filter (λ t. is_inner ReadGroup t.place) ts) ≤ 16
few_readers ts h =
    few (λ t. is_inner ReadGroup t.place) 16 ts
    (λ front t back split passes. below_limit 16 _
    (subst (λ (q : Place). nat_le (limit_of q) (count_by (λ s. counts_with q s.place) front) ≡ false) (any_inner_place ReadGroup t.place passes).2 (clean ts h front t back split).many))

-- an array has no more elements than its limit
pub few_elements : (part : Part) (limit : ℕ) (ts : List Located) → ((i : ℕ) → limit_of (Outer part i) ≡ limit) → PassTables ts → length (outer_tables part ts) ≤ limit
few_elements part limit ts is h =
    few (λ t. is_outer part t.place) limit ts
    (λ front t back split passes. below (index_of t.place) front
    (subst (λ (q : Place). nat_le (limit_of q) (count_by (λ s. counts_with q s.place) front) ≡ false) (outer_place part t.place passes) (clean ts h front t back split).many))
  where
    below : (i : ℕ) (front : List Located) → nat_le (limit_of (Outer part i)) (count_by (λ s. is_outer part s.place) front) ≡ false → count_by (λ s. is_outer part s.place) front < limit
    below i front e = let e2 : nat_le limit (count_by (λ s. is_outer part s.place) front) ≡ false = subst (λ n. nat_le n (count_by (λ s. is_outer part s.place) front) ≡ false) (is i) e in grind (arith, nat_tests)
