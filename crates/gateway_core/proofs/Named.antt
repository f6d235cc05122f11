-- Readers by their names, of which none stands twice.
use Rattle.std.proofs.Common.{◌≡◌, ◌≢◌, refl, sym, ap, ◌∙◌, subst, arith, ℕ, zero, suc, List, [], ◌∷◌, ◌++◌, map, flat_map, slice_get, Some}
use Rattle.std.specs.Prelude.{All, ⊤, option_map}
use Rattle.std.proofs.lemmas.List.{map-append}
use Rattle.std.proofs.lemmas.List.Elements.{All-cons, All-from_get_or, All-get_or, All-head, All-tail}
use Rattle.std.proofs.lemmas.Option.{get_or_from_slice_get, slice_get-map, slice_get_within}
use Rattle.dataset_meta.specs.Metas.{MetaData}
use Rattle.ps_config.specs.declared.parts.Config.{Config}
use Rattle.ps_config.specs.declared.parts.ReadGroupPart.{ReadGroupPart}
use Rattle.ps_config.specs.declared.parts.ReaderPart.{ReaderPart}
use Rattle.ps_config.specs.Sound.{AreDistinct, component_names, group_names, read_group_names, readers}
use Rattle.writer_group.specs.Standing.{IsGood}
use Rattle.gateway_core.specs.Sources.{IsSourceOf}
use Rattle.gateway_core.proofs.Places.{part-there}

-- ---- lists none of whose items stands twice

abbrev Apart : {X : Type 0} → List X → Type 0
Apart [] = ⊤
Apart (x ∷ xs) = All (λ y. x ≢ y) xs × Apart xs

apart-from : {X : Type 0} (xs : List X) → AreDistinct xs → Apart xs
apart-from [] distinct = tt
apart-from (x ∷ xs) distinct = (
  All-from_get_or (λ y. x ≢ y) xs x (λ k low. distinct 0 (suc k) x (omega arith) (omega (arith, low))),
  apart-from xs (λ i j d before low. distinct (suc i) (suc j) d (omega (arith, before)) (omega (arith, low))),
)

other : {X : Type 0} (y : X) (xs : List X) (j : ℕ) (x : X) → All (λ z. y ≢ z) xs → y ≡ x → slice_get xs j ≡ Some x → ⊥
other y xs j x all same at =
    All-get_or (λ z. y ≢ z) xs j x (slice_get_within xs j x at) all (same ∙ sym (get_or_from_slice_get xs j x x at))

-- so an item has one place
one-place : {X : Type 0} (xs : List X) (i j : ℕ) (x : X) → Apart xs → slice_get xs i ≡ Some x → slice_get xs j ≡ Some x → i ≡ j
one-place [] i j x apart here there = absurd (omega (arith, slice_get_within [] i x here))
one-place (y ∷ xs) zero zero x apart here there = refl
one-place (y ∷ xs) zero (suc j) x apart here there = absurd (other y xs j x apart.0 (get_or_from_slice_get (y ∷ xs) 0 x x here) there)
one-place (y ∷ xs) (suc i) zero x apart here there = absurd (other y xs i x apart.0 (get_or_from_slice_get (y ∷ xs) 0 x x there) here)
one-place (y ∷ xs) (suc i) (suc j) x apart here there = ap suc (one-place xs i j x apart.1 here there)

-- ---- the readers' names are among those of the components

-- some of the items, in order
data Within {X : Type 0} : List X → List X → Type 0 where
  none : Within [] []
  skip : (x : X) (sub all : List X) → Within sub all → Within sub (x ∷ all)
  keep : (x : X) (sub all : List X) → Within sub all → Within (x ∷ sub) (x ∷ all)

within-same : {X : Type 0} (xs : List X) → Within xs xs
within-same [] = none
within-same (x ∷ xs) = keep x xs xs (within-same xs)

within-behind : {X : Type 0} (front sub all : List X) → Within sub all → Within sub (front ++ all)
within-behind [] sub all within = within
within-behind (x ∷ front) sub all within = skip x sub (front ++ all) (within-behind front sub all within)

within-front : {X : Type 0} (front sub all : List X) → Within sub all → Within (front ++ sub) (front ++ all)
within-front [] sub all within = within
within-front (x ∷ front) sub all within = keep x (front ++ sub) (front ++ all) (within-front front sub all within)

within-all : {X : Type 0} (P : X → Type 0) (sub all : List X) → Within sub all → All P all → All P sub
within-all P sub all none each = each
within-all P sub all (skip x less more within) each = within-all P less more within (All-tail P x more each)
within-all P sub all (keep x less more within) each =
    All-cons P x less (All-head P x more each) (within-all P less more within (All-tail P x more each))

within-apart : {X : Type 0} (sub all : List X) → Within sub all → Apart all → Apart sub
within-apart sub all none apart = apart
within-apart sub all (skip x less more within) apart = within-apart less more within apart.1
within-apart sub all (keep x less more within) apart = (within-all (λ y. x ≢ y) less more within apart.0, within-apart less more within apart.1)

names-within : (groups : List ReadGroupPart) → Within (map (λ (reader : ReaderPart). reader.name) (flat_map (λ group. group.reader) groups)) (flat_map read_group_names groups)
names-within [] = none
names-within (group ∷ groups) =
    let own = map (λ (reader : ReaderPart). reader.name) group.reader in
    let less = map (λ (reader : ReaderPart). reader.name) (flat_map (λ group. group.reader) groups) in
    let more = flat_map read_group_names groups in
    subst (λ (l : List (List ℕ)). Within l (group.name ∷ (own ++ more))) (sym (map-append (λ (reader : ReaderPart). reader.name) group.reader (flat_map (λ group. group.reader) groups)))
    (skip group.name (own ++ less) (own ++ more) (within-front own less more (names-within groups)))

abbrev pub names_of : Config → List (List ℕ)
names_of config = map (λ reader. reader.name) (readers config)

apart-names : (config : Config) → IsGood config → Apart (names_of config)
apart-names config good =
    let inner = within-behind (flat_map group_names config.group) (names_of config) (flat_map read_group_names config.readgroup) (names-within config.readgroup) in
    let components = apart-from (component_names config) good.sound.one_component in
    within-apart (names_of config) (flat_map group_names config.group ++ flat_map read_group_names config.readgroup) inner components.1.1

-- ---- the source of a data set

-- a source has the data set's name
pub name-there : (first : Config) (meta : MetaData) (source : ℕ) → IsSourceOf first meta source → slice_get (names_of first) source ≡ Some meta.name
name-there first meta source is =
    slice_get-map (λ (reader : ReaderPart). reader.name) (readers first) source
    ∙ ap (option_map (λ (reader : ReaderPart). reader.name)) (part-there first source is.place is.place_is)
    ∙ ap (λ (name : List ℕ). Some name) is.name

-- and whichever reader has it is the source
pub is-source : (first : Config) (meta : MetaData) (source found : ℕ) → IsGood first → IsSourceOf first meta source → slice_get (names_of first) found ≡ Some meta.name → IsSourceOf first meta found
is-source first meta source found good is at =
    subst (IsSourceOf first meta) (one-place (names_of first) source found meta.name (apart-names first good) (name-there first meta source is) at) is
