-- The readers of a sound configuration have names of their own.
use Rattle.std.proofs.Common.{◌≡◌, ◌≢◌, ℕ, suc, ◌+◌, ◌<◌, List, [], ◌∷◌, ◌++◌, length, get_or, take, map, sym, subst, arith}
use Rattle.std.specs.Prelude.{⊤, AllPairs}
use Rattle.std.specs.List.{All, AllByRecursion, flat_map}
use Rattle.std.proofs.lemmas.List.{map-append}
use Rattle.std.proofs.lemmas.List.Elements.{All-from_recursion, recursion_from_All, All-append, All-same}
use Rattle.std.proofs.lemmas.List.Kept.{AllPairs-cons}
use Rattle.ps_config.specs.declared.parts.Config.{Config}
use Rattle.ps_config.specs.declared.parts.ReadGroupPart.{ReadGroupPart}
use Rattle.ps_config.specs.declared.parts.ReaderPart.{ReaderPart}
use Rattle.ps_config.specs.Sound.{group_names, read_group_names, component_names, IsSound}
use Rattle.ps_report.specs.Conditions.{readers_of}
use Rattle.ps_report.proofs.Pairs.{lists_place_more}
use Rattle.report_laws.specs.ReaderNames.{HasName, NamesReaders}

-- each is apart from all behind it
abbrev Distinct : {X : Type 0} → List X → Type 0
Distinct [] = ⊤
Distinct (x ∷ xs) = AllByRecursion (λ y. x ≢ y) xs × Distinct xs

distinct_from : {X : Type 0} (xs : List X) → AllPairs (λ x y. x ≢ y) xs → Distinct xs
distinct_from [] pairs = tt
distinct_from (x ∷ xs) pairs = (
  recursion_from_All (λ y. x ≢ y) xs (λ k d inside. pairs 0 (suc k) d (omega arith) (omega arith)),
  distinct_from xs (λ i j d below inside. pairs (suc i) (suc j) d (omega arith) (omega arith)),
)

pairs_from : {X : Type 0} (xs : List X) → Distinct xs → AllPairs (λ x y. x ≢ y) xs
pairs_from [] distinct = λ i j d below inside. absurd (omega arith)
pairs_from (x ∷ xs) distinct = AllPairs-cons (λ x y. x ≢ y) x xs (All-from_recursion (λ y. x ≢ y) xs distinct.0) (pairs_from xs distinct.1)

behind : {X : Type 0} (xs ys : List X) → Distinct (xs ++ ys) → Distinct ys
behind [] ys distinct = distinct
behind (x ∷ xs) ys distinct = behind xs ys distinct.1

all_front : {X : Type 0} (P : X → Type 0) (xs ys : List X) → AllByRecursion P (xs ++ ys) → AllByRecursion P xs
all_front P [] ys all = tt
all_front P (x ∷ xs) ys all = (all.0, all_front P xs ys all.1)

all_behind : {X : Type 0} (P : X → Type 0) (xs ys : List X) → AllByRecursion P (xs ++ ys) → AllByRecursion P ys
all_behind P [] ys all = all
all_behind P (x ∷ xs) ys all = all_behind P xs ys all.1

all_both : {X : Type 0} (P : X → Type 0) (xs ys : List X) → AllByRecursion P xs → AllByRecursion P ys → AllByRecursion P (xs ++ ys)
all_both P [] ys in_xs in_ys = in_ys
all_both P (x ∷ xs) ys in_xs in_ys = (in_xs.0, all_both P xs ys in_xs.1 in_ys)

-- fewer behind the first ones
fewer_behind : {X : Type 0} (front rest fewer : List X) → ((x : X) → AllByRecursion (λ y. x ≢ y) rest → AllByRecursion (λ y. x ≢ y) fewer)
    → Distinct (front ++ rest) → Distinct fewer → Distinct (front ++ fewer)
fewer_behind [] rest fewer less distinct apart = apart
fewer_behind (x ∷ front) rest fewer less distinct apart = (
  all_both (λ y. x ≢ y) front fewer (all_front (λ y. x ≢ y) front rest distinct.0) (less x (all_behind (λ y. x ≢ y) front rest distinct.0)),
  fewer_behind front rest fewer less distinct.1 apart,
)

-- ---- names of read groups and of their readers

abbrev name_of : ReaderPart → List ℕ
name_of part = part.name

names_from : (group : ReadGroupPart) (groups : List ReadGroupPart) → map name_of (readers_of (group ∷ groups)) ≡ map name_of group.reader ++ map name_of (readers_of groups)
names_from group groups = map-append name_of group.reader (readers_of groups)

all_readers : (P : List ℕ → Type 0) (groups : List ReadGroupPart) → AllByRecursion P (flat_map read_group_names groups) → AllByRecursion P (map name_of (readers_of groups))
all_readers P [] all = tt
all_readers P (group ∷ groups) all =
    let own = map name_of group.reader in
    let rest = flat_map read_group_names groups in
    subst (AllByRecursion P) (sym (names_from group groups))
    (all_both P own (map name_of (readers_of groups)) (all_front P own rest all.1) (all_readers P groups (all_behind P own rest all.1)))

readers_apart : (groups : List ReadGroupPart) → Distinct (flat_map read_group_names groups) → Distinct (map name_of (readers_of groups))
readers_apart [] distinct = tt
readers_apart (group ∷ groups) distinct =
    let own = map name_of group.reader in
    let rest = flat_map read_group_names groups in
    subst Distinct (sym (names_from group groups))
    (fewer_behind own rest (map name_of (readers_of groups)) (λ x. all_readers (λ y. x ≢ y) groups) distinct.1 (readers_apart groups (behind own rest distinct.1)))

pub named : (config : Config) → IsSound config → All HasName (readers_of config.readgroup) → NamesReaders config
named config sound names =
    let all = distinct_from (component_names config) sound.one_component in
    let groups = flat_map group_names config.group in
    record {
      names = names;
      distinct = pairs_from (map name_of (readers_of config.readgroup)) (readers_apart config.readgroup (behind groups (flat_map read_group_names config.readgroup) all.1.1));
    }

-- one group more
pub one_group_more : (groups : List ReadGroupPart) (i : ℕ) (group : ReadGroupPart) → i < length groups → group ≡ get_or groups i group
    → All HasName (readers_of (take i groups)) → All HasName group.reader → All HasName (readers_of (take (i + 1) groups))
one_group_more groups i group inside is before own =
    All-same HasName (readers_of (take (i + 1) groups)) (readers_of (take i groups) ++ group.reader) (lists_place_more (λ (g : ReadGroupPart). g.reader) groups i group inside is)
    (All-append HasName (readers_of (take i groups)) group.reader before own)
