-- The components' names stand in the order of their ids.
use Rattle.std.proofs.Common.{◌≡◌, ℕ, ◌+◌, suc, List, [], ◌∷◌, ◌++◌, length, map, Some, slice_get, sym, ap, ◌∙◌, refl, arith}
use Rattle.std.specs.List.{flat_map, range_with_len}
use Rattle.std.specs.Option.{option_map_or}
use Rattle.std.proofs.lemmas.List.{map-append}
use Rattle.ps_config.specs.declared.parts.Config.{Config}
use Rattle.ps_config.specs.declared.parts.GroupPart.{GroupPart}
use Rattle.ps_config.specs.declared.parts.WriterPart.{WriterPart}
use Rattle.ps_config.specs.declared.parts.ReadGroupPart.{ReadGroupPart}
use Rattle.ps_config.specs.declared.parts.ReaderPart.{ReaderPart}
use Rattle.ps_config.specs.Sound.{group_names, read_group_names, component_names}
use Rattle.pubsub_states.specs.declared.component.Component.{Component}
use Rattle.pubsub_states.specs.declared.component.Component.TheVariants.{Group, Writer, ReadGroup, Reader}
use Rattle.pubsub_states.specs.Components.{counts_of, components, families}
use Rattle.pubsub_states.specs.Names.{name_of}

-- names by their places, from one place on, are the names of the elements
named-members : {X : Type 0} (member : ℕ → Component) (f : Component → List ℕ) (name : X → List ℕ) (a : ℕ) (xs : List X)
    → ((k : ℕ) → f (member (a + k)) ≡ option_map_or name (slice_get xs k) []) → map f (map member (range_with_len a (length xs))) ≡ map name xs
named-members member f name a [] at = refl
named-members member f name a (x ∷ xs) at =
    let here : f (member a) ≡ name x = ap (λ n. f (member n)) (sym (first a)) ∙ at 0 in
    ap (λ n. n ∷ map f (map member (range_with_len (a + 1) (length xs)))) here
    ∙ ap (λ ns. name x ∷ ns) (named-members member f name (a + 1) xs (λ k. ap (λ n. f (member n)) (next a k) ∙ at (suc k)))
  where
    first : (n : ℕ) → n + 0 ≡ n
    first n = omega arith

    next : (n k : ℕ) → (n + 1) + k ≡ n + suc k
    next n k = omega arith

group-names : (config : Config) (from : ℕ) (groups : List GroupPart)
    → ((k : ℕ) → slice_get config.group (from + k) ≡ slice_get groups k)
    → map (name_of config) (families (λ g. Group g) (λ g w. Writer g w) from (map (λ (group : GroupPart). length group.writer) groups)) ≡ flat_map group_names groups
group-names config from [] at = refl
group-names config from (group ∷ groups) at =
    let f = name_of config in
    let rest = families (λ g. Group g) (λ g w. Writer g w) (from + 1) (map (λ (group : GroupPart). length group.writer) groups) in
    let members = map (λ w. Writer from w) (range_with_len 0 (length group.writer)) in
    let here : slice_get config.group from ≡ Some group = ap (slice_get config.group) (sym (first from)) ∙ at 0 in
    let head : f (Group from) ≡ group.name = ap (λ found. option_map_or (λ (g : GroupPart). g.name) found []) here in
    let own : map f members ≡ map (λ (writer : WriterPart). writer.name) group.writer =
    named-members (λ w. Writer from w) f (λ (writer : WriterPart). writer.name) 0 group.writer
    (λ k.
    ap (λ found. option_map_or (λ (g : GroupPart). option_map_or (λ (writer : WriterPart). writer.name) (slice_get g.writer (0 + k)) []) found []) here
    ∙ ap (λ n. option_map_or (λ (writer : WriterPart). writer.name) (slice_get group.writer n) []) (from_zero k)) in
    let behind : map f rest ≡ flat_map group_names groups =
    group-names config (from + 1) groups (λ k. ap (slice_get config.group) (next from k) ∙ at (suc k)) in
    map-append f (Group from ∷ members) rest
    ∙ ap (λ ns. (f (Group from) ∷ ns) ++ map f rest) own
    ∙ ap (λ n. (n ∷ map (λ (writer : WriterPart). writer.name) group.writer) ++ map f rest) head
    ∙ ap (λ ns. group_names group ++ ns) behind
  where
    first : (n : ℕ) → n + 0 ≡ n
    first n = omega arith

    next : (n k : ℕ) → (n + 1) + k ≡ n + suc k
    next n k = omega arith

    from_zero : (k : ℕ) → 0 + k ≡ k
    from_zero k = omega arith

read_group-names : (config : Config) (from : ℕ) (groups : List ReadGroupPart)
    → ((k : ℕ) → slice_get config.readgroup (from + k) ≡ slice_get groups k)
    → map (name_of config) (families (λ g. ReadGroup g) (λ g w. Reader g w) from (map (λ (group : ReadGroupPart). length group.reader) groups)) ≡ flat_map read_group_names groups
read_group-names config from [] at = refl
read_group-names config from (group ∷ groups) at =
    let f = name_of config in
    let rest = families (λ g. ReadGroup g) (λ g w. Reader g w) (from + 1) (map (λ (group : ReadGroupPart). length group.reader) groups) in
    let members = map (λ w. Reader from w) (range_with_len 0 (length group.reader)) in
    let here : slice_get config.readgroup from ≡ Some group = ap (slice_get config.readgroup) (sym (first from)) ∙ at 0 in
    let head : f (ReadGroup from) ≡ group.name = ap (λ found. option_map_or (λ (g : ReadGroupPart). g.name) found []) here in
    let own : map f members ≡ map (λ (reader : ReaderPart). reader.name) group.reader =
    named-members (λ w. Reader from w) f (λ (reader : ReaderPart). reader.name) 0 group.reader
    (λ k.
    ap (λ found. option_map_or (λ (g : ReadGroupPart). option_map_or (λ (reader : ReaderPart). reader.name) (slice_get g.reader (0 + k)) []) found []) here
    ∙ ap (λ n. option_map_or (λ (reader : ReaderPart). reader.name) (slice_get group.reader n) []) (from_zero k)) in
    let behind : map f rest ≡ flat_map read_group_names groups =
    read_group-names config (from + 1) groups (λ k. ap (slice_get config.readgroup) (next from k) ∙ at (suc k)) in
    map-append f (ReadGroup from ∷ members) rest
    ∙ ap (λ ns. (f (ReadGroup from) ∷ ns) ++ map f rest) own
    ∙ ap (λ n. (n ∷ map (λ (reader : ReaderPart). reader.name) group.reader) ++ map f rest) head
    ∙ ap (λ ns. read_group_names group ++ ns) behind
  where
    first : (n : ℕ) → n + 0 ≡ n
    first n = omega arith

    next : (n k : ℕ) → (n + 1) + k ≡ n + suc k
    next n k = omega arith

    from_zero : (k : ℕ) → 0 + k ≡ k
    from_zero k = omega arith

pub names_in_order : (config : Config) → map (name_of config) (components (counts_of config)) ≡ component_names config
names_in_order config =
    let f = name_of config in
    let groups = families (λ g. Group g) (λ g w. Writer g w) 0 (counts_of config).writers in
    let read_groups = families (λ g. ReadGroup g) (λ g w. Reader g w) 0 (counts_of config).readers in
    let one : map f groups ≡ flat_map group_names config.group = group-names config 0 config.group (λ k. ap (slice_get config.group) (from_zero k)) in
    let two : map f read_groups ≡ flat_map read_group_names config.readgroup =
    read_group-names config 0 config.readgroup (λ k. ap (slice_get config.readgroup) (from_zero k)) in
    let all : map f (groups ++ read_groups) ≡ flat_map group_names config.group ++ flat_map read_group_names config.readgroup =
    map-append f groups read_groups ∙ ap (λ ns. ns ++ map f read_groups) one ∙ ap (λ ns. flat_map group_names config.group ++ ns) two in
    cc all
  where
    from_zero : (k : ℕ) → 0 + k ≡ k
    from_zero k = omega arith
