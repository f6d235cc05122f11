-- How many components a configuration has at most.
use Rattle.std.proofs.Common.{◌∙◌, take, slice_index, ◌≡◌, ℕ, ◌+◌, ◌≤◌, List, [], ◌∷◌, length, sum, sum_by, All, ap, arith, length-append}
use Rattle.std.proofs.Math.Seq.{take-length}
use Rattle.std.proofs.lemmas.List.{length-map}
use Rattle.std.proofs.lemmas.List.Elements.{All-nil, All-cons}
use Rattle.std.proofs.lemmas.List.Sums.{sum_by-cons, sum-map}
use Rattle.std.proofs.lemmas.List.Concat.{length-flat_map}
use Rattle.ps_config.specs.declared.parts.Config.{Config}
use Rattle.ps_config.specs.declared.parts.GroupPart.{GroupPart}
use Rattle.ps_config.specs.declared.parts.ReadGroupPart.{ReadGroupPart}
use Rattle.ps_config.specs.Sound.{IsFew}
use Rattle.pubsub_states.specs.declared.component.Component.TheVariants.{Group, Writer, ReadGroup, Reader}
use Rattle.pubsub_states.specs.declared.component.Component.{Component}
use Rattle.pubsub_states.specs.Components.{counts_of, components, families}
use Rattle.pubsub_states.specs.Listed.{AreHeadIds, IsListed}
use Rattle.pubsub_states.proofs.Families.{length-families}

-- each term of a sum is within a bound of the sum
pub terms-small : {X : Type 0} (f : X → ℕ) (most : ℕ) (xs : List X) → sum_by f xs ≤ most → All (λ x. f x ≤ most) xs
terms-small f most [] h = All-nil (λ x. f x ≤ most)
terms-small f most (x ∷ xs) h =
    let e : sum_by f (x ∷ xs) ≡ f x + sum_by f xs = sum_by-cons f x xs in
    All-cons (λ y. f y ≤ most) x xs (omega (arith, h, e)) (terms-small f most xs (omega (arith, h, e)))

pub writers-counted : (config : Config) → IsFew config → sum_by (λ group. length group.writer) config.group ≤ 16
writers-counted config few =
    let e = length-flat_map (λ group. group.writer) config.group in
    omega (arith, e, few.writers)

pub readers-counted : (config : Config) → IsFew config → sum_by (λ group. length group.reader) config.readgroup ≤ 16
readers-counted config few =
    let e = length-flat_map (λ group. group.reader) config.readgroup in
    omega (arith, e, few.readers)

pub writers-summed : (config : Config) → IsFew config → sum (counts_of config).writers ≤ 16
writers-summed config few = omega (arith, sum-map (λ group. length group.writer) config.group, writers-counted config few)

pub readers-summed : (config : Config) → IsFew config → sum (counts_of config).readers ≤ 16
readers-summed config few = omega (arith, sum-map (λ group. length group.reader) config.readgroup, readers-counted config few)

pub few-groups : (config : Config) → IsFew config → length (counts_of config).writers ≤ 4
few-groups config few = omega (arith, length-map config.group (λ (group : GroupPart). length group.writer), few.groups)

pub few-read_groups : (config : Config) → IsFew config → length (counts_of config).readers ≤ 4
few-read_groups config few = omega (arith, length-map config.readgroup (λ (group : ReadGroupPart). length group.reader), few.readgroups)

-- what comes behind the groups and their writers
pub next_id : (writers ids : List ℕ) (k first : ℕ) → AreHeadIds 2 writers ids → k ≡ length writers → first ≡ slice_index ids k → first ≡ 2 + length writers + sum writers
next_id writers ids k first are at is =
    let it = are k (omega (arith, at)) in
    let all : sum (take k writers) ≡ sum writers = ap (λ n. sum (take n writers)) at ∙ ap sum (take-length writers) in
    omega (arith, is, it, at, all)

few-families : (writers readers : List ℕ) → length writers ≤ 4 → length readers ≤ 4 → sum writers ≤ 16 → sum readers ≤ 16
    → length (components (record { writers = writers; readers = readers })) ≤ 42
few-families writers readers few_groups few_read_groups few_writers few_readers =
    let groups = families Group Writer 0 writers in
    let read_groups = families ReadGroup Reader 0 readers in
    let all = length-append groups read_groups in
    let one = length-families Group Writer 0 writers in
    let two = length-families ReadGroup Reader 0 readers in
    omega (arith, all, one, two, few_groups, few_read_groups, few_writers, few_readers)

pub few-listed : (writers readers group_ids read_group_ids : List ℕ) (in_order : List Component)
    → IsListed writers readers group_ids read_group_ids in_order → length in_order ≤ 42
few-listed writers readers group_ids read_group_ids in_order listed =
    let few = few-families writers readers listed.few_groups listed.few_read_groups listed.few_writers listed.few_readers in
    omega (arith, few, ap length listed.list)

pub few_components : (config : Config) → IsFew config → length (components (counts_of config)) ≤ 42
few_components config few =
    few-families (counts_of config).writers (counts_of config).readers (few-groups config few) (few-read_groups config few)
    (writers-summed config few) (readers-summed config few)
