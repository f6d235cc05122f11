-- No more of each than there may be.
use Rattle.std.proofs.Common.{◌≡◌, sym, subst, arith, ℕ, ◌<◌, ◌≤◌, length, Option}
use Rattle.std.specs.Prelude.{IfSome}
use Rattle.std.proofs.lemmas.List.{length-map, get_or-map}
use Rattle.std.proofs.lemmas.List.Folds.{length-flat_map-take}
use Rattle.std.proofs.lemmas.List.Elements.{All-get_or}
use Rattle.ps_config.specs.declared.parts.Config.{Config}
use Rattle.ps_config.specs.declared.parts.GroupPart.{GroupPart}
use Rattle.ps_config.specs.Sound.{IsGroup}
use Rattle.pubsub_states.specs.declared.component.Component.TheVariants.{Group, Writer}
use Rattle.pubsub_states.specs.Components.{Counts, IsAmong, counts_of}
use Rattle.writer_group.specs.Standing.{IsGood}
use Rattle.writer_group.specs.Parts.{group_at, no_group}
use Rattle.session_parts.proofs.Flags.{AreKeyed}

pub few-groups : (config : Config) → IsGood config → length config.group ≤ 4
few-groups config good = good.sound.few.groups

pub few-keygroups : (config : Config) → IsGood config → length config.keygroup ≤ 4
few-keygroups config good = good.sound.few.keygroups

pub few-writers : (config : Config) (g : ℕ) → IsGood config → g < length config.group → length (group_at config g).writer ≤ 16
few-writers config g good low = omega (arith, length-flat_map-take (λ (group : GroupPart). group.writer) config.group g no_group low, good.sound.few.writers)

pub sound-group : (config : Config) (g : ℕ) → IsGood config → g < length config.group → IsGroup config (group_at config g)
sound-group config g good low = All-get_or (IsGroup config) config.group g no_group low good.sound.groups

pub key-there : (config : Config) (g : ℕ) → IsGood config → g < length config.group → IfSome (group_at config g).keygroup (λ k. k < length config.keygroup)
key-there config g good low = (sound-group config g good low).keys.there

pub keyed : (config : Config) → IsGood config → AreKeyed config
keyed config good g k low is = subst (λ (o : Option ℕ). IfSome o (λ k. k < length config.keygroup)) is (key-there config g good low)

-- a group's components are there
pub group-among : (config : Config) (counts : Counts) (g : ℕ) → counts ≡ counts_of config → g < length config.group → IsAmong counts (Group g)
group-among config counts g is low =
    subst (λ (c : Counts). IsAmong c (Group g)) (sym is)
    (subst (λ (n : ℕ). g < n) (sym (length-map config.group (λ group. length group.writer))) low)

pub writer-among : (config : Config) (counts : Counts) (g w : ℕ) → counts ≡ counts_of config → g < length config.group → w < length (group_at config g).writer
    → IsAmong counts (Writer g w)
writer-among config counts g w is low within =
    subst (λ (c : Counts). IsAmong c (Writer g w)) (sym is)
    (subst (λ (n : ℕ). w < n) (sym (get_or-map (λ (group : GroupPart). length group.writer) config.group g no_group 0 low)) within)
