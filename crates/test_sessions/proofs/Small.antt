-- What a configuration of one key group and one reader is.
use Rattle.std.proofs.Common.{◌≡◌, ◌<◌, List, [], ◌∷◌, length, map, get_or, sym, ap, ◌∙◌, arith, length-append}
use Rattle.std.specs.Prelude.{flat_map}
use Rattle.std.proofs.lemmas.List.{get_or_read}
use Rattle.config_tables.specs.declared.words.Policy.TheVariants as policies
use Rattle.ps_config.specs.declared.parts.Config.{Config}
use Rattle.ps_config.specs.declared.parts.KeyGroupPart.{KeyGroupPart}
use Rattle.ps_config.specs.declared.parts.ReadGroupPart.{ReadGroupPart}
use Rattle.ps_config.specs.Configs.{is_long}
use Rattle.reader_group.specs.Settings.{group_at, keygroup_at, no_group, no_keygroup}
use Rattle.test_sessions.specs.Devices.{IsSmall}

-- the only group's only reader stands among all, and in its group
read-one : (groups : List ReadGroupPart) (group : ReadGroupPart) → length groups ≡ 1 → group ≡ get_or groups 0 group → length group.reader ≡ 1
    → (0 < length (flat_map (λ g. g.reader) groups)) × (0 < get_or (map (λ g. length g.reader) groups) 0 0)
read-one [] group one is reader = absurd (omega (arith, one))
read-one (g ∷ groups) group one is reader =
    let here : length g.reader ≡ 1 = ap (λ (x : ReadGroupPart). length x.reader) (sym is) ∙ reader in
    let all = length-append g.reader (flat_map (λ (x : ReadGroupPart). x.reader) groups) in
    (omega (arith, here, all), omega (arith, here))

pub small : (config : Config) (keys : KeyGroupPart) (group : ReadGroupPart) → length config.keygroup ≡ 1 → keys ≡ get_or config.keygroup 0 keys → keys.policy ≡ policies.Aes128
    → length config.readgroup ≡ 1 → group ≡ get_or config.readgroup 0 group → length group.reader ≡ 1 → IsSmall config
small config keys group one keys_are short only group_is reader =
    let first : keys ≡ keygroup_at config 0 = get_or_read config.keygroup 0 keys (omega (arith, one)) keys_are no_keygroup in
    let same : group ≡ group_at config 0 = get_or_read config.readgroup 0 group (omega (arith, only)) group_is no_group in
    let here : length (group_at config 0).reader ≡ 1 = ap (λ (g : ReadGroupPart). length g.reader) (sym same) ∙ reader in
    let each = read-one config.readgroup group only group_is reader in
    record {
      keyed = omega (arith, one);
      short = ap (λ (k : KeyGroupPart). is_long k.policy) (sym first) ∙ ap is_long short;
      grouped = omega (arith, only);
      read = omega (arith, here);
      listed = each.0;
      among = each.1;
    }
