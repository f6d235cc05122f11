-- What the types of a configuration give: the headers of its groups' turns can be written.
use Rattle.std.proofs.Common.{◌≡◌, refl, subst, ℕ, ◌<◌, ◌^◌, Bool, true, false, List, [], ◌∷◌, map, All, Contains, Option, Some, None, IfSome, length}
use Rattle.std.specs.Prelude.{◌==◌}
use Rattle.std.proofs.lemmas.List.Elements.{All-contains, All-head, All-tail}
use Rattle.std.proofs.lemmas.Option.{none-some}
use Rattle.message_guard.specs.declared.keys.TokenKeys.{TokenKeys}
use Rattle.message_guard.specs.Protection.{keys_with}
use Rattle.message_guard.specs.Senders.{SenderState}
use Rattle.ps_config.specs.declared.parts.Config.{Config}
use Rattle.ps_config.specs.declared.parts.GroupPart.{GroupPart}
use Rattle.ps_config.specs.declared.parts.KeyGroupPart.{KeyGroupPart}
use Rattle.ps_config.specs.declared.parts.KeyPart.{KeyPart}
use Rattle.ps_config.specs.Sound.{IsGroup, IsKeyed}
use Rattle.ps_config.specs.Types.{HasGroupTypes, HasKeyGroupTypes, HasKeyTypes, HasTypes}
use Rattle.writer_group.specs.Turning.{CanGiveFronts, HasHeaderTypes}
use Rattle.writer_group.specs.Turns.{GroupDeed, TurnInput}
use Rattle.writer_group.proofs.SmallIds.{group-sound}
use Rattle.writer_group.proofs.WrittenHeaders.{turn-written}
use Rattle.reader_group.specs.Settings.{keygroup_at, no_keygroup, token_keys}
use Rattle.group_laws.specs.Matching.{IsAllowedTurn, IsGroupTurn, IsSenderOf, MaySend}

pub header-types : (config : Config) (group : GroupPart) → HasTypes config → Contains config.group group → HasHeaderTypes config group
header-types config group types there =
    let its = All-contains HasGroupTypes config.group group types.groups there in
    record { publisher = types.publisher; version = its.version; class_id = its.class_id }

-- the keys that a token has among those of a ring have a token of 32 bits
found-token : (keys : List KeyPart) (token : ℕ) (found : TokenKeys) → All HasKeyTypes keys → keys_with (map token_keys keys) token ≡ Some found → found.token < 2 ^ 32
found-token [] token found types is = absurd (none-some found is)
found-token (key ∷ keys) token found types is =
    on (key.token == token) refl (λ rest. found-token keys token found (All-tail HasKeyTypes key keys types) rest)
  where
    some_same : Path (Option TokenKeys) (Some (token_keys key)) (Some found) → token_keys key ≡ found
    some_same e = cc

    on : (b : Bool) → (key.token == token) ≡ b → (keys_with (map token_keys keys) token ≡ Some found → found.token < 2 ^ 32) → found.token < 2 ^ 32
    on true here later =
        let same : Path (Option TokenKeys) (Some (token_keys key)) (Some found) = rw here at is in
        subst (λ (k : TokenKeys). k.token < 2 ^ 32) (some_same same) (All-head HasKeyTypes key keys types).token
    on false here later = let rest : keys_with (map token_keys keys) token ≡ Some found = rw here at is in later rest

pub gives-fronts : (ring : KeyGroupPart) (s : SenderState) → HasKeyGroupTypes ring → IsSenderOf ring s → CanGiveFronts s
gives-fronts ring s types is = record {
  random = is.sender_is.random;
  token = found-token ring.key s.keys.token s.keys types.keys is.keys;
}

ring-types : (config : Config) (index : ℕ) → HasTypes config → index < length config.keygroup → HasKeyGroupTypes (keygroup_at config index)
ring-types config index types within = types.keygroups index no_keygroup within

keyed-fronts : (config : Config) (s : SenderState) (keygroup : Option ℕ) → HasTypes config → IsKeyed config true keygroup → IfSome keygroup (λ index. IsSenderOf (keygroup_at config index) s) → CanGiveFronts s
keyed-fronts config s None types keyed is = absurd (let wrong : Path Bool true false = keyed.keyed in cc)
keyed-fronts config s (Some index) types keyed is = gives-fronts (keygroup_at config index) s (ring-types config index types keyed.there) is

its-fronts : (config : Config) (group : GroupPart) (count : ℕ) (sender : Option SenderState) → HasTypes config → IsGroup config group → MaySend config group count sender → IfSome sender CanGiveFronts
its-fronts config group count None types is may = tt
its-fronts config group count (Some s) types is may =
    keyed-fronts config s group.keygroup types (subst (λ (b : Bool). IsKeyed config b group.keygroup) may.0 is.keys) may.2

pub allowed-turn : (config : Config) (group : GroupPart) (past : List GroupDeed) (input : TurnInput) → IsAllowedTurn config group past input → IsGroupTurn config group past input
allowed-turn config group past input is = record {
  sound = is.sound;
  group_is = is.group_is;
  on = is.on;
  sender = is.sender;
  written = turn-written config group past input is.sound is.group_is (header-types config group is.types is.group_is)
      (its-fronts config group _ input.sender is.types (group-sound config group is.sound is.group_is) is.sender);
}
