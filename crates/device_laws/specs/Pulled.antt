-- Two devices whose key groups have rings from elsewhere, with few tokens in all: the rows that a matched reader holds.
use Rattle.std.specs.Prelude.{◌≡◌, ⊤, ℕ, ◌+◌, ◌<◌, ◌≤◌, List, [], ◌∷◌, length, map, Some, All}
use Rattle.std.specs.List.Sorted.{IsStrictlyIncreasing}
use Rattle.group_keys.specs.declared.key_set.KeySet.{KeySet}
use Rattle.message_guard.specs.declared.keys.TokenKeys.{TokenKeys}
use Rattle.message_guard.specs.Protection.{keys_in, keys_with}
use Rattle.ps_config.specs.declared.parts.Config.{Config}
use Rattle.ps_config.specs.declared.parts.KeyGroupPart.{KeyGroupPart}
use Rattle.ps_config.specs.declared.parts.KeyPart.{KeyPart}
use Rattle.ps_config.specs.declared.parts.ReadGroupPart.{ReadGroupPart}
use Rattle.ps_config.specs.Rings.{key_set}
use Rattle.reader_group.specs.Settings.{keygroup_at, setting_by}
use Rattle.writer_group.specs.Parts.{group_at}
use Rattle.group_laws.specs.Matching.{IsMatchedTo}
use Rattle.device_laws.specs.Alike.{ReadsAlike}
use Rattle.device_laws.specs.Publishing.{HasOffered, IsPublisherLife, PublisherCall, PublisherLife, PublisherStep, Renewed, Resumed, config_in}
use Rattle.device_laws.specs.Ringed.{FitsPolicy}
use Rattle.device_laws.specs.Subscribing as reads
use Rattle.device_laws.specs.Subscribing.{IsSubscriberLife, SubscriberCall, SubscriberLife, SubscriberStep, TakenAre, setting_in}

-- ---- a configuration with other rings

-- the sets as parts of a configuration, each from a later moment on
abbrev pub parts_from : ℕ → List KeySet → List KeyPart
parts_from from [] = []
parts_from from (set ∷ sets) =
    record { token = set.token; from = from; signing = set.signing; encrypting = set.encrypting.items; nonce = set.nonce } ∷ parts_from (from + 1) sets

-- the key group with these sets
abbrev pub with_sets : KeyGroupPart → List KeySet → KeyGroupPart
with_sets ring sets = record ring { key = parts_from 0 sets }

-- the key groups from this index on, each with its sets
abbrev pub rings_from : (ℕ → List KeySet) → ℕ → List KeyGroupPart → List KeyGroupPart
rings_from sets n [] = []
rings_from sets n (ring ∷ rings) = with_sets ring (sets n) ∷ rings_from sets (n + 1) rings

-- the configuration with these key sets for the key group with each index
abbrev pub config_with : Config → (ℕ → List KeySet) → Config
config_with config sets = record config { keygroup = rings_from sets 0 config.keygroup }

-- ---- the rings

-- The key sets make a ring of the key group with index n: there are 1 to 16 of them, their tokens rise, and their keys are as long as the key group's policy says.
pub record MakeRing (config : Config) (n : ℕ) (sets : List KeySet) : Type 0 where
  pub some : 0 < length sets
  pub few : length sets ≤ 16
  pub rise : IsStrictlyIncreasing (map (λ set. set.token) sets)
  pub fit : All (FitsPolicy config n) sets

-- under the set's token these sets have its keys
abbrev pub IsKnownBy : List KeySet → KeySet → Type 0
IsKnownBy sets set = keys_with (map keys_in sets) set.token ≡ Some (keys_in set)

-- where the call gives a key group a ring, that group's sets have its keys
abbrev pub RingIsKnown : (ℕ → List KeySet) → PublisherCall → Type 0
RingIsKnown sets (Renewed keygroup ring) = All (IsKnownBy (sets keygroup)) ring
RingIsKnown sets (Resumed keygroup now used ring) = All (IsKnownBy (sets keygroup)) ring
RingIsKnown sets call = ⊤

-- so does each ring of these calls
abbrev pub RingsAreKnown : (ℕ → List KeySet) → List PublisherStep → Type 0
RingsAreKnown sets [] = ⊤
RingsAreKnown sets (step ∷ before) = RingIsKnown sets step.call × RingsAreKnown sets before

-- the keys are those of a ring whose keys these sets have
pub record AreKnownKeys (sets : List KeySet) (keys : List TokenKeys) : Type 0 where
  pub ring : List KeySet
  pub known : All (IsKnownBy sets) ring
  pub are : keys ≡ map keys_in ring

-- so are those of a ring that renews the read group with index r
abbrev pub KeysAreKnown : ℕ → List KeySet → SubscriberCall → Type 0
KeysAreKnown r sets (reads.Renewed group keys) = group ≡ r → AreKnownKeys sets keys
KeysAreKnown r sets call = ⊤

-- over these calls
abbrev pub AllKeysAreKnown : ℕ → List KeySet → List SubscriberStep → Type 0
AllKeysAreKnown r sets [] = ⊤
AllKeysAreKnown r sets (step ∷ before) = KeysAreKnown r sets step.call × AllKeysAreKnown r sets before

-- ---- the two

-- `ArePaired`, of a secured group. For each key group some key sets make a ring, under whose tokens all rings that either side has have the same keys: those of the
-- configuration, those that renewed it, and those that it was resumed with.
pub record IsPulledPair (text other : List ℕ) (pub_life : PublisherLife) (sub_life : SubscriberLife) (readers : ReadGroupPart) (r i g w k : ℕ) (sets : ℕ → List KeySet) : Type 0 where
  pub publisher : IsPublisherLife text pub_life
  pub subscriber : IsSubscriberLife other sub_life
  pub there : g < length (config_in pub_life).group
  pub read_there : r < length sub_life.first.config.readgroup
  pub alike : ReadsAlike i (setting_in sub_life r) (setting_by (config_in pub_life) readers)
  pub matched : IsMatchedTo (config_in pub_life) readers i (group_at (config_in pub_life) g) w
  pub keyed : (group_at (config_in pub_life) g).keygroup ≡ Some k
  pub took : TakenAre sub_life.steps r (HasOffered pub_life.steps)
  pub make : (n : ℕ) → n < length (config_in pub_life).keygroup → MakeRing (config_in pub_life) n (sets n)
  pub configured : (n : ℕ) → n < length (config_in pub_life).keygroup → All (IsKnownBy (sets n)) (map key_set (keygroup_at (config_in pub_life) n).key)
  pub rings : RingsAreKnown sets pub_life.steps
  pub keys : AllKeysAreKnown r (sets k) sub_life.steps
