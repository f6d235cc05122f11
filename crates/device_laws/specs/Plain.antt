-- A read group without security, of a publisher that has other groups, whose rings come from elsewhere.
use Rattle.std.specs.Prelude.{◌≡◌, ℕ, ◌<◌, List, length, map, None, All}
use Rattle.group_keys.specs.declared.key_set.KeySet.{KeySet}
use Rattle.ps_config.specs.declared.parts.ReadGroupPart.{ReadGroupPart}
use Rattle.ps_config.specs.Rings.{key_set}
use Rattle.reader_group.specs.Settings.{keygroup_at, setting_by}
use Rattle.writer_group.specs.Parts.{group_at}
use Rattle.group_laws.specs.Matching.{IsMatchedTo}
use Rattle.device_laws.specs.Alike.{ReadsAlike}
use Rattle.device_laws.specs.Publishing.{HasOffered, IsPublisherLife, PublisherLife, config_in}
use Rattle.device_laws.specs.Pulled.{IsKnownBy, MakeRing, RingsAreKnown}
use Rattle.device_laws.specs.Subscribing.{AreOwnKeys, IsSubscriberLife, SubscriberLife, TakenAre, setting_in}

-- `ArePaired`, of a read group without security. For each key group some key sets make a ring, under whose tokens all rings of the publisher have the same keys.
pub record IsPlainPair (text other : List ℕ) (pub_life : PublisherLife) (sub_life : SubscriberLife) (readers : ReadGroupPart) (r i g w : ℕ) (sets : ℕ → List KeySet) : Type 0 where
  pub publisher : IsPublisherLife text pub_life
  pub subscriber : IsSubscriberLife other sub_life
  pub there : g < length (config_in pub_life).group
  pub read_there : r < length sub_life.first.config.readgroup
  pub alike : ReadsAlike i (setting_in sub_life r) (setting_by (config_in pub_life) readers)
  pub matched : IsMatchedTo (config_in pub_life) readers i (group_at (config_in pub_life) g) w
  pub unkeyed : readers.keygroup ≡ None
  pub took : TakenAre sub_life.steps r (HasOffered pub_life.steps)
  pub make : (n : ℕ) → n < length (config_in pub_life).keygroup → MakeRing (config_in pub_life) n (sets n)
  pub configured : (n : ℕ) → n < length (config_in pub_life).keygroup → All (IsKnownBy (sets n)) (map key_set (keygroup_at (config_in pub_life) n).key)
  pub rings : RingsAreKnown sets pub_life.steps
  pub keys : AreOwnKeys sub_life.steps r (setting_in sub_life r).setup.keys
