-- The keys of a key group, as the key sets of a ring.
use Rattle.std.specs.Prelude.{◌≡◌, ◌↔◌, false, List, map}
use Rattle.group_keys.specs.declared.key_set.KeySet.{KeySet}
use Rattle.group_keys.specs.Faults.{IsAccepted}
use Rattle.config_tables.specs.Tables.{Located}
use Rattle.ps_config.specs.declared.parts.KeyGroupPart.{KeyGroupPart}
use Rattle.ps_config.specs.declared.parts.KeyPart.{KeyPart}
use Rattle.ps_config.specs.Configs.{is_long, key_group_of}
use Rattle.ps_config.specs.Faults.{has_no_order}

abbrev pub key_set : KeyPart → KeySet
key_set key = record {
  token = key.token;
  from = key.from;
  signing = key.signing;
  encrypting = record { items = key.encrypting };
  nonce = key.nonce;
}

-- its keys make a ring
abbrev pub MakesRing : KeyGroupPart → Type 0
MakesRing group = IsAccepted (is_long group.policy) (map key_set group.key)

-- KeyOrder doesn't stand at the table of a key group exactly where its keys make a ring
abbrev pub IsJudgedByRing : List Located → Located → Type 0
IsJudgedByRing ts group = (has_no_order ts group ≡ false) ↔ MakesRing (key_group_of ts group)
