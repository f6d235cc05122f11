-- Key sets as they are in memory: what their types say of their values.
use Rattle.std.specs.Prelude.{◌≡◌, ◌^◌, ◌<◌, ◌≤◌, List, length, All}
use Rattle.group_keys.specs.declared.key_set.KeySet.{KeySet}

-- The token is a UInt32 and the moment below 2^64; the signing key has 32 bytes and the nonce 4, and all bytes, also those
-- of the encrypting key, are below 256.
pub record IsKeySet (set : KeySet) : Type 0 where
  pub token : set.token < 2 ^ 32
  pub moment : set.from < 2 ^ 64
  pub signing : length set.signing ≡ 32
  pub nonce : length set.nonce ≡ 4
  pub signing_bytes : All (λ byte. byte < 2 ^ 8) set.signing
  pub encrypting_bytes : All (λ byte. byte < 2 ^ 8) set.encrypting.items
  pub nonce_bytes : All (λ byte. byte < 2 ^ 8) set.nonce

-- at most 16 such sets
pub record AreKeySets (sets : List KeySet) : Type 0 where
  pub few : length sets ≤ 16
  pub each : All IsKeySet sets
