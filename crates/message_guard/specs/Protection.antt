-- Protection (OPC 10000-14 7.2.4.4, PubSub-Aes128-CTR and PubSub-Aes256-CTR; FIPS 197, RFC 2104): the keys of a
-- token, the nonce of a message, and the bytes of a protected datagram.
use Rattle.std.specs.Prelude.{ℕ, ◌-◌, ◌==◌, List, ◌++◌, length, take, drop, Option, find, slice_range, if◌then◌else◌}
use Rattle.std.specs.Int.{w32, to_le_bytes, from_le_bytes}
use Rattle.aes_ctr.specs.Blocks.{streamed}
use Rattle.aes_ctr.specs.Keyed.{encrypted}
use Rattle.aes_ctr.specs.declared.stream.Key.{Key}
use Rattle.aes_ctr.specs.declared.stream.Key.TheVariants.{Short, Long}
use Rattle.hmac_sign.specs.Hmac.{hmac_sha256}
use Rattle.group_keys.specs.declared.key_set.KeySet.{KeySet}
use Rattle.message_guard.specs.declared.keys.TokenKeys.{TokenKeys}
use Rattle.message_guard.specs.declared.mode.Mode.{Mode}
use Rattle.message_guard.specs.Modes.{encrypts}

-- a key of 32 bytes is one of AES-256, and else of AES-128
abbrev pub cipher_key : List ℕ → Key
cipher_key bytes = if length bytes == 32 then Long bytes else Short bytes

-- what a key set gives for its token
abbrev pub keys_in : KeySet → TokenKeys
keys_in set = record { token = set.token; nonce = set.nonce; signing = set.signing; encrypting = cipher_key set.encrypting.items }

-- the keys of a token, among those of a ring
abbrev pub keys_with : List TokenKeys → ℕ → Option TokenKeys
keys_with keys token = find (λ k. k.token == token) keys

-- the nonce of a message: four bytes of the sender's, and the number of the message
abbrev pub message_nonce : List ℕ → ℕ → List ℕ
message_nonce random number = random ++ to_le_bytes w32 number

-- the number in a nonce of eight bytes
abbrev pub number_in : List ℕ → ℕ
number_in nonce = from_le_bytes w32 (drop 4 nonce)

-- the payload with the token's stream added, where the mode encrypts: the counter block is the key nonce, the
-- message nonce and the block counter, from first_block on
abbrev pub with_stream : Mode → TokenKeys → List ℕ → ℕ → List ℕ → List ℕ
with_stream mode keys nonce first_block payload =
    if encrypts mode then streamed (encrypted keys.encrypting) (keys.nonce ++ nonce) first_block payload else payload

-- bytes and behind them their signature
abbrev pub signed : TokenKeys → List ℕ → List ℕ
signed keys body = body ++ hmac_sha256 keys.signing body

-- a protected datagram: the header, the payload with the stream, and the signature of both
abbrev pub protected : Mode → TokenKeys → List ℕ → ℕ → List ℕ → List ℕ → List ℕ
protected mode keys nonce first_block header payload = signed keys (header ++ with_stream mode keys nonce first_block payload)

-- a datagram's bytes before the signature, and the signature
abbrev pub body_of : List ℕ → List ℕ
body_of datagram = take (length datagram - 32) datagram

abbrev pub signature_of : List ℕ → List ℕ
signature_of datagram = drop (length datagram - 32) datagram

-- what stands between the header, which ends at payload, and the signature
abbrev pub payload_in : List ℕ → ℕ → List ℕ
payload_in datagram payload = slice_range datagram payload (length datagram - 32)
