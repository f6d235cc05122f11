-- HMAC (RFC 2104) over SHA-256 (FIPS 180-4), on lists of bytes.
use Rattle.std.specs.Prelude.{ℕ, ◌-◌, List, ◌++◌, length, replicate, bit_xor, nat_le, if◌then◌else◌}
use Rattle.std.specs.Simd.Lanes.{zip2}
use Rattle.sha2.specs.Sha256.{sha256}

-- B, the length of a block of SHA-256
abbrev pub block_length : ℕ
block_length = 64

-- the byte 0x36 repeated B times
abbrev pub ipad : List ℕ
ipad = replicate block_length 0x36

-- the byte 0x5C repeated B times
abbrev pub opad : List ℕ
opad = replicate block_length 0x5C

-- zeros appended to a key of at most B bytes, up to B
abbrev pub padded : List ℕ → List ℕ
padded key = key ++ replicate (block_length - length key) 0

-- K: the padded key; of a key longer than B, its padded hash
unfoldable pub key_block : List ℕ → List ℕ
key_block key = if nat_le (length key) block_length then padded key else padded (sha256 key)

-- XOR of two texts of one length, byte by byte
abbrev pub xor_bytes : List ℕ → List ℕ → List ℕ
xor_bytes xs ys = zip2 bit_xor xs ys

-- H(K XOR opad, H(K XOR ipad, text))
unfoldable pub hmac_sha256 : List ℕ → List ℕ → List ℕ
hmac_sha256 key text =
    sha256 (xor_bytes (key_block key) opad ++ sha256 (xor_bytes (key_block key) ipad ++ text))
