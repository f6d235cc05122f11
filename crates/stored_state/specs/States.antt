-- What a publisher stores, and its bytes.
use Rattle.std.specs.Prelude.{◌≡◌, ℕ, zero, suc, ◌<◌, ◌^◌, List, [], ◌∷◌, ◌++◌, All, codes, drop, length, take}
use Rattle.std.specs.List.{flat_map}
use Rattle.byteorder.specs.Endian.{little_bytes, little_number}
use Rattle.sha2.specs.Sha256.{sha256}
use Rattle.stored_state.specs.declared.state.StoredState.{StoredState}

-- what the type of a state says: its fingerprint has 32 bytes, and it has 72 numbers of 32 bits
pub record IsState (state : StoredState) : Type 0 where
  pub fingerprint : length state.fingerprint ≡ 32
  pub count : length state.words ≡ 72
  pub words : All (λ word. word < 2 ^ 32) state.words

-- "UAPS", the version of the format, and two zeros
abbrev pub head : List ℕ
head = 85 ∷ 65 ∷ 80 ∷ 83 ∷ 1 ∷ 0 ∷ 0 ∷ 0 ∷ []

-- each number in 4 bytes, little-endian
abbrev pub words_bytes : List ℕ → List ℕ
words_bytes words = flat_map (little_bytes 4) words

-- all but the checksum
abbrev pub body_of : StoredState → List ℕ
body_of state = head ++ state.fingerprint ++ words_bytes state.words

-- the first 8 bytes of the SHA-256 of what stands in front of them
abbrev pub checksum_of : List ℕ → List ℕ
checksum_of body = take 8 (sha256 body)

-- the bytes of a state
abbrev pub written : StoredState → List ℕ
written state = body_of state ++ checksum_of (body_of state)

-- the first numbers in bytes, so many, each of 4 bytes
abbrev pub words_in : ℕ → List ℕ → List ℕ
words_in zero bytes = []
words_in (suc count) bytes = little_number 4 bytes ∷ words_in count (drop 4 bytes)

-- at the places of a state these bytes have this one
pub record IsRead (state : StoredState) (bytes : List ℕ) : Type 0 where
  pub fingerprint : take 32 (drop 8 bytes) ≡ state.fingerprint
  pub words : words_in 72 (drop 40 bytes) ≡ state.words

abbrev pub damaged_text : List ℕ
damaged_text = codes "the bytes are not those of a state that was stored"
