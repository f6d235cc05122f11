-- How long a hash and a signature are.
use Rattle.std.proofs.Common.{◌≡◌, ℕ, zero, suc, ◌*◌, List, ◌++◌, length, refl, ◌∙◌, arith}
use Rattle.std.proofs.lemmas.List.{length-append}
use Rattle.std.specs.Prelude.{slice_index}
use Rattle.std.specs.Int.{w32, to_be_bytes}
use Rattle.sha2.specs.Sha256.{digest_bytes, final_hash, initial_hash_256, sha256}
use Rattle.hmac_sign.specs.Hmac.{hmac_sha256, key_block, ipad, opad, xor_bytes}

length-digest_bytes : (h : List ℕ) (n : ℕ) → length (digest_bytes h n) ≡ 4 * n
unfolding digest_bytes
length-digest_bytes h zero = refl
length-digest_bytes h (suc n) =
    let before : length (digest_bytes h n) ≡ 4 * n = length-digest_bytes h n in
    let word : length (to_be_bytes w32 (slice_index h n)) ≡ 4 = refl in
    length-append (digest_bytes h n) (to_be_bytes w32 (slice_index h n)) ∙ omega (arith, before, word)

length-sha256 : (m : List ℕ) → length (sha256 m) ≡ 32
unfolding sha256
length-sha256 m = length-digest_bytes (final_hash initial_hash_256 m) 8

pub signature_length : (key text : List ℕ) → length (hmac_sha256 key text) ≡ 32
unfolding hmac_sha256
signature_length key text =
    length-sha256 (xor_bytes (key_block key) opad ++ sha256 (xor_bytes (key_block key) ipad ++ text))
