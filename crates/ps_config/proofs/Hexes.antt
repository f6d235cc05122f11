-- How many bytes hexadecimal digits are.
use Rattle.std.proofs.Common.{◌≡◌, ℕ, ◌+◌, ◌*◌, ◌/◌, ◌%◌, ◌==◌, Bool, true, false, cond, List, [], ◌∷◌, length, Result, Ok, Err, refl, ap, arith}
use Rattle.std.proofs.lemmas.Bool.{eqb-true}
use Rattle.std.proofs.lemmas.List.{length-replicate}
use Rattle.hex.specs.Hex.{decode_pairs, pair_value, decode_sized, ◌>>=◌}
use Rattle.hex.specs.declared.error.FromHexError.{FromHexError}
use Rattle.hex.specs.declared.error.FromHexError.TheVariants.{OddLength, InvalidStringLength}
use Rattle.config_tables.specs.Texts.{bytes_or_zeros, hex_bytes}

one_byte : (byte : Result ℕ FromHexError) (bytes : Result (List ℕ) FromHexError) (found : List ℕ) (n : ℕ)
    → (byte >>= (λ b. bytes >>= (λ bs. Ok (b ∷ bs)))) ≡ Ok found → ((bs : List ℕ) → bytes ≡ Ok bs → n ≡ 2 * length bs) → n + 2 ≡ 2 * length found
one_byte (Err e) bytes found n is rest = cc
one_byte (Ok b) (Err e) found n is rest = cc
one_byte (Ok b) (Ok bs) found n is rest = let same : b ∷ bs ≡ found = cc in omega (arith, rest bs refl, ap length same)

pairs : (i : ℕ) (text found : List ℕ) → decode_pairs i text ≡ Ok found → length text ≡ 2 * length found
unfolding decode_pairs
pairs i [] found is = let same : [] ≡ found = cc in omega (arith, ap length same)
pairs i (digit ∷ []) found is = cc
pairs i (high ∷ low ∷ rest) found is =
    let more = one_byte (pair_value high low i) (decode_pairs (i + 2) rest) found (length rest) is (λ bs e. pairs (i + 2) rest bs e) in
    omega (arith, more)

bytes_length : (n : ℕ) (text : List ℕ) (r : Result (List ℕ) FromHexError) → ((found : List ℕ) → r ≡ Ok found → length found ≡ n) → length (bytes_or_zeros n r) ≡ n
bytes_length n text (Ok found) known = known found refl
bytes_length n text (Err e) known = length-replicate n 0

sized : (n : ℕ) (text found : List ℕ) (odd right : Bool) → (length text % 2 == 1) ≡ odd → (length text / 2 == n) ≡ right
    → cond odd (Err OddLength) (cond right (decode_pairs 0 text) (Err InvalidStringLength)) ≡ Ok found → length found ≡ n
sized n text found true right o r is = cc
sized n text found false false o r is = cc
sized n text found false true o r is = let half = eqb-true (length text / 2) n r in omega (arith, pairs 0 text found is, half)

-- so many bytes
pub hex_length : (n : ℕ) (text : List ℕ) → length (hex_bytes n text) ≡ n
hex_length n text = bytes_length n text (decode_sized text n) (λ found is. sized n text found _ _ refl refl is)
